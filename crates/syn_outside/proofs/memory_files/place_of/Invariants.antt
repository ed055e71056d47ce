use Rattle.syn_outside.proofs.Places.{NoneBelow}
use Rattle.syn_outside.specs.Memory.{all_seen}
use Rattle.syn_outside.proofs.memory_files.place_of.Given as goal

-- The search goes on only past files of other names.
abbrev pub invariant-loop-i : goal.invariant-loop-i
invariant-loop-i l = NoneBelow (all_seen l.files) l.name l.i
