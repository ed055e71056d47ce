use Rattle.std.proofs.Common.{◌≡◌, take}
use Rattle.syn_model.specs.Heads.{sorts_of}
use Rattle.syn_model.proofs.head_table.push_sorts.Given as goal

abbrev pub invariant-loop-input : goal.invariant-loop-input
invariant-loop-input l = l.sorts ≡ sorts_of (take l.input-index l.inputs)
