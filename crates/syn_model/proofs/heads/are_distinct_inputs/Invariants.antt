use Rattle.std.proofs.Common.{map, take}
use Rattle.syn_model.specs.Heads.{AreDistinct, given_name}
use Rattle.syn_model.proofs.heads.are_distinct_inputs.Given as goal

abbrev pub invariant-loop-i : goal.invariant-loop-i
invariant-loop-i l = AreDistinct (map given_name (take l.i l.inputs))
