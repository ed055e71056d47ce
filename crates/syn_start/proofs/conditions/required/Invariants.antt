use Rattle.std.proofs.Common.{◌≡◌, drop}
use Rattle.syn_start.specs.Initial.{input_condition}
use Rattle.syn_start.proofs.conditions.required.Given as goal

-- no part before this one states it
abbrev pub invariant-loop-part : goal.invariant-loop-part
invariant-loop-part l = input_condition l.parts ≡ input_condition (drop l.part-index l.parts)
