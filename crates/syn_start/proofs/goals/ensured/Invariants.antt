use Rattle.std.proofs.Common.{◌≡◌, drop}
use Rattle.syn_start.specs.Initial.{output_condition}
use Rattle.syn_start.proofs.goals.ensured.Given as goal

-- no part before this one states it
abbrev pub invariant-loop-part : goal.invariant-loop-part
invariant-loop-part l = output_condition l.parts ≡ output_condition (drop l.part-index l.parts)
