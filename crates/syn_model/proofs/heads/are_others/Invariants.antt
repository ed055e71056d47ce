use Rattle.std.proofs.Common.{◌≢◌, All, take}
use Rattle.syn_model.specs.Heads.{given_name}
use Rattle.syn_model.proofs.heads.are_others.Given as goal

abbrev pub invariant-loop-input : goal.invariant-loop-input
invariant-loop-input l = All (λ p. given_name p ≢ l.name) (take l.input-index l.inputs)
