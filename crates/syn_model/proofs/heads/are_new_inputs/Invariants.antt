use Rattle.std.proofs.Common.{All, take}
use Rattle.syn_model.specs.Heads.{IsNewName, given_name}
use Rattle.syn_model.proofs.heads.are_new_inputs.Given as goal

abbrev pub invariant-loop-input : goal.invariant-loop-input
invariant-loop-input l = All (λ p. IsNewName l.theory.decls (given_name p)) (take l.input-index l.inputs)
