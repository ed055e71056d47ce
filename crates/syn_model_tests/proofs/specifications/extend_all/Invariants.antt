use Rattle.syn_model.specs.Specifications.{IsSpec}
use Rattle.syn_model_tests.proofs.specifications.extend_all.Given as goal

abbrev pub invariant-loop-line : goal.invariant-loop-line
invariant-loop-line g l = IsSpec l.theory.decls l.spec
