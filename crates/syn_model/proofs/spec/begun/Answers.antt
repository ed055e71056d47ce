use Rattle.std.proofs.Common.{subst}
use Rattle.syn_model.specs.Declaring.{IsTheory}
use Rattle.syn_model.specs.Heads.{given_head}
use Rattle.syn_model.proofs.SpecLaws.{begun_holds}
use Rattle.syn_model.proofs.spec.begun.Goals as goal

pub invariant_of-result : goal.invariant_of-result
invariant_of-result c =
    begun_holds c.args.theory.now.decls c.args.name.now c.args.output.now (given_head c.args.program.now c.args.inputs.now c.args.value) _ _ _ _ _ (subst IsTheory c.decls-decls.ensures.all c.decls-decls.ensures.theory) c.requires c.in_ok-name.ensures c.in_ok-output.ensures c.in_ok-head.ensures c.new.ensures c.in-Ok.ensures
