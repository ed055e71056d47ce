use Rattle.std.proofs.Common.{subst}
use Rattle.syn_model.specs.Declaring.{IsTheory}
use Rattle.syn_model.specs.Heads.{given_head}
use Rattle.syn_model.proofs.ProgramLaws.{head_holds}
use Rattle.syn_model.proofs.program.head_over.Goals as goal

pub invariant_of-result : goal.invariant_of-result
invariant_of-result c =
    head_holds c.args.theory.now.decls (given_head c.args.name.now c.args.inputs.now c.args.value) _ _ (subst IsTheory c.decls-decls.ensures.all c.decls-decls.ensures.theory) c.requires c.in_ok-head.ensures c.in-Ok.ensures
