use Rattle.std.proofs.Common.{refl}
use Rattle.syn_extract.proofs.Bodies.{made_may, program_is}
use Rattle.syn_extract.proofs.SpecHeads.{result_there}
use Rattle.std.proofs.lemmas.Result.{IfOk-weaker}
use Rattle.syn_extract.proofs.extracting.program_of.Goals as goal

pub program_with-requires : goal.program_with-requires
program_with-requires c =
    made_may c.args.spec.now c.spec_head.ensures.table (result_there _ _ c.requires.spec) _ _ _ c.in_ok-head.ensures.head c.requires.formed c.requires.sort c.in-Ok.ensures.tree

pub returns-in-Ok-clause-program : goal.returns-in-Ok-clause-program
returns-in-Ok-clause-program c =
    IfOk-weaker c.program_with.result _ _ (λ p e. program_is c.args.spec.now c.args.row.now _ _ _ p refl c.in_ok-head.ensures.head c.in-Ok.ensures.tree e) c.program_with.ensures
