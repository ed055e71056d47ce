use Rattle.std.proofs.lemmas.Result.{IfOk-weaker}
use Rattle.syn_files.proofs.SpecPrinting.{program_put}
use Rattle.syn_files.proofs.print_parts.put_program.Goals as goal

pub returns : goal.returns
returns c =
    IfOk-weaker c.put_called.result _ _
    (λ x h. program_put _ _ c.args.spec.now.head c.program.result c.inputs.result.now _ _ c.symbols.ensures.table c.program.ensures c.inputs.ensures h)
    c.put_called.ensures
