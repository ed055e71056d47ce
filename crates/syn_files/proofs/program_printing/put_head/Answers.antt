use Rattle.std.proofs.lemmas.Result.{IfOk-weaker}
use Rattle.syn_files.proofs.SpecPrinting.{program_head_put}
use Rattle.syn_files.proofs.program_printing.put_head.Goals as goal

pub returns : goal.returns
returns c =
    IfOk-weaker c.put-2.result _ _
    (λ x h. program_head_put _ _ c.args.program.now.head c.program.result c.input_symbols.result.now c.result.result _ _ _ _ _ c.symbols-syms.ensures.table c.program.ensures c.input_symbols.ensures c.result.ensures c.in_ok-put_called.ensures c.in_ok-put.ensures c.sort_name.ensures h)
    c.put-2.ensures
