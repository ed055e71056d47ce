use Rattle.std.proofs.Common.{◌∙◌, ap}
use Rattle.std.proofs.lemmas.Result.{IfOk-weaker}
use Rattle.syn_expr.specs.Scopes.{listed}
use Rattle.syn_files.proofs.Printing.{line_put}
use Rattle.syn_files.proofs.print_lines.put_line.Goals as goal

pub returns : goal.returns
returns c =
    let p = c.in_ok-names.ensures in
    IfOk-weaker c.put.result _ _
    (λ x h. line_put _ _ _ _ _ _ _ _ _ (c.as_slice.ensures ∙ c.in_ok-vars.ensures) p.0 p.1 (ap listed c.as_slice-2.ensures.value ∙ p.2) c.symbols.ensures.table c.in_ok-put_decl.ensures h) c.put.ensures
