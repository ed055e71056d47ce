use Rattle.std.proofs.Common.{◌∙◌, ap, sym}
use Rattle.std.proofs.lemmas.Result.{IfOk-weaker}
use Rattle.syn_model.specs.Declaring.{symbol_of_name}
use Rattle.syn_model.specs.Tables.{table_of}
use Rattle.syn_model.specs.Theories.{TheoryTree}
use Rattle.syn_start.proofs.RowsOfClauses.{row_named}
use Rattle.syn_start.proofs.def_rows.def_row.Goals as goal

pub returns-in-Some-clause-row : goal.returns-in-Some-clause-row
returns-in-Some-clause-row c =
    let found = ap (λ (t : TheoryTree). symbol_of_name (table_of t.decls) c.args.name.now) (sym c.theory.ensures.is) ∙ (sym c.symbol_named.ensures ∙ c.in-Some.is) in
    IfOk-weaker c.numbered_row.result _ _ (λ o h. row_named c.args.start.now.theory.decls c.args.name.now c.args.k c.in-Some.f o found h) c.numbered_row.ensures.row
