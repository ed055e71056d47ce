use Rattle.std.proofs.lemmas.Result.{IfOk-weaker}
use Rattle.syn_start.proofs.RowsOfClauses.{function_exactly}
use Rattle.syn_start.proofs.clause_rows.clause_row.Goals as goal

pub returns-in-FunClause-clause-row : goal.returns-in-FunClause-clause-row
returns-in-FunClause-clause-row c =
    IfOk-weaker c.function_row.result _ _ (λ o h. function_exactly c.args.f c.args.decl.now _ c.as_slice.result.now c.as_slice.ensures o _ c.in-FunClause.is h) c.function_row.ensures.row
