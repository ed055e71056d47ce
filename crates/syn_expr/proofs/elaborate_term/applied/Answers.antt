use Rattle.std.proofs.lemmas.Result.{IfOk-weaker}
use Rattle.syn_expr.proofs.TermMaking.{found_made}
use Rattle.syn_expr.proofs.elaborate_term.applied.Goals as goal

pub returns-in-Some-clause-tree : goal.returns-in-Some-clause-tree
returns-in-Some-clause-tree c = IfOk-weaker c.app.result _ _ (λ o h. found_made _ _ _ _ o c.in-Some.is h) c.app.ensures.tree
