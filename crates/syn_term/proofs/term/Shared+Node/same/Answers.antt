use Rattle.syn_term.proofs.Same.{same_tree-from, same_tree-to}
use Rattle.syn_term.proofs.term.Shared+Node.same.Goals as goal

pub returns-clause-law : goal.returns-clause-law
returns-clause-law c = λ t u. (same_tree-to t u, same_tree-from t u)
