use Rattle.std.proofs.Common.{◌≤◌, ℕ, List, All, length}
use Rattle.std.proofs.Math.ListN.{drop}
use Rattle.syn_model.specs.declared.decl.Decl.{Decl}
use Rattle.syn_model.specs.inner.Views.{IsClause}
use Rattle.syn_model.proofs.headings.before_clauses.Given as goal

abbrev pub decreases-loop-n : goal.decreases-loop-n
decreases-loop-n l = l.n

-- those from here on are clauses
pub record Behind (n : ℕ) (decls : List Decl) : Type 0 where
  pub within : n ≤ length decls
  pub clauses : All IsClause (drop n decls)

abbrev pub invariant-loop-n : goal.invariant-loop-n
invariant-loop-n l = Behind l.n l.decls
