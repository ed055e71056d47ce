use Rattle.std.proofs.Common.{ℕ, Some, ◌<◌, ◌≤◌}
use Rattle.syn_model.specs.Tables.{IsDeclared}
use Rattle.syn_files.specs.Printed.{AreFree}
use Rattle.syn_files.proofs.naming.least_mark.Given as goal

-- no mark so far will do
abbrev pub invariant-loop-mark : goal.invariant-loop-mark
invariant-loop-mark l = (i : ℕ) → 1 ≤ i → i < l.mark → AreFree (IsDeclared l.theory.decls) l.vars (Some i) → ⊥
