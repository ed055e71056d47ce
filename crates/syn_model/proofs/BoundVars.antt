-- What is bound inside a quantifier.
use Rattle.std.proofs.Common.{◌≡◌, List, ◌∷◌}
use Rattle.std.specs.Borrow.{Bor}
use denote.Hole.Carrier.{roll}
use Rattle.syn_term.specs.declared.sorts.Var.{Var}
use Rattle.syn_model.specs.declared.closed.Bound.{Bound, roll-Bound, fold-roll-Bound}
use Rattle.syn_model.specs.declared.closed.Bound.TheOpen.{Bound-F}
use Rattle.syn_model.specs.declared.closed.Bound.TheViews as view
use Rattle.syn_model.specs.inner.Closing.{bound_step, bound_vars}

pub bound_vars-Also : (w : Var) (outer : Bor Bound) → bound_vars (view.Also w outer) ≡ w ∷ bound_vars outer.now
unfolding roll-Bound roll
bound_vars-Also w outer = fold-roll-Bound (List Var) bound_step (Bound-F.Also w outer)
