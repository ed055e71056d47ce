-- For private contracts: the variables that the quantifiers around a place bind.
use Rattle.std.specs.Prelude.{List, [], ◌∷◌}
use Rattle.syn_term.specs.declared.sorts.Var.{Var}
use Rattle.syn_model.specs.declared.closed.Bound.{Bound, fold-Bound}
use Rattle.syn_model.specs.declared.closed.Bound.TheOpen.{Bound-F}

abbrev pub bound_step : Bound-F (List Var) → List Var
bound_step Bound-F.Nothing = []
bound_step (Bound-F.Also v outer) = v ∷ outer.now

-- what is bound, the innermost first
abbrev pub bound_vars : Bound → List Var
bound_vars = fold-Bound (List Var) bound_step
