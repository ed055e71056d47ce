-- For private contracts: the guard of a call by its arguments, and a term that may be a call.
use Rattle.std.specs.Prelude.{List, [], ◌∷◌, ◌++◌, map, nat_eq, if◌then◌else◌}
use Rattle.syn_term.specs.declared.sorts.SymId.{SymId}
use Rattle.syn_term.specs.Terms.{TermTree}
use Rattle.syn_form.specs.declared.trees.Form.TheVariants as form
use Rattle.syn_form.specs.declared.trees.Form.TheViews as view
use Rattle.syn_form.specs.Inputs.{form_with_inputs}
use Rattle.syn_form.specs.Trees.{FormTree}
use Rattle.syn_row.specs.declared.guards.GuardRule.{GuardRule}
use Rattle.syn_row.specs.Guards.{with_terms}

-- the guard of a call with these arguments
abbrev pub guard_over : GuardRule → List TermTree → FormTree
guard_over rule terms = view.And (form.Atom rule.order (terms ++ map (λ b. b.1) rule.inputs) ∷ form_with_inputs (with_terms rule.inputs terms) rule.condition ∷ [])

-- the term with g at its top, where that is f
abbrev pub if_called : SymId → SymId → TermTree → List TermTree
if_called f g t = if nat_eq f.0 g.0 then t ∷ [] else []
