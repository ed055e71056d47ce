-- For public contracts: what clauses stand for, as formulas.
use Rattle.std.specs.Prelude.{[], ◌∷◌}
use Rattle.syn_term.specs.Terms.{TermTree}
use Rattle.syn_form.specs.declared.trees.Form.TheVariants as form
use Rattle.syn_form.specs.declared.trees.Form.TheViews as view
use Rattle.syn_form.specs.declared.trees.Out.{fold-Out}
use Rattle.syn_form.specs.declared.trees.Out.TheOpen.{Out-F}
use Rattle.syn_form.specs.Trees.{FormTree, OutTree}

abbrev pub equals_output_step : TermTree → Out-F FormTree → FormTree
equals_output_step t (Out-F.Give u) = form.Equal t u
equals_output_step t (Out-F.If c a b) = view.And (view.Implies c a ∷ view.Implies (view.Not c) b ∷ [])

-- The term has the value of the output, as a formula `[t, o]`: `[t, u]` is `t = u` of a term u, and `[t, if C then U else V]` is
-- `(C -> [t, U]) and (not C -> [t, V])`.
abbrev pub equals_output : TermTree → OutTree → FormTree
equals_output t = fold-Out FormTree (equals_output_step t)

-- the atom is true just where the body is: `(r -> B) and (B -> r)`
abbrev pub defines_relation : FormTree → FormTree → FormTree
defines_relation r b = view.And (view.Implies r b ∷ view.Implies b r ∷ [])
