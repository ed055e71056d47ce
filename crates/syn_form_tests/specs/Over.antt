-- Inner. Formulas and outputs whose terms are those of a pair.
use Rattle.std.specs.Prelude.{[], ◌∷◌, Contains}
use Rattle.syn_form_tests.specs.declared.codes.Pair.{Pair}
use Rattle.syn_form.specs.Trees.{FormTree, OutTree, form_terms, out_terms}
use Rattle.syn_term.specs.Terms.{TermTree}

abbrev pub IsOver : Pair → FormTree → Type 0
IsOver pair f = (t : TermTree) → Contains (form_terms f) t → Contains (pair.a ∷ pair.b ∷ []) t

abbrev pub IsOverOut : Pair → OutTree → Type 0
IsOverOut pair o = (t : TermTree) → Contains (out_terms o) t → Contains (pair.a ∷ pair.b ∷ []) t
