-- Inner. What the code of simplification is told by: the connective that it names, and what it asks of members.
use Rattle.std.specs.Prelude.{Bool, not, List}
use Rattle.std.specs.List.{flat_map}
use Rattle.syn_term.specs.Terms.{TermTree}
use Rattle.syn_form.specs.declared.joins.Junction.{Junction}
use Rattle.syn_form.specs.declared.joins.Junction.TheVariants as code
use Rattle.syn_form.specs.Same.{same_form}
use Rattle.syn_form.specs.Simplification as rules
use Rattle.syn_form.specs.Simplification.{conjunction, disjunction, neutral}
use Rattle.syn_form.specs.Trees.{FormTree, form_terms}

-- the connective of the rules that the code's stands for
abbrev pub joining : Junction → rules.Junction
joining code.And = conjunction
joining code.Or = disjunction

-- whether a member is not the neutral formula, which is dropped
abbrev pub stays : rules.Junction → FormTree → Bool
stays j f = not (same_form f (neutral j))

-- the terms of several formulas, from the left
abbrev pub terms_of : List FormTree → List TermTree
terms_of = flat_map form_terms
