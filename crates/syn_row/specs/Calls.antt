-- For public contracts: the calls of a symbol in a term as they stand there, and the terms of some formulas.
use Rattle.std.specs.Prelude.{List, [], ◌∷◌, ◌++◌, map, nat_eq, if◌then◌else◌}
use Rattle.std.specs.List.{flat_map}
use Rattle.syn_term.specs.declared.sorts.SymId.{SymId}
use Rattle.syn_term.specs.declared.term.Place.{Place}
use Rattle.syn_term.specs.declared.term.Node.{fold-Node}
use Rattle.syn_term.specs.declared.term.Node.TheOpen.{Node-F}
use Rattle.syn_term.specs.declared.term.Node.TheVariants as node
use Rattle.syn_term.specs.declared.term.Node.TheViews as view
use Rattle.syn_term.specs.Terms.{TermTree}
use Rattle.syn_form.specs.Trees.{FormTree, all_of, form_terms}
use Rattle.syn_row.specs.Guards.{WithCalls}

-- the terms of formulas, one after another
abbrev pub forms_terms : List FormTree → List TermTree
forms_terms = flat_map form_terms

abbrev pub standing_at : SymId → Place → SymId → List TermTree → List TermTree
standing_at f place g args = if nat_eq f.0 g.0 then view.App place g args ∷ [] else []

abbrev pub standing_step : SymId → Node-F WithCalls → WithCalls
standing_step f (Node-F.Var place v) = record { tree = node.Var place v; calls = [] }
standing_step f (Node-F.App place g args) = record { tree = view.App place g (map (λ a. a.tree) args); calls = standing_at f place g (map (λ a. a.tree) args) ++ all_of (map (λ a. a.calls) args) }

-- the applications of the symbol that stand in a term, with their places, from the left, the outer before the inner
abbrev pub calls_standing : SymId → TermTree → List TermTree
calls_standing f t = (fold-Node WithCalls (standing_step f) t).calls

-- those in the terms of a formula
abbrev pub calls_standing_form : SymId → FormTree → List TermTree
calls_standing_form f g = flat_map (calls_standing f) (form_terms g)
