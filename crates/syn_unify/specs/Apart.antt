-- Public. Rows kept apart: each variable's number so much higher.
use Rattle.std.specs.Prelude.{ℕ, ◌+◌, ◌<◌, ◌^◌, List, [], ◌++◌, Option, All}
use Rattle.std.specs.Option.{option_map_or}
use Rattle.syn_term.specs.declared.sorts.Var.{Var}
use Rattle.syn_term.specs.declared.term.Node.{Node, fold-Node}
use Rattle.syn_term.specs.declared.term.Node.TheOpen.{Node-F}
use Rattle.syn_term.specs.Terms.{TermTree, variable_tree, application}
use Rattle.syn_form.specs.Inputs.{on_terms}
use Rattle.syn_form.specs.Trees.{FormTree, OutTree, form_terms, form_vars, out_terms, out_vars}
use Rattle.syn_unify.specs.OutTerms.{out_on_terms}

-- the variable with a number so much higher
abbrev pub higher : ℕ → Var → Var
higher by v = record { number = v.number + by; sort = v.sort }

abbrev pub apart_step : ℕ → Node-F Node → Node
apart_step by (Node-F.Var place v) = variable_tree (higher by v)
apart_step by (Node-F.App place f args) = application f args

-- the term with the number of each variable so much higher, without places
abbrev pub apart_term : ℕ → TermTree → TermTree
apart_term by = fold-Node Node (apart_step by)

-- the same for a formula and an output
abbrev pub apart_form : ℕ → FormTree → FormTree
apart_form by = on_terms (apart_term by)

abbrev pub apart_out : ℕ → OutTree → OutTree
apart_out by = out_on_terms (apart_term by)

-- the terms and the variables of a formula and maybe an output
abbrev pub terms_of_both : FormTree → Option OutTree → List TermTree
terms_of_both f o = form_terms f ++ option_map_or out_terms o []

abbrev pub vars_of_both : FormTree → Option OutTree → List Var
vars_of_both f o = form_vars f ++ option_map_or out_vars o []

-- no number passes the last one
abbrev pub MayRaise : ℕ → List Var → Type 0
MayRaise by = All (λ v. v.number + by < 2 ^ 32)
