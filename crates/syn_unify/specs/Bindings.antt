-- For public contracts: what a substitution binds, how large a tree may be that comes of one, and how many nodes are made anew then.
use Rattle.std.specs.Prelude.{◌≡◌, ◌+◌, ◌≤◌, ℕ, suc, List, [], ◌∷◌, map, sum, All, Option, None, Some, if◌then◌else◌}
use Rattle.std.specs.List.{flat_map}
use Rattle.std.specs.Option.{option_map, unwrap_or}
use Rattle.syn_term.specs.Bank.{Kept, Belongs}
use Rattle.syn_term.specs.declared.sorts.Var.{Var}
use Rattle.syn_term.specs.declared.term.Node.{fold-Node}
use Rattle.syn_term.specs.declared.term.Node.TheOpen.{Node-F}
use Rattle.syn_term.specs.Symbols.{SymbolTable}
use Rattle.syn_term.specs.Terms.{TermTree}
use Rattle.syn_form.specs.Substitutions.{Substitution, KeepsSorts, same_var}
use Rattle.syn_form.specs.Trees.{FormTree, OutTree, form_terms, out_terms, term_vars}

-- the term of the first binding of the variable; none where there is none
abbrev pub bound_to : Substitution → Var → Option TermTree
bound_to [] v = None
bound_to (b ∷ bs) v = if same_var b.var v then Some b.term else bound_to bs v

-- the variables of the terms that a substitution puts in
abbrev pub bound_vars : Substitution → List Var
bound_vars = flat_map (λ b. term_vars b.term)

-- no two bindings are of one variable
abbrev pub BindsOnce : Substitution → Type 0
BindsOnce [] = Unit {0}
BindsOnce (b ∷ bs) = (bound_to bs b.var ≡ None) × BindsOnce bs

-- the terms that variables become belong to the bank
abbrev pub BindsOwn : Kept → Substitution → Type 0
BindsOwn bank = All (λ b. Belongs bank b.term)

-- no substitution that keeps sorts is a unifier
abbrev pub HasNoUnifier : SymbolTable → (Substitution → Type 0) → Type 0
HasNoUnifier table Unifies = (τ : Substitution) → KeepsSorts table τ → Unifies τ → ⊥

-- a tree that comes of a substitution has at most so many nodes, and at most this depth
abbrev pub most_nodes : ℕ
most_nodes = 65536

abbrev pub most_depth : ℕ
most_depth = 2400

-- a tree with so many nodes and of this depth isn't too large
abbrev pub IsWithin : ℕ → ℕ → Type 0
IsWithin nodes depth = (nodes ≤ most_nodes) × (depth ≤ most_depth)

-- the sum of the numbers that are there; none where none is
abbrev pub sum_there : List (Option ℕ) → Option ℕ
sum_there [] = None
sum_there (None ∷ rest) = sum_there rest
sum_there (Some n ∷ rest) = Some (n + unwrap_or (sum_there rest) 0)

abbrev pub remade_step : (Var → Option ℕ) → Node-F (Option ℕ) → Option ℕ
remade_step cost (Node-F.Var place v) = cost v
remade_step cost (Node-F.App place f args) = option_map suc (sum_there args)

-- how many nodes of a term are made anew where its variables change, and a variable costs so many: one for each symbol that a
-- changed variable stands under; none where no variable changes
abbrev pub remade : (Var → Option ℕ) → TermTree → Option ℕ
remade cost = fold-Node (Option ℕ) (remade_step cost)

abbrev pub remade_nodes : (Var → Option ℕ) → TermTree → ℕ
remade_nodes cost t = unwrap_or (remade cost t) 0

-- a bound variable costs no node, since its term is there
abbrev pub bound_cost : Substitution → Var → Option ℕ
bound_cost σ v = option_map (λ t. 0) (bound_to σ v)

-- the number of symbols of the term that a bound variable stands under
abbrev pub over_bound : Substitution → TermTree → ℕ
over_bound σ = remade_nodes (bound_cost σ)

-- the same of all terms of a formula, and of an output
abbrev pub remade_in_form : (Var → Option ℕ) → FormTree → ℕ
remade_in_form cost f = sum (map (remade_nodes cost) (form_terms f))

abbrev pub remade_in_out : (Var → Option ℕ) → OutTree → ℕ
remade_in_out cost o = sum (map (remade_nodes cost) (out_terms o))

abbrev pub form_over_bound : Substitution → FormTree → ℕ
form_over_bound σ = remade_in_form (bound_cost σ)

abbrev pub out_over_bound : Substitution → OutTree → ℕ
out_over_bound σ = remade_in_out (bound_cost σ)
