-- Public. What a syntax tree stands for: names and numbers are looked up, sorts are compared, bound names get numbers, and `A <-> B` becomes
-- `(A -> B) and (B -> A)`.
use Rattle.std.specs.Prelude.{ℕ, zero, suc, ◌+◌, Bool, not, ◌&&◌, List, [], ◌∷◌, Option, None, Some, codes, if◌then◌else◌, nat_lt, map, position}
use Rattle.std.specs.Option.{option_map, option_and_then}
use Rattle.std.specs.List.{list_any}
use Rattle.std.specs.Str.{bytes_eq}
use Rattle.syn_term.specs.declared.sorts.Sort.{Sort}
use Rattle.syn_term.specs.declared.sorts.Sort.TheVariants as sort
use Rattle.syn_term.specs.declared.sorts.SymId.{SymId}
use Rattle.syn_term.specs.declared.sorts.Var.{Var}
use Rattle.syn_term.specs.Symbols.{SymbolTable, names_of}
use Rattle.syn_term.specs.DeclaredSorts.{sort_named}
use Rattle.syn_term.specs.Terms.{TermTree, variable_tree, application, sort_of}
use Rattle.syn_term.specs.Tokens.{is_reserved}
use Rattle.syn_form.specs.declared.syntax.HeadName.{HeadName}
use Rattle.syn_form.specs.declared.syntax.HeadName.TheVariants as head
use Rattle.syn_form.specs.declared.syntax.TermSyntax.{TermSyntax, fold-TermSyntax}
use Rattle.syn_form.specs.declared.syntax.TermSyntax.TheOpen.{TermSyntax-F}
use Rattle.syn_form.specs.declared.syntax.Quantifier.{Quantifier}
use Rattle.syn_form.specs.declared.syntax.Quantifier.TheVariants as quantifier
use Rattle.syn_form.specs.declared.syntax.BinderSyntax.{BinderSyntax}
use Rattle.syn_form.specs.declared.syntax.FormSyntax.{FormSyntax, fold-FormSyntax}
use Rattle.syn_form.specs.declared.syntax.FormSyntax.TheOpen.{FormSyntax-F}
use Rattle.syn_form.specs.declared.syntax.OutSyntax.{OutSyntax, fold-OutSyntax}
use Rattle.syn_form.specs.declared.syntax.OutSyntax.TheOpen.{OutSyntax-F}
use Rattle.syn_form.specs.declared.trees.Out.TheVariants as out
use Rattle.syn_form.specs.declared.trees.Out.TheViews as out_view
use Rattle.syn_form.specs.declared.trees.QForm.TheVariants as form
use Rattle.syn_form.specs.declared.trees.QForm.TheViews as view
use Rattle.syn_form.specs.Lists.{all_there}
use Rattle.syn_form.specs.Sorts.{makes_term, makes_atom, are_of_one_sort}
use Rattle.syn_form.specs.Trees.{FormTree, OutTree, QFormTree}
use Rattle.syn_form.specs.Quantified.{unquantified}
use Rattle.syn_form.specs.Plain.{given_sort}
use Rattle.syn_form.specs.Scopes.{Named, TextScope, largest_numeral, with_name}

-- the variable with the name, the innermost where several have it
abbrev pub var_named : List Named → List ℕ → Option Var
var_named [] x = None
var_named (n ∷ ns) x = if bytes_eq n.text x then Some n.var else var_named ns x

abbrev pub sym_id : ℕ → SymId
sym_id n = record { 0 = n }

-- the symbol with the name. Of the reserved words `s` alone names one
abbrev pub symbol_named : SymbolTable → List ℕ → Option SymId
symbol_named table x =
    if is_reserved x && not (bytes_eq x (codes "s")) then None else option_map sym_id (position (bytes_eq x) (names_of table))

-- a symbol with arguments of its sorts
abbrev pub sorted_application : SymbolTable → List TermTree → SymId → Option TermTree
sorted_application table args f = if makes_term table f args then Some (application f args) else None

-- k times `s` over `0`
abbrev pub successors : SymbolTable → ℕ → Option TermTree
successors table zero = option_and_then (sorted_application table []) (symbol_named table (codes "0"))
successors table (suc k) = option_and_then (λ t. option_and_then (sorted_application table (t ∷ [])) (symbol_named table (codes "s"))) (successors table k)

-- a number up to the largest numeral is so many times `s` over `0`
abbrev pub number_tree : SymbolTable → ℕ → Option TermTree
number_tree table k = if nat_lt largest_numeral k then None else successors table k

-- the sort that is written behind a row variable, `nat` where none is
abbrev pub written_sort : SymbolTable → Option (List ℕ) → Option Sort
written_sort table None = Some sort.Nat
written_sort table (Some s) = sort_named table s

-- row variables are read in rows alone
abbrev pub row_tree : TextScope → ℕ → Option (List ℕ) → Option TermTree
row_tree scope k s = if scope.rows then option_map (λ sort. variable_tree (record { number = k; sort = sort })) (written_sort scope.table s) else None

-- the symbol of a head; Skolem symbols are read in rows alone
abbrev pub head_symbol : TextScope → HeadName → Option SymId
head_symbol scope (head.Name x) = symbol_named scope.table x
head_symbol scope (head.Skolem x) = if scope.rows then option_map sym_id (position (bytes_eq x) (names_of scope.table)) else None

-- the variable that a head names; a reserved word names none
abbrev pub head_var : TextScope → HeadName → Option Var
head_var scope (head.Name x) = if is_reserved x then None else var_named scope.names x
head_var scope (head.Skolem x) = None

-- a head by itself is a variable, where one is named so, or a symbol
abbrev pub alone_tree : TextScope → HeadName → Option Var → Option TermTree
alone_tree scope h (Some v) = Some (variable_tree v)
alone_tree scope h None = option_and_then (sorted_application scope.table []) (head_symbol scope h)

-- a symbol with its arguments; brackets have one argument or more
abbrev pub applied_tree : TextScope → HeadName → List (Option TermTree) → Option TermTree
applied_tree scope h [] = None
applied_tree scope h (x ∷ xs) = option_and_then (λ args. option_and_then (sorted_application scope.table args) (head_symbol scope h)) (all_there (x ∷ xs))

abbrev pub elaborate_term_step : TextScope → TermSyntax-F (Option TermTree) → Option TermTree
elaborate_term_step scope (TermSyntax-F.Number k) = number_tree scope.table k
elaborate_term_step scope (TermSyntax-F.RowVar k s) = row_tree scope k s
elaborate_term_step scope (TermSyntax-F.Alone h) = alone_tree scope h (head_var scope h)
elaborate_term_step scope (TermSyntax-F.Applied h args) = applied_tree scope h args

-- the term that a syntax tree stands for, none where a name isn't there
abbrev pub elaborate_term : TextScope → TermSyntax → Option TermTree
elaborate_term scope = fold-TermSyntax (Option TermTree) (elaborate_term_step scope)

-- what is read in a scope, where the next binder has the given number: a value, and the number of the binder after
abbrev pub Reading : Type 0 → Type 0
Reading A = TextScope → ℕ → Option (A × ℕ)

-- what has no binder
abbrev pub steady : {A : Type 0} → (TextScope → Option A) → Reading A
steady t scope n = option_map (λ a. (a, n)) (t scope)

abbrev pub mapped : {A B : Type 0} → (A → B) → Reading A → Reading B
mapped f r scope n = option_map (λ a. (f a.0, a.1)) (r scope n)

-- one after the other, from the left
abbrev pub and_then : {A B C : Type 0} → (A → B → C) → Reading A → Reading B → Reading C
and_then f r q scope n = option_and_then (λ a. option_map (λ b. (f a.0 b.0, b.1)) (q scope a.1)) (r scope n)

abbrev pub in_turn : {A : Type 0} → List (Reading A) → Reading (List A)
in_turn [] = steady (λ scope. Some [])
in_turn (r ∷ rs) = and_then (λ a rest. a ∷ rest) r (in_turn rs)

-- a name that may be bound: no reserved word, and no symbol, no sort and no variable in scope has it
abbrev pub is_free : TextScope → List ℕ → Bool
is_free scope x =
    not (is_reserved x) && (not (list_any (bytes_eq x) (names_of scope.table)) && (not (list_any (λ s. bytes_eq x s.name) scope.table.sorts) && not (list_any (λ v. bytes_eq x v.text) scope.names)))

abbrev pub quantifier_tree : Quantifier → List ℕ → Var → QFormTree → QFormTree
quantifier_tree quantifier.All x v f = view.All (record { var = v; name = x }) f
quantifier_tree quantifier.Exists x v f = view.Exists (record { var = v; name = x }) f

abbrev pub numbered_var : ℕ → Sort → Var
numbered_var n s = record { number = n; sort = s }

-- the sort of a binder: `nat`, or the declared one that has the name
abbrev pub binder_sort : SymbolTable → List ℕ → Option Sort
binder_sort table x = if is_reserved x && not (bytes_eq x (codes "nat")) then None else sort_named table x

-- one quantifier: its variable gets the next number, and its name is in scope of what is read inside
abbrev pub bound : Quantifier → BinderSyntax → Reading QFormTree → Reading QFormTree
bound q b inside scope n =
    if is_free scope b.name then option_and_then (λ s. mapped (quantifier_tree q b.name (numbered_var n s)) inside (with_name scope b.name (numbered_var n s)) (n + 1)) (binder_sort scope.table b.sort) else None

-- a list of binders is nested single quantifiers, the first the outermost
abbrev pub nested : Quantifier → List BinderSyntax → Reading QFormTree → Reading QFormTree
nested q [] inside = inside
nested q (b ∷ bs) inside = bound q b (nested q bs inside)

-- `A <-> B` is `(A -> B) and (B -> A)`, each side read twice, with binders of its own; rows have none
abbrev pub two_ways : Reading QFormTree → Reading QFormTree → Reading QFormTree
two_ways r q scope n =
    if scope.rows then None else and_then (λ there back. view.And (there ∷ back ∷ [])) (and_then view.Implies r q) (and_then view.Implies q r) scope n

abbrev pub sorted_atom : SymbolTable → List TermTree → SymId → Option QFormTree
sorted_atom table args r = if makes_atom table r args then Some (form.Atom r args) else None

-- an atom is a relation or an order with arguments of its sorts
abbrev pub atom_tree : TextScope → List ℕ → List (Option TermTree) → Option QFormTree
atom_tree scope r [] = None
atom_tree scope r (t ∷ ts) = option_and_then (λ args. option_and_then (sorted_atom scope.table args) (symbol_named scope.table r)) (all_there (t ∷ ts))

abbrev pub sorted_equality : SymbolTable → TermTree → TermTree → Option QFormTree
sorted_equality table s t = if are_of_one_sort (sort_of table s) (sort_of table t) then Some (form.Equal s t) else None

-- an equality has two sides of one sort
abbrev pub equality_tree : TextScope → Option TermTree → Option TermTree → Option QFormTree
equality_tree scope s t = option_and_then (λ x. option_and_then (sorted_equality scope.table x) t) s

abbrev pub quantified_reading : Quantifier → List BinderSyntax → Reading QFormTree → Reading QFormTree
quantified_reading q [] inside scope n = None
quantified_reading q (b ∷ bs) inside scope n = nested q (b ∷ bs) inside scope n

abbrev pub elaborate_form_step : FormSyntax-F (Reading QFormTree) → Reading QFormTree
elaborate_form_step FormSyntax-F.True = steady (λ scope. Some form.True)
elaborate_form_step FormSyntax-F.False = steady (λ scope. Some form.False)
elaborate_form_step (FormSyntax-F.Atom r args) = steady (λ scope. atom_tree scope r (map (elaborate_term scope) args))
elaborate_form_step (FormSyntax-F.Equal s t) = steady (λ scope. equality_tree scope (elaborate_term scope s) (elaborate_term scope t))
elaborate_form_step (FormSyntax-F.Not r) = mapped view.Not r
elaborate_form_step (FormSyntax-F.And rs) = mapped view.And (in_turn rs)
elaborate_form_step (FormSyntax-F.Or rs) = mapped view.Or (in_turn rs)
elaborate_form_step (FormSyntax-F.Implies r q) = and_then view.Implies r q
elaborate_form_step (FormSyntax-F.BothWays r q) = two_ways r q
elaborate_form_step (FormSyntax-F.Quantified q binders r) = quantified_reading q binders r

-- the formula that a syntax tree stands for, with the number after that of its last binder
abbrev pub elaborate_form : FormSyntax → Reading QFormTree
elaborate_form = fold-FormSyntax (Reading QFormTree) elaborate_form_step

-- the formula without quantifiers that a syntax tree stands for
abbrev pub elaborate_plain : TextScope → FormSyntax → Option FormTree
elaborate_plain scope f = option_and_then (λ r. unquantified r.0) (elaborate_form f scope 1)

abbrev pub sorted_choice : SymbolTable → FormTree → OutTree → OutTree → Option OutTree
sorted_choice table f u v = if are_of_one_sort (given_sort table u) (given_sort table v) then Some (out_view.If f u v) else None

-- a choice has two arms that give terms of one sort
abbrev pub choice_tree : SymbolTable → Option FormTree → Option OutTree → Option OutTree → Option OutTree
choice_tree table f u v = option_and_then (λ x. option_and_then (λ y. option_and_then (sorted_choice table x y) v) u) f

abbrev pub elaborate_out_step : TextScope → OutSyntax-F (Option OutTree) → Option OutTree
elaborate_out_step scope (OutSyntax-F.Give t) = option_map out.Give (elaborate_term scope t)
elaborate_out_step scope (OutSyntax-F.If f u v) = choice_tree scope.table (elaborate_plain scope f) u v

-- the output that a syntax tree stands for; its tests have no quantifiers
abbrev pub elaborate_out : TextScope → OutSyntax → Option OutTree
elaborate_out scope = fold-OutSyntax (Option OutTree) (elaborate_out_step scope)
