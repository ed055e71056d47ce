-- Terms with their variables replaced by a function, as trees without places.
use Rattle.std.specs.Prelude.{◌≡◌, ◌+◌, ◌-◌, ◌^◌, min, ℕ, List, map, Option, Some}
use Rattle.syn_term.specs.Bank.{Kept}
use Rattle.syn_term.specs.declared.sorts.Var.{Var}
use Rattle.syn_term.specs.declared.term.Node.{Node, fold-Node}
use Rattle.syn_term.specs.declared.term.Node.TheOpen.{Node-F}
use Rattle.syn_term.specs.Symbols.{SymbolTable}
use Rattle.syn_term.specs.Terms.{TermTree, variable_tree, application, bare, sort_of}
use Rattle.syn_form.specs.Substitutions.{Substitution, image}
use Rattle.syn_unify.specs.declared.bindings.Bound.{Bound}
use Rattle.syn_unify.specs.declared.changing.Change.{Change}
use Rattle.syn_unify.specs.declared.changing.Change.TheVariants as change
use Rattle.syn_unify.specs.Bindings.{BindsOwn, bound_cost}

-- a list of bound variables as a substitution
abbrev pub seen : List Bound → Substitution
seen = map (λ b. record { var = b.var; term = b.term })

abbrev pub under_step : (Var → TermTree) → Node-F Node → Node
under_step θ (Node-F.Var place v) = bare (θ v)
under_step θ (Node-F.App place f args) = application f args

-- the term with each variable replaced, without places
abbrev pub under : (Var → TermTree) → TermTree → TermTree
under θ = fold-Node Node (under_step θ)

-- the variable with a number so much higher, or with the last number
abbrev pub raised : ℕ → Var → Var
raised by v = record { number = min (v.number + by) (2 ^ 32 - 1); sort = v.sort }

-- what a change makes of a variable
abbrev pub becomes : Change → Var → TermTree
becomes (change.Bind bound) v = image (seen bound.now) v
becomes (change.Raise by) v = variable_tree (raised by v)

-- the nodes that are made for it; none where it stays
abbrev pub cost : Change → Var → Option ℕ
cost (change.Bind bound) v = bound_cost (seen bound.now) v
cost (change.Raise by) v = Some 1

-- the terms that it puts in belong to the bank
abbrev pub IsOwn : Kept → Change → Type 0
IsOwn bank (change.Bind bound) = BindsOwn bank (seen bound.now)
IsOwn bank (change.Raise by) = Unit {0}

-- each variable becomes a term of its sort
abbrev pub HoldsSorts : SymbolTable → (Var → TermTree) → Type 0
HoldsSorts table θ = (v : Var) → sort_of table (θ v) ≡ Some v.sort
