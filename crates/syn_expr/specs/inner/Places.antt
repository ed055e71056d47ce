-- For private contracts: what a text may speak of at a place inside it, and what printers put.
use Rattle.std.specs.Prelude.{ℕ, ◌+◌, List, [], ◌∷◌, ◌++◌, Option, None, Some, codes, map, if◌then◌else◌, nat_lt, Bool, true, false}
use Rattle.syn_term.specs.Terms.{TermTree}
use Rattle.syn_term.specs.Symbols.{symbol_at}
use Rattle.syn_term.specs.declared.sorts.Kind.{Kind}
use Rattle.syn_term.specs.declared.sorts.Kind.TheVariants as kind
use Rattle.syn_term.specs.declared.sorts.Sym.{Sym}
use Rattle.syn_term.specs.declared.term.Node.{fold-Node}
use Rattle.syn_term.specs.declared.term.Node.TheOpen.{Node-F}
use Rattle.syn_form.specs.Scopes.{Named, TextScope, largest_numeral}
use Rattle.syn_form.specs.declared.trees.Binder.{Binder}
use Rattle.syn_form.specs.Printing.{joined, printed_term, sort_text}
use Rattle.syn_expr.specs.Scopes.{listed}
use Rattle.syn_expr.specs.declared.names.Inside.{Inside}
use Rattle.syn_expr.specs.declared.names.NamedVars.{NamedVars, fold-NamedVars}
use Rattle.syn_expr.specs.declared.names.NamedVars.TheOpen.{NamedVars-F}

abbrev pub names_step : NamedVars-F (List Named) → List Named
names_step (NamedVars-F.Given names) = listed names.now
names_step (NamedVars-F.Bound b outer) = record { text = b.now.name; var = b.now.var } ∷ outer.now

-- the variables by their names: what a quantifier binds stands before what is outside of it
abbrev pub names_at : NamedVars → List Named
names_at = fold-NamedVars (List Named) names_step

-- what may be spoken of at the place
abbrev pub spoken_at : Inside → TextScope
spoken_at place = record { table = place.syms.now; names = names_at place.names; rows = place.rows }

-- `(t, .., u)`, and nothing where there are no texts
abbrev pub bracketed : List (List ℕ) → List ℕ
bracketed [] = []
bracketed (t ∷ ts) = codes "(" ++ joined (codes ", ") (t ∷ ts) ++ codes ")"

-- the arguments of a symbol as they stand behind its name
abbrev pub arguments_text : TextScope → List TermTree → List ℕ
arguments_text scope args = bracketed (map (printed_term scope) args)

-- the number after this one, where it is at most `largest_numeral`
abbrev pub next_number : Option ℕ → Option ℕ
next_number None = None
next_number (Some n) = if nat_lt n largest_numeral then Some (n + 1) else None

-- whether a term is `0` under successors; where it is not, no part under its successors is a number
abbrev pub kind_ends : Kind → List Bool → Bool
kind_ends kind.Zero [] = true
kind_ends kind.Succ (b ∷ []) = b
kind_ends _ bs = false

abbrev pub symbol_ends : Option Sym → List Bool → Bool
symbol_ends None bs = false
symbol_ends (Some s) bs = kind_ends s.kind bs

abbrev pub ends_step : TextScope → Node-F Bool → Bool
ends_step scope (Node-F.Var place v) = false
ends_step scope (Node-F.App place f args) = symbol_ends (symbol_at scope.table f) args

abbrev pub ends_in_zero : TextScope → TermTree → Bool
ends_in_zero scope = fold-Node Bool (ends_step scope)

-- a quantifier up to its formula, as in `all x: nat. `
abbrev pub binder_text : TextScope → List ℕ → Binder → List ℕ
binder_text scope word b = word ++ b.name ++ codes ": " ++ sort_text scope.table b.var.sort ++ codes ". "
