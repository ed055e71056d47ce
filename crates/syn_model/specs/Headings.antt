-- For public contracts: the heading that is declared last, with its clauses, and whether one is missing.
use Rattle.std.specs.Prelude.{ℕ, ◌+◌, Bool, true, false, List, [], ◌∷◌, ◌++◌, Option, None, Some, fold}
use Rattle.std.specs.Option.{option_map}
use Rattle.syn_term.specs.declared.sorts.Head.{Head}
use Rattle.syn_term.specs.declared.sorts.Head.TheVariants as head
use Rattle.syn_term.specs.declared.sorts.Kind.{Kind}
use Rattle.syn_term.specs.declared.sorts.Kind.TheVariants as kind
use Rattle.syn_term.specs.Symbols.{SymbolTable, symbol_at}
use Rattle.syn_term.specs.Terms.{TermTree, head_of}
use Rattle.syn_model.specs.declared.decl.Decl.{Decl}
use Rattle.syn_model.specs.declared.decl.Decl.TheVariants as decl
use Rattle.syn_model.specs.declared.patterns.Pattern.{Pattern}
use Rattle.syn_model.specs.declared.patterns.Role.{Role}
use Rattle.syn_model.specs.declared.patterns.Role.TheVariants as role
use Rattle.syn_model.specs.Tables.{table_of}

-- the last declaration that is no clause, and the arguments of the clauses behind it
pub record Heading : Type 0 where
  pub declared : Option Decl
  pub arguments : List (List TermTree)

abbrev pub heading_after : Heading → Decl → Heading
heading_after h (decl.FunClause args body) = record { declared = h.declared; arguments = h.arguments ++ args ∷ [] }
heading_after h (decl.RelClause args body) = record { declared = h.declared; arguments = h.arguments ++ args ∷ [] }
heading_after h d = record { declared = Some d; arguments = [] }

abbrev pub heading_of : List Decl → Heading
heading_of = fold heading_after (record { declared = None; arguments = [] })

-- the pattern that an argument with this at its top is, where it is no variable
abbrev pub pattern_at : ℕ → Head → List Pattern
pattern_at n (head.Var v) = []
pattern_at n (head.Sym f) = record { place = n; symbol = f } ∷ []

abbrev pub patterns_from : ℕ → List TermTree → List Pattern
patterns_from n [] = []
patterns_from n (t ∷ ts) = pattern_at n (head_of t) ++ patterns_from (n + 1) ts

-- what is no variable among the arguments
abbrev pub patterns_of : List TermTree → List Pattern
patterns_of = patterns_from 0

-- what a symbol of this kind is for its sort: the first of two constructors, the second of two, the only one, or none
abbrev pub role_of_kind : Option Kind → Role
role_of_kind (Some kind.Zero) = role.FirstOfTwo
role_of_kind (Some kind.Nil) = role.FirstOfTwo
role_of_kind (Some kind.Succ) = role.SecondOfTwo
role_of_kind (Some kind.Cons) = role.SecondOfTwo
role_of_kind (Some kind.Tuple) = role.OnlyOne
role_of_kind _ = role.NoConstructor

abbrev pub role_of : SymbolTable → Pattern → Role
role_of table p = role_of_kind (option_map (λ s. s.kind) (symbol_at table p.symbol))

abbrev pub is_only : Role → Bool
is_only role.OnlyOne = true
is_only _ = false

abbrev pub one_suffices : SymbolTable → List Pattern → Bool
one_suffices table [] = true
one_suffices table (p ∷ ps) = is_only (role_of table p)

-- no clause is missing: the only clause has no pattern or a tuple's, or there are two
abbrev pub are_all : SymbolTable → List (List TermTree) → Bool
are_all table [] = false
are_all table (c ∷ []) = one_suffices table (patterns_of c)
are_all table (c ∷ d ∷ cs) = true

abbrev pub has_clauses : Option Decl → Bool
has_clauses (Some (decl.Fun name args result)) = true
has_clauses (Some (decl.Rel name args)) = true
has_clauses _ = false

abbrev pub is_complete : SymbolTable → Bool → List (List TermTree) → Bool
is_complete table true clauses = are_all table clauses
is_complete table false clauses = true

-- no clause of the last heading is missing
abbrev pub is_whole : List Decl → Bool
is_whole ds = is_complete (table_of ds) (has_clauses (heading_of ds).declared) (heading_of ds).arguments
