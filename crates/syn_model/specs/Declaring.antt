-- For public contracts: which declaration may follow which others: what a theory is.
use Rattle.std.specs.Prelude.{◌≡◌, ◌≢◌, ℕ, ◌≤◌, ◌-◌, Bool, true, false, List, [], ◌∷◌, ◌++◌, Option, None, Some, All, Contains, length, position, slice_get}
use Rattle.std.specs.List.{flat_map}
use Rattle.std.specs.Option.{option_map}
use Rattle.std.specs.Str.{bytes_eq}
use Rattle.syn_term.specs.declared.sorts.Sort.{Sort}
use Rattle.syn_term.specs.declared.sorts.Sort.TheVariants as sort
use Rattle.syn_term.specs.declared.sorts.Sym.{Sym}
use Rattle.syn_term.specs.declared.sorts.SymId.{SymId}
use Rattle.syn_term.specs.declared.sorts.Var.{Var}
use Rattle.syn_term.specs.Names.{IsName}
use Rattle.syn_term.specs.Symbols.{SymbolTable, symbol_at, names_of}
use Rattle.syn_term.specs.Terms.{TermTree, sort_of}
use Rattle.syn_form.specs.declared.trees.Mono.{Mono}
use Rattle.syn_form.specs.Elaboration.{sym_id}
use Rattle.syn_form.specs.Plain.{IsSorted, IsPlainForm, IsPlainOut, given_sort}
use Rattle.syn_form.specs.PlainQuantified.{IsPlainQForm, binders_of}
use Rattle.syn_form.specs.Quantified.{free_vars}
use Rattle.syn_form.specs.Sorts.{is_relation}
use Rattle.syn_form.specs.Trees.{QFormTree, FormTree, OutTree, form_vars, out_vars, term_vars}
use Rattle.syn_model.specs.declared.decl.Decl.{Decl}
use Rattle.syn_model.specs.declared.decl.Decl.TheVariants as decl
use Rattle.syn_model.specs.declared.uses.Rest.{Rest}
use Rattle.syn_model.specs.Clauses.{HasArguments, UsesForm, UsesOut, turn_of}
use Rattle.syn_model.specs.Headings.{heading_of, is_whole}
use Rattle.syn_model.specs.Theories.{MayBring}
use Rattle.syn_model.specs.Tables.{IsDeclared, monos_of, other_names, table_of}

-- no axiom and no monotonicity row has the name
abbrev pub IsOtherwiseFree : List Decl → List ℕ → Type 0
IsOtherwiseFree ds name = Contains (other_names ds) name → ⊥

-- a function or relation has a new name, and 1 to 64 arguments
pub record AsksHead (ds : List Decl) (name : List ℕ) (args : List Sort) : Type 0 where
  pub free : IsOtherwiseFree ds name
  pub few : (1 ≤ length args) × (length args ≤ 64)

-- the variable is one of those numbered from 1 with these sorts
abbrev pub IsNumberedIn : List Sort → Var → Type 0
IsNumberedIn sorts v = (1 ≤ v.number) × (slice_get sorts (v.number - 1) ≡ Some v.sort)

-- an order is on one to four arguments, and its measure is a number over them
pub record AsksOrder (ds : List Decl) (name : List ℕ) (args : List Sort) (measure : TermTree) : Type 0 where
  pub free : IsOtherwiseFree ds name
  pub few : (1 ≤ length args) × (length args ≤ 4)
  pub sorted : IsSorted (table_of ds) measure
  pub number : sort_of (table_of ds) measure ≡ Some sort.Nat
  pub over : All (IsNumberedIn args) (term_vars measure)

-- an axiom has a new name and is a plain formula without free variables, which binds no name that is declared
pub record MayAxiom (ds : List Decl) (name : List ℕ) (f : QFormTree) : Type 0 where
  pub named : IsName name
  pub free : IsDeclared ds name → ⊥
  pub plain : IsPlainQForm (table_of ds) f
  pub closed : free_vars f ≡ []
  pub bound : All (λ b. IsOtherwiseFree ds b.name × (b.name ≢ name)) (binders_of f)

-- the symbol is a relation or an order on two arguments of the sort
pub record IsRelationOn (table : SymbolTable) (s : Sort) (r : SymId) : Type 0 where
  pub sym : Sym
  pub is : symbol_at table r ≡ Some sym
  pub relation : is_relation sym.kind ≡ true
  pub sorts : sym.args ≡ s ∷ s ∷ []

-- what a monotonicity row says of a relation or order is between its atoms, and of any other symbol between its results
abbrev pub GivesFor : SymbolTable → Bool → Option Sort → Option SymId → Type 0
GivesFor table true result gives = gives ≡ None
GivesFor table false result gives = (s : Sort) × (r : SymId) × (result ≡ Some s) × (gives ≡ Some r) × IsRelationOn table s r

-- the relation is one on the sort of the place, and what is given fits the symbol
pub record IsMono (table : SymbolTable) (m : Mono) : Type 0 where
  pub sym : Sym
  pub is : symbol_at table m.sym ≡ Some sym
  pub sort : Sort
  pub positive : 1 ≤ m.place
  pub there : slice_get sym.args (m.place - 1) ≡ Some sort
  pub relation : IsRelationOn table sort m.rel
  pub gives : GivesFor table (is_relation sym.kind) sym.result m.gives

-- a monotonicity row has a new name, and no row before it is of the same relation, symbol and place
pub record MayMono (ds : List Decl) (name : List ℕ) (m : Mono) : Type 0 where
  pub named : IsName name
  pub free : IsDeclared ds name → ⊥
  pub mono : IsMono (table_of ds) m
  pub new : All (λ o. (o.rel ≡ m.rel) × (o.sym ≡ m.sym) × (o.place ≡ m.place) → ⊥) (monos_of ds)

-- the symbol with the name
abbrev pub symbol_of_name : SymbolTable → List ℕ → Option SymId
symbol_of_name table name = option_map sym_id (position (bytes_eq name) (names_of table))

-- each of these variables is one of those
abbrev pub AreAmong : List Var → List Var → Type 0
AreAmong vars those = All (Contains those) vars

-- a clause of the function declared last
pub record MayFunClause (ds : List Decl) (args : List TermTree) (body : OutTree) : Type 0 where
  pub name : List ℕ
  pub sorts : List Sort
  pub result : Sort
  pub own : SymId
  pub rest : Option Rest
  pub heading : (heading_of ds).declared ≡ Some (decl.Fun name sorts result)
  pub defined : symbol_of_name (table_of ds) name ≡ Some own
  pub turn : turn_of (table_of ds) (heading_of ds).arguments args ≡ Some rest
  pub arguments : HasArguments (table_of ds) sorts args
  pub plain : IsPlainOut (table_of ds) body
  pub sort : given_sort (table_of ds) body ≡ Some result
  pub over : AreAmong (out_vars body) (flat_map term_vars args)
  pub uses : UsesOut own rest body

-- a clause of the relation declared last
pub record MayRelClause (ds : List Decl) (args : List TermTree) (body : FormTree) : Type 0 where
  pub name : List ℕ
  pub sorts : List Sort
  pub own : SymId
  pub rest : Option Rest
  pub heading : (heading_of ds).declared ≡ Some (decl.Rel name sorts)
  pub defined : symbol_of_name (table_of ds) name ≡ Some own
  pub turn : turn_of (table_of ds) (heading_of ds).arguments args ≡ Some rest
  pub arguments : HasArguments (table_of ds) sorts args
  pub plain : IsPlainForm (table_of ds) body
  pub over : AreAmong (form_vars body) (flat_map term_vars args)
  pub uses : UsesForm own rest body

-- what a declaration asks besides that the table may take what it brings
abbrev pub Asks : List Decl → Decl → Type 0
Asks ds (decl.ListSort name nil cons item) = All (IsOtherwiseFree ds) (name ∷ nil ∷ cons ∷ [])
Asks ds (decl.TupleSort name make parts) = All (IsOtherwiseFree ds) (name ∷ make ∷ [])
Asks ds (decl.Fun name args result) = AsksHead ds name args
Asks ds (decl.Rel name args) = AsksHead ds name args
Asks ds (decl.FunClause args body) = MayFunClause ds args body
Asks ds (decl.RelClause args body) = MayRelClause ds args body
Asks ds (decl.Order name args measure) = AsksOrder ds name args measure
Asks ds (decl.Axiom name f) = MayAxiom ds name f
Asks ds (decl.Monotone name m) = MayMono ds name m

abbrev pub is_clause : Decl → Bool
is_clause (decl.FunClause args body) = true
is_clause (decl.RelClause args body) = true
is_clause _ = false

-- whatever is no clause comes where no clause is missing
abbrev pub ComesInTime : List Decl → Bool → Type 0
ComesInTime ds true = Unit {0}
ComesInTime ds false = is_whole ds ≡ true

-- the declaration may follow these
pub record MayDeclare (ds : List Decl) (d : Decl) : Type 0 where
  pub brings : MayBring (table_of ds) d
  pub asks : Asks ds d
  pub in_time : ComesInTime ds (is_clause d)

-- a theory: nothing is declared, or one declaration more that may follow the others
pub data IsTheory : List Decl → Type 0 where
  nothing : IsTheory []
  one_more : (ds : List Decl) (d : Decl) → IsTheory ds → MayDeclare ds d → IsTheory (ds ++ d ∷ [])
