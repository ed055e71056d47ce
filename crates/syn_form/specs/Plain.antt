-- Public. Plain trees: those that texts stand for. Each symbol has arguments of its sorts, each term has a sort of the table, chains
-- have two members or more, and no variable number has two sorts.
use Rattle.std.specs.Prelude.{◌≡◌, ◌≤◌, ◌⊎◌, List, [], ◌++◌, Option, Some, IfSome, All, Contains, map, length}
use Rattle.std.specs.Option.{option_and_then, option_map_or}
use Rattle.syn_term.specs.declared.sorts.Sym.{Sym}
use Rattle.syn_term.specs.declared.sorts.SymId.{SymId}
use Rattle.syn_term.specs.declared.sorts.Var.{Var}
use Rattle.syn_term.specs.declared.sorts.Sort.{Sort}
use Rattle.syn_term.specs.declared.sorts.Kind.TheVariants as kind
use Rattle.syn_term.specs.declared.term.Node.{Node, every-Node}
use Rattle.syn_term.specs.declared.term.Node.TheOpen.{Node-F}
use Rattle.syn_term.specs.Symbols.{SymbolTable, IsSort, symbol_at}
use Rattle.syn_term.specs.Terms.{TermTree, sort_of, IsApplication}
use Rattle.syn_form.specs.declared.trees.Form.{Form, every-Form}
use Rattle.syn_form.specs.declared.trees.Form.TheOpen.{Form-F}
use Rattle.syn_form.specs.declared.trees.Out.{Out, fold-Out, every-Out}
use Rattle.syn_form.specs.declared.trees.Out.TheOpen.{Out-F}
use Rattle.syn_form.specs.Trees.{FormTree, OutTree, form_vars, out_vars}

-- the sort of a symbol's result; none where the symbol isn't in the table or has no result
abbrev pub result_of : SymbolTable → SymId → Option Sort
result_of table f = option_and_then (λ s. s.result) (symbol_at table f)

-- a sort is there, and it is one of the table's
abbrev pub IsKnownSort : SymbolTable → Option Sort → Type 0
IsKnownSort table o = (s : Sort) × (o ≡ Some s) × IsSort table s

-- a variable has a sort of the table; a symbol has arguments of its sorts and a result, whose sort is one of the table's
abbrev pub SortedNode : SymbolTable → Node-F Node → Type 0
SortedNode table (Node-F.Var place v) = IsSort table v.sort
SortedNode table (Node-F.App place f args) = IsApplication table f args × IsKnownSort table (result_of table f)

-- each symbol of the term has arguments of its sorts, and each subterm has a sort of the table
abbrev pub IsSorted : SymbolTable → TermTree → Type 0
IsSorted table = every-Node (SortedNode table)

-- the symbol is a relation or an order, and the arguments are of its sorts
pub record IsAtom (table : SymbolTable) (r : SymId) (args : List TermTree) : Type 0 where
  pub sym : Sym
  pub is : symbol_at table r ≡ Some sym
  pub relation : (sym.kind ≡ kind.Rel) ⊎ (sym.kind ≡ kind.Order)
  pub sorts : map (sort_of table) args ≡ map Some sym.args

abbrev pub PlainFormNode : SymbolTable → Form-F Form → Type 0
PlainFormNode table (Form-F.Atom r args) = IsAtom table r args × All (IsSorted table) args
PlainFormNode table (Form-F.Equal s t) = IsSorted table s × IsSorted table t × (sort_of table s ≡ sort_of table t)
PlainFormNode table (Form-F.And all) = 2 ≤ length all
PlainFormNode table (Form-F.Or all) = 2 ≤ length all
PlainFormNode table _ = Unit {0}

-- each atom is a relation or order of its sorts, the sides of each equality have one sort, and chains have two members
abbrev pub IsFormed : SymbolTable → FormTree → Type 0
IsFormed table = every-Form (PlainFormNode table)

-- no variable number has two sorts
abbrev pub HasOneSortEach : List Var → Type 0
HasOneSortEach vars = (v w : Var) → Contains vars v → Contains vars w → v.number ≡ w.number → v.sort ≡ w.sort

pub record IsPlainForm (table : SymbolTable) (f : FormTree) : Type 0 where
  pub formed : IsFormed table f
  pub sorts : HasOneSortEach (form_vars f)

abbrev pub given_sort_step : SymbolTable → Out-F (Option Sort) → Option Sort
given_sort_step table (Out-F.Give t) = sort_of table t
given_sort_step table (Out-F.If f u v) = u

-- the sort of the term that an output gives, by its first arm
abbrev pub given_sort : SymbolTable → OutTree → Option Sort
given_sort table = fold-Out (Option Sort) (given_sort_step table)

abbrev pub PlainOutNode : SymbolTable → Out-F Out → Type 0
PlainOutNode table (Out-F.Give t) = IsSorted table t
PlainOutNode table (Out-F.If f u v) = IsFormed table f × (given_sort table u ≡ given_sort table v)

-- each test is formed, and both arms of each choice give terms of one sort
abbrev pub IsFormedOut : SymbolTable → OutTree → Type 0
IsFormedOut table = every-Out (PlainOutNode table)

pub record IsPlainOut (table : SymbolTable) (o : OutTree) : Type 0 where
  pub formed : IsFormedOut table o
  pub sorts : HasOneSortEach (out_vars o)

-- a row's formula and output are plain, and no variable number has two sorts in the two together
pub record IsPlainRow (table : SymbolTable) (f : FormTree) (o : Option OutTree) : Type 0 where
  pub form : IsFormed table f
  pub out : IfSome o (IsFormedOut table)
  pub sorts : HasOneSortEach (form_vars f ++ option_map_or out_vars o [])
