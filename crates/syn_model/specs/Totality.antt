-- For public contracts: that each symbol of a theory gives something on all values of the sorts of its arguments.
use Rattle.std.specs.Prelude.{◌≡◌, ℕ, Bool, List, [], Option, None, Some}
use Rattle.syn_term.specs.declared.sorts.Sort.{Sort}
use Rattle.syn_term.specs.declared.sorts.Sym.{Sym}
use Rattle.syn_term.specs.declared.sorts.SymId.{SymId}
use Rattle.syn_term.specs.Symbols.{symbol_at}
use Rattle.syn_value.specs.declared.tree.ValueTree.{ValueTree}
use Rattle.syn_value.specs.Values.{OfSort}
use Rattle.syn_model.specs.declared.decl.Decl.{Decl}
use Rattle.syn_model.specs.Calls.{reading_at}
use Rattle.syn_model.specs.Tables.{table_of}
use Rattle.syn_model.specs.Truth.{Gives, HasValue, OfSorts, theory_meaning}

-- for some bound on the nesting the symbol is evaluated on the values to true, or to false
abbrev pub IsEvaluatedOn : List Decl → SymId → List ValueTree → Type 0
IsEvaluatedOn ds r vs = (n : ℕ) × (b : Bool) × Gives ((reading_at (theory_meaning ds) n []).truth r vs) b

-- on the values a symbol with a result gives a value of its sort, and any other, a relation or an order, true or false
abbrev pub GivesResult : List Decl → SymId → Option Sort → List ValueTree → Type 0
GivesResult ds f (Some s) vs = (v : ValueTree) × OfSort (table_of ds) s v × HasValue ds f vs v
GivesResult ds f None vs = IsEvaluatedOn ds f vs

-- Each symbol of the theory gives a result on all values of the sorts of its arguments: none is defined by a recursion that doesn't
-- end, and no case is missing.
abbrev pub SymbolsAlwaysGive : List Decl → Type 0
SymbolsAlwaysGive ds = (f : SymId) (sym : Sym) (vs : List ValueTree) → symbol_at (table_of ds) f ≡ Some sym → OfSorts (table_of ds) sym.args vs → GivesResult ds f sym.result vs
