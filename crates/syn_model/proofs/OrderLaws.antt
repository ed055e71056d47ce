-- What orders and names ask, from the tests of each part.
use Rattle.std.proofs.Common.{◌≡◌, ◌↔◌, ℕ, ◌≤◌, List, ◌∷◌, All, Some, length, sym, subst}
use Rattle.std.proofs.lemmas.List.Elements.{All-cons, All-head, All-tail}
use Rattle.syn_term.specs.declared.sorts.Sort.{Sort}
use Rattle.syn_term.specs.declared.sorts.Sort.TheVariants as sort
use Rattle.syn_term.specs.Symbols.{SymbolTable}
use Rattle.syn_term.specs.Terms.{TermTree, sort_of}
use Rattle.syn_form.specs.Plain.{IsSorted}
use Rattle.syn_form.specs.Trees.{term_vars}
use Rattle.syn_model.specs.declared.decl.Decl.{Decl}
use Rattle.syn_model.specs.Declaring.{AsksOrder, IsNumberedIn, IsOtherwiseFree}
use Rattle.syn_model.specs.Tables.{table_of}

-- the first item and the others are all
pub first_and_others : {X : Type 0} (P : X → Type 0) (x : X) (xs : List X) → P x × All P xs ↔ All P (x ∷ xs)
first_and_others P x xs = ((λ h. All-cons P x xs h.0 h.1), (λ a. (All-head P x xs a, All-tail P x xs a)))

-- the measure is a number over variables of these sorts
abbrev pub IsMeasure : SymbolTable → List Sort → TermTree → Type 0
IsMeasure table args measure = IsSorted table measure × (sort_of table measure ≡ Some sort.Nat) × All (IsNumberedIn args) (term_vars measure)

-- an order asks for a name, one to four arguments and a measure
pub order_asked : (table : SymbolTable) (ds : List Decl) (name : List ℕ) (args : List Sort) (measure : TermTree) → table ≡ table_of ds → IsOtherwiseFree ds name × (((1 ≤ length args) × (length args ≤ 4)) × IsMeasure table args measure) ↔ AsksOrder ds name args measure
order_asked table ds name args measure is = (
  (λ h. let m = subst (λ (z : SymbolTable). IsMeasure z args measure) is h.1.1 in record { free = h.0; few = h.1.0; sorted = m.0; number = m.1; over = m.2 }),
  (λ a. (a.free, (a.few, subst (λ (z : SymbolTable). IsMeasure z args measure) (sym is) (a.sorted, a.number, a.over)))),
)
