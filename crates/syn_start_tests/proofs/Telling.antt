-- What tests say of the table that a specification lends, they say of the specification's.
use Rattle.std.proofs.Common.{◌≡◌, ◌↔◌, Bool, IsTrue, Some, subst}
use Rattle.syn_term.specs.declared.sorts.Sort.{Sort}
use Rattle.syn_term.specs.Symbols.{SymbolTable}
use Rattle.syn_form.specs.Plain.{IsFormedOut, given_sort}
use Rattle.syn_form.specs.Trees.{OutTree}

pub formed_over : {r : Bool} (t u : SymbolTable) (o : OutTree) → t ≡ u → (IsTrue r ↔ IsFormedOut t o) → IsTrue r ↔ IsFormedOut u o
formed_over {r} t u o e h = subst (λ (z : SymbolTable). IsTrue r ↔ IsFormedOut z o) e h

pub gives_sort : {r : Bool} (t u : SymbolTable) (s v : Sort) (o : OutTree) → t ≡ u → s ≡ v → (IsTrue r ↔ (given_sort t o ≡ Some s)) → IsTrue r ↔ (given_sort u o ≡ Some v)
gives_sort {r} t u s v o e d h = subst (λ (z : Sort). IsTrue r ↔ (given_sort u o ≡ Some z)) d (subst (λ (z : SymbolTable). IsTrue r ↔ (given_sort z o ≡ Some s)) e h)
