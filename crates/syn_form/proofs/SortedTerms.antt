-- When a term is sorted, at each case.
use Rattle.std.proofs.Common.{◌≡◌, ◌↔◌, List, All, sym, subst}
use Rattle.syn_term.specs.declared.sorts.SymId.{SymId}
use Rattle.syn_term.specs.declared.sorts.Var.{Var}
use Rattle.syn_term.specs.declared.term.Place.{Place}
use Rattle.syn_term.specs.declared.term.Node.TheVariants as node
use Rattle.syn_term.specs.declared.term.Node.TheViews as view
use Rattle.syn_term.specs.Symbols.{SymbolTable, IsSort}
use Rattle.syn_term.specs.Terms.{IsApplication, TermTree}
use Rattle.syn_form.specs.Plain.{IsKnownSort, IsSorted, result_of}
use Rattle.syn_form.proofs.TermNodes.{every-App, every-Var, node-App, node-Var, parts-App}

-- a variable has a sort of the table
pub variable_sorted : (table : SymbolTable) (t : TermTree) (p : Place) (v : Var) → t ≡ node.Var p v → IsSorted table t ↔ IsSort table v.sort
variable_sorted table t p v is = (
  (λ h. node-Var _ p v (subst (IsSorted table) is h)),
  (λ h. subst (IsSorted table) (sym is) (every-Var _ p v h)),
)

abbrev pub MakesSorted : SymbolTable → SymId → List TermTree → Type 0
MakesSorted table f args = IsApplication table f args × IsKnownSort table (result_of table f)

-- the symbol at the top, and those of the arguments
pub application_sorted : (table : SymbolTable) (t : TermTree) (p : Place) (f : SymId) (args xs ys : List TermTree) → t ≡ view.App p f args → xs ≡ args → ys ≡ args → IsSorted table t ↔ MakesSorted table f xs × All (IsSorted table) ys
application_sorted table t p f args xs ys is first second = (
  (λ h. let k = subst (IsSorted table) is h in (subst (MakesSorted table f) (sym first) (node-App _ p f args k), subst (All (IsSorted table)) (sym second) (parts-App _ p f args k))),
  (λ h. subst (IsSorted table) (sym is) (every-App _ p f args (subst (MakesSorted table f) first h.0) (subst (All (IsSorted table)) second h.1))),
)
