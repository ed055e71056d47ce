-- A term that is sorted has a sort, and so has what an output gives.
use Rattle.std.proofs.Common.{◌≡◌, true, List, Option, Some, refl, sym, ◌∙◌, ap, subst, arith}
use Rattle.std.proofs.lemmas.Bool.Decides.{nat_tests}
use Rattle.syn_term.specs.declared.sorts.Sort.{Sort}
use Rattle.syn_term.specs.declared.sorts.Sort.TheVariants as sort
use Rattle.syn_term.specs.declared.sorts.SymId.{SymId}
use Rattle.syn_term.specs.declared.term.Place.{Place}
use Rattle.syn_term.specs.declared.term.Node.{Node, out-Node, every_here-Node}
use Rattle.syn_term.specs.declared.term.Node.TheOpen.{Node-F}
use Rattle.syn_term.specs.Symbols.{SymbolTable}
use Rattle.syn_term.specs.Terms.{TermTree, sort_of}
use Rattle.syn_form.specs.declared.trees.Out.{every_here-Out}
use Rattle.syn_form.specs.declared.trees.Out.TheVariants as out
use Rattle.syn_form.specs.Trees.{OutTree}
use Rattle.syn_form.specs.Plain.{IsFormedOut, IsSorted, PlainOutNode, SortedNode, given_sort, given_sort_step, result_of}
use Rattle.syn_form.specs.Sorts.{are_of_one_sort, same_sort}
use Rattle.syn_form.proofs.Equations.{fold-Give, fold-If, out-Give}
use Rattle.syn_form.proofs.Induction.{by_outs}
use Rattle.syn_form.proofs.Nodes.{parts-If}

-- there is a sort
abbrev pub HasSort : Option Sort → Type 0
HasSort o = (s : Sort) × (o ≡ Some s)

-- the sort of an application is the result of its symbol
result_is : (table : SymbolTable) (t : TermTree) (p : Place) (f : SymId) (args : List TermTree) → out-Node t ≡ Node-F.App p f args → sort_of table t ≡ result_of table f
result_is table t p f args e = rw e refl

module _ (table : SymbolTable) where
  sort_at : (t : TermTree) (x : Node-F Node) → out-Node t ≡ x → SortedNode table x → HasSort (sort_of table t)
  sort_at t (Node-F.Var p v) e h = (v.sort, rw e refl)
  sort_at t (Node-F.App p f args) e h = (h.1.0, result_is table t p f args e ∙ h.1.1)

  -- a term that is sorted has a sort
  pub sort_there : (t : TermTree) → IsSorted table t → HasSort (sort_of table t)
  sort_there t h = sort_at t (out-Node t) refl (every_here-Node (SortedNode table) t h)

  abbrev Gives : OutTree → Type 0
  Gives o = IsFormedOut table o → HasSort (given_sort table o)

  -- and so has what an output gives
  pub given_there : (o : OutTree) → Gives o
  given_there = by_outs Gives
      (λ t h.
      let sorted : IsSorted table t = subst (PlainOutNode table) (out-Give t) (every_here-Out (PlainOutNode table) (out.Give t) h) in
      subst HasSort (sym (fold-Give (given_sort_step table) t)) (sort_there t sorted))
      (λ f u v first second h. subst HasSort (sym (fold-If (given_sort_step table) f u v)) (first (parts-If (PlainOutNode table) f u v h).0))

same_sort_refl : (s : Sort) → same_sort s s ≡ true
same_sort_refl sort.Nat = refl
same_sort_refl (sort.Named n) = grind (arith, nat_tests)

-- two equal sorts are one, where there is one
pub one_sort : (a b : Option Sort) → HasSort a → a ≡ b → are_of_one_sort a b ≡ true
one_sort a b h e =
    ap (are_of_one_sort a) (sym e) ∙ (ap (λ (z : Option Sort). are_of_one_sort z z) h.1 ∙ same_sort_refl h.0)
