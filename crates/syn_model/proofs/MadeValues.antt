-- Constructors give a value of their sort on all values of the sorts of their arguments.
use Rattle.std.proofs.Common.{◌≡◌, ℕ, zero, suc, ◌+◌, Bool, List, [], ◌∷◌, Option, Some, None, map, refl, sym, ap, subst, ◌∙◌}
use Rattle.std.specs.Option.{option_and_then}
use Rattle.std.specs.List.{list_all}
use Rattle.syn_term.specs.declared.sorts.Kind.{Kind}
use Rattle.syn_term.specs.declared.sorts.Kind.TheVariants as kind
use Rattle.syn_term.specs.declared.sorts.Sort.{Sort}
use Rattle.syn_term.specs.declared.sorts.Sort.TheVariants as sort
use Rattle.syn_term.specs.declared.sorts.Sym.{Sym}
use Rattle.syn_term.specs.declared.sorts.SymId.{SymId}
use Rattle.syn_term.specs.Symbols.{SymbolTable, symbol_at}
use Rattle.syn_term.specs.DeclaredSorts.{shape_of_sort}
use Rattle.syn_form.proofs.Sorting.{and_true}
use Rattle.syn_value.specs.declared.tree.ValueTree.{ValueTree, out-ValueTree}
use Rattle.syn_value.specs.declared.tree.ValueTree.TheVariants as tree
use Rattle.syn_value.specs.declared.tree.ValueTree.TheViews as view
use Rattle.syn_value.specs.Values.{OfSort, is_of_sort, number_of}
use Rattle.syn_value.proofs.SameValues.{out-List}
use Rattle.syn_value.proofs.Trees.{number_of-Num}
use Rattle.syn_model.specs.Calls.{Meaning, constructed, list_with, number_after, reading_at, value_by}
use Rattle.syn_model.specs.Evaluation.{Counted, Reading}
use Rattle.syn_model.specs.Truth.{OfSorts}
use Rattle.syn_model.proofs.Given.{given_always}
use Rattle.syn_model.proofs.SortedEvaluation.{GivesOn}
use Rattle.syn_model.proofs.SortedValues.{AllMade, IsMadeAs, list_of_items, list_value, made_at, number_of_sort, number_value, tuple_of_parts}

abbrev pub IsConstructor : Kind → Type 0
IsConstructor kind.Zero = Unit {0}
IsConstructor kind.Succ = Unit {0}
IsConstructor kind.Nil = Unit {0}
IsConstructor kind.Cons = Unit {0}
IsConstructor kind.Tuple = Unit {0}
IsConstructor _ = ⊥

module _ (m : Meaning) (deeper : Option (List ValueTree → Reading)) (inputs : List ValueTree) (f : SymId) (name : List ℕ) where
  by_kind : (vs : List ValueTree) (k : Kind) → IsConstructor k → value_by m deeper inputs f name vs k ≡ constructed k vs
  by_kind [] kind.Zero h = refl
  by_kind (v ∷ vs) kind.Zero h = refl
  by_kind [] kind.Succ h = refl
  by_kind (v ∷ vs) kind.Succ h = refl
  by_kind [] kind.Nil h = refl
  by_kind (v ∷ vs) kind.Nil h = refl
  by_kind [] kind.Cons h = refl
  by_kind (v ∷ vs) kind.Cons h = refl
  by_kind [] kind.Tuple h = refl
  by_kind (v ∷ vs) kind.Tuple h = refl
  by_kind vs _ h = absurd h

-- a constructor gives the same however deep calls may nest
pub constructor_value : (m : Meaning) (inputs : List ValueTree) (f : SymId) (s : Sym) (vs : List ValueTree) → symbol_at m.table f ≡ Some s → IsConstructor s.kind → (n : ℕ) → (reading_at m n inputs).value f vs ≡ constructed s.kind vs
constructor_value m inputs f s vs at is zero = ap (option_and_then (λ (x : Sym). value_by m None inputs f x.name vs x.kind)) at ∙ by_kind m None inputs f s.name vs s.kind is
constructor_value m inputs f s vs at is (suc n) = ap (option_and_then (λ (x : Sym). value_by m (Some (reading_at m n)) inputs f x.name vs x.kind)) at ∙ by_kind m (Some (reading_at m n)) inputs f s.name vs s.kind is

module _ (table : SymbolTable) (s : Sort) where
  -- a value of the sort is made
  abbrev Makes : Kind → List ValueTree → Type 0
  Makes k vs = (c : Counted ValueTree) × (constructed k vs ≡ Some c) × OfSort table s c.result

  of_nat : Some s ≡ Some sort.Nat → (n : ℕ) → OfSort table s (tree.Num n)
  of_nat e n = let h : s ≡ sort.Nat = cc in subst (λ (z : Sort). OfSort table z (tree.Num n)) (sym h) (number_of_sort table n)

  makes : (k : Kind) (args : List Sort) (vs : List ValueTree) → IsConstructor k → IsMadeAs table.sorts k args (Some s) → OfSorts table args vs → Makes k vs
  makes kind.Zero args [] is m h = (record { result = tree.Num 0; turns = 0 }, refl, of_nat m.1 0)
  makes kind.Zero args (v ∷ vs) is m h = absurd (subst (λ (z : List Sort). OfSorts table z (v ∷ vs)) m.0 h)
  makes kind.Succ args [] is m h = absurd (subst (λ (z : List Sort). OfSorts table z []) m.0 h)
  makes kind.Succ args (v ∷ []) is m h =
      let n = number_value table v (subst (λ (z : List Sort). OfSorts table z (v ∷ [])) m.0 h).0 in
      (record { result = tree.Num (n.0 + 1); turns = 1 }, ap (λ (z : ValueTree). number_after (number_of z)) n.1 ∙ ap number_after (number_of-Num n.0), of_nat m.1 (n.0 + 1))
  makes kind.Succ args (v ∷ w ∷ vs) is m h = absurd (subst (λ (z : List Sort). OfSorts table z (v ∷ w ∷ vs)) m.0 h).1
  makes kind.Nil args [] is m h =
      let e : s ≡ sort.Named m.1.1.number = let h = m.1.1.is in cc in
      (record { result = view.List []; turns = 0 }, refl, list_of_items table s m.1.1.nil m.1.1.cons m.1.0 (ap (shape_of_sort table) e ∙ m.1.1.built) [] refl)
  makes kind.Nil args (v ∷ vs) is m h = absurd (subst (λ (z : List Sort). OfSorts table z (v ∷ vs)) m.0 h)
  makes kind.Cons args [] is m h = absurd (subst (λ (z : List Sort). OfSorts table z []) m.2 h)
  makes kind.Cons args (v ∷ []) is m h = absurd (subst (λ (z : List Sort). OfSorts table z (v ∷ [])) m.2 h).1
  makes kind.Cons args (v ∷ w ∷ []) is m h =
      let p = subst (λ (z : List Sort). OfSorts table z (v ∷ w ∷ [])) m.2 h in
      let l = list_value table (sort.Named m.1.number) m.1.nil m.1.cons m.0 m.1.built w p.1.0 in
      let e : s ≡ sort.Named m.1.number = let h = m.1.is in cc in (
        record { result = view.List (v ∷ l.0); turns = 1 },
        ap (λ (z : ValueTree). list_with v (out-ValueTree z)) l.1 ∙ ap (list_with v) (out-List l.0),
        list_of_items table s m.1.nil m.1.cons m.0 (ap (shape_of_sort table) e ∙ m.1.built) (v ∷ l.0) (and_true (is_of_sort table v m.0) (list_all (λ (fits : Sort → Bool). fits m.0) (map (is_of_sort table) l.0)) p.0 l.2),
      )
  makes kind.Cons args (v ∷ w ∷ x ∷ vs) is m h = absurd (subst (λ (z : List Sort). OfSorts table z (v ∷ w ∷ x ∷ vs)) m.2 h).1.1
  makes kind.Tuple args vs is m h =
      let e : s ≡ sort.Named m.number = let h = m.is in cc in
      (record { result = view.Tuple vs; turns = 1 }, refl, tuple_of_parts table s m.maker args (ap (shape_of_sort table) e ∙ m.built) vs h)
  makes _ args vs is m h = absurd is

-- a constructor has a result
made_result : (table : SymbolTable) (k : Kind) (args : List Sort) (result : Option Sort) → IsConstructor k → IsMadeAs table.sorts k args result → (s : Sort) × (result ≡ Some s)
made_result table kind.Zero args result is m = (sort.Nat, m.1)
made_result table kind.Succ args result is m = (sort.Nat, m.1)
made_result table kind.Nil args result is m = (sort.Named m.1.1.number, m.1.1.is)
made_result table kind.Cons args result is m = (sort.Named m.1.number, m.1.is)
made_result table kind.Tuple args result is m = (sort.Named m.number, m.is)
made_result table _ args result is m = absurd is

pub constructor_gives : (m : Meaning) (inputs : List ValueTree) (f : SymId) (s : Sym) (vs : List ValueTree) → AllMade m.table → symbol_at m.table f ≡ Some s → IsConstructor s.kind → OfSorts m.table s.args vs → GivesOn m inputs f s.result vs
constructor_gives m inputs f s vs all at is h =
    let made = made_at m.table f s all at in
    let r = made_result m.table s.kind s.args s.result is made in
    let c = makes m.table r.0 s.kind s.args vs is (subst (IsMadeAs m.table.sorts s.kind s.args) r.1 made) h in
    subst (λ (o : Option Sort). GivesOn m inputs f o vs) (sym r.1)
    (given_always (OfSort m.table r.0) (λ n. (reading_at m n inputs).value f vs) c.0 (λ n. constructor_value m inputs f s vs at is n ∙ c.1) c.2)
