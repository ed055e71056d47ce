-- The test for one variable means what it says.
use Rattle.std.proofs.Common.{◌≡◌, ◌⊎◌, ◌↔◌, ℕ, inl, inr, Bool, true, false, ◌||◌, nat_eq, List, [], ◌∷◌, Contains, refl, sym, ◌∙◌, ap, arith, true≢false}
use Rattle.std.proofs.lemmas.Bool.Decides.{nat_tests}
use Rattle.syn_term.specs.declared.sorts.Sort.{Sort}
use Rattle.syn_term.specs.declared.sorts.Sort.TheVariants as sort
use Rattle.syn_term.specs.declared.sorts.Var.{Var}
use Rattle.syn_form.specs.Sorts.{same_sort}
use Rattle.syn_form.specs.Substitutions.{same_var}
use Rattle.syn_form.proofs.Lists.{Contains-cons_cases, Contains-tail, none_in_nil}
use Rattle.syn_form.proofs.Sorting.{both_true, and_true}
use Rattle.syn_row.specs.inner.Noting.{has_var}

same_sort_to : (r s : Sort) → same_sort r s ≡ true → r ≡ s
same_sort_to sort.Nat sort.Nat h = refl
same_sort_to sort.Nat (sort.Named n) h = absurd (cc)
same_sort_to (sort.Named m) sort.Nat h = absurd (cc)
same_sort_to (sort.Named m) (sort.Named n) h = let e : m ≡ n = grind (arith, nat_tests) in ap sort.Named e

same_sort_itself : (s : Sort) → same_sort s s ≡ true
same_sort_itself sort.Nat = refl
same_sort_itself (sort.Named n) = grind (arith, nat_tests)

abbrev pub the_var : ℕ → Sort → Var
the_var n s = record { number = n; sort = s }

pub same_var_to : (v w : Var) → same_var v w ≡ true → v ≡ w
same_var_to v w h =
    let p = both_true (nat_eq v.number w.number) (same_sort v.sort w.sort) h in
    let first : nat_eq v.number w.number ≡ true = p.0 in
    let n : v.number ≡ w.number = grind (arith, nat_tests) in
    let s : v.sort ≡ w.sort = same_sort_to v.sort w.sort p.1 in
    ap (λ (k : ℕ). the_var k v.sort) n ∙ ap (the_var w.number) s

pub same_var_itself : (v : Var) → same_var v v ≡ true
same_var_itself v = let n : nat_eq v.number v.number ≡ true = grind (arith, nat_tests) in and_true (nat_eq v.number v.number) (same_sort v.sort v.sort) n (same_sort_itself v.sort)

pub same_var_from : (v w : Var) → v ≡ w → same_var v w ≡ true
same_var_from v w e = ap (same_var v) (sym e) ∙ same_var_itself v

pub same_var_not : (v w : Var) → same_var v w ≡ false → v ≡ w → ⊥
same_var_not v w differ e = true≢false (sym (same_var_from v w e) ∙ differ)

pub same_var_differs : (v w : Var) → (v ≡ w → ⊥) → same_var v w ≡ false
same_var_differs v w ne = go (same_var v w) refl
  where
    go : (b : Bool) → same_var v w ≡ b → b ≡ false
    go true e = absurd (ne (same_var_to v w e))
    go false e = refl

pub either_true : (a b : Bool) → (a || b) ≡ true → (a ≡ true) ⊎ (b ≡ true)
either_true true b h = inl refl
either_true false b h = inr h

-- a variable is one of a list where the list contains it
pub has_var-to : (vars : List Var) (v : Var) → has_var vars v ≡ true → Contains vars v
has_var-to [] v h = absurd (true≢false (sym h))
has_var-to (w ∷ ws) v h = go (either_true (same_var w v) (has_var ws v) h) (has_var-to ws v)
  where
    go : (same_var w v ≡ true) ⊎ (has_var ws v ≡ true) → (has_var ws v ≡ true → Contains ws v) → Contains (w ∷ ws) v
    go (inl e) k = (0, omega arith, same_var_to w v e)
    go (inr e) k = Contains-tail w ws v (k e)

pub has_var-from : (vars : List Var) (v : Var) → Contains vars v → has_var vars v ≡ true
has_var-from [] v c = absurd (none_in_nil v c)
has_var-from (w ∷ ws) v c = go (Contains-cons_cases w ws v c) (has_var-from ws v)
  where
    or_right : (a b : Bool) → b ≡ true → (a || b) ≡ true
    or_right true b h = refl
    or_right false b h = h

    go : (w ≡ v) ⊎ Contains ws v → (Contains ws v → has_var ws v ≡ true) → has_var (w ∷ ws) v ≡ true
    go (inl e) k = ap (λ (b : Bool). b || has_var ws v) (same_var_from w v e)
    go (inr h) k = or_right (same_var w v) (has_var ws v) (k h)

-- a test that means that the list contains the variable is the same
pub tested_var : (vars : List Var) (v : Var) (b : Bool) → (b ≡ true) ↔ Contains vars v → b ≡ has_var vars v
tested_var vars v true h = sym (has_var-from vars v (h.0 refl))
tested_var vars v false h = go (has_var vars v) refl
  where
    go : (c : Bool) → has_var vars v ≡ c → false ≡ c
    go true e = h.1 (has_var-to vars v e)
    go false e = refl
