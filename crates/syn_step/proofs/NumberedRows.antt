-- Rows that are named by their numbers, and what is answered of them.
use Rattle.std.proofs.Common.{◌≡◌, ℕ, zero, suc, List, Option, None, Some, MatchOption, All, sym, subst}
use Rattle.std.proofs.lemmas.Option.{get_or_from_slice_get, slice_get_within}
use Rattle.syn_row.specs.Rows.{RowTree}
use Rattle.syn_start.specs.declared.steps.Step.{Step}
use Rattle.syn_start.specs.declared.steps.Step.TheVariants as step
use Rattle.syn_start.specs.Initial.{Exactly}
use Rattle.syn_step.specs.Steps.{OfRow, row_at}

-- what holds of all rows holds of the one with a number
pub row_holds : (P : RowTree → Type 0) (rows : List RowTree) (n : ℕ) (r : RowTree) → row_at rows n ≡ Some r → All P rows → P r
row_holds P rows zero r e h = absurd (cc)
row_holds P rows (suc i) r e h = subst P (get_or_from_slice_get rows i r r e) (h i r (slice_get_within rows i r e))

-- where no row has the number, nothing is given
pub none_given : (Holds : RowTree → RowTree → Type 0) (rows : List RowTree) (n : ℕ) → row_at rows n ≡ None → Exactly (λ q. OfRow rows n (λ r. Holds r q)) None
none_given Holds rows n e = λ q w. let k = w.1 in absurd (cc)

-- what is answered of the row with the number
pub row_given : (Holds : RowTree → RowTree → Type 0) (rows : List RowTree) (n : ℕ) (r : RowTree) (o : Option RowTree) → row_at rows n ≡ Some r → MatchOption o ((q : RowTree) → Holds r q → ⊥) (Holds r) → Exactly (λ q. OfRow rows n (λ z. Holds z q)) o
row_given Holds rows n r None e h = λ q w. let k = w.1 in let same : w.0 ≡ r = cc in h q (subst (λ (z : RowTree). Holds z q) same w.2)
row_given Holds rows n r (Some q) e h = (r, e, h)

-- the same of two rows
pub none_of_two : (Holds : RowTree → RowTree → RowTree → Type 0) (rows : List RowTree) (n m : ℕ) → ((r s : RowTree) → row_at rows n ≡ Some r → row_at rows m ≡ Some s → ⊥) → Exactly (λ q. OfRow rows n (λ r. OfRow rows m (λ s. Holds r s q))) None
none_of_two Holds rows n m none = λ q w. none w.0 w.2.0 w.1 w.2.1

pub rows_given : (Holds : RowTree → RowTree → RowTree → Type 0) (rows : List RowTree) (n m : ℕ) (r s : RowTree) (o : Option RowTree) → row_at rows n ≡ Some r → row_at rows m ≡ Some s → MatchOption o ((q : RowTree) → Holds r s q → ⊥) (Holds r s)
    → Exactly (λ q. OfRow rows n (λ y. OfRow rows m (λ z. Holds y z q))) o
rows_given Holds rows n m r s None e f h = λ q w.
    let k = w.1 in
    let l = w.2.1 in
    let first : w.0 ≡ r = cc in
    let second : w.2.0 ≡ s = cc in
    h q (subst (λ (y : RowTree). Holds y s q) first (subst (λ (z : RowTree). Holds w.0 z q) second w.2.2))
rows_given Holds rows n m r s (Some q) e f h = (r, e, (s, f, h))

-- what holds of resolution at positions that are lent holds of the step that keeps them
pub resolve_lent : (P : Step → Type 0) (s : Step) (n m : ℕ) (ps qs lent_ps lent_qs : List (List ℕ)) → s ≡ step.Resolve n ps m qs → lent_ps ≡ ps → lent_qs ≡ qs → P (step.Resolve n lent_ps m lent_qs) → P s
resolve_lent P s n m ps qs lent_ps lent_qs is e f h =
    subst P (sym is) (subst (λ (z : List (List ℕ)). P (step.Resolve n ps m z)) f (subst (λ (z : List (List ℕ)). P (step.Resolve n z m lent_qs)) e h))
