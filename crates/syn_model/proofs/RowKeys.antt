-- What a hash table of keys answers for the list of them.
use Rattle.std.proofs.Common.{rules, ◌≡◌, ◌↔◌, ◌⊎◌, inl, inr, Bool, true, false, ◌||◌, IsTrue, List, [], ◌∷◌, ◌++◌, Result, Ok, Err, IsOk, IfOk, Contains, if◌then◌else◌, refl, sym, ◌∙◌, ap, true≢false}
use Rattle.std.specs.List.{list_any}
use Rattle.std.proofs.lemmas.Bool.{false_from_ne_true}
use Rattle.indexmap.specs.IndexSet.{insert_key}
use Rattle.indexmap.proofs.CallerLemmas.{Contains-list_any}
use Rattle.syn_form.proofs.Lists.{Contains-cons_cases, none_in_nil}
use Rattle.syn_model.specs.contracts.index.RowKeyPartialEq.TheImpl.{eq-value}
use Rattle.syn_model.specs.declared.index.RowKey.{RowKey}

-- keys are equal where they are one
one_key : (x y : RowKey) → eq-value.it x y ≡ true → x ≡ y
one_key x y e = search rules

equal_keys : (x y : RowKey) → x ≡ y → eq-value.it x y ≡ true
equal_keys x y e = search rules

or_true : (b c : Bool) → c ≡ true → (b || c) ≡ true
or_true true c e = refl
or_true false c e = e

any_key : (ks : List RowKey) (k : RowKey) → Contains ks k → list_any (eq-value.it k) ks ≡ true
any_key [] k c = absurd (none_in_nil k c)
any_key (x ∷ xs) k c = at (any_key xs k) (Contains-cons_cases x xs k c)
  where
    at : (Contains xs k → list_any (eq-value.it k) xs ≡ true) → (x ≡ k) ⊎ Contains xs k → (eq-value.it k x || list_any (eq-value.it k) xs) ≡ true
    at rest (inl e) = ap (λ b. b || list_any (eq-value.it k) xs) (equal_keys k x (sym e))
    at rest (inr h) = or_true (eq-value.it k x) (list_any (eq-value.it k) xs) (rest h)

pub key_found : (r : Bool) (k : RowKey) (ks : List RowKey) → r ≡ list_any (eq-value.it k) ks → IsTrue r ↔ Contains ks k
key_found r k ks e = ((λ h. Contains-list_any eq-value.it one_key ks k (sym e ∙ h)), (λ c. e ∙ any_key ks k c))

-- a new key goes last
pub key_last : (k : RowKey) (ks new : List RowKey) → (Contains ks k → ⊥) → new ≡ insert_key eq-value.it ks k → new ≡ ks ++ k ∷ []
key_last k ks new free is =
    let none : list_any (eq-value.it k) ks ≡ false = false_from_ne_true (list_any (eq-value.it k) ks) (λ e. free (Contains-list_any eq-value.it one_key ks k e)) in
    is ∙ ap (λ b. if b then ks else ks ++ k ∷ []) none

-- what holds where a call succeeds holds after one that does
pub from_ok : {A E : Type 0} (r : Result A E) (P : Type 0) → IsOk r → IfOk r (λ x. P) → P
from_ok (Ok x) P ok h = h
from_ok (Err e) P ok h = absurd (true≢false (sym ok))
