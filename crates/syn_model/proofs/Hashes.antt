-- What a hash table of names answers for the list of their texts.
use Rattle.std.proofs.Common.{◌≡◌, ◌↔◌, ◌⊎◌, inl, inr, ℕ, Bool, true, false, ◌||◌, IsTrue, List, [], ◌∷◌, ◌++◌, String, string_bytes, Contains, if◌then◌else◌, map, refl, sym, ◌∙◌, ap, subst, true≢false}
use Rattle.std.specs.List.{list_any}
use Rattle.std.specs.Str.{bytes_eq}
use Rattle.std.specs.String.{string_eq}
use Rattle.std.proofs.lemmas.Bool.{false_from_ne_true}
use Rattle.std.proofs.lemmas.List.{map-append}
use Rattle.std.proofs.lemmas.Slice.Eq.{bytes_eq-Decides}
use Rattle.indexmap.specs.IndexSet.{insert_key}
use Rattle.syn_form.proofs.Lists.{Contains-cons_cases, Contains-head, Contains-tail, none_in_nil}

module _ {Z : Type 0} where
  -- a key has the text exactly where the text is among those of the keys
  any_text : (q : List ℕ) (ks : List (String Z)) → (list_any (λ k. bytes_eq q (string_bytes k)) ks ≡ true) ↔ Contains (map string_bytes ks) q
  any_text q [] = ((λ e. absurd (true≢false (sym e))), (λ c. absurd (none_in_nil q c)))
  any_text q (k ∷ ks) = by (bytes_eq q (string_bytes k)) refl (any_text q ks)
    where
      by : (b : Bool) → bytes_eq q (string_bytes k) ≡ b → ((list_any (λ k. bytes_eq q (string_bytes k)) ks ≡ true) ↔ Contains (map string_bytes ks) q) → ((b || list_any (λ k. bytes_eq q (string_bytes k)) ks) ≡ true) ↔ Contains (string_bytes k ∷ map string_bytes ks) q
      by true e rest = ((λ h. subst (Contains (string_bytes k ∷ map string_bytes ks)) (sym ((bytes_eq-Decides q (string_bytes k)).0 e)) (Contains-head (string_bytes k) (map string_bytes ks))), (λ c. refl))
      by false e rest = ((λ h. Contains-tail (string_bytes k) (map string_bytes ks) q (rest.0 h)), (λ c. rest.1 (behind (Contains-cons_cases (string_bytes k) (map string_bytes ks) q c))))
        where
          behind : (string_bytes k ≡ q) ⊎ Contains (map string_bytes ks) q → Contains (map string_bytes ks) q
          behind (inl is) = absurd (true≢false (sym ((bytes_eq-Decides q (string_bytes k)).1 (sym is)) ∙ e))
          behind (inr c) = c

  pub text_found : (r : Bool) (q : List ℕ) (ks : List (String Z)) → r ≡ list_any (λ k. bytes_eq q (string_bytes k)) ks → IsTrue r ↔ Contains (map string_bytes ks) q
  text_found r q ks e = ((λ h. (any_text q ks).0 (sym e ∙ h)), (λ c. e ∙ (any_text q ks).1 c))

  -- a new text goes last
  pub text_last : (key : String Z) (q : List ℕ) (ks new : List (String Z)) → (Contains (map string_bytes ks) q → ⊥) → string_bytes key ≡ q → new ≡ insert_key string_eq ks key → map string_bytes new ≡ map string_bytes ks ++ q ∷ []
  text_last key q ks new free own is =
      let none : list_any (string_eq key) ks ≡ false = false_from_ne_true (list_any (string_eq key) ks) (λ e. free (subst (Contains (map string_bytes ks)) own ((any_text (string_bytes key) ks).0 e))) in
      ap (map string_bytes) (is ∙ ap (λ b. if b then ks else ks ++ key ∷ []) none)
      ∙ (map-append string_bytes ks (key ∷ []) ∙ ap (λ z. map string_bytes ks ++ z ∷ []) own)
