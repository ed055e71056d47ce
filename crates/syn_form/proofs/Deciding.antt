-- What a test's answer says of a fact, from the tests of its parts, and tests of each item of a list in turn. The crates above
-- may use this page.
use Rattle.std.proofs.Common.{◌≡◌, ◌↔◌, ℕ, ◌+◌, ◌<◌, ◌≤◌, Bool, true, false, IsTrue, List, All, length, take, get_or, refl, sym, ◌∙◌, subst, true≢false}
use Rattle.std.proofs.lemmas.List.{take_all}
use Rattle.std.proofs.lemmas.List.Elements.{All-more}

-- the test is passed, and so is another in its place
pub holds : {F : Type 0} → F → IsTrue true ↔ F
holds f = ((λ e. f), (λ h. refl))

pub fails : {F : Type 0} → (F → ⊥) → IsTrue false ↔ F
fails n = ((λ e. absurd (true≢false (sym e))), (λ h. absurd (n h)))

pub same_fact : {F A : Type 0} {r : Bool} → (F ↔ A) → (IsTrue r ↔ A) → IsTrue r ↔ F
same_fact s t = ((λ e. s.1 (t.0 e)), (λ h. t.1 (s.0 h)))

-- the first of two tests decides where it isn't passed, and the second where the first is
pub when_first : {F A B : Type 0} {p q : Bool} → (F ↔ A × B) → (IsTrue p ↔ A) → p ≡ true → (IsTrue q ↔ B) → IsTrue q ↔ F
when_first s t e u = ((λ h. s.1 (t.0 e, u.0 h)), (λ h. u.1 (s.0 h).1))

pub unless_first : {F A B : Type 0} {p : Bool} → (F ↔ A × B) → (IsTrue p ↔ A) → p ≡ false → IsTrue p ↔ F
unless_first s t e = ((λ h. absurd (true≢false (sym h ∙ e))), (λ h. absurd (true≢false (sym (t.1 (s.0 h).0) ∙ e))))

-- a fact that is always there may be left out
pub second_alone : {F A : Type 0} → (F ↔ Unit {0} × A) → F ↔ A
second_alone s = ((λ f. (s.0 f).1), (λ a. s.1 (tt, a)))

pub first_fails : {A : Type 0} {p : Bool} → (IsTrue p ↔ A) → p ≡ false → A → ⊥
first_fails t e a = true≢false (sym (t.1 a) ∙ e)

pub other_way : {A B : Type 0} → (A ↔ B) → B ↔ A
other_way s = (s.1, s.0)

-- where a part is not passed, the whole is not
pub part_fails : {F A : Type 0} {p : Bool} → (F → A) → (IsTrue p ↔ A) → p ≡ false → IsTrue false ↔ F
part_fails part t e = fails (λ f. first_fails t e (part f))

pub unless_part : {F A : Type 0} {p : Bool} → (F → A) → (IsTrue p ↔ A) → p ≡ false → IsTrue p ↔ F
unless_part part t e = ((λ h. absurd (true≢false (sym h ∙ e))), (λ f. absurd (first_fails t e (part f))))

-- where two parts are passed, the third decides
pub when_two : {F A B C : Type 0} {p q r : Bool} → (F ↔ A × (B × C)) → (IsTrue p ↔ A) → p ≡ true → (IsTrue q ↔ B) → q ≡ true → (IsTrue r ↔ C) → IsTrue r ↔ F
when_two s t e u d v = ((λ h. s.1 (t.0 e, (u.0 d, v.0 h))), (λ f. v.1 (s.0 f).1.1))

module _ {X : Type 0} (P : X → Type 0) (xs : List X) (i : ℕ) where
  -- each item so far passes, and the next one too
  pub all_more : (x : X) (r : Bool) → i < length xs → x ≡ get_or xs i x → (IsTrue r ↔ P x) → r ≡ true → All P (take i xs) → All P (take (i + 1) xs)
  all_more x r lt is t e h = All-more P xs i x lt h (subst P is (t.0 e))

  -- an item doesn't pass
  pub not_all : (x : X) (r : Bool) → i < length xs → x ≡ get_or xs i x → (IsTrue r ↔ P x) → r ≡ false → All P xs → ⊥
  not_all x r lt is t e h = first_fails t e (subst P (sym is) (h i x lt))

  -- all passed
  pub all_whole : length xs ≤ i → All P (take i xs) → All P xs
  all_whole end h = subst (All P) (take_all i xs end) h

  -- each of all holds
  pub item_holds : (x : X) → i < length xs → x ≡ get_or xs i x → All P xs → P x
  item_holds x lt is h = subst P (sym is) (h i x lt)

  -- the answers that this gives: one doesn't pass, or all passed
  pub item_fails : (x : X) (r : Bool) → i < length xs → x ≡ get_or xs i x → (IsTrue r ↔ P x) → r ≡ false → IsTrue false ↔ All P xs
  item_fails x r lt is t e = fails (not_all x r lt is t e)

  pub all_pass : length xs ≤ i → All P (take i xs) → IsTrue true ↔ All P xs
  all_pass end h = holds (all_whole end h)
