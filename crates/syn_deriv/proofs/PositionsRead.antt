-- Positions with commas between are read one after another: what is read next doesn't depend on how many there may be.
use Rattle.std.proofs.Common.{◌≡◌, ℕ, zero, suc, ◌<◌, ◌≤◌, List, [], ◌∷◌, ◌++◌, Option, None, Some, codes, length, refl, sym, ◌∙◌, ap, append_assoc, arith}
use Rattle.std.specs.Option.{option_and_then, option_map}
use Rattle.std.proofs.lemmas.List.{length-append}
use Rattle.syn_term.specs.Tokens.{Word}
use Rattle.syn_form.specs.Grammar.{sign_word}
use Rattle.syn_deriv.specs.DerivationLines.{position_words}
use Rattle.syn_deriv.specs.inner.Firsts.{Got, got, sign_first}
use Rattle.syn_deriv.specs.inner.StepReading.{before, more_behind, position_first, positions_by, positions_first}
use Rattle.syn_deriv.proofs.FirstLaws.{sign_read}
use Rattle.syn_deriv.proofs.StepRead.{position_read}
use Rattle.syn_deriv.proofs.StepReads.{position_some}

-- a position and a comma take words
pub smaller : (ws rest : List Word) (p : Got (List ℕ)) → position_first ws ≡ Some p → sign_first (codes ",") p.left ≡ Some rest → length rest < length ws
smaller ws rest p e comma =
    let n : length ws ≡ length (position_words p.value ++ p.left) = ap length (position_read ws p e).1 in
    let m = length-append (position_words p.value) p.left in
    let k : length p.left ≡ length (sign_word (codes ",") ∷ rest) = ap length (sign_read (codes ",") p.left rest comma) in
    let s = position_some p.value in
    omega arith

same_behind : {A B : Type 0} (f g : A → Option B) (o : Option A) → ((x : A) → o ≡ Some x → f x ≡ g x) → option_and_then f o ≡ option_and_then g o
same_behind f g None k = refl
same_behind f g (Some x) k = k x refl

more_same : (on um : List Word → Option (Got (List (List ℕ)))) (p : Got (List ℕ)) (o : Option (List Word)) → ((rest : List Word) → o ≡ Some rest → on rest ≡ um rest) → more_behind on p o ≡ more_behind um p o
more_same on um p None k = refl
more_same on um p (Some rest) k = ap (option_map (before p.value)) (k rest refl)

-- no more of them are read than there are words
enough : (n m : ℕ) (ws : List Word) → length ws ≤ n → length ws ≤ m → positions_by n ws ≡ positions_by m ws
enough zero zero ws a b = refl
enough zero (suc m) [] a b = refl
enough zero (suc m) (w ∷ ws) a b = absurd (omega arith)
enough (suc n) zero [] a b = refl
enough (suc n) zero (w ∷ ws) a b = absurd (omega arith)
enough (suc n) (suc m) ws a b = same_behind (λ p. more_behind (positions_by n) p (sign_first (codes ",") p.left)) (λ p. more_behind (positions_by m) p (sign_first (codes ",") p.left)) (position_first ws)
    (λ p is. more_same (positions_by n) (positions_by m) p (sign_first (codes ",") p.left)
    (λ rest comma. let lt = smaller ws rest p is comma in enough n m rest (omega (arith, lt, a)) (omega (arith, lt, b))))

abbrev next : Got (List ℕ) → Option (Got (List (List ℕ)))
next p = more_behind positions_first p (sign_first (codes ",") p.left)

-- one position, and others behind a comma
one_more : (ws : List Word) → positions_first ws ≡ option_and_then next (position_first ws)
one_more [] = refl
one_more (w ∷ ws) = same_behind (λ p. more_behind (positions_by (length ws)) p (sign_first (codes ",") p.left)) next (position_first (w ∷ ws))
    (λ p is. more_same (positions_by (length ws)) positions_first p (sign_first (codes ",") p.left)
    (λ rest comma. let lt = smaller (w ∷ ws) rest p is comma in enough (length ws) (length rest) rest (omega (arith, lt)) (omega arith)))

-- what was read before stands before what is read
abbrev pub after : List (List ℕ) → Option (Got (List (List ℕ))) → Option (Got (List (List ℕ)))
after done o = option_map (λ g. got (done ++ g.value) g.left) o

after_one : (done pushed : List (List ℕ)) (p : List ℕ) (o : Option (Got (List (List ℕ)))) → pushed ≡ done ++ p ∷ [] → after pushed o ≡ after done (option_map (before p) o)
after_one done pushed p None is = refl
after_one done pushed p (Some g) is = ap (λ (z : List (List ℕ)). Some (got (z ++ g.value) g.left)) is ∙ ap (λ (z : List (List ℕ)). Some (got z g.left)) (append_assoc done (p ∷ []) g.value)

module _ (done : List (List ℕ)) (ws : List Word) (all : Option (Got (List (List ℕ)))) (kept : after done (positions_first ws) ≡ all) where
  pub none_read : position_first ws ≡ None → all ≡ None
  none_read e = sym kept ∙ ap (after done) (one_more ws ∙ ap (option_and_then next) e)

  module _ (pushed : List (List ℕ)) (p : List ℕ) (us : List Word) (first : position_first ws ≡ Some (got p us)) (is : pushed ≡ done ++ p ∷ []) where
    pub last_read : sign_first (codes ",") us ≡ None → all ≡ Some (got pushed us)
    last_read e = sym kept ∙ (ap (after done) (one_more ws ∙ (ap (option_and_then next) first ∙ ap (more_behind positions_first (got p us)) e)) ∙ ap (λ (z : List (List ℕ)). Some (got z us)) (sym is))

    pub more_read : (vs : List Word) → sign_first (codes ",") us ≡ Some vs → after pushed (positions_first vs) ≡ all
    more_read vs e = after_one done pushed p (positions_first vs) is ∙ (sym (ap (after done) (one_more ws ∙ (ap (option_and_then next) first ∙ ap (more_behind positions_first (got p us)) e))) ∙ kept)
