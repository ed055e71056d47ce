-- Frames that were pushed one after another.
use Rattle.std.proofs.Common.{◌≡◌, ◌≤◌, List, [], ◌∷◌, Result, Ok, Err, OnOk, drop, get_or, length, take, ◌-◌, refl, sym, ap, ◌∙◌, arith}
use Rattle.syn_machine.specs.declared.frames.Frame.{Frame}

pub two_pushed : (xs ys zs : List Frame) (f g : Frame) → ys ≡ g ∷ xs → zs ≡ f ∷ ys → zs ≡ f ∷ (g ∷ xs)
two_pushed xs ys zs f g a b = b ∙ ap (λ z. f ∷ z) a

pub three_pushed : (xs ys zs ws : List Frame) (f g h : Frame) → ys ≡ h ∷ xs → zs ≡ g ∷ ys → ws ≡ f ∷ zs → ws ≡ f ∷ (g ∷ (h ∷ xs))
three_pushed xs ys zs ws f g h a b c = c ∙ ap (λ z. f ∷ z) (two_pushed xs ys zs g h a b)

pub no_items : {X : Type 0} (xs : List X) → length xs ≤ 0 → xs ≡ []
no_items [] le = λ i. []
no_items (x ∷ xs) le = absurd (omega (arith, le))

pub first_and_rest : {X : Type 0} (xs : List X) (x : X) → 1 ≤ length xs → x ≡ get_or xs 0 x → xs ≡ x ∷ take (length xs - 1) (drop 1 xs)
first_and_rest [] x le e = absurd (omega (arith, le))
first_and_rest (y ∷ xs) x le e =
    let n : length (y ∷ xs) - 1 ≡ length xs = omega arith in
    ap (λ z. z ∷ xs) (sym e) ∙ ap (λ z. x ∷ z) (sym (ap (λ k. take k xs) n ∙ whole xs))
  where
    whole : {X : Type 0} (zs : List X) → take (length zs) zs ≡ zs
    whole [] = refl
    whole (z ∷ zs) = ap (λ w. z ∷ w) (whole zs)

-- what follows from three things where a call went well
pub on_three : {E : Type 0} (r : Result (Unit {0}) E) (A B C Q : Type 0) → (A → B → C → Q) → OnOk r A → OnOk r B → OnOk r C → OnOk r Q
on_three (Ok u) A B C Q f a b c = f a b c
on_three (Err e) A B C Q f a b c = c
