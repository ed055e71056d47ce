-- Pieces that are put one after another, and items with a text between.
use Rattle.std.proofs.Common.{◌≡◌, ℕ, ◌+◌, ◌<◌, List, [], ◌∷◌, ◌++◌, map, length, take, get_or, if◌then◌else◌, ◌==◌, refl, sym, ◌∙◌, ap, append_assoc, arith}
use Rattle.std.proofs.lemmas.List.{take_more, map-append, length-map, length-take-le}
use Rattle.std.proofs.lemmas.Bool.Decides.{nat_tests}
use Rattle.syn_form.specs.Printing.{joined}

-- the text was put as a whole, or as two or three pieces
pub whole_put : (text whole old new : List ℕ) → whole ≡ text → new ≡ old ++ text → new ≡ old ++ whole
whole_put text whole old new is put = put ∙ ap (λ (z : List ℕ). old ++ z) (sym is)

pub two_put : (a b whole old mid new : List ℕ) → whole ≡ a ++ b → mid ≡ old ++ a → new ≡ mid ++ b → new ≡ old ++ whole
two_put a b whole old mid new is put_a put_b =
    put_b ∙ (ap (λ (z : List ℕ). z ++ b) put_a ∙ (append_assoc old a b ∙ ap (λ (z : List ℕ). old ++ z) (sym is)))

pub three_put : (a b c whole old first second new : List ℕ) → whole ≡ a ++ b ++ c → first ≡ old ++ a → second ≡ first ++ b → new ≡ second ++ c → new ≡ old ++ whole
three_put a b c whole old first second new is put_a put_b put_c =
    two_put (a ++ b) c whole old second new is (two_put a b (a ++ b) old first second refl put_a put_b) put_c

-- the first of three pieces was put, and then the other two as one
pub rest_put : (a b c whole old mid new : List ℕ) → whole ≡ a ++ b ++ c → mid ≡ old ++ a → new ≡ mid ++ (b ++ c) → new ≡ old ++ whole
rest_put a b c whole old mid new is put_a put_rest = two_put a (b ++ c) whole old mid new (is ∙ append_assoc a b c) put_a put_rest

-- what stands between some texts and the next
gap : List ℕ → List (List ℕ) → List ℕ
gap between [] = []
gap between (t ∷ ts) = between

gap_is : (between : List ℕ) (ts : List (List ℕ)) (i : ℕ) → i ≡ length ts → (if i == 0 then [] else between) ≡ gap between ts
unfolding gap
gap_is between [] i e = grind (arith, nat_tests)
gap_is between (t ∷ ts) i e = grind (arith, nat_tests)

-- one text more
joined-append : (between : List ℕ) (ts : List (List ℕ)) (t : List ℕ) → joined between (ts ++ t ∷ []) ≡ joined between ts ++ (gap between ts ++ t)
unfolding gap
joined-append between [] t = refl
joined-append between (s ∷ []) t = append_assoc s between t
joined-append between (s ∷ u ∷ more) t = ap (λ (z : List ℕ). s ++ between ++ z) (joined-append between (u ∷ more) t) ∙ simp append_assoc refl

regroup : (a b c d : List ℕ) → a ++ b ++ c ++ d ≡ a ++ (b ++ (c ++ d))
regroup a b c d = simp append_assoc refl

module _ {A : Type 0} (text : A → List ℕ) (between : List ℕ) where
  -- the text of one item more at the end
  item_append : (xs : List A) (x : A) → joined between (map text (xs ++ x ∷ [])) ≡ joined between (map text xs) ++ (gap between (map text xs) ++ text x)
  item_append xs x = ap (joined between) (map-append text xs (x ∷ [])) ∙ joined-append between (map text xs) (text x)

  -- one item more was put behind the text between
  pub item_put : (xs : List A) (i : ℕ) (d x : A) (start before separator mid new : List ℕ) → i < length xs → x ≡ get_or xs i d → before ≡ start ++ joined between (map text (take i xs)) → separator ≡ (if i == 0 then [] else between) → mid ≡ before ++ separator → new ≡ mid ++ text x → new ≡ start ++ joined between (map text (take (i + 1) xs))
  item_put xs i d x start before separator mid new lt is so_far is_separator put_separator put_text =
      let count : i ≡ length (map text (take i xs)) = sym (length-map (take i xs) text ∙ length-take-le i xs (omega arith)) in
      let stands : separator ≡ gap between (map text (take i xs)) = is_separator ∙ gap_is between (map text (take i xs)) i count in
      let more : joined between (map text (take (i + 1) xs)) ≡ joined between (map text (take i xs)) ++ (separator ++ text x) =
      ap (λ (z : List A). joined between (map text z)) (take_more xs i d lt) ∙ (ap (λ (z : A). joined between (map text (take i xs ++ z ∷ []))) (sym is) ∙ (item_append (take i xs) x ∙ ap (λ (z : List ℕ). joined between (map text (take i xs)) ++ (z ++ text x)) (sym stands))) in
      put_text ∙ (ap (λ (z : List ℕ). z ++ text x) (put_separator ∙ ap (λ (z : List ℕ). z ++ separator) so_far) ∙ (regroup start (joined between (map text (take i xs))) separator (text x) ∙ ap (λ (z : List ℕ). start ++ z) (sym more)))
