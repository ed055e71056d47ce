-- The first bytes of a name tell which reserved word it may be.
use Rattle.std.proofs.Common.{◌≡◌, ℕ, zero, suc, ◌<◌, Bool, true, false, List, [], ◌∷◌, cond, nat_eq, codes, length, get_or, refl, sym, ◌∙◌, ap, subst, arith, Contains}
use Rattle.std.specs.List.{list_all}
use Rattle.std.specs.Str.{byte, bytes_eq}
use Rattle.std.proofs.lemmas.Slice.Eq.{bytes_eq-Decides}
use Rattle.syn_term.specs.Names.{reserved}
use Rattle.syn_term.specs.Tokens.{is_reserved}
use Rattle.syn_term.proofs.Passes.{and_parts}
use Rattle.syn_term.proofs.ReservedLaws.{found, reserved_test}
use Rattle.syn_expr.specs.inner.Reserved.{candidate}

front : List ℕ → List ℕ
front x = candidate (get_or x 0 0) (get_or x 1 0) (get_or x 2 0)

passes : (p : List ℕ → Bool) (xs : List (List ℕ)) (x : List ℕ) (k : ℕ) → list_all p xs ≡ true → k < length xs → p (get_or xs k x) ≡ true
passes p [] x k h lt = absurd (omega arith)
passes p (y ∷ ys) x zero h lt = (and_parts (p y) (list_all p ys) h).0
passes p (y ∷ ys) x (suc k) h lt = passes p ys x k (and_parts (p y) (list_all p ys) h).1 (omega arith)

is_front : List ℕ → Bool
is_front x = bytes_eq (front x) x

-- each reserved word is the one that its bytes tell
own_front : (x : List ℕ) → Contains reserved x → is_front x ≡ true
unfolding is_front front
own_front x h =
    let all : is_front (get_or reserved h.0 x) ≡ true = passes is_front reserved x h.0 refl h.1 in
    subst (λ (z : List ℕ). is_front z ≡ true) h.2 all

either : (t : Bool) (x y : List ℕ) → is_reserved x ≡ true → is_reserved y ≡ true → is_reserved (cond t x y) ≡ true
either true x y h k = h
either false x y h k = k

-- and what is told is one
front_reserved : (a b c : ℕ) → is_reserved (candidate a b c) ≡ true
front_reserved a b c =
    either (nat_eq a (byte "n")) _ _ (either (nat_eq b (byte "o")) (codes "not") (codes "nat") refl refl)
    (either (nat_eq a (byte "s")) _ _ (either (nat_eq b (byte "o")) (codes "some") (codes "s") refl refl)
    (either (nat_eq a (byte "t")) _ _ (either (nat_eq b (byte "h")) (codes "then") (codes "true") refl refl)
    (either (nat_eq a (byte "a")) _ _ (either (nat_eq b (byte "l")) (codes "all") (codes "and") refl refl)
    (either (nat_eq a (byte "i")) _ _ (either (nat_eq b (byte "f")) (codes "if") _ refl (either (nat_eq c (byte "p")) (codes "input") (codes "induct") refl refl))
    (either (nat_eq a (byte "f")) (codes "false") _ refl
    (either (nat_eq a (byte "o")) (codes "or") _ refl
    (either (nat_eq a (byte "e")) (codes "else") (codes "goal") refl refl)))))))

-- so one comparison tells whether a word is reserved
pub front_tells : (t : Bool) (x : List ℕ) (a b c : ℕ) → a ≡ get_or x 0 0 → b ≡ get_or x 1 0 → c ≡ get_or x 2 0 → t ≡ bytes_eq (candidate a b c) x → t ≡ is_reserved x
unfolding is_front front
front_tells t x a b c first second third is = reserved_test t x one two
  where
    whole : candidate a b c ≡ candidate (get_or x 0 0) (get_or x 1 0) (get_or x 2 0)
    whole = ap (λ (z : ℕ). candidate z b c) first ∙ (ap (λ (z : ℕ). candidate (get_or x 0 0) z c) second ∙ ap (candidate (get_or x 0 0) (get_or x 1 0)) third)

    one : t ≡ true → Contains reserved x
    one h =
        let same : candidate a b c ≡ x = (bytes_eq-Decides (candidate a b c) x).0 (sym is ∙ h) in
        found reserved x (subst (λ (z : List ℕ). is_reserved z ≡ true) same (front_reserved a b c))

    two : Contains reserved x → t ≡ true
    two h = is ∙ (ap (λ (z : List ℕ). bytes_eq z x) whole ∙ own_front x h)
