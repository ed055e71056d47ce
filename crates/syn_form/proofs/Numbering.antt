-- When binders are numbered in order, from the numbers of parts of them, and the number after theirs.
use Rattle.std.proofs.Common.{◌≡◌, ◌⊎◌, inl, inr, ℕ, ◌+◌, ◌<◌, List, [], ◌∷◌, ◌++◌, MatchOption, Option, None, Some, length, length-append, take, drop, get_or, refl, sym, ◌∙◌, ap, subst, arith}
use Rattle.std.specs.List.{flat_map}
use Rattle.std.proofs.lemmas.Grind.{flat_map-append}
use Rattle.std.proofs.lemmas.List.{append-nil, take-append-drop, take_more}
use Rattle.syn_form.specs.declared.trees.Binder.{Binder}
use Rattle.syn_form.specs.declared.trees.QForm.TheViews as view
use Rattle.syn_form.specs.PlainQuantified.{binders_of, binders_step}
use Rattle.syn_form.specs.Trees.{QFormTree}
use Rattle.syn_form.proofs.Lists.{all_of-map}
use Rattle.syn_form.specs.inner.BinderNumbers.{AreFrom}
use Rattle.syn_form.proofs.QForms.{qfold-And, qfold-Or, qfold-Implies}

-- where those of two lists one after another have, those of each have
pub numbers_split : (n : ℕ) (xs ys : List Binder) → AreFrom n (xs ++ ys) → AreFrom n xs × AreFrom (n + length xs) ys
numbers_split n [] ys e = let k : n + 0 ≡ n = omega arith in (refl, subst (λ (z : ℕ). AreFrom z ys) (sym k) e)
numbers_split n (x ∷ xs) ys e =
    let first : x.var.number ≡ n = cc in
    let rest : AreFrom (n + 1) (xs ++ ys) = cc in
    let r = numbers_split (n + 1) xs ys rest in
    let a : AreFrom (n + 1) xs = r.0 in
    let k : (n + 1) + length xs ≡ n + length (x ∷ xs) = omega arith in
    (cc, subst (λ (z : ℕ). AreFrom z ys) k r.1)

-- and back
pub numbers_joined : (n : ℕ) (xs ys : List Binder) → AreFrom n xs → AreFrom (n + length xs) ys → AreFrom n (xs ++ ys)
numbers_joined n [] ys a b = let k : n + 0 ≡ n = omega arith in subst (λ (z : ℕ). AreFrom z ys) k b
numbers_joined n (x ∷ xs) ys a b =
    let first : x.var.number ≡ n = cc in
    let rest : AreFrom (n + 1) xs = cc in
    let k : n + length (x ∷ xs) ≡ (n + 1) + length xs = omega arith in
    let r : AreFrom (n + 1) (xs ++ ys) = numbers_joined (n + 1) xs ys rest (subst (λ (z : ℕ). AreFrom z ys) k b) in
    cc

-- the number after those of the binders; none where they aren't in order
abbrev pub IsAfter : ℕ → List Binder → Option ℕ → Type 0
IsAfter next bs o = MatchOption o (AreFrom next bs → ⊥) (λ n. (n ≡ next + length bs) × AreFrom next bs)

pub same_after : (next : ℕ) (xs ys : List Binder) (o : Option ℕ) → ys ≡ xs → IsAfter next xs o → IsAfter next ys o
same_after next xs ys o e h = subst (λ (z : List Binder). IsAfter next z o) (sym e) h

-- after two lists, the second from the number after the first
pub two_after : (next m : ℕ) (xs ys : List Binder) (o : Option ℕ) → IsAfter next xs (Some m) → IsAfter m ys o → IsAfter next (xs ++ ys) o
two_after next m xs ys None h k = λ e. let p = numbers_split next xs ys e in k (subst (λ (z : ℕ). AreFrom z ys) (sym h.0) p.1)
two_after next m xs ys (Some n) h k =
    let sum : n ≡ next + length (xs ++ ys) = let l : length (xs ++ ys) ≡ length xs + length ys = length-append xs ys in let a : n ≡ m + length ys = k.0 in let b : m ≡ next + length xs = h.0 in omega arith in
    (sum, numbers_joined next xs ys h.1 (subst (λ (z : ℕ). AreFrom z ys) h.0 k.1))

-- where the first aren't in order, none is after both
pub first_not_after : (next : ℕ) (xs ys : List Binder) → IsAfter next xs None → AreFrom next (xs ++ ys) → ⊥
first_not_after next xs ys h e = h (numbers_split next xs ys e).0

pub implication_binders : (f a b x y : QFormTree) → f ≡ view.Implies a b → x ≡ a → y ≡ b → binders_of f ≡ binders_of x ++ binders_of y
implication_binders f a b x y is first second = ap binders_of is ∙ (qfold-Implies binders_step a b ∙ (ap (λ (z : QFormTree). binders_of z ++ binders_of b) (sym first) ∙ ap (λ (z : QFormTree). binders_of x ++ binders_of z) (sym second)))

pub chain_binders : (f : QFormTree) (all xs : List QFormTree) → (f ≡ view.And all) ⊎ (f ≡ view.Or all) → xs ≡ all → binders_of f ≡ flat_map binders_of xs
chain_binders f all xs (inl e) same = ap binders_of e ∙ (qfold-And binders_step all ∙ (all_of-map binders_of all ∙ ap (flat_map binders_of) (sym same)))
chain_binders f all xs (inr e) same = ap binders_of e ∙ (qfold-Or binders_step all ∙ (all_of-map binders_of all ∙ ap (flat_map binders_of) (sym same)))

module _ (xs : List QFormTree) (i : ℕ) (x : QFormTree) (lt : i < length xs) (is : x ≡ get_or xs i x) where
  -- the binders up to the next formula
  next_binders : flat_map binders_of (take (i + 1) xs) ≡ flat_map binders_of (take i xs) ++ binders_of x
  next_binders =
      ap (flat_map binders_of) (take_more xs i x lt)
      ∙ (flat_map-append binders_of (take i xs) (get_or xs i x ∷ [])
      ∙ ap (λ (z : List Binder). flat_map binders_of (take i xs) ++ z) (append-nil (binders_of (get_or xs i x)) ∙ ap binders_of (sym is)))

  pub more_after : (first next : ℕ) (o : Option ℕ) → IsAfter first (flat_map binders_of (take i xs)) (Some next) → IsAfter next (binders_of x) o → IsAfter first (flat_map binders_of (take (i + 1) xs)) o
  more_after first next o h k = same_after first (flat_map binders_of (take i xs) ++ binders_of x) (flat_map binders_of (take (i + 1) xs)) o next_binders (two_after first next (flat_map binders_of (take i xs)) (binders_of x) o h k)

  -- where those of the first formulas aren't in order, those of all aren't
  pub not_after : (first next : ℕ) → IsAfter first (flat_map binders_of (take i xs)) (Some next) → IsAfter next (binders_of x) None → AreFrom first (flat_map binders_of xs) → ⊥
  not_after first next h k e =
      let start = flat_map binders_of (take (i + 1) xs) in
      let whole : flat_map binders_of xs ≡ start ++ flat_map binders_of (drop (i + 1) xs) = ap (flat_map binders_of) (sym (take-append-drop (i + 1) xs)) ∙ flat_map-append binders_of (take (i + 1) xs) (drop (i + 1) xs) in
      first_not_after first start (flat_map binders_of (drop (i + 1) xs)) (more_after first next None h k) (subst (AreFrom first) whole e)
