-- Which numbers may grow by so many turns.
use Rattle.std.proofs.Common.{◌≡◌, ℕ, ◌+◌, ◌-◌, ◌^◌, ◌<◌, ◌≤◌, List, [], ◌∷◌, ◌++◌, None, Some, All, map, sym, ap, subst, ◌∙◌, arith}
use Rattle.std.proofs.lemmas.List.Elements.{All-append, All-cons, All-head, All-nil, All-tail, All-weaker}
use Rattle.syn_value.specs.declared.tree.ValueTree.{ValueTree}
use Rattle.syn_value.specs.declared.tree.ValueTree.TheVariants as tree
use Rattle.syn_value.specs.declared.tree.ValueTree.TheViews as view
use Rattle.syn_value.specs.Values.{FitsTurns, list_of, number_of, numbers_in, tuple_of}
use Rattle.syn_value.proofs.Counts.{items_numbers, numbers-List, numbers-Num, numbers-Tuple}
use Rattle.syn_value.proofs.Trees.{by_values, list_of-List, list_of-Num, list_of-Tuple, number_of-List, number_of-Num, number_of-Tuple, tree_of, tuple_of-List, tuple_of-Num, tuple_of-Tuple}
use Rattle.syn_eval.specs.Ending.{AllFit}

-- so much a number may grow
abbrev May : ℕ → ℕ → Type 0
May turns n = n + turns ≤ 2 ^ 64 - 1

-- what may grow by so much, may by less
pub fits_fewer : (v : ValueTree) (a b : ℕ) → b ≤ a → FitsTurns v a → FitsTurns v b
fits_fewer v a b le h = All-weaker (May a) (May b) (λ n k. omega (arith, k, le)) (numbers_in v) h

pub all_fit_fewer : (vs : List ValueTree) (a b : ℕ) → b ≤ a → AllFit a vs → AllFit b vs
all_fit_fewer vs a b le h = All-weaker (λ v. FitsTurns v a) (λ v. FitsTurns v b) (λ v k. fits_fewer v a b le k) vs h

along : (ns ms : List ℕ) (turns : ℕ) → ns ≡ ms → All (May turns) ns → All (May turns) ms
along ns ms turns e h = subst (λ z. All (May turns) z) e h

-- a number
pub number_fits : (n turns : ℕ) → n + turns ≤ 2 ^ 64 - 1 → FitsTurns (tree.Num n) turns
number_fits n turns le = along (n ∷ []) (numbers_in (tree.Num n)) turns (sym (numbers-Num n)) (All-cons (May turns) n [] le (All-nil (May turns)))

pub number_may : (n turns : ℕ) → FitsTurns (tree.Num n) turns → n + turns ≤ 2 ^ 64 - 1
number_may n turns h = All-head (May turns) n [] (along (numbers_in (tree.Num n)) (n ∷ []) turns (numbers-Num n) h)

-- the numbers in some values one after the other
join_fits : (vs : List ValueTree) (turns : ℕ) → AllFit turns vs → All (May turns) (items_numbers vs)
join_fits [] turns h = All-nil (May turns)
join_fits (v ∷ vs) turns h = All-append (May turns) (numbers_in v) (items_numbers vs) (All-head (λ v. FitsTurns v turns) v vs h) (join_fits vs turns (All-tail (λ v. FitsTurns v turns) v vs h))

left_of : (P : ℕ → Type 0) (ns ms : List ℕ) → All P (ns ++ ms) → All P ns
left_of P [] ms h = All-nil P
left_of P (n ∷ ns) ms h = All-cons P n ns (All-head P n (ns ++ ms) h) (left_of P ns ms (All-tail P n (ns ++ ms) h))

right_of : (P : ℕ → Type 0) (ns ms : List ℕ) → All P (ns ++ ms) → All P ms
right_of P [] ms h = h
right_of P (n ∷ ns) ms h = right_of P ns ms (All-tail P n (ns ++ ms) h)

parts_fit : (vs : List ValueTree) (turns : ℕ) → All (May turns) (items_numbers vs) → AllFit turns vs
parts_fit [] turns h = All-nil (λ v. FitsTurns v turns)
parts_fit (v ∷ vs) turns h = All-cons (λ v. FitsTurns v turns) v vs (left_of (May turns) (numbers_in v) (items_numbers vs) h) (parts_fit vs turns (right_of (May turns) (numbers_in v) (items_numbers vs) h))

-- a list and a tuple where what is in them does
pub list_fits : (vs : List ValueTree) (turns : ℕ) → AllFit turns vs → FitsTurns (view.List vs) turns
list_fits vs turns h = along (items_numbers vs) (numbers_in (view.List vs)) turns (sym (numbers-List vs)) (join_fits vs turns h)

pub list_parts_fit : (vs : List ValueTree) (turns : ℕ) → FitsTurns (view.List vs) turns → AllFit turns vs
list_parts_fit vs turns h = parts_fit vs turns (along (numbers_in (view.List vs)) (items_numbers vs) turns (numbers-List vs) h)

pub tuple_fits : (vs : List ValueTree) (turns : ℕ) → AllFit turns vs → FitsTurns (view.Tuple vs) turns
tuple_fits vs turns h = along (items_numbers vs) (numbers_in (view.Tuple vs)) turns (sym (numbers-Tuple vs)) (join_fits vs turns h)

pub tuple_parts_fit : (vs : List ValueTree) (turns : ℕ) → FitsTurns (view.Tuple vs) turns → AllFit turns vs
tuple_parts_fit vs turns h = parts_fit vs turns (along (numbers_in (view.Tuple vs)) (items_numbers vs) turns (numbers-Tuple vs) h)

-- what a value is whose number, items or parts are known
numbered : (n m : ℕ) → Some n ≡ Some m → n ≡ m
numbered n m e = cc

listed : (vs ws : List ValueTree) → Some vs ≡ Some ws → vs ≡ ws
listed vs ws e = cc

pub number_is : (v : ValueTree) (n : ℕ) → number_of v ≡ Some n → v ≡ tree.Num n
number_is = by_values (λ v. (n : ℕ) → number_of v ≡ Some n → v ≡ tree.Num n)
    (λ m n e. ap tree.Num (numbered m n (sym (number_of-Num m) ∙ e)))
    (λ vs n e. let h : None ≡ Some n = sym (number_of-List (map (tree_of (λ v. (n : ℕ) → number_of v ≡ Some n → v ≡ tree.Num n)) vs)) ∙ e in absurd (cc))
    (λ vs n e. let h : None ≡ Some n = sym (number_of-Tuple (map (tree_of (λ v. (n : ℕ) → number_of v ≡ Some n → v ≡ tree.Num n)) vs)) ∙ e in absurd (cc))

pub list_is : (v : ValueTree) (ws : List ValueTree) → list_of v ≡ Some ws → v ≡ view.List ws
list_is = by_values (λ v. (ws : List ValueTree) → list_of v ≡ Some ws → v ≡ view.List ws)
    (λ m ws e. let h : None ≡ Some ws = sym (list_of-Num m) ∙ e in absurd (cc))
    (λ vs ws e. ap view.List (listed (map (tree_of (λ v. (ws : List ValueTree) → list_of v ≡ Some ws → v ≡ view.List ws)) vs) ws (sym (list_of-List _) ∙ e)))
    (λ vs ws e. let h : None ≡ Some ws = sym (list_of-Tuple (map (tree_of (λ v. (ws : List ValueTree) → list_of v ≡ Some ws → v ≡ view.List ws)) vs)) ∙ e in absurd (cc))

pub tuple_is : (v : ValueTree) (ws : List ValueTree) → tuple_of v ≡ Some ws → v ≡ view.Tuple ws
tuple_is = by_values (λ v. (ws : List ValueTree) → tuple_of v ≡ Some ws → v ≡ view.Tuple ws)
    (λ m ws e. let h : None ≡ Some ws = sym (tuple_of-Num m) ∙ e in absurd (cc))
    (λ vs ws e. let h : None ≡ Some ws = sym (tuple_of-List (map (tree_of (λ v. (ws : List ValueTree) → tuple_of v ≡ Some ws → v ≡ view.Tuple ws)) vs)) ∙ e in absurd (cc))
    (λ vs ws e. ap view.Tuple (listed (map (tree_of (λ v. (ws : List ValueTree) → tuple_of v ≡ Some ws → v ≡ view.Tuple ws)) vs) ws (sym (tuple_of-Tuple _) ∙ e)))

-- a successor made within a turn
pub next_fits : (v : ValueTree) (n turns : ℕ) → number_of v ≡ Some n → 0 < turns → FitsTurns v turns → FitsTurns (tree.Num (n + 1)) (turns - 1)
next_fits v n turns e some h =
    let le : n + turns ≤ 2 ^ 64 - 1 = number_may n turns (subst (λ z. FitsTurns z turns) (number_is v n e) h) in
    number_fits (n + 1) (turns - 1) (omega (arith, le, some))
