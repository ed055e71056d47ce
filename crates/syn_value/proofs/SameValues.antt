-- Two values are one exactly where their test says so.
use Rattle.std.proofs.Common.{rules, ◌≡◌, ◌↔◌, ℕ, nat_eq, Bool, true, false, ◌&&◌, List, [], ◌∷◌, Some, None, map, refl, sym, ap, ◌∙◌, arith}
use Rattle.std.proofs.lemmas.Bool.Decides.{nat_tests}
use Rattle.syn_value.specs.declared.tree.ValueTree.{ValueTree, out-ValueTree}
use Rattle.syn_value.specs.declared.tree.ValueTree.TheOpen.{ValueTree-F}
use Rattle.syn_value.specs.declared.tree.ValueTree.TheVariants as tree
use Rattle.syn_value.specs.declared.tree.ValueTree.TheViews as view
use Rattle.syn_value.specs.declared.tree.ValueTree.TheViews.{the_lemmas}
use Rattle.syn_value.specs.Values.{all_match, list_of, number_of, same_layer, same_value, tuple_of}
use Rattle.syn_value.proofs.Trees.{List-injective, Tuple-injective, With, by_values, fold-List, fold-Num, fold-Tuple, list_of-List, list_of-Num, list_of-Tuple, number_of-List, number_of-Num, number_of-Tuple, tree_of, tuple_of-List, tuple_of-Num, tuple_of-Tuple}

-- each case opened
pub out-Num : (n : ℕ) → out-ValueTree (tree.Num n) ≡ ValueTree-F.Num n
out-Num n = search (rules, the_lemmas)

pub out-List : (vs : List ValueTree) → out-ValueTree (view.List vs) ≡ ValueTree-F.List vs
out-List vs = search (rules, the_lemmas)

pub out-Tuple : (vs : List ValueTree) → out-ValueTree (view.Tuple vs) ≡ ValueTree-F.Tuple vs
out-Tuple vs = search (rules, the_lemmas)

abbrev same_step : ValueTree-F (ValueTree → Bool) → ValueTree → Bool
same_step layer w = same_layer layer (out-ValueTree w)

-- the test at each case of its first value
same_value-Num : (n : ℕ) (w : ValueTree) → same_value (tree.Num n) w ≡ same_layer (ValueTree-F.Num n) (out-ValueTree w)
same_value-Num n w = ap (λ (test : ValueTree → Bool). test w) (fold-Num same_step n)

same_value-List : (vs : List ValueTree) (w : ValueTree) → same_value (view.List vs) w ≡ same_layer (ValueTree-F.List (map same_value vs)) (out-ValueTree w)
same_value-List vs w = ap (λ (test : ValueTree → Bool). test w) (fold-List same_step vs)

same_value-Tuple : (vs : List ValueTree) (w : ValueTree) → same_value (view.Tuple vs) w ≡ same_layer (ValueTree-F.Tuple (map same_value vs)) (out-ValueTree w)
same_value-Tuple vs w = ap (λ (test : ValueTree → Bool). test w) (fold-Tuple same_step vs)

-- the test decides whether the value is any other
abbrev Decides : ValueTree → Type 0
Decides v = (w : ValueTree) → (same_value v w ≡ true) ↔ (v ≡ w)

both : (a b : Bool) → (a && b) ≡ true → (a ≡ true) × (b ≡ true)
both true b e = (refl, e)
both false b e = absurd (cc)

both_from : (a b : Bool) → a ≡ true → b ≡ true → (a && b) ≡ true
both_from a b e f = cc

match_all : (vs : List (With Decides)) (ws : List ValueTree) → (all_match (map same_value (map (tree_of Decides) vs)) ws ≡ true) ↔ (map (tree_of Decides) vs ≡ ws)
match_all [] [] = (λ e. refl, λ e. refl)
match_all [] (w ∷ ws) = (λ e. absurd (cc), λ e. absurd (cc))
match_all (v ∷ vs) [] = (λ e. absurd (cc), λ e. absurd (cc))
match_all (v ∷ vs) (w ∷ ws) =
    let first = v.1 w in
    let rest = match_all vs ws in
    (λ e. let h = both _ _ e in let a = first.0 h.0 in let b = rest.0 h.1 in cc, λ e. both_from _ _ (first.1 (cc)) (rest.1 (cc)))

-- two numbers are one value where they are one number
pub same_value-numbers : (n m : ℕ) → same_value (tree.Num n) (tree.Num m) ≡ nat_eq n m
same_value-numbers n m = same_value-Num n (tree.Num m) ∙ ap (same_layer (ValueTree-F.Num n)) (out-Num m)

-- the tests where the cases are one
num_num : (n m : ℕ) → (same_value (tree.Num n) (tree.Num m) ≡ true) ↔ (tree.Num n ≡ tree.Num m)
num_num n m =
    let is = same_value-numbers n m in (
      λ e. let h : nat_eq n m ≡ true = sym is ∙ e in let k : n ≡ m = grind (arith, nat_tests) in ap tree.Num k,
      λ e. let h : Some n ≡ Some m = sym (number_of-Num n) ∙ (ap number_of e ∙ number_of-Num m) in let k : n ≡ m = cc in let t : nat_eq n m ≡ true = grind (arith, nat_tests) in is ∙ t,
    )

list_list : (vs : List (With Decides)) (ws : List ValueTree) → (same_value (view.List (map (tree_of Decides) vs)) (view.List ws) ≡ true) ↔ (view.List (map (tree_of Decides) vs) ≡ view.List ws)
list_list vs ws =
    let us = map (tree_of Decides) vs in
    let is : same_value (view.List us) (view.List ws) ≡ all_match (map same_value us) ws = same_value-List us (view.List ws) ∙ ap (same_layer (ValueTree-F.List (map same_value us))) (out-List ws) in
    (λ e. ap view.List ((match_all vs ws).0 (sym is ∙ e)), λ e. is ∙ (match_all vs ws).1 (List-injective us ws e))

tuple_tuple : (vs : List (With Decides)) (ws : List ValueTree) → (same_value (view.Tuple (map (tree_of Decides) vs)) (view.Tuple ws) ≡ true) ↔ (view.Tuple (map (tree_of Decides) vs) ≡ view.Tuple ws)
tuple_tuple vs ws =
    let us = map (tree_of Decides) vs in
    let is : same_value (view.Tuple us) (view.Tuple ws) ≡ all_match (map same_value us) ws = same_value-Tuple us (view.Tuple ws) ∙ ap (same_layer (ValueTree-F.Tuple (map same_value us))) (out-Tuple ws) in
    (λ e. ap view.Tuple ((match_all vs ws).0 (sym is ∙ e)), λ e. is ∙ (match_all vs ws).1 (Tuple-injective us ws e))

-- and where they differ
apart : (b : Bool) (v w : ValueTree) → b ≡ false → (v ≡ w → ⊥) → (b ≡ true) ↔ (v ≡ w)
apart b v w e ne = (λ h. absurd (cc), λ h. absurd (ne h))

from_number : {v w : ValueTree} {n : ℕ} → number_of v ≡ Some n → number_of w ≡ None → v ≡ w → ⊥
from_number a b e = let h = ap number_of e in cc

from_list : {v w : ValueTree} {us : List ValueTree} → list_of v ≡ Some us → list_of w ≡ None → v ≡ w → ⊥
from_list a b e = let h = ap list_of e in cc

from_tuple : {v w : ValueTree} {us : List ValueTree} → tuple_of v ≡ Some us → tuple_of w ≡ None → v ≡ w → ⊥
from_tuple a b e = let h = ap tuple_of e in cc

decides_num : (n : ℕ) → Decides (tree.Num n)
decides_num n = by_values (λ w. (same_value (tree.Num n) w ≡ true) ↔ (tree.Num n ≡ w))
    (num_num n)
    (λ ws. apart _ _ _ (same_value-Num n _ ∙ ap (same_layer (ValueTree-F.Num n)) (out-List _)) (from_number (number_of-Num n) (number_of-List _)))
    (λ ws. apart _ _ _ (same_value-Num n _ ∙ ap (same_layer (ValueTree-F.Num n)) (out-Tuple _)) (from_number (number_of-Num n) (number_of-Tuple _)))

decides_list : (vs : List (With Decides)) → Decides (view.List (map (tree_of Decides) vs))
decides_list vs =
    let us = map (tree_of Decides) vs in
    by_values (λ w. (same_value (view.List us) w ≡ true) ↔ (view.List us ≡ w))
    (λ m. apart _ _ _ (same_value-List us _ ∙ ap (same_layer (ValueTree-F.List (map same_value us))) (out-Num m)) (from_list (list_of-List us) (list_of-Num m)))
    (λ ws. list_list vs _)
    (λ ws. apart _ _ _ (same_value-List us _ ∙ ap (same_layer (ValueTree-F.List (map same_value us))) (out-Tuple _)) (from_list (list_of-List us) (list_of-Tuple _)))

decides_tuple : (vs : List (With Decides)) → Decides (view.Tuple (map (tree_of Decides) vs))
decides_tuple vs =
    let us = map (tree_of Decides) vs in
    by_values (λ w. (same_value (view.Tuple us) w ≡ true) ↔ (view.Tuple us ≡ w))
    (λ m. apart _ _ _ (same_value-Tuple us _ ∙ ap (same_layer (ValueTree-F.Tuple (map same_value us))) (out-Num m)) (from_tuple (tuple_of-Tuple us) (tuple_of-Num m)))
    (λ ws. apart _ _ _ (same_value-Tuple us _ ∙ ap (same_layer (ValueTree-F.Tuple (map same_value us))) (out-List _)) (from_tuple (tuple_of-Tuple us) (tuple_of-List _)))
    (λ ws. tuple_tuple vs _)

-- the test of two values says yes exactly where they are one
pub same_value-is : (v w : ValueTree) → (same_value v w ≡ true) ↔ (v ≡ w)
same_value-is = by_values Decides decides_num decides_list decides_tuple
