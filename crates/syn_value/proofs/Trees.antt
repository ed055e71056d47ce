-- The equations of the functions of values at a number, a list and a tuple.
use Rattle.std.proofs.Common.{rules, ◌≡◌, ℕ, List, Some, None, map, sym, ap, subst, ◌∙◌}
use denote.Hole.Carrier.{roll}
use Rattle.syn_value.specs.declared.tree.ValueTree.{ValueTree, roll-ValueTree, map-ValueTree, fold-ValueTree, fold-roll-ValueTree, ind-ValueTree}
use Rattle.syn_value.specs.declared.tree.ValueTree.TheOpen.{ValueTree-F}
use Rattle.syn_value.specs.declared.tree.ValueTree.TheVariants as tree
use Rattle.syn_value.specs.declared.tree.ValueTree.TheViews as view
use Rattle.syn_value.specs.declared.tree.ValueTree.TheViews.{the_lemmas}
use Rattle.syn_value.specs.Values.{list_of, number_of, tuple_of}

module _ {A : Type 0} (step : ValueTree-F A → A) where
  -- what a fold gives at each case
  pub fold-Num : (n : ℕ) → fold-ValueTree A step (tree.Num n) ≡ step (ValueTree-F.Num n)
  unfolding roll-ValueTree roll
  fold-Num n = fold-roll-ValueTree A step (ValueTree-F.Num n)

  pub fold-List : (xs : List ValueTree) → fold-ValueTree A step (view.List xs) ≡ step (ValueTree-F.List (map (fold-ValueTree A step) xs))
  unfolding roll-ValueTree roll
  fold-List xs = fold-roll-ValueTree A step (ValueTree-F.List xs)

  pub fold-Tuple : (xs : List ValueTree) → fold-ValueTree A step (view.Tuple xs) ≡ step (ValueTree-F.Tuple (map (fold-ValueTree A step) xs))
  unfolding roll-ValueTree roll
  fold-Tuple xs = fold-roll-ValueTree A step (ValueTree-F.Tuple xs)

pub number_of-Num : (n : ℕ) → number_of (tree.Num n) ≡ Some n
number_of-Num n = search (rules, the_lemmas)

pub number_of-List : (xs : List ValueTree) → number_of (view.List xs) ≡ None
number_of-List xs = search (rules, the_lemmas)

pub number_of-Tuple : (xs : List ValueTree) → number_of (view.Tuple xs) ≡ None
number_of-Tuple xs = search (rules, the_lemmas)

pub list_of-Num : (n : ℕ) → list_of (tree.Num n) ≡ None
list_of-Num n = search (rules, the_lemmas)

pub list_of-List : (xs : List ValueTree) → list_of (view.List xs) ≡ Some xs
list_of-List xs = search (rules, the_lemmas)

pub list_of-Tuple : (xs : List ValueTree) → list_of (view.Tuple xs) ≡ None
list_of-Tuple xs = search (rules, the_lemmas)

pub tuple_of-Num : (n : ℕ) → tuple_of (tree.Num n) ≡ None
tuple_of-Num n = search (rules, the_lemmas)

pub tuple_of-List : (xs : List ValueTree) → tuple_of (view.List xs) ≡ None
tuple_of-List xs = search (rules, the_lemmas)

pub tuple_of-Tuple : (xs : List ValueTree) → tuple_of (view.Tuple xs) ≡ Some xs
tuple_of-Tuple xs = search (rules, the_lemmas)

-- a list is no other list, and a tuple no other tuple
pub List-injective : (xs ys : List ValueTree) → view.List xs ≡ view.List ys → xs ≡ ys
List-injective xs ys e = let h : Some xs ≡ Some ys = sym (list_of-List xs) ∙ (ap list_of e ∙ list_of-List ys) in cc

pub Tuple-injective : (xs ys : List ValueTree) → view.Tuple xs ≡ view.Tuple ys → xs ≡ ys
Tuple-injective xs ys e = let h : Some xs ≡ Some ys = sym (tuple_of-Tuple xs) ∙ (ap tuple_of e ∙ tuple_of-Tuple ys) in cc

-- a value with what holds of it
abbrev pub With : (ValueTree → Type 0) → Type 0
With P = (v : ValueTree) × P v

abbrev pub tree_of : (P : ValueTree → Type 0) → With P → ValueTree
tree_of P e = e.0

by_layers : (P : ValueTree → Type 0) → ((y : ValueTree-F (With P)) → P (roll-ValueTree (map-ValueTree (With P) ValueTree (tree_of P) y))) → (v : ValueTree) → P v
by_layers P step = ind-ValueTree P (λ x y is. subst (λ (z : ValueTree-F ValueTree). P (roll-ValueTree z)) is (step y))

by_case : (P : ValueTree → Type 0) → ((n : ℕ) → P (tree.Num n)) → ((xs : List (With P)) → P (view.List (map (tree_of P) xs))) → ((xs : List (With P)) → P (view.Tuple (map (tree_of P) xs))) → (y : ValueTree-F (With P)) → P (roll-ValueTree (map-ValueTree (With P) ValueTree (tree_of P) y))
unfolding roll-ValueTree roll
by_case P num list tuple (ValueTree-F.Num n) = num n
by_case P num list tuple (ValueTree-F.List xs) = list xs
by_case P num list tuple (ValueTree-F.Tuple xs) = tuple xs

-- what holds of numbers, and of lists and tuples of values that it holds of, holds of all values
pub by_values : (P : ValueTree → Type 0) → ((n : ℕ) → P (tree.Num n)) → ((xs : List (With P)) → P (view.List (map (tree_of P) xs))) → ((xs : List (With P)) → P (view.Tuple (map (tree_of P) xs))) → (v : ValueTree) → P v
by_values P num list tuple = by_layers P (by_case P num list tuple)
