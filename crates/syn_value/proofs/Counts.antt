-- The numbers and the parts of what was read.
use Rattle.std.proofs.Common.{◌≡◌, ◌+◌, ℕ, List, [], ◌∷◌, ◌++◌, map, length, sum, refl, ◌∙◌, arith}
use Rattle.std.specs.List.{concat}
use Rattle.std.proofs.lemmas.List.Sums.{sum_by-cons}
use Rattle.syn_value.specs.declared.reader.Kind.{Kind}
use Rattle.syn_value.specs.declared.reader.Kind.TheVariants as kind
use Rattle.syn_value.specs.declared.reader.Frame.{Frame}
use Rattle.syn_value.specs.declared.reader.Reader.{Reader}
use Rattle.syn_value.specs.declared.tree.ValueTree.{ValueTree}
use Rattle.syn_value.specs.declared.tree.ValueTree.TheVariants as tree
use Rattle.syn_value.specs.declared.tree.ValueTree.TheViews as view
use Rattle.syn_value.specs.Values.{numbers_in, numbers_step, parts_in, parts_step}
use Rattle.syn_value.specs.inner.Machine.{value_at}
use Rattle.syn_value.proofs.Trees.{fold-Num, fold-List, fold-Tuple}

-- how many values some values are, those inside others too
abbrev pub items_total : List ValueTree → ℕ
items_total [] = 0
items_total (v ∷ vs) = 1 + (parts_in v + items_total vs)

total_is : (vs : List ValueTree) → length (map parts_in vs) + sum (map parts_in vs) ≡ items_total vs
total_is [] = refl
total_is (v ∷ vs) =
    let rest : length (map parts_in vs) + sum (map parts_in vs) ≡ items_total vs = total_is vs in
    let more : sum (map parts_in (v ∷ vs)) ≡ parts_in v + sum (map parts_in vs) = sum_by-cons (λ (n : ℕ). n) (parts_in v) (map parts_in vs) in
    omega arith

pub parts-Num : (n : ℕ) → parts_in (tree.Num n) ≡ 0
parts-Num n = fold-Num parts_step n

pub parts-List : (vs : List ValueTree) → parts_in (view.List vs) ≡ items_total vs
parts-List vs = fold-List parts_step vs ∙ total_is vs

pub parts-Tuple : (vs : List ValueTree) → parts_in (view.Tuple vs) ≡ items_total vs
parts-Tuple vs = fold-Tuple parts_step vs ∙ total_is vs

pub parts-at : (k : Kind) (vs : List ValueTree) → parts_in (value_at k vs) ≡ items_total vs
parts-at kind.Whole vs = parts-List vs
parts-at kind.List vs = parts-List vs
parts-at kind.Tuple vs = parts-Tuple vs

-- the numbers in some values
abbrev pub items_numbers : List ValueTree → List ℕ
items_numbers vs = concat (map numbers_in vs)

pub numbers-Num : (n : ℕ) → numbers_in (tree.Num n) ≡ n ∷ []
numbers-Num n = fold-Num numbers_step n

pub numbers-List : (vs : List ValueTree) → numbers_in (view.List vs) ≡ items_numbers vs
numbers-List vs = fold-List numbers_step vs

pub numbers-Tuple : (vs : List ValueTree) → numbers_in (view.Tuple vs) ≡ items_numbers vs
numbers-Tuple vs = fold-Tuple numbers_step vs

pub numbers-at : (k : Kind) (vs : List ValueTree) → numbers_in (value_at k vs) ≡ items_numbers vs
numbers-at kind.Whole vs = numbers-List vs
numbers-at kind.List vs = numbers-List vs
numbers-at kind.Tuple vs = numbers-Tuple vs

abbrev pub frames_total : List Frame → ℕ
frames_total [] = 0
frames_total (f ∷ fs) = 1 + (items_total f.items + frames_total fs)

abbrev pub frames_numbers : List Frame → List ℕ
frames_numbers [] = []
frames_numbers (f ∷ fs) = items_numbers f.items ++ frames_numbers fs

-- how many values were read, each pair of brackets that is open one of them, and their numbers
abbrev pub total : Reader → ℕ
total r = items_total r.top.items + frames_total r.outer

abbrev pub numbers_of : Reader → List ℕ
numbers_of r = items_numbers r.top.items ++ frames_numbers r.outer
