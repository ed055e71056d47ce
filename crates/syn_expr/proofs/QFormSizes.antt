-- A part of a formula with quantifiers has fewer nodes than the whole.
use Rattle.std.proofs.Common.{◌≡◌, ℕ, ◌+◌, ◌<◌, ◌≤◌, List, map, sum, length, get_or, ap, ◌∙◌, arith}
use Rattle.std.proofs.lemmas.List.Sums.{get_or-le-sum_by, sum-map}
use Rattle.syn_form.specs.declared.trees.Binder.{Binder}
use Rattle.syn_form.specs.declared.trees.QForm.TheViews as view
use Rattle.syn_form.specs.Trees.{QFormTree}
use Rattle.syn_form.specs.Quantified.{qform_nodes, qform_nodes_step}
use Rattle.syn_form.proofs.QForms.{qfold-All, qfold-And, qfold-Exists, qfold-Implies, qfold-Not, qfold-Or}

pub fewer_negated : (f a : QFormTree) → f ≡ view.Not a → qform_nodes f ≡ 1 + qform_nodes a
fewer_negated f a is = ap qform_nodes is ∙ qfold-Not qform_nodes_step a

pub fewer_and : (f : QFormTree) (all : List QFormTree) → f ≡ view.And all → qform_nodes f ≡ 1 + sum (map qform_nodes all)
fewer_and f all is = ap qform_nodes is ∙ qfold-And qform_nodes_step all

pub fewer_or : (f : QFormTree) (all : List QFormTree) → f ≡ view.Or all → qform_nodes f ≡ 1 + sum (map qform_nodes all)
fewer_or f all is = ap qform_nodes is ∙ qfold-Or qform_nodes_step all

pub fewer_sides : (f a b : QFormTree) → f ≡ view.Implies a b → qform_nodes f ≡ 1 + (qform_nodes a + qform_nodes b)
fewer_sides f a b is = ap qform_nodes is ∙ qfold-Implies qform_nodes_step a b

pub fewer_all : (f : QFormTree) (b : Binder) (a : QFormTree) → f ≡ view.All b a → qform_nodes f ≡ 1 + qform_nodes a
fewer_all f b a is = ap qform_nodes is ∙ qfold-All qform_nodes_step b a

pub fewer_exists : (f : QFormTree) (b : Binder) (a : QFormTree) → f ≡ view.Exists b a → qform_nodes f ≡ 1 + qform_nodes a
fewer_exists f b a is = ap qform_nodes is ∙ qfold-Exists qform_nodes_step b a

-- one of several formulas has no more than all of them
pub no_more : (xs : List QFormTree) (i : ℕ) (d x : QFormTree) → i < length xs → x ≡ get_or xs i d → qform_nodes x ≤ sum (map qform_nodes xs)
no_more xs i d x lt is =
    let h = get_or-le-sum_by qform_nodes xs i d lt in
    let e = sum-map qform_nodes xs in
    let m : qform_nodes x ≡ qform_nodes (get_or xs i d) = ap qform_nodes is in omega arith
