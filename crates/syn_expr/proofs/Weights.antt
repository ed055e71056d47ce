-- A measure of formulas as they are written, by which recursion on them ends.
use Rattle.std.proofs.Common.{◌≡◌, ℕ, ◌+◌, ◌<◌, ◌≤◌, sum, List, length, get_or, map, ◌∙◌, ap, arith}
use Rattle.std.proofs.lemmas.List.Sums.{get_or-le-sum_by, sum-map}
use Rattle.syn_form.specs.declared.syntax.Quantifier.{Quantifier}
use Rattle.syn_form.specs.declared.syntax.BinderSyntax.{BinderSyntax}
use Rattle.syn_form.specs.declared.syntax.FormSyntax.{FormSyntax, fold-FormSyntax}
use Rattle.syn_form.specs.declared.syntax.FormSyntax.TheOpen.{FormSyntax-F}
use Rattle.syn_form.specs.declared.syntax.FormSyntax.TheViews as view
use Rattle.syn_expr.proofs.FormSyntaxes.{fold-Not, fold-And, fold-Or, fold-Implies, fold-BothWays, fold-Quantified}

abbrev pub weight_step : FormSyntax-F ℕ → ℕ
weight_step (FormSyntax-F.Not a) = 1 + a
weight_step (FormSyntax-F.And all) = 1 + sum all
weight_step (FormSyntax-F.Or all) = 1 + sum all
weight_step (FormSyntax-F.Implies a b) = 1 + (a + b)
weight_step (FormSyntax-F.BothWays a b) = 1 + (a + b)
weight_step (FormSyntax-F.Quantified q binders a) = 1 + (length binders + a)
weight_step _ = 1

abbrev pub weight : FormSyntax → ℕ
weight = fold-FormSyntax ℕ weight_step

pub weight_not : (f a : FormSyntax) → f ≡ view.Not a → weight f ≡ 1 + weight a
weight_not f a is = ap weight is ∙ fold-Not weight_step a

pub weight_and : (f : FormSyntax) (all : List FormSyntax) → f ≡ view.And all → weight f ≡ 1 + sum (map weight all)
weight_and f all is = ap weight is ∙ fold-And weight_step all

pub weight_or : (f : FormSyntax) (all : List FormSyntax) → f ≡ view.Or all → weight f ≡ 1 + sum (map weight all)
weight_or f all is = ap weight is ∙ fold-Or weight_step all

pub weight_implies : (f a b : FormSyntax) → f ≡ view.Implies a b → weight f ≡ 1 + (weight a + weight b)
weight_implies f a b is = ap weight is ∙ fold-Implies weight_step a b

pub weight_both_ways : (f a b : FormSyntax) → f ≡ view.BothWays a b → weight f ≡ 1 + (weight a + weight b)
weight_both_ways f a b is = ap weight is ∙ fold-BothWays weight_step a b

pub weight_quantified : (f : FormSyntax) (q : Quantifier) (bs : List BinderSyntax) (a : FormSyntax) → f ≡ view.Quantified q bs a → weight f ≡ 1 + (length bs + weight a)
weight_quantified f q bs a is = ap weight is ∙ fold-Quantified weight_step q bs a

-- one of several formulas weighs no more than all of them
pub weighs_less : (xs : List FormSyntax) (i : ℕ) (x : FormSyntax) → i < length xs → x ≡ get_or xs i x → weight x ≤ sum (map weight xs)
weighs_less xs i x lt is =
    let h = get_or-le-sum_by weight xs i x lt in
    let e = sum-map weight xs in
    let m : weight x ≡ weight (get_or xs i x) = ap weight is in omega arith
