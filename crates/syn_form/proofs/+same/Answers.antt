use Rattle.std.proofs.Common.{◌≡◌, ◌*◌, ◌<◌, length, refl, ◌∙◌, ap, arith}
use Rattle.syn_term.proofs.Lists.{items_differ}
use Rattle.syn_form.specs.declared.trees.Form.TheViews as view
use Rattle.syn_form.specs.Trees.{bare_form, form_nodes}
use Rattle.syn_form.proofs.Fewer.{no_more}
use Rattle.syn_form.proofs.Owned.{bank_left, bank_right, bank_member}
use Rattle.syn_form.proofs.Sameness.{negations_same, ands_same, ors_same, implications_same, implications_differ}
use Rattle.syn_form.proofs.+same.Goals as goal

pub trees::Form::is_negation_of-returns-in-Not : goal.trees::Form::is_negation_of-returns-in-Not
trees::Form::is_negation_of-returns-in-Not t c = negations_same (view.Not c.args.a.now) _ _ _ _ _ _ refl c.in-Not.is c.get.ensures c.get-in-Not.ensures c.is_one.ensures

pub trees::Form::is_and_of-returns-in-And : goal.trees::Form::is_and_of-returns-in-And
trees::Form::is_and_of-returns-in-And t c = ands_same (view.And c.args.all.now) _ _ _ _ _ _ refl c.in-And.is (c.as_slice.ensures ∙ c.get.ensures) (c.as_slice-in-And.ensures ∙ c.get-in-And.ensures) c.same_forms.ensures

pub trees::Form::is_or_of-returns-in-Or : goal.trees::Form::is_or_of-returns-in-Or
trees::Form::is_or_of-returns-in-Or t c = ors_same (view.Or c.args.all.now) _ _ _ _ _ _ refl c.in-Or.is (c.as_slice.ensures ∙ c.get.ensures) (c.as_slice-in-Or.ensures ∙ c.get-in-Or.ensures) c.same_forms.ensures

pub trees::Form::is_implication_of-returns-then-is_one : goal.trees::Form::is_implication_of-returns-then-is_one
trees::Form::is_implication_of-returns-then-is_one t c =
    implications_same (view.Implies c.args.a.now c.args.b.now) _ _ _ _ _ _ _ _ _ refl c.in-Implies.is c.get.ensures c.get-in-Implies.ensures c.is_one.ensures
    _ _ c.get-then-is_one.ensures c.get-then-is_one-2.ensures c.if-is_one.true c.is_one-then-is_one.ensures

pub trees::Form::is_implication_of-returns-else-is_one : goal.trees::Form::is_implication_of-returns-else-is_one
trees::Form::is_implication_of-returns-else-is_one t c =
    implications_differ (view.Implies c.args.a.now c.args.b.now) _ _ _ _ _ _ _ _ _ refl c.in-Implies.is c.get.ensures c.get-in-Implies.ensures c.is_one.ensures
    refl (λ h. let k = c.if-is_one.false in cc)

pub form::same_forms-returns-then-not-is_one : goal.form::same_forms-returns-then-not-is_one
form::same_forms-returns-then-not-is_one t c = (
  (λ e. absurd (cc)),
  (λ e. absurd (items_differ bare_form bare_form _ _ _ _ _ c.index-fs-i.is c.index-gs-i.is (omega arith) (omega arith) (λ k. let h = c.is_one.ensures.1 k in cc) e)),
)

pub trees::Form::is_implication_of-is_one-requires : goal.trees::Form::is_implication_of-is_one-requires
trees::Form::is_implication_of-is_one-requires t c =
    let same : form_nodes c.get.result.now ≡ form_nodes c.args.a.now = ap form_nodes c.get.ensures in
    let less : 3 * form_nodes c.get.result.now < t = omega arith in
    (less, bank_left (view.Implies c.args.a.now c.args.b.now) _ c.requires _ _ _ _ _ _ refl c.in-Implies.is c.get.ensures c.get-in-Implies.ensures)

pub trees::Form::is_implication_of-is_one-requires-then-is_one : goal.trees::Form::is_implication_of-is_one-requires-then-is_one
trees::Form::is_implication_of-is_one-requires-then-is_one t c =
    let same : form_nodes c.get-then-is_one.result.now ≡ form_nodes c.args.b.now = ap form_nodes c.get-then-is_one.ensures in
    let less : 3 * form_nodes c.get-then-is_one.result.now < t = omega arith in
    (less, bank_right (view.Implies c.args.a.now c.args.b.now) _ c.requires _ _ _ _ _ _ refl c.in-Implies.is c.get-then-is_one.ensures c.get-then-is_one-2.ensures)

pub form::same_forms-is_one-requires : goal.form::same_forms-is_one-requires
form::same_forms-is_one-requires t c =
    let within : c.loop-i.i < length c.args.fs.now = omega arith in
    let most = no_more _ _ _ _ within c.index-fs-i.is in
    let less : 3 * form_nodes c.index-fs-i.result < t = omega arith in
    (less, bank_member _ _ _ _ _ _ _ _ c.requires within (omega arith) c.index-fs-i.is c.index-gs-i.is)
