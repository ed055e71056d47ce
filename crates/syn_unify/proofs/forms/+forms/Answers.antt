use Rattle.std.proofs.Common.{◌≡◌, ◌*◌, ◌<◌, ◌∙◌, length, true, false, refl, arith}
use Rattle.std.proofs.lemmas.Result.{IfOk-weaker}
use Rattle.syn_form.specs.declared.trees.Form.TheVariants as form
use Rattle.syn_form.specs.declared.trees.Form.TheViews as view
use Rattle.syn_form.specs.Trees.{form_nodes}
use Rattle.syn_form.proofs.Fewer.{no_more}
use Rattle.syn_unify.proofs.FormLists.{members_more, members_never}
use Rattle.syn_unify.proofs.FormPairs.{opened_ands, opened_constant, opened_negations, opened_ors, opened_sides, sides_never, under-False, under-True}
use Rattle.syn_unify.proofs.forms.+forms.Goals as goal

pub put_form_pairs-returns-in-True : goal.put_form_pairs-returns-in-True
put_form_pairs-returns-in-True t c = opened_constant c.args.f.now c.args.g.now form.True _ c.is_true.result c.in-True.is under-True c.is_true.ensures.is c.is_true.ensures.only

pub put_form_pairs-returns-in-False : goal.put_form_pairs-returns-in-False
put_form_pairs-returns-in-False t c = opened_constant c.args.f.now c.args.g.now form.False _ c.is_false.result c.in-False.is under-False c.is_false.ensures.is c.is_false.ensures.only

pub put_negation_pairs-returns-in-Not : goal.put_negation_pairs-returns-in-Not
put_negation_pairs-returns-in-Not t c =
    IfOk-weaker c.put_form_pairs.result _ _ (λ b o. opened_negations (view.Not c.args.a.now) c.args.g.now c.args.a.now _ c.args.a.now _ _ _ b refl c.in-Not.is refl c.get.ensures o) c.put_form_pairs.ensures

pub put_conjunction_pairs-returns-in-And : goal.put_conjunction_pairs-returns-in-And
put_conjunction_pairs-returns-in-And t c =
    IfOk-weaker c.put_member_pairs.result _ _ (λ b o. opened_ands (view.And c.args.all.now) c.args.g.now c.args.all.now _ c.args.all.now _ _ _ refl (c.as_slice.ensures ∙ c.get.ensures) b o refl c.in-And.is) c.put_member_pairs.ensures

pub put_disjunction_pairs-returns-in-Or : goal.put_disjunction_pairs-returns-in-Or
put_disjunction_pairs-returns-in-Or t c =
    IfOk-weaker c.put_member_pairs.result _ _ (λ b o. opened_ors (view.Or c.args.all.now) c.args.g.now c.args.all.now _ c.args.all.now _ _ _ refl (c.as_slice.ensures ∙ c.get.ensures) b o refl c.in-Or.is) c.put_member_pairs.ensures

pub put_implication_pairs-returns-then-not-branch : goal.put_implication_pairs-returns-then-not-branch
put_implication_pairs-returns-then-not-branch t c =
    let e : c.in_ok-put_form_pairs-in-Implies.field-0 ≡ false = cc in sides_never _ _ _ _ _ _ _ _ _ c.in-Implies.is c.get.ensures c.in_ok-put_form_pairs-in-Implies.ensures e

pub put_implication_pairs-returns-else-not-branch : goal.put_implication_pairs-returns-else-not-branch
put_implication_pairs-returns-else-not-branch t c =
    let e : c.in_ok-put_form_pairs-in-Implies.field-0 ≡ true = cc in
    IfOk-weaker c.put_form_pairs-in-Implies.result _ _ (λ b o. opened_sides _ _ _ _ _ _ _ _ _ _ _ b c.in-Implies.is c.get.ensures c.get-in-Implies.ensures c.in_ok-put_form_pairs-in-Implies.ensures e o) c.put_form_pairs-in-Implies.ensures

pub put_member_pairs-put_form_pairs-requires : goal.put_member_pairs-put_form_pairs-requires
put_member_pairs-put_form_pairs-requires t c =
    let within : c.loop-i.i < length c.args.fs.now = omega arith in
    let most = no_more _ _ _ _ within c.index-fs-i.is in
    let less : 3 * form_nodes c.index-fs-i.result < t = omega arith in (less, _)

pub put_member_pairs-returns-then-not-branch : goal.put_member_pairs-returns-then-not-branch
put_member_pairs-returns-then-not-branch t c =
    let within : c.loop-i.i < length c.args.fs.now = omega arith in
    let among : c.loop-i.i < length c.args.gs.now = omega arith in
    let e : c.in_ok-put_form_pairs.field-0 ≡ false = cc in members_never _ _ _ _ _ c.index-fs-i.is c.index-gs-i.is within among _ _ _ c.in_ok-put_form_pairs.ensures e

pub put_member_pairs-loop-i-preserved : goal.put_member_pairs-loop-i-preserved
put_member_pairs-loop-i-preserved t c =
    let within : c.loop-i.i < length c.args.fs.now = omega arith in
    let among : c.loop-i.i < length c.args.gs.now = omega arith in
    let e : c.in_ok-put_form_pairs.field-0 ≡ true = cc in members_more _ _ _ _ _ c.index-fs-i.is c.index-gs-i.is within among _ _ _ c.in_ok-put_form_pairs.ensures e _ c.loop-i.invariant
