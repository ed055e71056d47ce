use Rattle.std.proofs.Common.{◌≡◌, true, false, subst}
use Rattle.std.proofs.lemmas.Result.{IfOk-weaker}
use Rattle.std.specs.List.{flat_map}
use Rattle.syn_term.specs.Bank.{Belongs}
use Rattle.syn_form.specs.Plain.{IsSorted}
use Rattle.syn_form.specs.Trees.{form_terms}
use Rattle.syn_unify.specs.inner.Forms.{AreEachOne, OpenedTo}
use Rattle.syn_unify.proofs.FormEnds.{forms_end, forms_never, forms_sorted, pairs_hold}
use Rattle.syn_unify.proofs.unifying.unify_forms.Goals as goal

pub solved-requires-clause-sorted : goal.solved-requires-clause-sorted
solved-requires-clause-sorted c =
    let e : c.in_ok-put_all_pairs.field-0 ≡ true = cc in
    let o = subst (OpenedTo (AreEachOne c.args.forms.now) (flat_map form_terms c.args.forms.now) (flat_map form_terms c.args.forms.now) _ _) e c.in_ok-put_all_pairs.ensures in
    pairs_hold c.args.syms.now _ _ _ c.new-pairs.ensures o (IsSorted c.args.syms.now) (forms_sorted c.args.syms.now c.args.forms.now c.requires.formed)

pub solved-requires-clause-belongs : goal.solved-requires-clause-belongs
solved-requires-clause-belongs c =
    let e : c.in_ok-put_all_pairs.field-0 ≡ true = cc in
    let o = subst (OpenedTo (AreEachOne c.args.forms.now) (flat_map form_terms c.args.forms.now) (flat_map form_terms c.args.forms.now) _ _) e c.in_ok-put_all_pairs.ensures in
    pairs_hold c.args.syms.now _ _ _ c.new-pairs.ensures o (Belongs c.args.bank.now) c.requires.own

pub returns-then-not-branch-clause-unifier : goal.returns-then-not-branch-clause-unifier
returns-then-not-branch-clause-unifier c =
    let e : c.in_ok-put_all_pairs.field-0 ≡ false = cc in
    forms_never c.args.syms.now c.args.forms.now (subst (OpenedTo (AreEachOne c.args.forms.now) (flat_map form_terms c.args.forms.now) (flat_map form_terms c.args.forms.now) _ _) e c.in_ok-put_all_pairs.ensures)

pub returns-clause-unifier : goal.returns-clause-unifier
returns-clause-unifier c =
    let e : c.in_ok-put_all_pairs.field-0 ≡ true = cc in
    let o = subst (OpenedTo (AreEachOne c.args.forms.now) (flat_map form_terms c.args.forms.now) (flat_map form_terms c.args.forms.now) _ _) e c.in_ok-put_all_pairs.ensures in
    IfOk-weaker c.solved.result _ _ (λ s h. forms_end c.args.syms.now _ _ _ c.new-pairs.ensures o s h) c.solved.ensures.solved
