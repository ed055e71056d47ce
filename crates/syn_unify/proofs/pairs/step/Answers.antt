use Rattle.std.proofs.Common.{List, ◌∙◌, ap, refl, subst, sym}
use Rattle.std.proofs.lemmas.Result.{IfOk-weaker}
use Rattle.syn_term.specs.Bank.{Belongs}
use Rattle.syn_term.specs.declared.term.Node.{Node}
use Rattle.syn_term.specs.declared.term.Node.TheViews as view
use Rattle.syn_unify.specs.declared.bindings.Bound.{Bound}
use Rattle.syn_unify.specs.inner.Changes.{seen}
use Rattle.syn_unify.specs.inner.Solutions.{top_of}
use Rattle.syn_unify.proofs.Changed.{args_belong}
use Rattle.syn_unify.proofs.Loops.{parted_belong}
use Rattle.syn_unify.proofs.PairLists.{pairs_still}
use Rattle.syn_unify.proofs.Stepping.{left_step, right_step, split_step, top_belongs}
use Rattle.syn_unify.proofs.pairs.step.Goals as goal

pub returns-in-Var-clause-stepped : goal.returns-in-Var-clause-stepped
returns-in-Var-clause-stepped c =
    let is_s = c.top.ensures ∙ ap (λ (z : List Bound). top_of (seen z) c.args.pair.now.left) c.as_slice.ensures in
    IfOk-weaker c.meet.result _ _ (λ b m. left_step _ _ _ _ _ _ is_s refl _ _ (sym c.get.ensures ∙ c.in-Var.is) _ b m) c.meet.ensures.met

pub returns-in-Var-clause-left : goal.returns-in-Var-clause-left
returns-in-Var-clause-left c = IfOk-weaker c.meet.result _ _ (λ b m h. pairs_still _ _ _ c.meet.ensures.extends c.requires.left) c.meet.ensures.met

pub returns-in-Var-get-clause-stepped : goal.returns-in-Var-get-clause-stepped
returns-in-Var-get-clause-stepped c =
    let is_t = c.top-in-App.ensures ∙ ap (λ (z : List Bound). top_of (seen z) c.args.pair.now.right) c.as_slice-in-App.ensures in
    IfOk-weaker c.meet-in-Var-get.result _ _ (λ b m. right_step _ _ _ _ _ _ refl is_t _ _ (sym c.get-in-App.ensures ∙ c.in-Var-get.is) _ b m) c.meet-in-Var-get.ensures.met

pub returns-in-Var-get-clause-left : goal.returns-in-Var-get-clause-left
returns-in-Var-get-clause-left c = IfOk-weaker c.meet-in-Var-get.result _ _ (λ b m h. pairs_still _ _ _ c.meet-in-Var-get.ensures.extends c.requires.left) c.meet-in-Var-get.ensures.met

pub returns-in-App-get-clause-stepped : goal.returns-in-App-get-clause-stepped
returns-in-App-get-clause-stepped c =
    let is_s = c.top.ensures ∙ ap (λ (z : List Bound). top_of (seen z) c.args.pair.now.left) c.as_slice.ensures in
    let is_t = c.top-in-App.ensures ∙ ap (λ (z : List Bound). top_of (seen z) c.args.pair.now.right) c.as_slice-in-App.ensures in
    let is_f = sym c.get.ensures ∙ (c.in-App.is ∙ ap (λ (zs : List Node). view.App c.in-App.field-0 c.in-App.f zs) (sym c.as_slice-in-App-get.ensures)) in
    let is_g = sym c.get-in-App.ensures ∙ (c.in-App-get.is ∙ ap (λ (zs : List Node). view.App c.in-App-get.field-0 c.in-App-get.g zs) (sym c.as_slice-in-App-get-2.ensures)) in
    IfOk-weaker c.split.result _ _ (λ b m. split_step _ _ _ _ _ _ is_s is_t _ _ _ _ _ _ is_f is_g _ b m) c.split.ensures

pub returns-in-App-get-clause-left : goal.returns-in-App-get-clause-left
returns-in-App-get-clause-left c =
    let is_s = c.top.ensures ∙ ap (λ (z : List Bound). top_of (seen z) c.args.pair.now.left) c.as_slice.ensures in
    let is_t = c.top-in-App.ensures ∙ ap (λ (z : List Bound). top_of (seen z) c.args.pair.now.right) c.as_slice-in-App.ensures in
    let own_s = subst (Belongs c.args.bank.now) (sym is_s) (top_belongs _ _ c.requires.own _ c.requires.belongs.0) in
    let own_t = subst (Belongs c.args.bank.now) (sym is_t) (top_belongs _ _ c.requires.own _ c.requires.belongs.1) in
    let xs_own = args_belong _ _ _ _ _ _ (sym c.get.ensures ∙ c.in-App.is) c.as_slice-in-App-get.ensures own_s in
    let ys_own = args_belong _ _ _ _ _ _ (sym c.get-in-App.ensures ∙ c.in-App-get.is) c.as_slice-in-App-get-2.ensures own_t in
    IfOk-weaker c.split.result _ _ (λ b m h. parted_belong _ _ _ _ _ _ _ b c.requires.left xs_own ys_own m h) c.split.ensures
