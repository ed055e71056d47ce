use Rattle.std.proofs.Common.{◌≡◌, Some, ◌∙◌, ap}
use Rattle.std.proofs.lemmas.Result.{IfOk-weaker}
use Rattle.syn_form.specs.Elaboration.{elaborate_form}
use Rattle.syn_form.specs.Scopes.{TextScope}
use Rattle.syn_form.specs.Quantified.{qform_vars}
use Rattle.syn_expr.specs.Scopes.{spoken}
use Rattle.syn_expr.proofs.FormMaking.{both}
use Rattle.syn_expr.proofs.Owning.{some_owned}
use Rattle.syn_expr.proofs.Taking.{qform_tested, tested_belongs}
use Rattle.syn_expr.proofs.accepting.fitting_qform.Goals as goal

pub returns-in-Some-clause-tree : goal.returns-in-Some-clause-tree
returns-in-Some-clause-tree c =
    IfOk-weaker c.sorted_qform.result _ _ (λ r h. qform_tested (spoken c.args.scope.now) c.args.syntax.now c.args.nodes c.args.depth _ _ _ c.in-Some.is (c.in_ok-elaborate_form.ensures.tree ∙ ap (λ (z : TextScope). elaborate_form c.args.syntax.now z 1) c.outside.ensures) c.requires r h) c.sorted_qform.ensures

pub returns-in-Some-clause-belongs : goal.returns-in-Some-clause-belongs
returns-in-Some-clause-belongs c =
    let read : c.in_ok-elaborate_form.field-0 ≡ Some (both c.in-Some.f c.in-Some.field-0-1) = cc in
    IfOk-weaker c.sorted_qform.result _ _ (λ r h. tested_belongs _ qform_vars _ (some_owned _ _ _ _ read c.in_ok-elaborate_form.ensures.belongs) r h) c.sorted_qform.ensures
