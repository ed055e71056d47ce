use Rattle.std.proofs.Common.{◌∙◌, ap, ◌++◌, ◌∷◌, []}
use Rattle.std.proofs.lemmas.Result.{IfOk-weaker}
use Rattle.syn_form.specs.Trees.{FormTree}
use Rattle.syn_resolve.proofs.Standing.{none_first, put_first}
use Rattle.syn_resolve.proofs.positions.+put_formulas_at.Goals as goal

pub returns-in-None : goal.returns-in-None
returns-in-None t c = none_first c.args.form.now c.args.positions.now _ c.in-len1-up.len_at_least c.p-item.is c.in-None.ensures

pub returns-in_ok-push-in-Some : goal.returns-in_ok-push-in-Some
returns-in_ok-push-in-Some t c =
    IfOk-weaker c.put_formulas_at.result _ _
    (λ b h. put_first c.args.form.now c.args.positions.now _ _ c.args.parts.now _ c.in-len1-up.len_at_least c.p-item.is c.in-Some.ensures (c.in_ok-push-in-Some.ensures.ok ∙ ap (λ (z : FormTree). c.args.parts.now ++ z ∷ []) c.in_ok-again-in-Some.ensures) b _ h)
    c.put_formulas_at.ensures
