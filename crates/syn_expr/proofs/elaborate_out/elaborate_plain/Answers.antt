use Rattle.std.proofs.Common.{◌≡◌, Some}
use Rattle.std.proofs.lemmas.Result.{IfOk-weaker}
use Rattle.syn_expr.specs.inner.Places.{spoken_at}
use Rattle.syn_expr.proofs.FormMaking.{both}
use Rattle.syn_expr.proofs.OutMaking.{plain_made}
use Rattle.syn_expr.proofs.Owning.{plain_owned}
use Rattle.syn_expr.proofs.elaborate_out.elaborate_plain.Goals as goal

pub returns-in-Some-clause-tree : goal.returns-in-Some-clause-tree
returns-in-Some-clause-tree c =
    let read : c.in_ok-elaborate_form.field-0 ≡ Some (both c.in-Some.f c.in-Some.field-0-1) = cc in
    IfOk-weaker c.without_quantifiers-plain.result _ _ (λ r h. plain_made (spoken_at c.args.place.now) _ _ _ _ r c.in_ok-elaborate_form.ensures.tree read h) c.without_quantifiers-plain.ensures

pub returns-in-Some-clause-belongs : goal.returns-in-Some-clause-belongs
returns-in-Some-clause-belongs c =
    let read : c.in_ok-elaborate_form.field-0 ≡ Some (both c.in-Some.f c.in-Some.field-0-1) = cc in
    IfOk-weaker c.without_quantifiers-plain.result _ _ (λ r h. plain_owned _ _ _ _ r c.in_ok-elaborate_form.ensures.belongs read h) c.without_quantifiers-plain.ensures
