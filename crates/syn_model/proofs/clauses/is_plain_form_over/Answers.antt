use Rattle.std.proofs.lemmas.Result.{IfOk-weaker}
use Rattle.syn_model.proofs.ClauseLaws.{both_tested}
use Rattle.syn_model.proofs.clauses.is_plain_form_over.Goals as goal

pub returns : goal.returns
returns c = IfOk-weaker c.form_is_over_args.result _ _ (λ b h. both_tested b _ _ (c.in_ok-is_plain_form.ensures.0 c.if-not-branch.false) h) c.form_is_over_args.ensures
