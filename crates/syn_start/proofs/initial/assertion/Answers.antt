use Rattle.std.proofs.lemmas.Result.{IfOk-weaker}
use Rattle.syn_start.proofs.MadeAgain.{made_exactly, made_plain}
use Rattle.syn_start.proofs.initial.assertion.Goals as goal

pub initial-requires-clause-plain : goal.initial-requires-clause-plain
initial-requires-clause-plain c = made_plain c.args.syms.now c.args.f.now c.in_ok-form.form c.requires c.in_ok-form.ensures.tree

pub returns-clause-row : goal.returns-clause-row
returns-clause-row c = IfOk-weaker c.initial.result _ _ (λ o h. made_exactly c.args.f.now c.in_ok-form.form o c.in_ok-form.ensures.tree h) c.initial.ensures.row
