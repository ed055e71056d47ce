use Rattle.std.proofs.Common.{◌∙◌}
use Rattle.std.proofs.lemmas.Result.{IfOk-weaker}
use Rattle.syn_start.proofs.MadeAgain.{put_nothing}
use Rattle.syn_start.proofs.guard_rules.own_form.Goals as goal

pub returns-clause-tree : goal.returns-clause-tree
returns-clause-tree c = IfOk-weaker c.put_inputs.result _ _ (λ g e. e ∙ put_nothing c.args.f.now) c.put_inputs.ensures.tree
