use Rattle.std.proofs.lemmas.Result.{IfOk-weaker}
use Rattle.syn_model.proofs.Asking.{both_asked}
use Rattle.syn_model.proofs.may_follow.may_follow.Goals as goal

pub returns : goal.returns
returns c = IfOk-weaker c.asks.result _ _ (λ b t. both_asked c.comes_in_time.result b c.comes_in_time.ensures c.if-not-comes_in_time.false t) c.asks.ensures
