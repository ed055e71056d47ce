use Rattle.std.proofs.lemmas.Result.{IfOk-weaker}
use Rattle.syn_start.proofs.GoalRows.{made_goal_exactly, made_goal_own, made_goal_plain}
use Rattle.syn_start.proofs.goals.goal.Goals as goal

pub initial-requires-clause-plain : goal.initial-requires-clause-plain
initial-requires-clause-plain c = made_goal_plain c.args.v c.args.f.now c.in_ok-form.form c.in-Ok.t c.in_ok-form.ensures.tree c.in-Ok.ensures.tree c.args.syms.now c.requires

pub initial-requires-clause-own : goal.initial-requires-clause-own
initial-requires-clause-own c =
    made_goal_own c.args.v c.args.f.now c.in_ok-form.form c.in-Ok.t c.in_ok-form.ensures.tree c.in-Ok.ensures.tree _ c.var.new.self c.var.ensures.extends c.in_ok-form.ensures.belongs c.in-Ok.ensures.belongs

pub returns-in-Ok-clause-row : goal.returns-in-Ok-clause-row
returns-in-Ok-clause-row c =
    IfOk-weaker c.initial.result _ _ (λ o h. made_goal_exactly c.args.v c.args.f.now c.in_ok-form.form c.in-Ok.t c.in_ok-form.ensures.tree c.in-Ok.ensures.tree o h) c.initial.ensures.row
