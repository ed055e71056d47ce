use Rattle.std.proofs.Common.{sym, ap, ◌∙◌}
use Rattle.std.proofs.lemmas.Result.{IfOk-weaker}
use Rattle.syn_model.specs.Clausal.{function_clause}
use Rattle.syn_eval.specs.inner.Rules.{leading}
use Rattle.syn_eval.proofs.Runs.{function_run}
use Rattle.syn_eval.proofs.headed.functions_of.Goals as goal

pub returns-then-is_function_at : goal.returns-then-is_function_at
returns-then-is_function_at c =
    IfOk-weaker c.leading_functions.result _ _ (λ rules h. h ∙ (ap (leading function_clause) c.behind.ensures ∙ sym (function_run c.args.decls.now c.requires c.args.place c.args.name.now (c.is_function_at.ensures c.if-is_function_at.true)))) c.leading_functions.ensures
