use Rattle.std.proofs.Common.{sym, ap, ◌∙◌}
use Rattle.std.proofs.lemmas.Result.{IfOk-weaker}
use Rattle.syn_model.specs.Clausal.{relation_clause}
use Rattle.syn_eval.specs.inner.Rules.{leading}
use Rattle.syn_eval.proofs.Runs.{relation_run}
use Rattle.syn_eval.proofs.headed.relations_of.Goals as goal

pub returns-then-is_relation_at : goal.returns-then-is_relation_at
returns-then-is_relation_at c =
    IfOk-weaker c.leading_relations.result _ _ (λ rules h. h ∙ (ap (leading relation_clause) c.behind.ensures ∙ sym (relation_run c.args.decls.now c.requires c.args.place c.args.name.now (c.is_relation_at.ensures c.if-is_relation_at.true)))) c.leading_relations.ensures
