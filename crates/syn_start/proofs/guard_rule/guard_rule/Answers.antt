use Rattle.syn_start.proofs.RuleLaws.{rule_of_table}
use Rattle.syn_start.proofs.guard_rule.guard_rule.Goals as goal

pub returns-in_ok-rule_with-in-Some-clause-of : goal.returns-in_ok-rule_with-in-Some-clause-of
returns-in_ok-rule_with-in-Some-clause-of c = rule_of_table c.args.spec.now _ c.in-Some.order c.parts-parts.ensures.spec c.in-Some.ensures c.in_ok-rule_with-in-Some.ensures.rule
