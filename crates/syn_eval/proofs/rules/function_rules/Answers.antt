use Rattle.std.proofs.Common.{ap, map, arith}
use Rattle.syn_model.specs.Clausal.{function_clause}
use Rattle.syn_eval.specs.inner.Rules.{rule_seen}
use Rattle.syn_eval.proofs.Picking.{picked_end, picked_next, picked_none}
use Rattle.syn_eval.proofs.rules.function_rules.Goals as goal

pub loop-decl-init : goal.loop-decl-init
loop-decl-init c = picked_none function_clause c.args.name.now _ _ c.args.decls.now (ap (map rule_seen) c.new-rules.ensures) c.same_text-under.ensures

pub loop-decl-preserved : goal.loop-decl-preserved
loop-decl-preserved c =
    picked_next function_clause c.args.name.now _ _ _ c.loop-decl.under _ c.args.decls.now c.loop-decl.decl-index _ (omega arith) c.decl-item.is c.loop-decl.invariant c.in_ok-put_function_rule.ensures c.is_under-under.ensures

pub returns : goal.returns
returns c = picked_end function_clause c.args.name.now _ _ c.loop-decl.under c.args.decls.now c.loop-decl.decl-index (omega arith) c.loop-decl.invariant
