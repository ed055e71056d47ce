use Rattle.std.proofs.Common.{refl}
use Rattle.syn_term.specs.Bank.{Extends-trans}
use Rattle.syn_start.proofs.RuleParts.{ids_more, inputs_more, own_more}
use Rattle.syn_start.proofs.guard_rules.own_inputs.Goals as goal

pub loop-id-preserved : goal.loop-id-preserved
loop-id-preserved c = record {
  ids = ids_more _ _ _ _ c.in_ok-push.ensures.ok c.args.ids.now c.loop-id.id-index _ c.loop-id-test.true refl c.loop-id.invariant.ids;
  own = own_more _ _ _ _ c.in_ok-push.ensures.ok c.loop-id.invariant.own c.in_ok-term.ensures.tree;
  extends = Extends-trans _ _ _ c.loop-id.invariant.extends c.input_term.ensures.extends;
  belongs = inputs_more _ _ _ _ c.in_ok-push.ensures.ok _ _ c.input_term.ensures.extends c.loop-id.invariant.belongs c.in_ok-term.ensures.belongs;
}
