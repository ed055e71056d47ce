use Rattle.std.proofs.Common.{◌∙◌, sym}
use Rattle.syn_model.proofs.TurnLaws.{last_next, last_whole}
use Rattle.syn_model.proofs.turns.+last_var.Goals as goal

pub loop-arg-preserved : goal.loop-arg-preserved
loop-arg-preserved t c = last_next _ _ _ _ _ _ _ c.loop-arg-test.true c.arg-item.is c.loop-arg.invariant c.last_var.ensures c.later-found.ensures

pub returns-after-loop-arg : goal.returns-after-loop-arg
returns-after-loop-arg t c = last_whole _ _ _ _ _ _ _ (sym c.get.ensures ∙ c.in-App.is) c.as_slice-arg-items.ensures c.loop-arg-test.false c.loop-arg.invariant
