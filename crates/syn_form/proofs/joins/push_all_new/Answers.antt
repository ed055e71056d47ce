use Rattle.syn_form.proofs.Members.{push_more, push_terms}
use Rattle.syn_form.proofs.joins.push_all_new.Goals as goal

pub push_new-requires : goal.push_new-requires
push_new-requires c = push_terms _ _ _ _ _ _ c.loop-f-test.true c.f-item.is c.loop-f.invariant c.requires

pub loop-f-preserved : goal.loop-f-preserved
loop-f-preserved c = push_more _ _ _ _ _ _ c.loop-f-test.true c.f-item.is _ c.loop-f.invariant c.in_ok-push_new.ensures
