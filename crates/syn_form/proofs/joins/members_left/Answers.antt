use Rattle.std.proofs.Common.{[]}
use Rattle.syn_form.proofs.Members.{left_more, left_terms}
use Rattle.syn_form.proofs.joins.members_left.Goals as goal

pub push_opened-requires : goal.push_opened-requires
push_opened-requires c = left_terms _ [] _ _ _ _ c.loop-f-test.true c.f-item.is c.loop-f.invariant c.requires

pub loop-f-preserved : goal.loop-f-preserved
loop-f-preserved c = left_more _ [] _ _ _ _ c.loop-f-test.true c.f-item.is _ c.loop-f.invariant c.in_ok-push_opened.ensures
