use Rattle.syn_form.proofs.Members.{item_and}
use Rattle.syn_form.proofs.joins.contains_form.Goals as goal

pub is_same-requires : goal.is_same-requires
is_same-requires c = item_and _ _ _ _ c.loop-g-test.true c.g-item.is c.requires
