use Rattle.syn_form.proofs.Members.{item_and}
use Rattle.syn_form.proofs.joins.contains_negation_of.Goals as goal

pub is_negation-requires : goal.is_negation-requires
is_negation-requires c = item_and _ _ _ _ c.loop-g-test.true c.g-item.is c.requires
