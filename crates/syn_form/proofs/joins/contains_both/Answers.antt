use Rattle.syn_form.proofs.Members.{item_itself}
use Rattle.syn_form.proofs.joins.contains_both.Goals as goal

pub contains_negation_of-requires : goal.contains_negation_of-requires
contains_negation_of-requires c = item_itself _ _ _ c.loop-f-test.true c.f-item.is c.requires
