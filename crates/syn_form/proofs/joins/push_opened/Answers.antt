use Rattle.syn_form.proofs.Members.{opened_bank}
use Rattle.syn_form.proofs.joins.push_opened.Goals as goal

pub push_all_new-requires : goal.push_all_new-requires
push_all_new-requires c = opened_bank _ _ _ _ c.in-Some.ensures c.requires
