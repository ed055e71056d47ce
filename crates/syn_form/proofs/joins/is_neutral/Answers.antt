use Rattle.syn_form.proofs.Members.{with_neutral}
use Rattle.syn_form.proofs.joins.is_neutral.Goals as goal

pub is_same-requires : goal.is_same-requires
is_same-requires c = with_neutral _ _ _ c.neutral.ensures c.requires
