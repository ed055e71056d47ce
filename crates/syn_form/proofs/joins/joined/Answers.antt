use Rattle.std.proofs.Common.{◌∙◌}
use Rattle.syn_form.proofs.Members.{left_bank}
use Rattle.syn_form.proofs.joins.joined.Goals as goal

pub is_decided-requires : goal.is_decided-requires
is_decided-requires c = left_bank _ _ _ (c.as_slice.ensures ∙ c.in_ok-left.ensures) c.requires
