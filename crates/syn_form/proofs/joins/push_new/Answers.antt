use Rattle.syn_form.proofs.Banks.{second_of}
use Rattle.syn_form.proofs.joins.push_new.Goals as goal

pub is_neutral-requires : goal.is_neutral-requires
is_neutral-requires c = second_of _ _ c.requires
