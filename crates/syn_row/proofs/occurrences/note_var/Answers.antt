use Rattle.syn_form.proofs.Deciding.{first_fails}
use Rattle.syn_row.proofs.Noting.{noted_again, noted_new}
use Rattle.syn_row.proofs.occurrences.note_var.Goals as goal

pub returns-then-is_noted : goal.returns-then-is_noted
returns-then-is_noted c = noted_again _ _ _ (c.as_slice.ensures) (c.is_noted.ensures.0 c.if-is_noted.true)

pub returns : goal.returns
returns c = noted_new _ _ _ _ c.as_slice.ensures (first_fails c.is_noted.ensures c.if-is_noted.false) c.in_ok-push.ensures.ok
