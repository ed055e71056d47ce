use Rattle.std.proofs.lemmas.Result.{on_ok_weaker}
use Rattle.syn_row.proofs.Noting.{noted_choice}
use Rattle.syn_row.proofs.occurrences.+note_out.Goals as goal

pub returns-in_ok-note_out-in-If : goal.returns-in_ok-note_out-in-If
returns-in_ok-note_out-in-If t c = on_ok_weaker c.note_out-in-If.result (λ h. noted_choice _ _ _ _ _ _ _ _ _ _ _ c.in-If.is c.get.ensures c.get-in-If.ensures c.get-in-If-2.ensures c.in_ok-note_form-in-If.ensures c.in_ok-note_out-in-If.ensures h) c.note_out-in-If.ensures
