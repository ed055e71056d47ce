use Rattle.std.proofs.Common.{◌∙◌}
use Rattle.std.proofs.lemmas.Result.{on_ok_weaker}
use Rattle.syn_form.specs.Trees.{form_vars}
use Rattle.syn_form.proofs.Variables.{chain_vars}
use Rattle.syn_row.proofs.Noting.{noted_equality, noted_implication, noted_next, noted_whole}
use Rattle.syn_row.proofs.occurrences.+forms.Goals as goal

pub note_form-returns-in-Equal : goal.note_form-returns-in-Equal
note_form-returns-in-Equal t c = on_ok_weaker c.note_sides.result (λ h. noted_equality _ _ _ _ _ c.in-Equal.is h) c.note_sides.ensures

pub note_form-returns-in-And : goal.note_form-returns-in-And
note_form-returns-in-And t c = on_ok_weaker c.note_forms.result (λ h. noted_whole _ _ _ _ (chain_vars _ _ _ c.in-And.is (c.as_slice-in-And.ensures ∙ c.get-in-And.ensures)) h) c.note_forms.ensures

pub note_form-returns-in_ok-note_form-in-Implies : goal.note_form-returns-in_ok-note_form-in-Implies
note_form-returns-in_ok-note_form-in-Implies t c =
    on_ok_weaker c.note_form-in-Implies-2.result (λ h. noted_implication _ _ _ _ _ _ _ _ c.in-Implies.is c.get-in-Implies.ensures c.get-in-Implies-2.ensures c.in_ok-note_form-in-Implies.ensures h) c.note_form-in-Implies-2.ensures

pub note_forms-loop-f-preserved : goal.note_forms-loop-f-preserved
note_forms-loop-f-preserved t c = noted_next form_vars _ _ _ _ _ _ _ c.loop-f-test.true c.f-item.is c.loop-f.invariant c.in_ok-note_form.ensures
