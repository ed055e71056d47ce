use Rattle.std.proofs.Common.{sym, ◌∙◌}
use Rattle.std.proofs.lemmas.Result.{on_ok_weaker}
use Rattle.syn_form.specs.Trees.{term_vars}
use Rattle.syn_form.proofs.Variables.{application_vars}
use Rattle.syn_row.proofs.Noting.{noted_next, noted_whole}
use Rattle.syn_row.proofs.occurrences.+terms.Goals as goal

pub note_term-returns-in-App : goal.note_term-returns-in-App
note_term-returns-in-App t c = on_ok_weaker c.note_terms.result (λ h. noted_whole _ _ _ _ (application_vars _ _ _ _ _ (sym c.get.ensures ∙ c.in-App.is) c.as_slice.ensures) h) c.note_terms.ensures

pub note_terms-loop-t-preserved : goal.note_terms-loop-t-preserved
note_terms-loop-t-preserved t c = noted_next term_vars _ _ _ _ _ _ _ c.loop-t-test.true c.t-item.is c.loop-t.invariant c.in_ok-note_term.ensures
