use Rattle.std.proofs.Common.{◌∙◌, ap, sym}
use Rattle.syn_model.specs.inner.Views.{numbered_from}
use Rattle.syn_model.proofs.TurnLaws.{application_vars}
use Rattle.syn_model.proofs.NumberLaws.{not_numbered, numbered_next}
use Rattle.syn_model.proofs.turns.+numbered.Goals as goal

pub numbered_term-returns-in-App-clause-number : goal.numbered_term-returns-in-App-clause-number
numbered_term-returns-in-App-clause-number t c = c.numbered_terms.ensures.number ∙ ap (numbered_from c.args.next) (sym (application_vars _ _ _ _ _ (sym c.get.ensures ∙ c.in-App.is) c.as_slice.ensures))

pub numbered_terms-returns-in-None-clause-number : goal.numbered_terms-returns-in-None-clause-number
numbered_terms-returns-in-None-clause-number t c = not_numbered _ _ _ _ _ _ _ c.loop-t-test.true c.t-item.is c.loop-t.invariant.is c.numbered_term.ensures.number c.in-None.is

pub numbered_terms-loop-t-preserved : goal.numbered_terms-loop-t-preserved
numbered_terms-loop-t-preserved t c = record {
  is = numbered_next _ _ _ _ _ _ _ c.loop-t-test.true c.t-item.is c.loop-t.invariant.is c.numbered_term.ensures.number ∙ c.in-Some.is;
  within = c.in-Some.ensures.within;
}
