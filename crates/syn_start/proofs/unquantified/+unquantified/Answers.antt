use Rattle.std.proofs.Common.{Some, sym, ◌∙◌, ap}
use Rattle.syn_form.specs.Quantified.{unquantified}
use Rattle.syn_start.proofs.Options.{all_more, one_missing}
use Rattle.syn_start.proofs.unquantified.+unquantified.Goals as goal

pub all_without-returns-in-None : goal.all_without-returns-in-None
all_without-returns-in-None t c = sym (one_missing unquantified _ _ _ c.loop-f-test.true (ap unquantified (sym c.f-item.is) ∙ (sym c.in_ok-without_quantifiers.ensures ∙ c.in-None.is)))

pub all_without-loop-f-preserved : goal.all_without-loop-f-preserved
all_without-loop-f-preserved t c = all_more unquantified _ _ _ _ _ _ c.loop-f-test.true c.f-item.is c.loop-f.invariant (sym c.in_ok-without_quantifiers.ensures ∙ c.in-Some.is) ∙ ap Some (sym c.in_ok-push-in-Some.ensures.ok)
