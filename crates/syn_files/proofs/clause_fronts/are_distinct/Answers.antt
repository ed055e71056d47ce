use Rattle.std.proofs.Common.{◌≢◌, ℕ, List, All, map, take, sym, ◌∙◌, ap, subst}
use Rattle.std.proofs.lemmas.List.{take_all}
use Rattle.syn_form.proofs.Deciding.{fails, first_fails, holds}
use Rattle.syn_model.specs.Heads.{AreDistinct}
use Rattle.syn_files.specs.inner.ClauseReading.{text_of}
use Rattle.syn_model.proofs.Distinct.{named_new, others_before}
use Rattle.syn_files.proofs.clause_fronts.are_distinct.Goals as goal

pub returns-then-not-are_others : goal.returns-then-not-are_others
returns-then-not-are_others c =
    fails (λ d. first_fails c.are_others.ensures c.if-not-are_others.true
    (subst (λ (n : List ℕ). All (λ p. text_of p ≢ n) (take c.loop-i.i c.args.names.now)) (sym (c.as_str.ensures.value ∙ ap text_of (sym c.index-names-i.is))) (others_before text_of c.args.names.now c.loop-i.i c.index-names-i.result c.loop-i-test.true c.index-names-i.is d)))

pub loop-i-preserved : goal.loop-i-preserved
loop-i-preserved c =
    named_new text_of c.args.names.now c.loop-i.i c.index-names-i.result c.loop-i-test.true c.index-names-i.is c.loop-i.invariant
    (subst (λ (n : List ℕ). All (λ p. text_of p ≢ n) (take c.loop-i.i c.args.names.now)) (c.as_str.ensures.value ∙ ap text_of (sym c.index-names-i.is)) (c.are_others.ensures.0 c.if-not-are_others.false))

pub returns : goal.returns
returns c = holds (subst (λ xs. AreDistinct (map text_of xs)) (take_all c.loop-i.i c.args.names.now c.loop-i-test.false) c.loop-i.invariant)
