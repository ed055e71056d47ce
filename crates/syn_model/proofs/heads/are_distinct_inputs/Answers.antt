use Rattle.std.proofs.Common.{◌≢◌, ℕ, List, All, map, take, sym, ◌∙◌, ap, subst}
use Rattle.std.proofs.lemmas.List.{take_all}
use Rattle.syn_form.proofs.Deciding.{fails, first_fails, holds}
use Rattle.syn_model.specs.Heads.{AreDistinct, given_name}
use Rattle.syn_model.proofs.Distinct.{named_new, others_before}
use Rattle.syn_model.proofs.heads.are_distinct_inputs.Goals as goal

pub returns-then-not-are_others : goal.returns-then-not-are_others
returns-then-not-are_others c =
    fails (λ d. first_fails c.are_others.ensures c.if-not-are_others.true
    (subst (λ (n : List ℕ). All (λ p. given_name p ≢ n) (take c.loop-i.i c.args.inputs.now)) (sym (c.as_str.ensures.value ∙ ap given_name (sym c.index-inputs-i.is))) (others_before given_name c.args.inputs.now c.loop-i.i c.index-inputs-i.result c.loop-i-test.true c.index-inputs-i.is d)))

pub loop-i-preserved : goal.loop-i-preserved
loop-i-preserved c =
    named_new given_name c.args.inputs.now c.loop-i.i c.index-inputs-i.result c.loop-i-test.true c.index-inputs-i.is c.loop-i.invariant
    (subst (λ (n : List ℕ). All (λ p. given_name p ≢ n) (take c.loop-i.i c.args.inputs.now)) (c.as_str.ensures.value ∙ ap given_name (sym c.index-inputs-i.is)) (c.are_others.ensures.0 c.if-not-are_others.false))

pub returns : goal.returns
returns c = holds (subst (λ xs. AreDistinct (map given_name xs)) (take_all c.loop-i.i c.args.inputs.now c.loop-i-test.false) c.loop-i.invariant)
