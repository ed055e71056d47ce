use Rattle.std.proofs.Common.{◌≡◌, ℕ, arith, ap, ◌∙◌, subst}
use Rattle.syn_app.specs.Terms.{wrapped}
use Rattle.syn_app.proofs.TermTexts.{wrapped_more}
use Rattle.syn_app.proofs.terms.unwrapped.Goals as goal

pub loop-count-preserved : goal.loop-count-preserved
loop-count-preserved c = c.loop-count.invariant ∙ (ap (wrapped c.loop-count.count) c.in-Some.ensures ∙ wrapped_more c.loop-count.count c.in-Some.next.now)

pub returns-clause-is : goal.returns-clause-is
returns-clause-is c =
    let k : c.loop-count.count ≡ 4096 = omega arith in
    subst (λ (n : ℕ). c.args.word.now ≡ wrapped n c.loop-count.inner.now) k c.loop-count.invariant
