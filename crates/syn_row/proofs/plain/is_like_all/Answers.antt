use Rattle.std.proofs.lemmas.List.Elements.{All-more}
use Rattle.syn_form.proofs.Deciding.{all_pass, fails, first_fails}
use Rattle.syn_row.specs.inner.Renumbering.{AreLike}
use Rattle.syn_row.proofs.plain.is_like_all.Goals as goal

pub returns-then-not-is_like : goal.returns-then-not-is_like
returns-then-not-is_like c = fails (λ h. first_fails c.is_like.ensures c.if-not-is_like.true (h _ _ c.loop-w-test.true))

pub loop-w-preserved : goal.loop-w-preserved
loop-w-preserved c = All-more (AreLike c.args.v) _ _ _ c.loop-w-test.true c.loop-w.invariant (c.is_like.ensures.0 c.if-not-is_like.false)

pub returns : goal.returns
returns c = all_pass (AreLike c.args.v) _ _ c.loop-w-test.false c.loop-w.invariant
