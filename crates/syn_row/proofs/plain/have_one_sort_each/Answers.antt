use Rattle.std.proofs.Common.{All}
use Rattle.std.proofs.lemmas.List.Elements.{All-more}
use Rattle.syn_form.proofs.Deciding.{all_pass, fails, first_fails}
use Rattle.syn_row.specs.inner.Renumbering.{AreLike}
use Rattle.syn_row.proofs.plain.have_one_sort_each.Goals as goal

pub returns-then-not-is_like_all : goal.returns-then-not-is_like_all
returns-then-not-is_like_all c = fails (λ h. first_fails c.is_like_all.ensures c.if-not-is_like_all.true (h _ _ c.loop-v-test.true))

pub loop-v-preserved : goal.loop-v-preserved
loop-v-preserved c = All-more (λ v. All (AreLike v) c.args.vars.now) _ _ _ c.loop-v-test.true c.loop-v.invariant (c.is_like_all.ensures.0 c.if-not-is_like_all.false)

pub returns : goal.returns
returns c = all_pass (λ v. All (AreLike v) c.args.vars.now) _ _ c.loop-v-test.false c.loop-v.invariant
