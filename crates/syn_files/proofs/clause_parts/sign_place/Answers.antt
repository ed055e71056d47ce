use Rattle.std.proofs.Common.{◌<◌, ◌≤◌, subst}
use Rattle.std.specs.Prelude.{All}
use Rattle.std.proofs.lemmas.List.{take_all}
use Rattle.syn_files.specs.inner.ClauseReading.{IsOther}
use Rattle.syn_files.proofs.ClauseParts.{cut_made, others_more}
use Rattle.syn_files.proofs.clause_parts.sign_place.Goals as goal

pub returns-then-is_sign_at : goal.returns-then-is_sign_at
returns-then-is_sign_at c = cut_made c.args.sign.now c.args.words.now c.loop-k.k c.loop-k.invariant (c.is_sign_at.ensures.same c.if-is_sign_at.true)

pub loop-k-preserved : goal.loop-k-preserved
loop-k-preserved c = others_more c.args.sign.now c.args.words.now c.loop-k.k (subst (λ n. c.loop-k.k < n) c.len-k-end.ensures c.loop-k-test.true) (c.is_sign_at.ensures.other c.if-is_sign_at.false) c.loop-k.invariant

pub returns : goal.returns
returns c = subst (All (IsOther c.args.sign.now)) (take_all c.loop-k.k c.args.words.now (subst (λ n. n ≤ c.loop-k.k) c.len-k-end.ensures c.loop-k-test.false)) c.loop-k.invariant
