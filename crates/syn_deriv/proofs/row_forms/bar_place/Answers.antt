use Rattle.std.proofs.Common.{◌<◌, ◌≤◌, subst}
use Rattle.syn_deriv.proofs.Bars.{bar_behind, others_more, whole_cut}
use Rattle.syn_deriv.proofs.row_forms.bar_place.Goals as goal

pub returns-then-is_bar_at : goal.returns-then-is_bar_at
returns-then-is_bar_at c = record { others = c.loop-k.invariant; behind = bar_behind c.args.words.now c.loop-k.k (c.is_bar_at.ensures.same c.if-is_bar_at.true) }

pub loop-k-preserved : goal.loop-k-preserved
loop-k-preserved c = others_more c.args.words.now c.loop-k.k (subst (λ n. c.loop-k.k < n) c.len-k-end.ensures c.loop-k-test.true) (c.is_bar_at.ensures.other c.if-is_bar_at.false) c.loop-k.invariant

pub returns : goal.returns
returns c = whole_cut c.args.words.now c.loop-k.k c.len.result c.len.ensures (subst (λ n. n ≤ c.loop-k.k) c.len-k-end.ensures c.loop-k-test.false) c.loop-k.invariant
