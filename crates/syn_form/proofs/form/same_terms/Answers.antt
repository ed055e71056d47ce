use Rattle.std.proofs.Common.{arith}
use Rattle.syn_term.specs.Terms.{bare}
use Rattle.syn_term.proofs.Lists.{items_differ}
use Rattle.syn_form.proofs.Owned.{agree_at}
use Rattle.syn_form.proofs.form.same_terms.Goals as goal

pub same-requires : goal.same-requires
same-requires c = agree_at _ _ _ _ _ _ _ _ c.requires c.loop-i-test.true (omega arith) c.index-xs-i.is c.index-ys-i.is

pub returns-then-not-same : goal.returns-then-not-same
returns-then-not-same c = (
  (λ e. absurd (cc)),
  (λ e. absurd (items_differ bare bare _ _ _ _ _ c.index-xs-i.is c.index-ys-i.is c.loop-i-test.true (omega arith) (λ k. let h = c.same.ensures.tree.1 k in cc) e)),
)
