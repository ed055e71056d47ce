use Rattle.std.proofs.Common.{arith}
use Rattle.syn_term.specs.Terms.{bare}
use Rattle.syn_term.proofs.Lists.{lengths_differ, items_differ, wholes}
use Rattle.syn_term.proofs.Trees.{differ, agree, same_symbol}
use Rattle.syn_term.proofs.term.Shared+Node.+equals.Goals as goal

pub returns-then-xs-ys : goal.returns-then-xs-ys
returns-then-xs-ys t c = differ _ _ _ _ _ _ _ _ _ _ _ _ c.get.ensures c.get-2.ensures c.in-App-App.is-0 c.in-App-App.is-1 c.as_slice-xs.ensures c.as_slice-ys.ensures (lengths_differ bare bare _ _ c.if-xs-ys.true)

pub returns-then-not-equals : goal.returns-then-not-equals
returns-then-not-equals t c =
    differ _ _ _ _ _ _ _ _ _ _ _ _ c.get.ensures c.get-2.ensures c.in-App-App.is-0 c.in-App-App.is-1 c.as_slice-xs.ensures c.as_slice-ys.ensures
    (items_differ bare bare _ _ _ _ _ c.index-xs-i.is c.index-ys-i.is c.loop-i-test.true (omega arith) (λ e. let h = c.equals.ensures.1 e in cc))

pub returns-after-loop-i : goal.returns-after-loop-i
returns-after-loop-i t c =
    agree _ _ _ _ _ _ _ _ _ _ _ _ c.get.ensures c.get-2.ensures c.in-App-App.is-0 c.in-App-App.is-1 c.as_slice-xs.ensures c.as_slice-ys.ensures
    (same_symbol _ _ _ c.ne.ensures c.if-ne.false) (wholes bare bare _ _ _ c.if-xs-ys.false c.loop-i-test.false c.loop-i.invariant)
