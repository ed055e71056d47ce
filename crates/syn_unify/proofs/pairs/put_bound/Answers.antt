use Rattle.std.proofs.Common.{refl}
use Rattle.syn_term.specs.Bank.{Extends-trans}
use Rattle.syn_unify.specs.inner.Changes.{seen}
use Rattle.syn_unify.proofs.PairLists.{binds_item, binds_more, binds_still, bound_item, bound_more}
use Rattle.syn_unify.proofs.Sorts.{KeepsSort, image_holds}
use Rattle.syn_unify.proofs.pairs.put_bound.Goals as goal

pub whole_term-requires-clause-sorts : goal.whole_term-requires-clause-sorts
whole_term-requires-clause-sorts c = image_holds _ _ c.requires.one

pub whole_term-requires-clause-sorted : goal.whole_term-requires-clause-sorted
whole_term-requires-clause-sorted c = (bound_item (KeepsSort c.args.syms.now) _ _ _ _ c.loop-b-test.true c.b-item.is c.requires.keeps).0

pub whole_term-requires-clause-own : goal.whole_term-requires-clause-own
whole_term-requires-clause-own c = binds_still _ _ _ c.loop-b.invariant.extends c.requires.one_own

pub whole_term-requires-clause-belongs : goal.whole_term-requires-clause-belongs
whole_term-requires-clause-belongs c = binds_item _ _ _ _ _ _ c.loop-b.invariant.extends c.loop-b-test.true c.b-item.is c.requires.own

pub loop-b-preserved : goal.loop-b-preserved
loop-b-preserved c = record {
  bound = bound_more (seen c.args.one.now) _ _ _ _ _ _ _ c.loop-b-test.true c.b-item.is c.loop-b.invariant.bound refl c.in_ok-term.ensures.tree c.in_ok-push.ensures.ok;
  extends = Extends-trans _ _ _ c.loop-b.invariant.extends c.whole_term.ensures.extends;
  own = binds_more _ _ _ _ _ c.whole_term.ensures.extends c.loop-b.invariant.own c.in_ok-term.ensures.belongs c.in_ok-push.ensures.ok;
}
