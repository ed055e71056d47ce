use Rattle.syn_unify.proofs.PairLists.{binds_all}
use Rattle.syn_unify.proofs.pairs.bind.Goals as goal

pub returns-clause-own : goal.returns-clause-own
returns-clause-own c = binds_all _ _ _ _ _ _ _ c.put_bound.ensures.extends c.requires.belongs c.new-more.ensures c.in_ok-push.ensures.ok c.in_ok-append.ensures c.in_ok-put_bound.ensures.own
