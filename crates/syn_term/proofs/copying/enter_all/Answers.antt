use Rattle.syn_term.proofs.Copies.{copied_all, copied_more}
use Rattle.syn_term.proofs.copying.enter_all.Goals as goal

pub loop-sym-preserved : goal.loop-sym-preserved
loop-sym-preserved c =
    copied_more _ _ _ _ _ _ c.requires.distinct c.loop-sym.invariant c.in-Some.ensures c.in_ok-copy_sym.ensures c.in_ok-enter.ensures.number.1 c.in_ok-enter.ensures.ok

pub returns : goal.returns
returns c = copied_all _ _ _ c.loop-sym.invariant c.in_default.ensures
