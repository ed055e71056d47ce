use Rattle.std.proofs.Common.{◌<◌, ◌-◌, arith, drop, length, sym, take}
use Rattle.syn_term.specs.Bank.{Belongs-child, Belongs-extends, Extends-trans}
use Rattle.syn_term.proofs.Positions.{made_on_path, rest_shorter}
use Rattle.syn_term.proofs.bank.Bank.+replaced.Goals as goal

pub replaced-requires : goal.replaced-requires
replaced-requires t c =
    let shorter = rest_shorter c.args.path.now c.in-len1-up.len_at_least in
    let less : length (take (length c.args.path.now - 1) (drop 1 c.args.path.now)) < t = omega arith in
    (less, (Belongs-child _ _ _ _ (sym c.in-Some.ensures) c.requires.t, c.requires.new))

pub with_arg-requires-clause-t : goal.with_arg-requires-clause-t
with_arg-requires-clause-t t c = Belongs-extends _ _ _ c.replaced.ensures.extends c.requires.t

pub returns-in_ok-child-in-Some-clause-tree : goal.returns-in_ok-child-in-Some-clause-tree
returns-in_ok-child-in-Some-clause-tree t c = made_on_path _ _ _ _ _ _ c.in-len1-up.len_at_least c.in-Some.ensures c.in_ok-child-in-Some.ensures.tree c.with_arg.ensures.tree

pub returns-in_ok-child-in-Some-clause-extends : goal.returns-in_ok-child-in-Some-clause-extends
returns-in_ok-child-in-Some-clause-extends t c = Extends-trans _ _ _ c.replaced.ensures.extends c.with_arg.ensures.extends
