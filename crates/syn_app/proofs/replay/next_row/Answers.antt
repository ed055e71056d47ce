use Rattle.syn_term.specs.Bank.{Belongs-extends}
use Rattle.syn_app.proofs.Replays.{sides_agree, agrees_simplified, next_given, next_refused}
use Rattle.syn_app.proofs.replay.next_row.Goals as goal

pub simplified-row-requires : goal.simplified-row-requires
simplified-row-requires c = sides_agree _ _ c.in_ok-row.ensures.belongs.0

pub follows-requires-clause-agrees : goal.follows-requires-clause-agrees
follows-requires-clause-agrees c =
    agrees_simplified c.row_of.new.bank c.in_ok-row.row c.simplified-row.result c.args.target.now c.simplified-row.ensures c.in_ok-row.ensures.belongs (Belongs-extends _ _ _ c.in_ok-row.ensures.extends c.requires.target)

pub returns-then-follows-clause-row : goal.returns-then-follows-clause-row
returns-then-follows-clause-row c =
    next_given _ _ c.in_ok-row.row c.simplified-row.result c.args.flat.now c.in_ok-row.ensures.tree c.simplified-row.ensures (c.follows.ensures.0 c.if-follows.true)

pub returns-else-follows-clause-row : goal.returns-else-follows-clause-row
returns-else-follows-clause-row c =
    next_refused _ _ c.in_ok-row.row c.simplified-row.result c.args.flat.now c.in_ok-row.ensures.tree c.simplified-row.ensures (λ g. let h = c.follows.ensures.1 g in cc)
