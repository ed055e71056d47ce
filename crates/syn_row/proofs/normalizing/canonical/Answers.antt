use Rattle.syn_row.proofs.Ends.{end_made, end_plain, end_row, end_simplified, end_within, own_bank, simplified_own, simplified_plain}
use Rattle.syn_row.proofs.normalizing.canonical.Goals as goal

pub simplified-requires : goal.simplified-requires
simplified-requires c = own_bank _ c.args.row.now c.requires.own

pub renumber-made-requires-clause-plain : goal.renumber-made-requires-clause-plain
renumber-made-requires-clause-plain c = simplified_plain _ _ _ c.in_ok-row.ensures c.requires.plain

pub renumber-made-requires-clause-own : goal.renumber-made-requires-clause-own
renumber-made-requires-clause-own c = simplified_own _ _ _ c.in_ok-row.ensures c.requires.own

pub returns-in-Ok-clause-row : goal.returns-in-Ok-clause-row
returns-in-Ok-clause-row c = end_row _ _ _ c.in_ok-row.ensures c.in-Ok.ensures.tree (c.is_within.ensures.0 c.if-not-is_within.false)

pub returns-in-Ok-clause-made : goal.returns-in-Ok-clause-made
returns-in-Ok-clause-made c = end_made _ _ _ c.in_ok-row.ensures c.in-Ok.ensures.tree _ _ c.renumber-made.ensures.made

pub returns-in-Ok-clause-plain : goal.returns-in-Ok-clause-plain
returns-in-Ok-clause-plain c = end_plain _ _ _ c.in_ok-row.ensures c.in-Ok.ensures.tree _ (simplified_plain _ _ _ c.in_ok-row.ensures c.requires.plain)

pub returns-in-Ok-clause-within : goal.returns-in-Ok-clause-within
returns-in-Ok-clause-within c = end_within _ _ _ c.in_ok-row.ensures c.in-Ok.ensures.tree (c.is_within.ensures.0 c.if-not-is_within.false)

pub returns-in-Ok-clause-simplified : goal.returns-in-Ok-clause-simplified
returns-in-Ok-clause-simplified c = end_simplified _ _ _ c.in_ok-row.ensures c.in-Ok.ensures.tree
