use Rattle.syn_resolve.proofs.PartRows.{dual_plain, dual_row}
use Rattle.syn_resolve.proofs.splitting.dual.Goals as goal

pub canonical_under-made-requires-clause-plain : goal.canonical_under-made-requires-clause-plain
canonical_under-made-requires-clause-plain c = dual_plain c.args.row.now c.other.result c.in_ok-negated.negated c.in_ok-negated.ensures c.args.syms.now c.requires.plain

pub returns-clause-row : goal.returns-clause-row
returns-clause-row c = dual_row c.args.row.now _ _ c.other.ensures c.in_ok-negated.ensures (c.is_light_row.ensures.0 c.if-not-is_light_row.false) _ c.canonical_under-made.ensures.row
