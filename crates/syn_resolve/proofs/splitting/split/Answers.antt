use Rattle.syn_resolve.proofs.PartRows.{split_formed, split_row, split_terms, under_belongs, under_plain}
use Rattle.syn_resolve.proofs.splitting.split.Goals as goal

pub canonical_under-requires-clause-plain : goal.canonical_under-requires-clause-plain
canonical_under-requires-clause-plain c =
    under_plain c.args.row.now c.in-Some.side c.in-Some.form.now (split_terms _ _ _ c.in-Some.ensures) c.args.syms.now c.requires.plain (split_formed c.args.syms.now _ _ _ c.in-Some.ensures c.requires.plain.form)

pub canonical_under-requires-clause-own : goal.canonical_under-requires-clause-own
canonical_under-requires-clause-own c = under_belongs c.args.row.now c.in-Some.side c.in-Some.form.now (split_terms _ _ _ c.in-Some.ensures) _ c.requires.own

pub returns-in-Some-clause-row : goal.returns-in-Some-clause-row
returns-in-Some-clause-row c = split_row c.args.row.now c.args.member _ (c.is_light_row.ensures.0 c.if-not-is_light_row.false) c.in-Some.ensures _ c.canonical_under.ensures.row
