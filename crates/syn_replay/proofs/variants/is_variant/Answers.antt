use Rattle.syn_replay.proofs.OwnRows.{not_within, one_bank, variants_told}
use Rattle.syn_replay.proofs.variants.is_variant.Goals as goal

pub same-is_one-requires : goal.same-is_one-requires
same-is_one-requires c =
    one_bank c.args.bank.now c.canonical.new.bank c.args.made.now c.in-Ok-Some.found c.in-Ok-Some.field-0 c.in-Ok-Some.field-0-is c.canonical.ensures.extends c.in-Ok-Some.ensures.belongs c.requires.ready.belongs

pub returns-in-Ok-Some-clause-variant : goal.returns-in-Ok-Some-clause-variant
returns-in-Ok-Some-clause-variant c =
    variants_told c.canonical.ensures.laws c.args.made.now c.requires.ready.simplified c.requires.canonical c.args.row.now c.requires.simplified c.in-Ok-Some.found c.in-Ok-Some.field-0 c.same-is_one.result c.in-Ok-Some.field-0-is c.in-Ok-Some.ensures.row c.same-is_one.ensures.same

pub returns-in-Ok-None-clause-variant : goal.returns-in-Ok-None-clause-variant
returns-in-Ok-None-clause-variant c =
    not_within c.canonical.ensures.laws c.args.made.now c.requires.ready.simplified c.requires.canonical c.args.row.now c.requires.simplified c.in-Ok-None.field-0 c.in-Ok-None.field-0-is c.in-Ok-None.ensures.row c.requires.ready.within
