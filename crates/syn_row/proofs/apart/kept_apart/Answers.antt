use Rattle.syn_form.proofs.InputTerms.{all_still}
use Rattle.syn_row.proofs.KeptApart.{are_apart, behind_fits, second_fits, still_plain}
use Rattle.syn_row.proofs.apart.kept_apart.Goals as goal

pub renumbered_from-requires-2-clause-few : goal.renumbered_from-requires-2-clause-few
renumbered_from-requires-2-clause-few c = second_fits c.args.r.now c.args.s.now _ c.in_ok-next.ensures c.requires.few

pub renumbered_from-requires-2-clause-own : goal.renumbered_from-requires-2-clause-own
renumbered_from-requires-2-clause-own c = all_still _ _ _ c.renumbered_from.ensures.extends c.requires.own_s

pub returns-in-Ok-clause-apart : goal.returns-in-Ok-clause-apart
returns-in-Ok-clause-apart c = are_apart _ _ _ _ _ c.in_ok-next.ensures c.in_ok-left.ensures.tree c.in-Ok.ensures.tree

pub returns-in-Ok-clause-plain : goal.returns-in-Ok-clause-plain
returns-in-Ok-clause-plain c = (still_plain 1 _ _ c.in_ok-left.ensures.tree _ c.requires.plain_r, still_plain _ _ _ c.in-Ok.ensures.tree _ c.requires.plain_s)

pub returns-in-Ok-clause-own : goal.returns-in-Ok-clause-own
returns-in-Ok-clause-own c = (all_still _ _ _ c.renumbered_from-2.ensures.extends c.in_ok-left.ensures.belongs, c.in-Ok.ensures.belongs)

pub number_behind-requires : goal.number_behind-requires
number_behind-requires c = behind_fits c.args.r.now c.args.s.now c.requires.few
