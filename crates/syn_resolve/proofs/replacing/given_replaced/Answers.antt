use Rattle.std.proofs.lemmas.Option.{MatchOption-at_none, MatchOption-at_some}
use Rattle.std.proofs.lemmas.Result.{IfOk-weaker}
use Rattle.syn_unify.proofs.Changed.{there_holds}
use Rattle.syn_resolve.proofs.ReplaceRows.{put_belongs, put_gives, put_plain}
use Rattle.syn_resolve.proofs.replacing.given_replaced.Goals as goal

pub given_with-requires-clause-plain : goal.given_with-requires-clause-plain
given_with-requires-clause-plain c =
    put_plain c.args.e.now c.args.place.now c.args.new.now c.args.a.now c.args.b.now c.args.guards.now c.in-Ok-Some.g (MatchOption-at_some _ _ _ c.in-Ok-Some.field-0-is c.in-Ok-Some.ensures.tree).1 c.args.syms.now c.requires.plain

pub given_with-requires-clause-own : goal.given_with-requires-clause-own
given_with-requires-clause-own c =
    put_belongs _ _ c.args.e.now c.args.a.now c.args.b.now c.in-Ok-Some.g c.args.guards.now c.replace_term.ensures.extends c.requires.equality_own c.requires.first_own c.requires.second_own c.requires.guards_own (there_holds _ _ _ c.in-Ok-Some.field-0-is c.in-Ok-Some.ensures.belongs)

pub unreachable-requires : goal.unreachable-requires
unreachable-requires c = MatchOption-at_none _ _ c.in-Ok-None.field-0-is c.in-Ok-None.ensures.tree c.requires.may

pub returns-in-Ok-Some-clause-row : goal.returns-in-Ok-Some-clause-row
returns-in-Ok-Some-clause-row c =
    IfOk-weaker c.given_with.result _ _
    (λ o h. put_gives c.args.e.now c.args.place.now c.args.new.now c.args.a.now c.args.b.now c.args.guards.now c.in-Ok-Some.g (MatchOption-at_some _ _ _ c.in-Ok-Some.field-0-is c.in-Ok-Some.ensures.tree).1 o h)
    c.given_with.ensures.row
