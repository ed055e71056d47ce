use Rattle.std.specs.Option.{option_copied}
use Rattle.std.proofs.lemmas.Option.{MatchOption-at_none}
use Rattle.std.proofs.lemmas.Result.{IfOk-weaker}
use Rattle.syn_resolve.proofs.ReplaceAnswers.{equal_among, equal_belongs, equal_formed, equality_there, side_bound, side_contained, side_given, side_may}
use Rattle.syn_resolve.proofs.replacing.replaced_in.Goals as goal

pub replaced_instances-requires-clause-among : goal.replaced_instances-requires-clause-among
replaced_instances-requires-clause-among c = side_bound c.args.syms.now c.args.at.now c.args.way c.args.place.now c.args.first.now c.args.second.now c.args.s.now c.requires.unifies

pub replaced_instances-requires-clause-formed : goal.replaced_instances-requires-clause-formed
replaced_instances-requires-clause-formed c = equal_formed c.args.syms.now c.args.at.now c.args.way c.args.place.now c.args.first.now c.args.second.now c.args.s.now c.requires.unifies c.args.a.now c.requires.first_instance c.in-Some.e.now c.in-Some.new.now c.in-Some.ensures

pub replaced_instances-requires-clause-equality_own : goal.replaced_instances-requires-clause-equality_own
replaced_instances-requires-clause-equality_own c = equal_belongs c.args.syms.now c.args.at.now c.args.way c.args.place.now c.args.first.now c.args.second.now c.args.s.now c.requires.unifies c.args.a.now c.requires.first_instance c.in-Some.e.now c.in-Some.new.now c.in-Some.ensures _ c.requires.first_own

pub replaced_instances-requires-clause-equality_among : goal.replaced_instances-requires-clause-equality_among
replaced_instances-requires-clause-equality_among c = equal_among c.args.syms.now c.args.at.now c.args.way c.args.place.now c.args.first.now c.args.second.now c.args.s.now c.requires.unifies c.args.a.now c.requires.first_instance c.in-Some.e.now c.in-Some.new.now c.in-Some.ensures

pub replaced_instances-requires-clause-side : goal.replaced_instances-requires-clause-side
replaced_instances-requires-clause-side c = side_contained c.args.syms.now c.args.at.now c.args.way c.args.place.now c.args.first.now c.args.second.now c.args.s.now c.requires.unifies c.args.a.now c.requires.first_instance c.in-Some.e.now c.in-Some.new.now c.in-Some.ensures

pub replaced_instances-requires-clause-may : goal.replaced_instances-requires-clause-may
replaced_instances-requires-clause-may c = side_may c.args.syms.now c.args.at.now c.args.way c.args.place.now c.args.first.now c.args.second.now c.args.s.now c.requires.unifies c.args.a.now c.requires.first_instance c.in-Some.e.now c.in-Some.new.now c.in-Some.ensures c.args.b.now c.requires.second_instance c.requires.pair

pub unreachable-requires : goal.unreachable-requires
unreachable-requires c = equality_there c.args.syms.now c.args.at.now c.args.way c.args.place.now c.args.first.now c.args.second.now c.args.s.now c.requires.unifies c.args.a.now c.requires.first_instance (MatchOption-at_none _ _ c.in-None.is c.equality_put.ensures)

pub returns-clause-row : goal.returns-clause-row
returns-clause-row c =
    IfOk-weaker c.replaced_instances.result _ _
    (λ o h. side_given c.args.syms.now c.args.at.now c.args.way c.args.place.now c.args.first.now c.args.second.now c.args.s.now c.requires.unifies c.args.a.now c.requires.first_instance c.in-Some.e.now c.in-Some.new.now c.in-Some.ensures (option_copied c.args.rule) c.requires.rule o h)
    c.replaced_instances.ensures.row
