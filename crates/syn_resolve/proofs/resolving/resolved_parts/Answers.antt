use Rattle.std.specs.Option.{option_copied}
use Rattle.std.proofs.lemmas.Result.{IfOk-weaker}
use Rattle.syn_resolve.proofs.ApartAnswers.{apart_gives, has_part, unifier_among}
use Rattle.syn_resolve.proofs.resolving.resolved_parts.Goals as goal

pub resolved_by-requires-clause-among : goal.resolved_by-requires-clause-among
resolved_by-requires-clause-among c = unifier_among c.args.syms.now c.args.ps.now c.args.qs.now c.args.first.now c.args.second.now c.args.s.now c.requires.unifies

pub resolved_by-requires-clause-there : goal.resolved_by-requires-clause-there
resolved_by-requires-clause-there c = has_part c.args.syms.now c.args.ps.now c.args.qs.now c.args.first.now c.args.second.now c.args.s.now c.requires.unifies c.at-item.result c.in-len1-up.len_at_least c.at-item.is

pub returns-clause-row : goal.returns-clause-row
returns-clause-row c =
    IfOk-weaker c.resolved_by.result _ _
    (λ o h. apart_gives c.args.syms.now c.args.ps.now c.args.qs.now c.args.first.now c.args.second.now c.args.s.now c.requires.unifies c.at-item.result c.in-len1-up.len_at_least c.at-item.is (option_copied c.args.rule) o h)
    c.resolved_by.ensures.row
