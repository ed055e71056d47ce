use Rattle.std.proofs.Common.{[]}
use Rattle.std.specs.Option.{option_copied, option_map_or}
use Rattle.std.proofs.lemmas.Option.{MatchOption-at_none}
use Rattle.std.proofs.lemmas.Result.{IfOk-weaker}
use Rattle.syn_term.specs.Bank.{Belongs}
use Rattle.syn_form.specs.Trees.{form_terms, out_terms}
use Rattle.syn_form.proofs.Owned.{All-left}
use Rattle.syn_resolve.proofs.JointAnswers.{no_part, part_gives, part_vars}
use Rattle.syn_resolve.proofs.PartsAt.{form_belongs}
use Rattle.syn_resolve.proofs.PartsFormed.{formed_at}
use Rattle.syn_resolve.proofs.resolving.resolved_at.Goals as goal

pub resolved_instances-requires-clause-formed : goal.resolved_instances-requires-clause-formed
resolved_instances-requires-clause-formed c = formed_at c.args.syms.now c.args.at.now (c.args.a.now).form c.in-Some.p.now c.in-Some.ensures c.requires.first_instance.formed

pub resolved_instances-requires-clause-part_own : goal.resolved_instances-requires-clause-part_own
resolved_instances-requires-clause-part_own c =
    form_belongs c.args.bank.now c.args.at.now (c.args.a.now).form c.in-Some.p.now c.in-Some.ensures (All-left (Belongs c.args.bank.now) (form_terms (c.args.a.now).form) (option_map_or out_terms (c.args.a.now).out []) c.requires.first_own)

pub resolved_instances-requires-clause-part_among : goal.resolved_instances-requires-clause-part_among
resolved_instances-requires-clause-part_among c = part_vars c.args.syms.now c.args.s.now c.args.at.now c.args.first.now c.args.a.now c.requires.there c.requires.first_instance c.in-Some.p.now c.in-Some.ensures c.args.second.now c.requires.among

pub unreachable-requires : goal.unreachable-requires
unreachable-requires c = no_part c.args.syms.now c.args.s.now c.args.at.now c.args.first.now c.args.a.now c.requires.there c.requires.first_instance (MatchOption-at_none _ _ c.in-None.is c.formula_at.ensures)

pub returns-clause-row : goal.returns-clause-row
returns-clause-row c =
    IfOk-weaker c.resolved_instances.result _ _
    (λ o h. part_gives c.args.syms.now c.args.s.now c.args.at.now c.args.first.now c.args.a.now c.requires.there c.requires.first_instance c.in-Some.p.now c.in-Some.ensures (option_copied c.args.rule) c.args.second.now o h)
    c.resolved_instances.ensures.row
