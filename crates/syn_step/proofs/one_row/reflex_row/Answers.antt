use Rattle.std.proofs.Common.{sym, ◌∙◌, ap}
use Rattle.std.specs.Option.{option_copied}
use Rattle.std.proofs.lemmas.Result.{IfOk-weaker}
use Rattle.syn_resolve.specs.Resolution.{ReflexGives}
use Rattle.syn_step.proofs.NumberedRows.{none_given, row_given}
use Rattle.syn_step.proofs.OfStart.{over_start, ready_over, row_own, row_plain, rule_over, rule_own}
use Rattle.syn_step.proofs.one_row.reflex_row.Goals as goal

pub returns-in-None-clause-row : goal.returns-in-None-clause-row
returns-in-None-clause-row c = none_given (λ r q. ReflexGives (c.args.start.now).spec.table (c.args.start.now).rule r c.args.at.now q) c.args.rows.now c.args.n (sym c.row_at.ensures ∙ ap option_copied c.in-None.is)

pub reflex-requires-clause-plain : goal.reflex-requires-clause-plain
reflex-requires-clause-plain c =
    row_plain c.args.start.now c.args.bank.now c.args.rows.now c.requires.rows c.symbols.result.now c.args.n c.in-Some.row.now c.symbols.ensures (sym c.row_at.ensures ∙ ap option_copied c.in-Some.is)

pub reflex-requires-clause-own : goal.reflex-requires-clause-own
reflex-requires-clause-own c =
    row_own c.args.start.now c.args.bank.now c.args.rows.now c.requires.rows c.args.n c.in-Some.row.now (sym c.row_at.ensures ∙ ap option_copied c.in-Some.is)

pub reflex-requires-clause-rule : goal.reflex-requires-clause-rule
reflex-requires-clause-rule c = rule_over c.symbols.result.now (option_copied c.guard_rule.result) c.args.start.now c.symbols.ensures c.guard_rule.ensures.of_table

pub reflex-requires-clause-rule_own : goal.reflex-requires-clause-rule_own
reflex-requires-clause-rule_own c = rule_own c.args.bank.now (option_copied c.guard_rule.result) c.args.start.now c.guard_rule.ensures.is c.requires.rule

pub returns-in-Some-clause-row : goal.returns-in-Some-clause-row
returns-in-Some-clause-row c =
    IfOk-weaker c.reflex.result _ _
    (λ o h. row_given (λ r q. ReflexGives (c.args.start.now).spec.table (c.args.start.now).rule r c.args.at.now q) c.args.rows.now c.args.n c.in-Some.row.now o (sym c.row_at.ensures ∙ ap option_copied c.in-Some.is) (over_start (λ table rule q. ReflexGives table rule c.in-Some.row.now c.args.at.now q) c.symbols.result.now (option_copied c.guard_rule.result) c.args.start.now o c.symbols.ensures c.guard_rule.ensures.is h))
    c.reflex.ensures.row

pub returns-in-Some-clause-ready : goal.returns-in-Some-clause-ready
returns-in-Some-clause-ready c =
    ready_over c.symbols.result.now c.args.start.now c.reflex.new.bank c.reflex.result c.symbols.ensures c.reflex.ensures.plain c.reflex.ensures.simplified c.reflex.ensures.within c.reflex.ensures.belongs
