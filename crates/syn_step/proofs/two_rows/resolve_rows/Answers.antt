use Rattle.std.specs.Option.{option_copied}
use Rattle.std.proofs.lemmas.Result.{IfOk-weaker}
use Rattle.syn_resolve.specs.Resolution.{ResolveGives}
use Rattle.syn_step.proofs.NumberedRows.{none_of_two, rows_given}
use Rattle.syn_step.proofs.OfStart.{over_start, ready_over, row_own, row_plain, rows_sort, rule_over, rule_own}
use Rattle.syn_step.proofs.two_rows.resolve_rows.Goals as goal

pub returns-in-None-clause-row : goal.returns-in-None-clause-row
returns-in-None-clause-row c = none_of_two (λ r s q. ResolveGives (c.args.start.now).spec.table (c.args.start.now).rule r c.args.ps.now s c.args.qs.now q) c.args.rows.now c.args.n c.args.m c.in-None.ensures

pub resolve-requires-clause-plain_r : goal.resolve-requires-clause-plain_r
resolve-requires-clause-plain_r c =
    row_plain c.args.start.now c.args.bank.now c.args.rows.now c.requires.rows c.symbols.result.now c.args.n c.in-Some.first.now c.symbols.ensures c.in-Some.ensures.0

pub resolve-requires-clause-plain_s : goal.resolve-requires-clause-plain_s
resolve-requires-clause-plain_s c =
    row_plain c.args.start.now c.args.bank.now c.args.rows.now c.requires.rows c.symbols.result.now c.args.m c.in-Some.second.now c.symbols.ensures c.in-Some.ensures.1

pub resolve-requires-clause-own_r : goal.resolve-requires-clause-own_r
resolve-requires-clause-own_r c = row_own c.args.start.now c.args.bank.now c.args.rows.now c.requires.rows c.args.n c.in-Some.first.now c.in-Some.ensures.0

pub resolve-requires-clause-own_s : goal.resolve-requires-clause-own_s
resolve-requires-clause-own_s c = row_own c.args.start.now c.args.bank.now c.args.rows.now c.requires.rows c.args.m c.in-Some.second.now c.in-Some.ensures.1

pub resolve-requires-clause-sorts : goal.resolve-requires-clause-sorts
resolve-requires-clause-sorts c =
    rows_sort c.args.start.now c.args.bank.now c.args.rows.now c.requires.rows c.symbols.result.now c.args.n c.args.m c.in-Some.first.now c.in-Some.second.now c.symbols.ensures c.in-Some.ensures.0 c.in-Some.ensures.1

pub resolve-requires-clause-rule : goal.resolve-requires-clause-rule
resolve-requires-clause-rule c = rule_over c.symbols.result.now (option_copied c.guard_rule.result) c.args.start.now c.symbols.ensures c.guard_rule.ensures.of_table

pub resolve-requires-clause-rule_own : goal.resolve-requires-clause-rule_own
resolve-requires-clause-rule_own c = rule_own c.args.bank.now (option_copied c.guard_rule.result) c.args.start.now c.guard_rule.ensures.is c.requires.rule

pub returns-in-Some-clause-row : goal.returns-in-Some-clause-row
returns-in-Some-clause-row c =
    IfOk-weaker c.resolve.result _ _
    (λ o h. rows_given (λ r s q. ResolveGives (c.args.start.now).spec.table (c.args.start.now).rule r c.args.ps.now s c.args.qs.now q) c.args.rows.now c.args.n c.args.m c.in-Some.first.now c.in-Some.second.now o c.in-Some.ensures.0 c.in-Some.ensures.1
    (over_start (λ table rule q. ResolveGives table rule c.in-Some.first.now c.args.ps.now c.in-Some.second.now c.args.qs.now q) c.symbols.result.now (option_copied c.guard_rule.result) c.args.start.now o c.symbols.ensures c.guard_rule.ensures.is h))
    c.resolve.ensures.row

pub returns-in-Some-clause-ready : goal.returns-in-Some-clause-ready
returns-in-Some-clause-ready c =
    ready_over c.symbols.result.now c.args.start.now c.resolve.new.bank c.resolve.result c.symbols.ensures c.resolve.ensures.plain c.resolve.ensures.simplified c.resolve.ensures.within c.resolve.ensures.belongs
