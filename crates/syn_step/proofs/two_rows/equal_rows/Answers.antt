use Rattle.std.specs.Option.{option_copied}
use Rattle.std.proofs.lemmas.Result.{IfOk-weaker}
use Rattle.syn_resolve.specs.Replacement.{EqualGives}
use Rattle.syn_step.proofs.NumberedRows.{none_of_two, rows_given}
use Rattle.syn_step.proofs.OfStart.{over_start, ready_over, row_own, row_plain, rows_sort, rule_over, rule_own}
use Rattle.syn_step.proofs.two_rows.equal_rows.Goals as goal

pub returns-in-None-clause-row : goal.returns-in-None-clause-row
returns-in-None-clause-row c = none_of_two (λ r s q. EqualGives (c.args.start.now).spec.table (c.args.start.now).rule r c.args.at.now c.args.way s c.args.place.now q) c.args.rows.now c.args.n c.args.m c.in-None.ensures

pub equal-requires-clause-plain_r : goal.equal-requires-clause-plain_r
equal-requires-clause-plain_r c =
    row_plain c.args.start.now c.args.bank.now c.args.rows.now c.requires.rows c.symbols.result.now c.args.n c.in-Some.first.now c.symbols.ensures c.in-Some.ensures.0

pub equal-requires-clause-plain_s : goal.equal-requires-clause-plain_s
equal-requires-clause-plain_s c =
    row_plain c.args.start.now c.args.bank.now c.args.rows.now c.requires.rows c.symbols.result.now c.args.m c.in-Some.second.now c.symbols.ensures c.in-Some.ensures.1

pub equal-requires-clause-own_r : goal.equal-requires-clause-own_r
equal-requires-clause-own_r c = row_own c.args.start.now c.args.bank.now c.args.rows.now c.requires.rows c.args.n c.in-Some.first.now c.in-Some.ensures.0

pub equal-requires-clause-own_s : goal.equal-requires-clause-own_s
equal-requires-clause-own_s c = row_own c.args.start.now c.args.bank.now c.args.rows.now c.requires.rows c.args.m c.in-Some.second.now c.in-Some.ensures.1

pub equal-requires-clause-sorts : goal.equal-requires-clause-sorts
equal-requires-clause-sorts c =
    rows_sort c.args.start.now c.args.bank.now c.args.rows.now c.requires.rows c.symbols.result.now c.args.m c.args.n c.in-Some.second.now c.in-Some.first.now c.symbols.ensures c.in-Some.ensures.1 c.in-Some.ensures.0

pub equal-requires-clause-rule : goal.equal-requires-clause-rule
equal-requires-clause-rule c = rule_over c.symbols.result.now (option_copied c.guard_rule.result) c.args.start.now c.symbols.ensures c.guard_rule.ensures.of_table

pub equal-requires-clause-rule_own : goal.equal-requires-clause-rule_own
equal-requires-clause-rule_own c = rule_own c.args.bank.now (option_copied c.guard_rule.result) c.args.start.now c.guard_rule.ensures.is c.requires.rule

pub returns-in-Some-clause-row : goal.returns-in-Some-clause-row
returns-in-Some-clause-row c =
    IfOk-weaker c.equal.result _ _
    (λ o h. rows_given (λ r s q. EqualGives (c.args.start.now).spec.table (c.args.start.now).rule r c.args.at.now c.args.way s c.args.place.now q) c.args.rows.now c.args.n c.args.m c.in-Some.first.now c.in-Some.second.now o c.in-Some.ensures.0 c.in-Some.ensures.1
    (over_start (λ table rule q. EqualGives table rule c.in-Some.first.now c.args.at.now c.args.way c.in-Some.second.now c.args.place.now q) c.symbols.result.now (option_copied c.guard_rule.result) c.args.start.now o c.symbols.ensures c.guard_rule.ensures.is h))
    c.equal.ensures.row

pub returns-in-Some-clause-ready : goal.returns-in-Some-clause-ready
returns-in-Some-clause-ready c =
    ready_over c.symbols.result.now c.args.start.now c.equal.new.bank c.equal.result c.symbols.ensures c.equal.ensures.plain c.equal.ensures.simplified c.equal.ensures.within c.equal.ensures.belongs
