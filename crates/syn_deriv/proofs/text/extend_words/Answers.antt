use Rattle.std.proofs.Common.{◌+◌, Some, ap, length}
use Rattle.syn_start.specs.Derivations.{Lines}
use Rattle.syn_deriv.proofs.RowsKept.{lines_extend}
use Rattle.syn_deriv.proofs.WholeLines.{row_told, row_told_out, rows_more}
use Rattle.syn_deriv.proofs.text.extend_words.Goals as goal

pub returns-in_err-line_of_words-clause-rows : goal.returns-in_err-line_of_words-clause-rows
returns-in_err-line_of_words-clause-rows c = lines_extend c.args.start.now c.args.bank.now c.line_of_words.new.bank (Some c.args.derivation.now) c.line_of_words.ensures.extends c.requires.rows

pub returns-in-None-clause-taken : goal.returns-in-None-clause-taken
returns-in-None-clause-taken c =
    row_told_out c.args.start.now c.args.derivation.now c.args.words.now _ c.in_ok-line_of_words.field-0 (ap (λ (z : Lines). length z + 1) c.lines.ensures) c.in_ok-line_of_words.ensures.told c.requires.some c.in-None.is

pub returns-in-None-clause-rows : goal.returns-in-None-clause-rows
returns-in-None-clause-rows c = lines_extend c.args.start.now c.args.bank.now c.line_of_words.new.bank (Some c.args.derivation.now) c.line_of_words.ensures.extends c.requires.rows

pub returns-in_ok-push-in-Some-clause-taken : goal.returns-in_ok-push-in-Some-clause-taken
returns-in_ok-push-in-Some-clause-taken c =
    row_told c.args.start.now c.args.derivation.now c.args.words.now _ c.in_ok-line_of_words.field-0 (ap (λ (z : Lines). length z + 1) c.lines.ensures) c.in_ok-line_of_words.ensures.told c.push.new.self _ c.in-Some.is c.in_ok-push-in-Some.ensures.ok

pub returns-in_ok-push-in-Some-clause-rows : goal.returns-in_ok-push-in-Some-clause-rows
returns-in_ok-push-in-Some-clause-rows c =
    rows_more c.args.start.now c.args.bank.now c.line_of_words.new.bank c.args.derivation.now c.push.new.self c.in_ok-line_of_words.field-0 _ c.line_of_words.ensures.extends c.requires.rows c.in_ok-line_of_words.ensures.row c.in-Some.is c.in_ok-push-in-Some.ensures.ok
