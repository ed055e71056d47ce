use Rattle.std.proofs.Common.{sym, ◌∙◌, true≢false}
use Rattle.syn_term.proofs.NumberLemmas.{not_read, read_only}
use Rattle.syn_term.proofs.names.decimal_number.Goals as goal

pub returns-in-Err : goal.returns-in-Err
returns-in-Err c = not_read c.args.text.now c.parse.result c.in-Err.field-0 c.parse.ensures.value.0 c.in-Err.is

pub returns-else-is_written : goal.returns-else-is_written
returns-else-is_written c =
    read_only c.args.text.now c.parse.result c.in-Ok.number c.parse.ensures.value.0 c.in-Ok.is
    (λ e. true≢false (sym (c.is_written.ensures.1 e) ∙ c.if-is_written.false))
