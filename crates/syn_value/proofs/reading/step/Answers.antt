use Rattle.std.proofs.Common.{sym, ◌∙◌}
use Rattle.syn_value.proofs.Feeding.{digit_step}
use Rattle.syn_value.proofs.reading.step.Goals as goal

pub returns-then-is_ascii_digit-clause-state : goal.returns-then-is_ascii_digit-clause-state
returns-then-is_ascii_digit-clause-state c =
    digit_step c.args.reader.now c.args.bytes.now c.args.at c.args.end (sym c.is_ascii_digit.ensures.value ∙ c.if-is_ascii_digit.true) c.requires.0 c.requires.1
