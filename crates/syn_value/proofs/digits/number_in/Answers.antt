use Rattle.std.proofs.Common.{arith}
use Rattle.syn_value.proofs.Numbers.{number_long, number_no_text, number_some}
use Rattle.syn_value.proofs.digits.number_in.Goals as goal

pub returns-then-digits-gt-MOST_DIGITS : goal.returns-then-digits-gt-MOST_DIGITS
returns-then-digits-gt-MOST_DIGITS c = number_long c.args.digits.now (omega (arith, c.if-digits-gt-MOST_DIGITS.true))

pub returns-in-Err : goal.returns-in-Err
returns-in-Err c = number_no_text c.args.digits.now c.in-Err.ensures.cases.0

pub returns-in-Some : goal.returns-in-Some
returns-in-Some c = number_some c.args.digits.now c.in-Ok.text.now _ _ c.in-Ok.ensures.cases.0 c.in-Some.ensures c.from.ensures
