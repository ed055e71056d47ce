use Rattle.syn_deriv.proofs.NumberLaws.{number_none, number_some}
use Rattle.syn_deriv.proofs.cursor.small_number.Goals as goal

pub returns-then-number-lt-NUMBER_END : goal.returns-then-number-lt-NUMBER_END
returns-then-number-lt-NUMBER_END c = number_some c.args.digits.now c.in-Some.number c.in-Some.ensures.1 c.in-Some.ensures.0 c.if-number-lt-NUMBER_END.true

pub returns-else-number-lt-NUMBER_END : goal.returns-else-number-lt-NUMBER_END
returns-else-number-lt-NUMBER_END c = number_none c.args.digits.now c.in-Some.number c.in-Some.ensures.1 c.in-Some.ensures.0 c.if-number-lt-NUMBER_END.false
