use Rattle.std.proofs.Common.{arith}
use Rattle.syn_value.proofs.Numbers.{too_great}
use Rattle.syn_value.proofs.digits.small_number.Goals as goal

pub returns-then-number-gt-GREATEST_NUMBER : goal.returns-then-number-gt-GREATEST_NUMBER
returns-then-number-gt-GREATEST_NUMBER c = too_great c.args.text.now _ c.in-Some.ensures (omega (arith, c.if-number-gt-GREATEST_NUMBER.true))
