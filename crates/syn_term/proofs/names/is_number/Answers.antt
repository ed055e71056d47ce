use Rattle.std.proofs.Common.{◌<◌, arith}
use Rattle.std.proofs.lemmas.Bool.Decides.{nat_tests}
use Rattle.syn_term.proofs.NumberLemmas.{number_bounds}
use Rattle.syn_term.proofs.names.is_number.Goals as goal

pub returns-then-number-gt0 : goal.returns-then-number-gt0
returns-then-number-gt0 c =
    let positive : 0 < c.in-Some.number = c.if-number-gt0.true in (
      (λ h. record { number = c.in-Some.number; positive = positive; small = grind (arith, nat_tests); is = c.in-Some.ensures.1 }),
      (λ is. let b = number_bounds c.args.text.now c.in-Some.number c.in-Some.ensures.0 c.in-Some.ensures.1 is in grind (arith, nat_tests)),
    )

pub returns-else-number-gt0 : goal.returns-else-number-gt0
returns-else-number-gt0 c = (
  (λ h. absurd (grind (arith, nat_tests))),
  (λ is. let b = number_bounds c.args.text.now c.in-Some.number c.in-Some.ensures.0 c.in-Some.ensures.1 is in grind (arith, nat_tests)),
)
