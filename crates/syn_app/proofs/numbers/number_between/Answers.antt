use Rattle.std.proofs.Common.{arith}
use Rattle.syn_app.proofs.NumberTexts.{outside}
use Rattle.syn_app.proofs.numbers.number_between.Goals as goal
use Rattle.syn_app.proofs.numbers.number_between.Goals.{else-least-number-via-then-least-number+else-number-most, else-least-number-via-else-least-number}

pub returns-else-least-number : goal.returns-else-least-number
returns-else-least-number c =
    outside c.args.word.now c.in-Some.number c.args.least c.args.most c.requires c.in-Some.ensures.0 c.in-Some.ensures.1
    (elim c.else-least-number.branch [
      | else-least-number-via-then-least-number+else-number-most w ↦ λ lo hi. omega arith
      | else-least-number-via-else-least-number w ↦ λ lo hi. omega arith
    ])
