use Rattle.std.proofs.Common.{◌+◌, ◌≤◌, arith}
use Rattle.std.proofs.lemmas.Bool.Decides.{nat_tests}
use Rattle.syn_app.proofs.SpecTexts.{fits_condition, condition_size}
use Rattle.syn_app.proofs.spec_text.fits.Goals as goal

pub returns-then-size-le-MOST_NODES : goal.returns-then-size-le-MOST_NODES
returns-then-size-le-MOST_NODES c =
    let n : c.size_of-size.result + 2 ≤ 4096 = omega arith in (
      (λ h. fits_condition c.size_of-size.result c.args.term.now c.size_of-size.ensures.nodes c.size_of-size.ensures.depth n (grind (arith, nat_tests))),
      (λ h. let s = condition_size c.size_of-size.result c.args.term.now c.size_of-size.ensures.nodes c.size_of-size.ensures.depth h in grind (arith, nat_tests)),
    )
