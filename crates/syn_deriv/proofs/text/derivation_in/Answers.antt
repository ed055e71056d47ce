use Rattle.std.proofs.Common.{Bor, ◌≡◌, ◌<◌, List, ℕ, None, length, map, subst, arith}
use Rattle.std.proofs.lemmas.List.{length-map, take_all}
use Rattle.syn_lex.specs.Stepping.{Lead}
use Rattle.syn_term.specs.Bank.{Extends-trans}
use Rattle.syn_deriv.specs.DerivationLines.{DerivationLine, IsBegun}
use Rattle.syn_deriv.specs.inner.Telling.{seen}
use Rattle.syn_deriv.proofs.DerivationSteps.{derivation_lines_once}
use Rattle.syn_deriv.proofs.TextLoop.{led_on, refused_at}
use Rattle.syn_deriv.proofs.text.derivation_in.Goals as goal

abbrev count : (items : List (Bor (List ℕ))) → length (map (λ line. line.now) items) ≡ length items
count items = length-map items (λ line. line.now)

pub returns-in-Ok-false-clause-answer : goal.returns-in-Ok-false-clause-answer
returns-in-Ok-false-clause-answer c = λ bytes cut.
    let n : length (map (λ line. line.now) c.args.cut.now.lines.items) ≡ length c.args.cut.now.lines.items = count c.args.cut.now.lines.items in
    let lt : c.loop-i.i < length (map (λ line. line.now) c.args.cut.now.lines.items) = omega (arith, n, c.len-i-end.ensures, c.loop-i-test.true) in
    refused_at (DerivationLine c.args.start.now) (derivation_lines_once c.args.start.now) None IsBegun bytes _ _ cut c.loop-i.i c.line_at.result.now (seen c.loop-i.progress.derivation) lt c.line_at.ensures c.loop-i.invariant.led (rw c.in-Ok-false.field-0-test at c.in-Ok-false.ensures.taken)

pub loop-i-preserved : goal.loop-i-preserved
loop-i-preserved c =
    let n : length (map (λ line. line.now) c.args.cut.now.lines.items) ≡ length c.args.cut.now.lines.items = count c.args.cut.now.lines.items in
    let lt : c.loop-i.i < length (map (λ line. line.now) c.args.cut.now.lines.items) = omega (arith, n, c.len-i-end.ensures, c.loop-i-test.true) in
    record {
      led = led_on (DerivationLine c.args.start.now) (derivation_lines_once c.args.start.now) None IsBegun _ c.loop-i.i c.line_at.result.now (seen c.loop-i.progress.derivation) _ lt c.line_at.ensures c.loop-i.invariant.led (rw c.in-Ok-true.field-0-test at c.in-Ok-true.ensures.taken);
      rows = c.take_line.ensures.rows;
      extends = Extends-trans _ _ _ c.loop-i.invariant.extends c.take_line.ensures.extends;
    }

pub returns-clause-answer : goal.returns-clause-answer
returns-clause-answer c = λ bytes cut.
    let n : length (map (λ line. line.now) c.args.cut.now.lines.items) ≡ length c.args.cut.now.lines.items = count c.args.cut.now.lines.items in
    c.finished.ensures.answer c.args.start.now bytes cut (subst (λ z. Lead (DerivationLine c.args.start.now) None z (seen c.loop-i.progress.derivation)) (take_all c.loop-i.i _ (omega (arith, n, c.len-i-end.ensures, c.loop-i-test.false))) c.loop-i.invariant.led)

pub returns-clause-rows : goal.returns-clause-rows
returns-clause-rows c = c.finished.ensures.rows c.args.start.now c.loop-i.bank c.loop-i.invariant.rows
