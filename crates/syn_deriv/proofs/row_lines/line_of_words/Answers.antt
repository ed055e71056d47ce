use Rattle.std.proofs.Common.{◌≡◌, List, All, None, Some, subst}
use Rattle.std.proofs.lemmas.Result.{IfOk-weaker}
use Rattle.syn_term.specs.Tokens.{Word}
use Rattle.syn_lex.specs.Lexing.{IsTokenWord}
use Rattle.syn_deriv.specs.inner.Firsts.{got}
use Rattle.syn_deriv.specs.inner.StepReading.{front_first}
use Rattle.syn_deriv.proofs.LineLaws.{line_frontless, line_told}
use Rattle.syn_deriv.proofs.row_lines.line_of_words.Goals as goal

pub returns-in-None-clause-told : goal.returns-in-None-clause-told
returns-in-None-clause-told c =
    let here : front_first c.args.number c.from.result ≡ None = rw c.in-None.is at c.in_ok-front.ensures.read in
    line_frontless c.args.start.now c.args.number c.args.words.now (subst (λ (z : List Word). front_first c.args.number z ≡ None) c.from.ensures here)

pub returns-in-Some-clause-told : goal.returns-in-Some-clause-told
returns-in-Some-clause-told c =
    let here : front_first c.args.number c.from.result ≡ Some (got c.in-Some.step c.front.new.self.left) = rw c.in-Some.is at c.in_ok-front.ensures.read in
    let e = subst (λ (z : List Word). front_first c.args.number z ≡ Some (got c.in-Some.step c.front.new.self.left)) c.from.ensures here in
    let each = subst (λ (z : List Word). All IsTokenWord z) c.from.ensures c.front.ensures.each in
    IfOk-weaker c.with_row.result _ _ (λ a h. line_told c.args.start.now c.args.number c.in-Some.step c.front.new.self.left c.args.words.now each e a h) c.with_row.ensures.told
