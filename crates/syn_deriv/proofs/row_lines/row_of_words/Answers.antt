use Rattle.std.proofs.Common.{◌≡◌, List, Some, subst}
use Rattle.std.proofs.lemmas.Result.{IfOk-weaker}
use Rattle.syn_term.specs.Tokens.{Word}
use Rattle.syn_deriv.specs.inner.Firsts.{got}
use Rattle.syn_deriv.specs.inner.StepReading.{side_first}
use Rattle.syn_deriv.proofs.LineLaws.{row_told}
use Rattle.syn_deriv.proofs.row_lines.row_of_words.Goals as goal

pub returns-in-Some-clause-told : goal.returns-in-Some-clause-told
returns-in-Some-clause-told c =
    let here : side_first c.from.result ≡ Some (got c.in-Some.side c.side.new.self.left) = rw c.in-Some.is at c.side.ensures in
    let e = subst (λ (z : List Word). side_first z ≡ Some (got c.in-Some.side c.side.new.self.left)) c.from.ensures here in
    IfOk-weaker c.row_behind.result _ _ (λ a h. row_told c.args.start.now c.in-Some.side c.side.new.self.left c.args.words.now e a h) c.row_behind.ensures.told
