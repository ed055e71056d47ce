use Rattle.std.proofs.Common.{IfOk, List, subst}
use Rattle.std.proofs.lemmas.Result.{IfOk-weaker}
use Rattle.syn_term.specs.Tokens.{Word}
use Rattle.syn_form.specs.Texts.{IsFormOf, expression_limit}
use Rattle.syn_form.specs.Trees.{FormTree, bare_form}
use Rattle.syn_row.specs.Rows.{bare_row}
use Rattle.syn_expr.specs.TextAnswers.{OneAtMost}
use Rattle.syn_deriv.specs.DerivationLines.{row_scope}
use Rattle.syn_deriv.specs.inner.Telling.{Tells, WritesBack}
use Rattle.syn_deriv.proofs.RowsTold.{over_words, tells_none, tells_some, told_behind, told_formless}
use Rattle.syn_deriv.proofs.row_forms.row_behind.Goals as goal

pub returns-in-None-clause-told : goal.returns-in-None-clause-told
returns-in-None-clause-told c =
    let none = over_words (λ t ws. (f : FormTree) → IsFormOf expression_limit (row_scope t) ws f → ⊥) c.symbols.result.now c.args.start.now.spec.table c.until.result _ c.symbols.ensures c.until.ensures (tells_none bare_form _ c.in_ok-row_form.field-0 c.in-None.is c.in_ok-row_form.ensures.told) in
    told_formless c.args.start.now c.args.side c.args.words.now c.bar_place-place.result c.bar_place-place.ensures none

pub returns-in-Some-clause-told : goal.returns-in-Some-clause-told
returns-in-Some-clause-told c =
    let is = over_words (λ t ws. IsFormOf expression_limit (row_scope t) ws (bare_form c.in-Some.form)) c.symbols.result.now c.args.start.now.spec.table c.until.result _ c.symbols.ensures c.until.ensures (tells_some bare_form _ c.in_ok-row_form.field-0 c.in-Some.form c.in-Some.is c.in_ok-row_form.ensures.told) in
    let one = over_words (λ t ws. OneAtMost (IsFormOf expression_limit (row_scope t) ws)) c.symbols.result.now c.args.start.now.spec.table c.until.result _ c.symbols.ensures c.until.ensures c.row_form.ensures.one in
    let told = subst (λ (z : List Word). IfOk c.with_back.result (Tells bare_row (WritesBack c.args.start.now c.args.side (bare_form c.in-Some.form) z))) c.from.ensures c.with_back.ensures.told in
    IfOk-weaker c.with_back.result _ _ (λ a h. told_behind c.args.start.now c.args.side c.args.words.now c.bar_place-place.result c.bar_place-place.ensures c.in-Some.form is one a h) told
