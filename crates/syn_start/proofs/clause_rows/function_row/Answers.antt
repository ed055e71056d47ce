use Rattle.std.proofs.Common.{◌≡◌, Some}
use Rattle.std.proofs.lemmas.Result.{IfOk-weaker}
use Rattle.syn_form.proofs.InputTerms.{refused}
use Rattle.syn_start.proofs.ClauseForms.{call_plain}
use Rattle.syn_start.proofs.MadeAgain.{applies_along}
use Rattle.syn_start.proofs.RowsOfClauses.{called_exactly, made_call}
use Rattle.syn_start.proofs.clause_rows.function_row.Goals as goal

pub equality_row-made-requires : goal.equality_row-made-requires
equality_row-made-requires c =
    let is : c.in-Ok-Some.field-0 ≡ Some c.in-Ok-Some.call = cc in
    call_plain c.args.f c.args.args.now c.args.body.now c.in-Ok-Some.call (made_call c.args.syms.now c.args.f c.args.args.now c.in_ok-parts.parts c.in-Ok-Some.field-0 c.in-Ok-Some.call is c.in-Ok-Some.ensures.tree c.in_ok-parts.ensures.tree) c.args.syms.now c.requires

pub unreachable-requires : goal.unreachable-requires
unreachable-requires c = refused _ _ _ c.in-Ok-None.field-0-is c.in-Ok-None.ensures.tree (applies_along c.args.syms.now c.args.f c.args.args.now c.in_ok-parts.parts c.in_ok-parts.ensures.tree c.requires.applies)

pub returns-in-Ok-Some-clause-row : goal.returns-in-Ok-Some-clause-row
returns-in-Ok-Some-clause-row c =
    let is : c.in-Ok-Some.field-0 ≡ Some c.in-Ok-Some.call = cc in
    let call = made_call c.args.syms.now c.args.f c.args.args.now c.in_ok-parts.parts c.in-Ok-Some.field-0 c.in-Ok-Some.call is c.in-Ok-Some.ensures.tree c.in_ok-parts.ensures.tree in
    IfOk-weaker c.equality_row-made.result _ _ (λ o h. called_exactly c.args.f c.args.args.now c.args.body.now c.in-Ok-Some.call o call h) c.equality_row-made.ensures.row
