use Rattle.std.proofs.Common.{Some, subst}
use Rattle.std.proofs.lemmas.Result.{IfOk-weaker}
use Rattle.syn_term.specs.Symbols.{SymbolTable}
use Rattle.syn_form.specs.Texts.{IsOutOf, expression_limit}
use Rattle.syn_form.specs.Trees.{OutTree, bare_out}
use Rattle.syn_expr.specs.Belonging.{FormBelongs-extends, OutBelongs}
use Rattle.syn_expr.specs.TextAnswers.{OneAtMost}
use Rattle.syn_deriv.specs.DerivationLines.{row_scope}
use Rattle.syn_deriv.proofs.RowsTold.{answer_kept, answer_none, answer_some, row_kept, told_none, told_output}
use Rattle.syn_deriv.proofs.row_forms.with_out.Goals as goal

pub returns-in-Ok-Some-clause-told : goal.returns-in-Ok-Some-clause-told
returns-in-Ok-Some-clause-told c =
    let is = subst (λ (z : SymbolTable). IsOutOf expression_limit (row_scope z) c.args.words.now (bare_out c.in-Ok-Some.out)) c.symbols.ensures (answer_some bare_out _ c.row_out.result c.in-Ok-Some.field-0 c.in-Ok-Some.out c.in-Ok-Some.is c.in-Ok-Some.field-0-is c.row_out.ensures.told) in
    let one = subst (λ (z : SymbolTable). OneAtMost (IsOutOf expression_limit (row_scope z) c.args.words.now)) c.symbols.ensures c.row_out.ensures.one in
    IfOk-weaker c.text_row.result _ _ (λ a h. told_output c.args.start.now c.args.side c.args.form c.args.words.now c.in-Ok-Some.out is one a h) c.text_row.ensures

pub returns-in-Ok-Some-clause-row : goal.returns-in-Ok-Some-clause-row
returns-in-Ok-Some-clause-row c =
    let form = FormBelongs-extends _ _ c.args.form c.row_out.ensures.extends c.requires in
    let out = answer_kept (OutBelongs c.row_out.new.bank) c.row_out.result c.in-Ok-Some.field-0 c.in-Ok-Some.out c.in-Ok-Some.is c.in-Ok-Some.field-0-is c.row_out.ensures.belongs in
    IfOk-weaker c.text_row.result _ _ (λ a h. row_kept c.args.start.now c.args.side c.args.form (Some c.in-Ok-Some.out) c.row_out.new.bank a form out h) c.text_row.ensures

pub returns-in-Ok-None-clause-told : goal.returns-in-Ok-None-clause-told
returns-in-Ok-None-clause-told c =
    let none = subst (λ (z : SymbolTable). (o : OutTree) → IsOutOf expression_limit (row_scope z) c.args.words.now o → ⊥) c.symbols.ensures (answer_none bare_out _ c.row_out.result c.in-Ok-None.field-0 c.in-Ok-None.is c.in-Ok-None.field-0-is c.row_out.ensures.told) in
    told_none c.args.start.now c.args.side c.args.form c.args.words.now none
