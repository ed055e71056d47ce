use Rattle.std.proofs.Common.{Err, ◌∙◌, ap, subst}
use Rattle.syn_form.specs.Scopes.{TextScope}
use Rattle.syn_form.specs.Texts.{IsFormOf, expression_limit}
use Rattle.syn_form.specs.Trees.{FormTree, bare_form}
use Rattle.syn_expr.specs.TextAnswers.{OneAtMost}
use Rattle.syn_deriv.proofs.RowsTold.{refused}
use Rattle.syn_deriv.proofs.row_forms.row_form.Goals as goal

pub returns-in-Ok-clause-one : goal.returns-in-Ok-clause-one
returns-in-Ok-clause-one c = subst (λ (z : TextScope). OneAtMost (IsFormOf expression_limit z c.args.words.now)) c.row_scope.ensures c.form_of_words.ensures.one

pub returns-in-Err-Refused-clause-told : goal.returns-in-Err-Refused-clause-told
returns-in-Err-Refused-clause-told c = subst (λ (z : TextScope). (a : FormTree) → IsFormOf expression_limit z c.args.words.now a → ⊥) c.row_scope.ensures
    (refused bare_form _ c.form_of_words.result (c.in-Err-Refused.is ∙ ap Err c.in-Err-Refused.field-0-is) c.form_of_words.ensures.answer)
