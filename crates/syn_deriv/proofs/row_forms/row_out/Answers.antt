use Rattle.std.proofs.Common.{Err, ◌∙◌, ap, subst}
use Rattle.syn_form.specs.Scopes.{TextScope}
use Rattle.syn_form.specs.Texts.{IsOutOf, expression_limit}
use Rattle.syn_form.specs.Trees.{OutTree, bare_out}
use Rattle.syn_expr.specs.TextAnswers.{OneAtMost}
use Rattle.syn_deriv.proofs.RowsTold.{refused}
use Rattle.syn_deriv.proofs.row_forms.row_out.Goals as goal

pub returns-in-Ok-clause-one : goal.returns-in-Ok-clause-one
returns-in-Ok-clause-one c = subst (λ (z : TextScope). OneAtMost (IsOutOf expression_limit z c.args.words.now)) c.row_scope.ensures c.out_of_words.ensures.one

pub returns-in-Err-Refused-clause-told : goal.returns-in-Err-Refused-clause-told
returns-in-Err-Refused-clause-told c = subst (λ (z : TextScope). (a : OutTree) → IsOutOf expression_limit z c.args.words.now a → ⊥) c.row_scope.ensures
    (refused bare_out _ c.out_of_words.result (c.in-Err-Refused.is ∙ ap Err c.in-Err-Refused.field-0-is) c.out_of_words.ensures.answer)
