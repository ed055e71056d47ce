use Rattle.std.proofs.Common.{List, map, ◌∙◌, ap, subst}
use Rattle.syn_term.specs.Terms.{bare}
use Rattle.syn_form.specs.Scopes.{Named}
use Rattle.syn_form.specs.Texts.{IsTermOf, expression_limit}
use Rattle.syn_expr.specs.Scopes.{listed}
use Rattle.syn_expr.specs.TextAnswers.{OneAtMost}
use Rattle.syn_model.specs.Heads.{given_param}
use Rattle.syn_files.specs.TheoryLines.{file_scope}
use Rattle.syn_files.proofs.OrderLaws.{no_term}
use Rattle.syn_files.proofs.order_lines.measure_of.Goals as goal

pub returns-in-Ok-clause-told : goal.returns-in-Ok-clause-told
returns-in-Ok-clause-told c =
    let names = ap listed c.as_slice.ensures.value ∙ c.in_ok-names.ensures in (
      subst (λ (ns : List Named). IsTermOf expression_limit (file_scope c.args.syms.now ns) c.args.words.now (bare c.in-Ok.term)) names c.in-Ok.ensures.answer,
      subst (λ (ns : List Named). OneAtMost (IsTermOf expression_limit (file_scope c.args.syms.now ns) c.args.words.now)) names c.term_of_words.ensures.one,
    )

pub returns-in-Err-Refused-clause-told : goal.returns-in-Err-Refused-clause-told
returns-in-Err-Refused-clause-told c =
    no_term c.args.syms.now (map given_param c.args.params.now) c.args.words.now _ (ap listed c.as_slice.ensures.value ∙ c.in_ok-names.ensures) (rw c.in-Err-Refused.field-0-is at c.in-Err-Refused.ensures.answer)
