-- A text is read as its words are.
use Rattle.std.proofs.Common.{ℕ, ◌≤◌, List, Result, Ok, Err, subst}
use Rattle.syn_term.specs.Tokens.{Word, Spelled}
use Rattle.syn_term.proofs.OneSpelling.{one_spelling}
use Rattle.syn_form.specs.Scopes.{TextScope}
use Rattle.syn_form.specs.Texts.{IsFormOf, IsOutOf, IsQFormOf, IsTermOf, IsTextOf, Limit}
use Rattle.syn_parse.proofs.Parses.{one_form_syntax, one_out_syntax, one_term_syntax}
use Rattle.syn_parse.proofs.TextParses.{one_text}
use Rattle.syn_expr.specs.declared.error.ExprError.{ExprError}
use Rattle.syn_expr.specs.declared.error.ExprError.TheVariants as error
use Rattle.syn_expr.specs.TextAnswers.{AnswersReading, ArePast, OneAtMost}
use Rattle.syn_expr.proofs.Readers.{form_reader, out_reader, qform_reader, term_reader}
use Rattle.syn_expr.proofs.Stands.{one_stands}

pub text_answered : {T : Type 0} (bare : T → T) (Stands : List Word → T → Type 0) (text : List ℕ) (ws : List Word) → Spelled text ws → (r : Result T ExprError) → AnswersReading bare (Stands ws) r → AnswersReading bare (IsTextOf Stands text) r
text_answered bare Stands text ws spelled (Ok t) h = record { words = ws; spelled = spelled; stands = h }
text_answered bare Stands text ws spelled (Err error.Refused) h = λ t k. h t (subst (λ (z : List Word). Stands z t) (one_spelling text k.words ws k.spelled spelled) k.stands)
text_answered bare Stands text ws spelled (Err error.NoMemory) h = tt

-- where all syntax trees of a text are past the limit, those of its words are
pub words_past : {S : Type 0} (Is : List Word → S → Type 0) (text : List ℕ) (ws : List Word) (nodes depth : S → ℕ) (limit : Limit) → Spelled text ws → ArePast (IsTextOf Is text) nodes depth limit → ArePast (Is ws) nodes depth limit
words_past Is text ws nodes depth limit spelled past s is = past s (record { words = ws; spelled = spelled; stands = is })

module _ (limit : Limit) (low : limit.depth ≤ 1264) (scope : TextScope) (text : List ℕ) where
  pub one_term_read : OneAtMost (IsTextOf (IsTermOf limit scope) text)
  one_term_read = one_text (IsTermOf limit scope) text (λ ws each. one_stands (term_reader limit low scope ws (one_term_syntax ws each)))

  pub one_form_read : OneAtMost (IsTextOf (IsFormOf limit scope) text)
  one_form_read = one_text (IsFormOf limit scope) text (λ ws each. one_stands (form_reader limit low scope ws (one_form_syntax ws each)))

  pub one_qform_read : OneAtMost (IsTextOf (IsQFormOf limit scope) text)
  one_qform_read = one_text (IsQFormOf limit scope) text (λ ws each. one_stands (qform_reader limit low scope ws (one_form_syntax ws each)))

  pub one_out_read : OneAtMost (IsTextOf (IsOutOf limit scope) text)
  one_out_read = one_text (IsOutOf limit scope) text (λ ws each. one_stands (out_reader limit low scope ws (one_out_syntax ws each)))
