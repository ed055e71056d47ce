use Rattle.std.proofs.Common.{arith}
use Rattle.std.proofs.lemmas.Option.{MatchOption-at_none, MatchOption-at_some}
use Rattle.syn_form.specs.Trees.{bare_out}
use Rattle.syn_lex.proofs.Spelling.{lent_spelled}
use Rattle.syn_form.specs.Texts.{IsOutOf, expression_limit}
use Rattle.syn_parse.specs.Parsing.{IsOutSyntaxOfWords}
use Rattle.syn_parse.proofs.TextParses.{none_spelled}
use Rattle.syn_expr.specs.Scopes.{spoken}
use Rattle.syn_expr.proofs.TextReads.{one_out_read, text_answered, words_past}
use Rattle.syn_expr.proofs.read.read_out.Goals as goal

pub returns-in-None-clause-answer : goal.returns-in-None-clause-answer
returns-in-None-clause-answer c =
    none_spelled (IsOutOf expression_limit (spoken c.args.scope.now)) c.args.text.now _ c.as_bytes-line.ensures.value (MatchOption-at_none _ _ c.in-None.is c.in_ok-line_tokens.ensures.words)

pub returns-in-Some-clause-answer : goal.returns-in-Some-clause-answer
returns-in-Some-clause-answer c =
    let spelled = lent_spelled _ c.args.text.now _ _ _ c.as_bytes-line.ensures.value c.as_slice.ensures.value c.new.ensures (MatchOption-at_some _ _ _ c.in-Some.is c.in_ok-line_tokens.ensures.words) in
    text_answered bare_out (IsOutOf expression_limit (spoken c.args.scope.now)) c.args.text.now _ spelled _ c.out_of_words.ensures.answer

pub returns-in-Some-clause-past : goal.returns-in-Some-clause-past
returns-in-Some-clause-past c = λ past.
    let spelled = lent_spelled _ c.args.text.now _ _ _ c.as_bytes-line.ensures.value c.as_slice.ensures.value c.new.ensures (MatchOption-at_some _ _ _ c.in-Some.is c.in_ok-line_tokens.ensures.words) in
    c.out_of_words.ensures.past (words_past IsOutSyntaxOfWords c.args.text.now _ _ _ _ spelled past)

pub returns-in_err-line_tokens-clause-one : goal.returns-in_err-line_tokens-clause-one
returns-in_err-line_tokens-clause-one c = one_out_read expression_limit (omega arith) (spoken c.args.scope.now) c.args.text.now

pub returns-in-None-clause-one : goal.returns-in-None-clause-one
returns-in-None-clause-one c = one_out_read expression_limit (omega arith) (spoken c.args.scope.now) c.args.text.now

pub returns-in-Some-clause-one : goal.returns-in-Some-clause-one
returns-in-Some-clause-one c = one_out_read expression_limit (omega arith) (spoken c.args.scope.now) c.args.text.now
