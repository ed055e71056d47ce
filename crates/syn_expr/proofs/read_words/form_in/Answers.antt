use Rattle.std.proofs.Common.{arith, subst}
use Rattle.syn_form.specs.Texts.{expression_limit}
use Rattle.syn_form.specs.Trees.{bare_form}
use Rattle.syn_parse.specs.Parsing.{IsFormSyntaxOfWords, Parses}
use Rattle.syn_expr.specs.Scopes.{spoken}
use Rattle.syn_expr.proofs.Readers.{form_reader}
use Rattle.syn_expr.proofs.Stands.{answered, answered_belongs, unread}
use Rattle.syn_expr.proofs.read_words.form_in.Goals as goal

pub returns-in-None-clause-answer : goal.returns-in-None-clause-answer
returns-in-None-clause-answer c = unread (form_reader expression_limit (omega arith) (spoken c.args.scope.now) c.args.words.now c.parse_form_words.ensures.one) _ c.in-None.is c.in_ok-parse_form_words.ensures.answer

pub returns-in-Some-clause-answer : goal.returns-in-Some-clause-answer
returns-in-Some-clause-answer c = answered (form_reader expression_limit (omega arith) (spoken c.args.scope.now) c.args.words.now c.parse_form_words.ensures.one) bare_form _ _ c.in-Some.is c.in_ok-parse_form_words.ensures.answer _ c.taken_form-taken.ensures.tree _ c.answer.ensures

pub returns-in-Some-clause-past : goal.returns-in-Some-clause-past
returns-in-Some-clause-past c = λ past. c.taken_form-taken.ensures.past (past _ (subst (Parses (IsFormSyntaxOfWords c.args.words.now)) c.in-Some.is c.in_ok-parse_form_words.ensures.answer))

pub returns-in-Some-clause-belongs : goal.returns-in-Some-clause-belongs
returns-in-Some-clause-belongs c = answered_belongs _ _ c.taken_form-taken.ensures.belongs _ c.answer.ensures
