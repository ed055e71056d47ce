use Rattle.std.proofs.Common.{subst}
use Rattle.syn_expr.specs.inner.Accepting.{limit_of}
use Rattle.syn_form.specs.Trees.{bare_out}
use Rattle.syn_parse.specs.Parsing.{IsOutSyntaxOfWords, Parses}
use Rattle.syn_expr.specs.Scopes.{spoken}
use Rattle.syn_expr.proofs.Readers.{out_reader}
use Rattle.syn_expr.proofs.Stands.{answered, answered_belongs, unread}
use Rattle.syn_expr.proofs.read_words.out_in.Goals as goal

pub returns-in-None-clause-answer : goal.returns-in-None-clause-answer
returns-in-None-clause-answer c = unread (out_reader (limit_of c.args.nodes c.args.depth) c.requires (spoken c.args.scope.now) c.args.words.now c.parse_out_words.ensures.one) _ c.in-None.is c.in_ok-parse_out_words.ensures.answer

pub returns-in-Some-clause-answer : goal.returns-in-Some-clause-answer
returns-in-Some-clause-answer c = answered (out_reader (limit_of c.args.nodes c.args.depth) c.requires (spoken c.args.scope.now) c.args.words.now c.parse_out_words.ensures.one) bare_out _ _ c.in-Some.is c.in_ok-parse_out_words.ensures.answer _ c.taken_out-taken.ensures.tree _ c.answer.ensures

pub returns-in-Some-clause-past : goal.returns-in-Some-clause-past
returns-in-Some-clause-past c = λ past. c.taken_out-taken.ensures.past (past _ (subst (Parses (IsOutSyntaxOfWords c.args.words.now)) c.in-Some.is c.in_ok-parse_out_words.ensures.answer))

pub returns-in-Some-clause-belongs : goal.returns-in-Some-clause-belongs
returns-in-Some-clause-belongs c = answered_belongs _ _ c.taken_out-taken.ensures.belongs _ c.answer.ensures
