use Rattle.syn_term.proofs.OneSpelling.{one_spelling}
use Rattle.syn_term.proofs.Spaced.{spaced_words}
use Rattle.syn_lex.proofs.OneAnswer.{one_answer}
use Rattle.syn_lex.proofs.Spelling.{lexed_spelled, where_ok}
use Rattle.syn_lex.proofs.NotSpelled.{where_err, without}
use Rattle.syn_lex.proofs.ByGrammar.{by_grammar, lexed_longest, account}
use Rattle.syn_lex.proofs.lexer.tokens.Goals as goal

pub returns-clause-grammar : goal.returns-clause-grammar
returns-clause-grammar c = by_grammar c.args.line.now (λ found. found.items) c.scan.result c.scan.ensures

pub returns-clause-account : goal.returns-clause-account
returns-clause-account c = account

pub returns-clause-one : goal.returns-clause-one
returns-clause-one c = one_answer c.args.line.now

pub returns-clause-words : goal.returns-clause-words
returns-clause-words c = where_ok c.scan.result _ _ _ (λ found h. lexed_spelled c.args.line.now found.items h) c.scan.ensures

pub returns-clause-without : goal.returns-clause-without
returns-clause-without c = where_err c.scan.result _ _ _ (without c.args.line.now) c.scan.ensures

pub returns-clause-one_spelling : goal.returns-clause-one_spelling
returns-clause-one_spelling c = one_spelling c.args.line.now

pub returns-clause-each : goal.returns-clause-each
returns-clause-each c = where_ok c.scan.result _ _ _ (λ found h. lexed_longest c.args.line.now found.items h) c.scan.ensures

pub returns-clause-spaced : goal.returns-clause-spaced
returns-clause-spaced c = spaced_words
