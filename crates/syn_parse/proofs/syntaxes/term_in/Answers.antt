use Rattle.syn_parse.specs.inner.Passes.{term_step, term_start, term_ended}
use Rattle.syn_parse.proofs.LastPass.{ended_gives, stopped_gives}
use Rattle.syn_parse.proofs.syntaxes.term_in.Goals as goal

pub returns-in-Ok-clause-answer : goal.returns-in-Ok-clause-answer
returns-in-Ok-clause-answer c = ended_gives term_step term_start term_ended c.args.words.now _ _ c.new-reader.ensures _ c.in-Ok.ensures.answer c.end-term.ensures

pub returns-in-Err-clause-answer : goal.returns-in-Err-clause-answer
returns-in-Err-clause-answer c = stopped_gives term_step term_start term_ended c.args.words.now _ _ c.new-reader.ensures c.in-Err.stop c.in-Err.ensures.answer
