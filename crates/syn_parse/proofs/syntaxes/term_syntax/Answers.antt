use Rattle.syn_parse.specs.inner.Passes.{Gives, term_from}
use Rattle.syn_parse.proofs.LastPass.{answered}
use Rattle.syn_parse.proofs.syntaxes.term_syntax.Goals as goal

pub returns-clause-gives : goal.returns-clause-gives
returns-clause-gives c = answered (Gives term_from c.args.words.now) _ _ c.term_in.ensures.answer c.answer.ensures
