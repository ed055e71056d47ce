use Rattle.syn_parse.specs.inner.Passes.{Gives, out_from}
use Rattle.syn_parse.proofs.LastPass.{answered}
use Rattle.syn_parse.proofs.syntaxes.out_syntax.Goals as goal

pub returns-clause-gives : goal.returns-clause-gives
returns-clause-gives c = answered (Gives out_from c.args.words.now) _ _ c.out_in.ensures.answer c.answer.ensures
