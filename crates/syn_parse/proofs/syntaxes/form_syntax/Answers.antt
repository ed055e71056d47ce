use Rattle.syn_parse.specs.inner.Passes.{Gives, form_from}
use Rattle.syn_parse.proofs.LastPass.{answered}
use Rattle.syn_parse.proofs.syntaxes.form_syntax.Goals as goal

pub returns-clause-gives : goal.returns-clause-gives
returns-clause-gives c = answered (Gives form_from c.args.words.now) _ _ c.form_in.ensures.answer c.answer.ensures
