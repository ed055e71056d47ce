use Rattle.syn_parse.proofs.PhrasesFed.{lexeme_fed, plain_fed}
use Rattle.syn_parse.proofs.words_reader.pass_lexeme.Goals as goal

pub returns : goal.returns
returns g c = λ more.
    lexeme_fed g.S.Sink.takes c.args.sink.now c.pass_phrases.new.sink c.args.items.now c.pass_phrases.new.items c.args.phrases.now c.step.new.self c.args.lexeme more c.pass_phrases.result c.pass_phrases.new.phrases
    c.in_ok-step.ensures c.pass_phrases.ensures.fed c.pass_phrases.ensures.rest

pub returns-then-is_plain : goal.returns-then-is_plain
returns-then-is_plain g c = λ more.
    let plain = c.is_plain.ensures c.if-is_plain.true in
    plain_fed g.S.Sink.takes c.args.sink.now c.pass.new.sink c.args.items.now c.pass.new.self c.args.phrases.now c.args.lexeme more c.pass.result plain.0 plain.1 c.pass.ensures
