use Rattle.std.proofs.Common.{[]}
use Rattle.std.proofs.lemmas.Result.{err_from_is_err_and}
use Rattle.syn_parse.proofs.PhrasesFed.{ended_fed, unended_fed}
use Rattle.syn_parse.proofs.words_reader.pass_end.Goals as goal

pub returns-in_err-pass_phrases : goal.returns-in_err-pass_phrases
returns-in_err-pass_phrases g c =
    let p = err_from_is_err_and c.from_residual-in_err-pass_phrases.result c.from_residual-in_err-pass_phrases.ensures.1 in
    rw (p.1, p.2) (unended_fed g.S.Sink.takes c.args.sink.now c.pass_phrases.new.sink c.args.items.now c.pass_phrases.new.items c.args.phrases.now c.in_ok-finish.ensures
    c.pass_phrases.result _ c.pass_phrases.new.sink c.in_err-pass_phrases.was (c.pass_phrases.ensures.fed []))

pub returns : goal.returns
returns g c =
    ended_fed g.S.Sink.takes c.args.sink.now c.pass_phrases.new.sink c.args.items.now c.pass_phrases.new.items c.args.phrases.now c.in_ok-finish.ensures
    c.pass_last.result c.pass_last.new.sink (c.in_ok-pass_phrases.ensures.fed []) c.pass_last.ensures
