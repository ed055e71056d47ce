use Rattle.std.proofs.Common.{get_or, arith}
use Rattle.std.proofs.lemmas.Option.{MatchOption-at_none, MatchOption-at_some, slice_get-get_or}
use Rattle.std.proofs.lemmas.Result.{err_from_is_err_and}
use Rattle.syn_parse.specs.inner.Feeding.{told}
use Rattle.syn_parse.proofs.TokenLists.{some_word}
use Rattle.syn_parse.proofs.WordsRead.{read_end, read_more, read_none, read_stopped}
use Rattle.syn_parse.proofs.words_reader.pass_words.Goals as goal

pub returns-in-None : goal.returns-in-None
returns-in-None g c =
    let there = slice_get-get_or c.args.words.now c.loop-k.k some_word (omega arith) in
    read_none (told g.S.Sink.takes c.args.sink.now c.args.items.now c.args.phrases.now) c.args.words.now c.loop-k.k (get_or c.args.words.now c.loop-k.k some_word) there
    (MatchOption-at_none _ _ c.in-None.is c.lexeme_at.ensures _ there)

pub returns-in_err-pass_lexeme-in-Some : goal.returns-in_err-pass_lexeme-in-Some
returns-in_err-pass_lexeme-in-Some g c =
    let l = MatchOption-at_some _ _ _ c.in-Some.is c.lexeme_at.ensures in
    let p = err_from_is_err_and c.from_residual.result c.from_residual.ensures.1 in
    rw (p.1, p.2) (read_stopped (told g.S.Sink.takes c.args.sink.now c.args.items.now c.args.phrases.now) c.args.words.now
    (told g.S.Sink.takes c.loop-k.sink c.loop-k.items c.loop-k.phrases) c.loop-k.k l.0 l.1 c.in-Some.lexeme l.2
    (told g.S.Sink.takes c.pass_lexeme.new.sink c.pass_lexeme.new.items c.pass_lexeme.new.phrases) c.pass_lexeme.result _ c.pass_lexeme.new.sink c.requires c.in_err-pass_lexeme-in-Some.was c.pass_lexeme.ensures c.loop-k.invariant.1)

pub loop-k-preserved : goal.loop-k-preserved
loop-k-preserved g c =
    let l = MatchOption-at_some _ _ _ c.in-Some.is c.lexeme_at.ensures in (
      omega arith,
      read_more (told g.S.Sink.takes c.args.sink.now c.args.items.now c.args.phrases.now) c.args.words.now
          (told g.S.Sink.takes c.loop-k.sink c.loop-k.items c.loop-k.phrases) c.loop-k.k l.0 l.1 c.in-Some.lexeme l.2
          (told g.S.Sink.takes c.pass_lexeme.new.sink c.pass_lexeme.new.items c.pass_lexeme.new.phrases) c.in_ok-pass_lexeme-in-Some.ensures c.loop-k.invariant.1,
    )

pub returns : goal.returns
returns g c =
    read_end (told g.S.Sink.takes c.args.sink.now c.args.items.now c.args.phrases.now) c.args.words.now
    (told g.S.Sink.takes c.loop-k.sink c.loop-k.items c.loop-k.phrases) c.loop-k.k c.requires (omega arith) c.pass_end.result c.pass_end.new.sink c.pass_end.ensures c.loop-k.invariant.1
