use Rattle.std.proofs.Common.{◌≡◌, ◌++◌, List, length}
use Rattle.syn_parse.specs.declared.phrase_reader.Phrase.{Phrase}
use Rattle.syn_parse.specs.inner.Feeding.{fed}
use Rattle.syn_parse.proofs.words_reader.pass_phrases.Given as goal

-- what is left leads where all phrases lead
abbrev pub invariant-loop-phrase : goal.invariant-loop-phrase
invariant-loop-phrase g l = (more : List Phrase) → fed g.S.Sink.takes l.sink l.items (l.phrases ++ more) ≡ fed g.S.Sink.takes l.fn.sink l.fn.items (l.fn.phrases ++ more)

abbrev pub decreases-loop-phrase : goal.decreases-loop-phrase
decreases-loop-phrase g l = length l.phrases
