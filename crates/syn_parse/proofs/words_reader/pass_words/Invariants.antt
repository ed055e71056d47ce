use Rattle.std.proofs.Common.{◌-◌, ◌≤◌, length}
use Rattle.syn_parse.specs.inner.Feeding.{told}
use Rattle.syn_parse.proofs.WordsRead.{Read}
use Rattle.syn_parse.proofs.words_reader.pass_words.Given as goal

-- the words so far are lexemes, and what is left leads where all lead
abbrev pub invariant-loop-k : goal.invariant-loop-k
invariant-loop-k g l = (l.k ≤ length l.words) × Read (told g.S.Sink.takes l.fn.sink l.fn.items l.fn.phrases) (told g.S.Sink.takes l.sink l.items l.phrases) l.words l.k

abbrev pub decreases-loop-k : goal.decreases-loop-k
decreases-loop-k g l = length l.words - l.k
