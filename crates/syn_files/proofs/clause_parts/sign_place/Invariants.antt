use Rattle.std.proofs.Common.{All, take}
use Rattle.syn_files.specs.inner.ClauseReading.{IsOther}
use Rattle.syn_files.proofs.clause_parts.sign_place.Given as goal

-- none of the words so far is the sign
abbrev pub invariant-loop-k : goal.invariant-loop-k
invariant-loop-k l = All (IsOther l.sign) (take l.k l.words)
