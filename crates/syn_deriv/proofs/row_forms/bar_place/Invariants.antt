use Rattle.std.proofs.Common.{All, codes, take}
use Rattle.syn_deriv.specs.inner.Telling.{IsOther}
use Rattle.syn_deriv.proofs.row_forms.bar_place.Given as goal

-- none of the words so far is a bar
abbrev pub invariant-loop-k : goal.invariant-loop-k
invariant-loop-k l = All (IsOther (codes "|")) (take l.k l.words)
