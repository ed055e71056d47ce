use Rattle.std.proofs.Common.{map, take}
use Rattle.syn_model.specs.Heads.{AreDistinct}
use Rattle.syn_files.specs.inner.ClauseReading.{text_of}
use Rattle.syn_files.proofs.clause_fronts.are_distinct.Given as goal

abbrev pub invariant-loop-i : goal.invariant-loop-i
invariant-loop-i l = AreDistinct (map text_of (take l.i l.names))
