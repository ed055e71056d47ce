use Rattle.std.proofs.Common.{All}
use Rattle.syn_form_tests.specs.Over.{IsOver}
use Rattle.syn_form_tests.proofs.codes.Pair.first_wrong.Given as goal

abbrev pub invariant-loop-letter : goal.invariant-loop-letter
invariant-loop-letter l = All (IsOver l.self) l.forms
