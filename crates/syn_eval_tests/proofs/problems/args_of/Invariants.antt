use Rattle.std.proofs.Common.{IsUtf8, ◌^◌}
use Rattle.syn_eval.specs.Ending.{AllFit}
use Rattle.syn_eval_tests.proofs.problems.args_of.Given as goal

abbrev pub invariant-loop-id : goal.invariant-loop-id
invariant-loop-id l = AllFit (2 ^ 32) l.values × IsUtf8 l.rest
