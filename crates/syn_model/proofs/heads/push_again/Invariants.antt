use Rattle.std.proofs.Common.{◌≡◌, take}
use Rattle.syn_model.proofs.heads.push_again.Given as goal

abbrev pub invariant-loop-param : goal.invariant-loop-param
invariant-loop-param l = l.copies ≡ take l.param-index l.params
