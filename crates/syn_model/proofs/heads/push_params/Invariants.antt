use Rattle.std.proofs.Common.{◌≡◌, map, take}
use Rattle.syn_model.specs.Heads.{given_param}
use Rattle.syn_model.proofs.heads.push_params.Given as goal

abbrev pub invariant-loop-input : goal.invariant-loop-input
invariant-loop-input l = l.params ≡ map given_param (take l.input-index l.inputs)
