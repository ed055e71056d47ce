use Rattle.std.proofs.Common.{All, take}
use Rattle.syn_form.specs.Inputs.{IsInput}
use Rattle.syn_form.proofs.inputs.are_inputs.Given as goal

abbrev pub invariant-loop-entry : goal.invariant-loop-entry
invariant-loop-entry l = All (IsInput l.syms) (take l.entry-index l.inputs)
