use Rattle.std.proofs.Common.{All, take}
use Rattle.syn_model.specs.Clauses.{IsVariable}
use Rattle.syn_model.proofs.turns.are_variables.Given as goal

abbrev pub invariant-loop-t : goal.invariant-loop-t
invariant-loop-t l = All IsVariable (take l.t-index l.terms)
