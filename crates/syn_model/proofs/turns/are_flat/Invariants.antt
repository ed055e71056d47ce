use Rattle.std.proofs.Common.{All, take}
use Rattle.syn_term.specs.Terms.{args_of}
use Rattle.syn_model.specs.Clauses.{IsVariable}
use Rattle.syn_model.proofs.turns.are_flat.Given as goal

abbrev pub invariant-loop-t : goal.invariant-loop-t
invariant-loop-t l = All (λ t. All IsVariable (args_of t)) (take l.t-index l.terms)
