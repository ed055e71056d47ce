use Rattle.std.proofs.Common.{All, take}
use Rattle.syn_term.specs.Symbols.{IsSort}
use Rattle.syn_model.specs.Heads.{given_sort}
use Rattle.syn_model.proofs.heads.have_sorts.Given as goal

abbrev pub invariant-loop-input : goal.invariant-loop-input
invariant-loop-input l = All (λ p. IsSort l.syms (given_sort p)) (take l.input-index l.inputs)
