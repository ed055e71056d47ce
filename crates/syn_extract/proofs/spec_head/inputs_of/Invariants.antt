use Rattle.std.proofs.Common.{◌≡◌, Some, map, take}
use Rattle.syn_term.specs.Symbols.{symbol_at}
use Rattle.syn_model.specs.Heads.{given_param, input_symbol}
use Rattle.syn_extract.proofs.spec_head.inputs_of.Given as goal

abbrev pub invariant-loop-id : goal.invariant-loop-id
invariant-loop-id l = map (λ i. Some (input_symbol (given_param i))) l.done ≡ map (symbol_at l.syms) (take l.id-index l.ids)
