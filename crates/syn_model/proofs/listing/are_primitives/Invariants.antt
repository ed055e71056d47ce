use Rattle.std.proofs.Common.{All, take}
use Rattle.syn_model.specs.Specifications.{MayBePrimitive, NamesSymbol}
use Rattle.syn_model.proofs.listing.are_primitives.Given as goal

abbrev pub invariant-loop-name : goal.invariant-loop-name
invariant-loop-name l = All (NamesSymbol l.syms MayBePrimitive) (take l.name-index l.names)
