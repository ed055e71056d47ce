use Rattle.std.proofs.Common.{All, take}
use Rattle.syn_model.specs.Specifications.{MayBeTaken}
use Rattle.syn_model.proofs.listing.may_all_be_taken.Given as goal

abbrev pub invariant-loop-name : goal.invariant-loop-name
invariant-loop-name l = All (MayBeTaken l.theory.decls) (take l.name-index l.names)
