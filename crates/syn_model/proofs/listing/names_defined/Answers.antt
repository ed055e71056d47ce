use Rattle.syn_model.specs.Specifications.{IsDefined}
use Rattle.syn_model.proofs.NamedSymbols.{names_it}
use Rattle.syn_model.proofs.listing.names_defined.Goals as goal

pub returns-in-Some : goal.returns-in-Some
returns-in-Some c = names_it _ _ IsDefined c.in-Some.sym.now _ c.in-Some.ensures c.is_defined.ensures
