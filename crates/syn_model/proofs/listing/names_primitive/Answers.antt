use Rattle.syn_model.specs.Specifications.{MayBePrimitive}
use Rattle.syn_model.proofs.NamedSymbols.{names_it}
use Rattle.syn_model.proofs.listing.names_primitive.Goals as goal

pub returns-in-Some : goal.returns-in-Some
returns-in-Some c = names_it _ _ MayBePrimitive c.in-Some.sym.now _ c.in-Some.ensures c.may_be_primitive.ensures
