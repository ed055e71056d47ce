use Rattle.syn_model.specs.Specifications.{IsOrderOn}
use Rattle.syn_model.proofs.NamedSymbols.{names_it}
use Rattle.syn_model.proofs.listing.names_order.Goals as goal

pub returns-in-Some : goal.returns-in-Some
returns-in-Some c = names_it _ _ (IsOrderOn c.args.sorts.now) c.in-Some.sym.now _ c.in-Some.ensures c.is_order_on.ensures
