use Rattle.syn_model.proofs.NamedSymbols.{only_named}
use Rattle.syn_model.proofs.listing.symbol_named.Goals as goal

pub returns-in-Some-get : goal.returns-in-Some-get
returns-in-Some-get c = only_named c.args.syms.now c.args.name.now c.in-Some.id c.in-Some-get.sym.now c.find.ensures.table c.in-Some.ensures.named c.in-Some-get.ensures.symbol
