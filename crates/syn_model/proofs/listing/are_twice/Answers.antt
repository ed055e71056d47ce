use Rattle.syn_form.proofs.Deciding.{unless_first, when_first}
use Rattle.syn_model.proofs.NamedSymbols.{twice}
use Rattle.syn_model.proofs.listing.are_twice.Goals as goal

pub returns-then-are_same : goal.returns-then-are_same
returns-then-are_same c = when_first (twice c.args.args.now c.args.sorts.now) c.are_same.ensures c.if-are_same.true c.are_same-then-are_same.ensures

pub returns-else-are_same : goal.returns-else-are_same
returns-else-are_same c = unless_first (twice c.args.args.now c.args.sorts.now) c.are_same.ensures c.if-are_same.false
