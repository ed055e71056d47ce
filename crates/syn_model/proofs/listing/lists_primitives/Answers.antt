use Rattle.std.proofs.lemmas.Result.{IfOk-weaker}
use Rattle.syn_form.proofs.Deciding.{when_two}
use Rattle.syn_model.specs.Specifications.{MayBePrimitive, NamesSymbol}
use Rattle.syn_model.proofs.NamedSymbols.{listed}
use Rattle.syn_model.proofs.listing.lists_primitives.Goals as goal

pub returns : goal.returns
returns c = IfOk-weaker c.are_distinct.result _ _ (λ b t. when_two (listed (NamesSymbol c.args.syms.now MayBePrimitive) c.args.names.now) c.are_some.ensures c.if-not-are_some.false c.are_primitives.ensures c.if-not-are_primitives.false t) c.are_distinct.ensures
