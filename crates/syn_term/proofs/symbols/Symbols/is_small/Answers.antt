use Rattle.std.proofs.Common.{ap}
use Rattle.std.specs.Map.{values_of}
use Rattle.syn_term.proofs.SortLemmas.{small_tuple}
use Rattle.syn_term.proofs.symbols.Symbols.is_small.Goals as goal

pub returns : goal.returns
returns c =
    small_tuple c.args.self.now (values_of c.self.inside.sizes.entries) c.self.inside.sorts c.args.parts.now c.tuple_size.result c.self.invariant.sized.sizes
    (ap (λ t. t.sorts) c.self.view_is) c.tuple_size.ensures
