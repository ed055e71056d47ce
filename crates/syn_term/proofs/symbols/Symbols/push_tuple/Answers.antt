use Rattle.std.proofs.Common.{ap, subst}
use Rattle.std.specs.Map.{values_of}
use Rattle.syn_term.specs.DeclaredSorts.{IsTable}
use Rattle.syn_term.proofs.Indexed.{tuple_sized, tuple_table}
use Rattle.syn_term.proofs.TableLaws.{table_tuple}
use Rattle.syn_term.proofs.symbols.Symbols.push_tuple.Goals as goal

pub push_one-requires-clause-table : goal.push_one-requires-clause-table
push_one-requires-clause-table c =
    tuple_table c.args.self.now _ c.args.name.now c.args.make.now _ c.args.parts.now _ _
    c.in_ok-next.ensures.sort.0 c.in_ok-next.ensures.symbols.0 c.in_ok-named.ensures.sort.1 c.in_ok-named.ensures.make.1
    (table_tuple c.args.self.now c.args.name.now c.args.make.now c.args.parts.now (subst IsTable c.self.view_is c.self.invariant.table) c.requires)

pub push_one-requires-clause-sized : goal.push_one-requires-clause-sized
push_one-requires-clause-sized c =
    tuple_sized c.args.self.now (values_of c.self.inside.sizes.entries) c.self.inside.sorts c.args.parts.now c.tuple_size-size.result _ c.args.name.now _
    c.self.invariant.sized.sizes (ap (λ t. t.sorts) c.self.view_is) c.tuple_size-size.ensures c.requires.small c.in_ok-named.ensures.sort.1
