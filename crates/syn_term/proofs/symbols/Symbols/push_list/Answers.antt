use Rattle.std.proofs.Common.{subst}
use Rattle.syn_term.specs.DeclaredSorts.{IsTable}
use Rattle.syn_term.proofs.Indexed.{list_table}
use Rattle.syn_term.proofs.TableLaws.{table_list}
use Rattle.syn_term.proofs.symbols.Symbols.push_list.Goals as goal

pub push_two-requires-clause-table : goal.push_two-requires-clause-table
push_two-requires-clause-table c =
    list_table c.args.self.now _ c.args.name.now c.args.nil.now c.args.cons.now _ _ c.args.item _ _ _
    c.in_ok-next.ensures.sort.0 c.in_ok-next.ensures.symbols.0 c.in_ok-next.ensures.symbols.1 c.in_ok-named.ensures.sort.1 c.in_ok-named.ensures.nil.1 c.in_ok-named.ensures.cons.1
    (table_list c.args.self.now c.args.name.now c.args.nil.now c.args.cons.now c.args.item (subst IsTable c.self.view_is c.self.invariant.table) c.requires)
