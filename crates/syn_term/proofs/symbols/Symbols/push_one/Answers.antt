use Rattle.syn_term.proofs.Indexed.{one_declared}
use Rattle.syn_term.proofs.symbols.Symbols.push_one.Goals as goal

pub invariant_of-self : goal.invariant_of-self
invariant_of-self c =
    (one_declared c.args.self.now c.self.inside.by_name.entries c.push_room.new.by_name.entries c.self.inside.sorts c.push_room.new.sorts c.self.inside.sizes.entries c.push_room.new.sizes.entries c.self.inside.nat c.args.sort.0 c.args.sort.1 c.args.size
    c.self.invariant c.self.view_is c.in-Ok.ensures.entries c.in-Ok.ensures.sorts c.in-Ok.ensures.sizes c.requires.sort c.requires.sized c.requires.few
    c.put_keyed.new.by_name.entries c.args.make.0 c.args.make.1 c.requires.table c.requires.own c.put_keyed.ensures.entries).0

pub returns-in-Ok-clause-ok : goal.returns-in-Ok-clause-ok
returns-in-Ok-clause-ok c =
    (one_declared c.args.self.now c.self.inside.by_name.entries c.push_room.new.by_name.entries c.self.inside.sorts c.push_room.new.sorts c.self.inside.sizes.entries c.push_room.new.sizes.entries c.self.inside.nat c.args.sort.0 c.args.sort.1 c.args.size
    c.self.invariant c.self.view_is c.in-Ok.ensures.entries c.in-Ok.ensures.sorts c.in-Ok.ensures.sizes c.requires.sort c.requires.sized c.requires.few
    c.put_keyed.new.by_name.entries c.args.make.0 c.args.make.1 c.requires.table c.requires.own c.put_keyed.ensures.entries).1

pub returns-in-Ok-clause-table : goal.returns-in-Ok-clause-table
returns-in-Ok-clause-table c = (invariant_of-self c).table
