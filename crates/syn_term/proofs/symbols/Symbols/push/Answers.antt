use Rattle.std.proofs.Common.{◌∙◌, ap, length, sym}
use Rattle.std.proofs.lemmas.List.{length-map}
use Rattle.syn_term.proofs.Indexed.{indexed_symbol}
use Rattle.syn_term.proofs.symbols.Symbols.push.Goals as goal

pub invariant_of-self-2 : goal.invariant_of-self-2
invariant_of-self-2 c =
    (indexed_symbol c.args.self.now c.args.sym c.self.inside.by_name.entries c.enter.new.by_name.entries c.self.inside.sorts c.self.inside.sizes.entries c.self.inside.nat
    c.self.invariant c.self.view_is c.requires c.in_ok-id.ensures.number.1 c.in_ok-id.ensures.ok).0

pub returns-clause-ok : goal.returns-clause-ok
returns-clause-ok c =
    let more = (indexed_symbol c.args.self.now c.args.sym c.self.inside.by_name.entries c.enter.new.by_name.entries c.self.inside.sorts c.self.inside.sizes.entries c.self.inside.nat
    c.self.invariant c.self.view_is c.requires c.in_ok-id.ensures.number.1 c.in_ok-id.ensures.ok).1 in
    let syms = ap (λ t. length t.syms) c.self.view_is in
    let count = length-map c.self.inside.by_name.entries (λ e. e.1) in
    (c.in_ok-id.ensures.number.0 ∙ (sym count ∙ syms), more)

pub returns-clause-table : goal.returns-clause-table
returns-clause-table c = (invariant_of-self-2 c).table
