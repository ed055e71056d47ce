use Rattle.syn_term.proofs.SortLemmas.{no_sort, sort_at_place}
use Rattle.syn_term.proofs.symbols.Symbols.find_sort.Goals as goal

pub returns-in-None-clause-named : goal.returns-in-None-clause-named
returns-in-None-clause-named c = no_sort c.args.self.now c.args.name.now c.if-eq.ensures c.in-None.ensures.place

pub returns-in-Some-clause-named : goal.returns-in-Some-clause-named
returns-in-Some-clause-named c = sort_at_place c.args.self.now c.args.name.now c.in-Some.place c.in-Some.ensures.place
