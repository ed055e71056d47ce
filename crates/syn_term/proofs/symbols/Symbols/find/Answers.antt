use Rattle.std.proofs.Common.{ap}
use Rattle.syn_term.specs.Symbols.{names_of}
use Rattle.syn_term.proofs.KeyLemmas.{place_is, none_named, some_named}
use Rattle.syn_term.proofs.symbols.Symbols.find.Goals as goal

pub returns-in-None-clause-place : goal.returns-in-None-clause-place
returns-in-None-clause-place c =
    place_is c.args.self.now c.self.inside.by_name.entries c.args.name.now _ c.self.invariant.keyed (ap names_of c.self.view_is) c.in-None.ensures.index

pub returns-in-None-clause-named : goal.returns-in-None-clause-named
returns-in-None-clause-named c = none_named (names_of c.args.self.now) c.args.name.now (returns-in-None-clause-place c)

pub returns-in-Some-clause-place : goal.returns-in-Some-clause-place
returns-in-Some-clause-place c =
    place_is c.args.self.now c.self.inside.by_name.entries c.args.name.now _ c.self.invariant.keyed (ap names_of c.self.view_is) c.in-Some.ensures.index

pub returns-in-Some-clause-named : goal.returns-in-Some-clause-named
returns-in-Some-clause-named c = some_named (names_of c.args.self.now) c.args.name.now c.in-Some.index (returns-in-Some-clause-place c)
