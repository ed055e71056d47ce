use Rattle.std.proofs.Common.{sym, subst}
use Rattle.syn_term.specs.Names.{IsName}
use Rattle.syn_model.proofs.SpecLaws.{spec_named}
use Rattle.syn_model.proofs.spec.Spec.name.Goals as goal

pub returns-clause-named : goal.returns-clause-named
returns-clause-named c = subst IsName (sym c.as_str.ensures) (spec_named _ _ c.self.invariant.some.2)
