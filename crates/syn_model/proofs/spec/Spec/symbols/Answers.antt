use Rattle.syn_model.proofs.SpecLaws.{spec_written}
use Rattle.syn_model.proofs.spec.Spec.symbols.Goals as goal

pub returns-clause-written : goal.returns-clause-written
returns-clause-written c = spec_written _ c.self.invariant.some
