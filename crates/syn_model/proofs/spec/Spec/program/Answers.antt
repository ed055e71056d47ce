use Rattle.std.proofs.Common.{subst}
use Rattle.syn_model.specs.Specifications.{SpecTree}
use Rattle.syn_model.specs.inner.HoldingSpecs.{HoldsSpec}
use Rattle.syn_model.proofs.SpecLaws.{program_at}
use Rattle.syn_model.proofs.spec.Spec.program.Goals as goal

pub returns : goal.returns
returns c = program_at c.args.self.now c.self.inside.table (subst (λ (z : SpecTree). HoldsSpec z c.self.inside.table) c.self.view_is c.self.invariant)
