use Rattle.std.proofs.Common.{subst}
use Rattle.syn_model.specs.Specifications.{SpecTree}
use Rattle.syn_model.specs.inner.HoldingSpecs.{HoldsSpec}
use Rattle.syn_model.proofs.SpecLaws.{program_is}
use Rattle.syn_model.proofs.spec.Spec.program_in.Goals as goal

pub returns : goal.returns
returns c =
    let held : HoldsSpec c.args.self.now c.self.inside.table = subst (λ (z : SpecTree). HoldsSpec z c.self.inside.table) c.self.view_is c.self.invariant in
    program_is c.args.theory.now.decls c.args.self.now c.self.inside.table c.requires held.place
