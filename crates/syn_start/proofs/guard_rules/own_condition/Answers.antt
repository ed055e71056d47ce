use Rattle.syn_start.proofs.SpecParts.{found_formed}
use Rattle.syn_start.proofs.guard_rules.own_condition.Goals as goal

pub own_form-requires : goal.own_form-requires
own_form-requires c = found_formed c.symbols.result.now c.args.spec.now c.parts.result.now c.in-Some.f.now c.symbols.ensures.table c.parts.ensures.spec c.parts.ensures.all c.in-Some.ensures
