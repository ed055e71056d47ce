use Rattle.syn_start.proofs.SpecParts.{stated_plain}
use Rattle.syn_start.proofs.conditions.input_row.Goals as goal

pub assertion-requires : goal.assertion-requires
assertion-requires c = stated_plain c.symbols.result.now c.args.start.now c.spec.result.now c.parts.result.now _ c.symbols.ensures c.spec.ensures.start c.spec.ensures.is c.parts.ensures.all c.in-None.ensures

pub assertion-requires-in-Some : goal.assertion-requires-in-Some
assertion-requires-in-Some c = stated_plain c.symbols-in-Some.result.now c.args.start.now c.spec.result.now c.parts.result.now c.in-Some.f.now c.symbols-in-Some.ensures c.spec.ensures.start c.spec.ensures.is c.parts.ensures.all c.in-Some.ensures
