use Rattle.std.proofs.Common.{◌∙◌, ap, sym}
use Rattle.std.specs.Option.{option_copied}
use Rattle.syn_start.proofs.RuleLaws.{order_missing}
use Rattle.syn_start.proofs.guard_rule.order_of.Goals as goal

pub unreachable-requires : goal.unreachable-requires
unreachable-requires c =
    order_missing c.symbols.result.now c.args.spec.now c.parts.result.now c.in-Some.name.now c.symbols.ensures.table c.parts.ensures.spec c.parts.ensures.all
    (sym c.named_order.ensures ∙ ap option_copied c.in-Some.is) (sym c.symbol_named.ensures.is ∙ c.in-None-symbol_named.is)
