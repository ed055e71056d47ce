use Rattle.std.proofs.Common.{◌≡◌, drop}
use Rattle.syn_start.specs.Rules.{order_name}
use Rattle.syn_start.proofs.guard_rules.named_order.Given as goal

-- no part before this one names it
abbrev pub invariant-loop-part : goal.invariant-loop-part
invariant-loop-part l = order_name l.parts ≡ order_name (drop l.part-index l.parts)
