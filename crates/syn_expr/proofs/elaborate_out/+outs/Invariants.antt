use Rattle.std.proofs.Common.{◌+◌, ◌*◌}
use Rattle.syn_expr.specs.Limits.{out_cost}
use Rattle.syn_expr.proofs.elaborate_out.+outs.Given as goal

-- an output costs more than its arms, and what reads these comes before each of them
abbrev pub decreases-elaborate_out : goal.decreases-elaborate_out
decreases-elaborate_out l = 3 * out_cost l.syntax.now

abbrev pub decreases-elaborate_choice : goal.decreases-elaborate_choice
decreases-elaborate_choice l = 3 * (out_cost l.u.now + out_cost l.v.now) + 2

abbrev pub decreases-elaborate_arms : goal.decreases-elaborate_arms
decreases-elaborate_arms l = 3 * (out_cost l.u.now + out_cost l.v.now) + 1
