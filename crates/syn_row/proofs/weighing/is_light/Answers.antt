use Rattle.std.proofs.Common.{◌≤◌}
use Rattle.syn_form.specs.Trees.{form_depth}
use Rattle.syn_form.proofs.Deciding.{part_fails}
use Rattle.syn_form.proofs.Owned.{All-right}
use Rattle.syn_row.specs.Results.{IsLight, most_step_depth}
use Rattle.syn_row.proofs.weighing.is_light.Goals as goal

pub returns-then-not-are_shallow-2 : goal.returns-then-not-are_shallow-2
returns-then-not-are_shallow-2 c =
    part_fails (λ (h : IsLight c.args.forms.now c.args.outs.now c.args.guards.now). All-right (λ f. form_depth f ≤ most_step_depth) c.args.forms.now c.args.guards.now h.shallow) c.are_shallow-2.ensures c.if-not-are_shallow-2.true
