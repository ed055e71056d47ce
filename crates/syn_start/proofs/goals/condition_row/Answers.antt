use Rattle.std.proofs.Common.{◌≡◌, ◌∙◌, Some, ap, sym}
use Rattle.syn_model.specs.Specifications.{output_var}
use Rattle.syn_start.proofs.GoalRows.{start_goal}
use Rattle.syn_start.proofs.goals.condition_row.Goals as goal

pub goal-made-requires : goal.goal-made-requires
goal-made-requires c =
    let some : c.in-Ok-Some.field-0 ≡ Some c.in-Ok-Some.g = cc in
    start_goal c.symbols.result.now c.args.start.now c.output_of.result c.args.f.now c.in-Ok-Some.g
    c.symbols.ensures c.spec.ensures.start (c.output_of.ensures ∙ ap output_var c.spec.ensures.is) c.requires (sym c.in-Ok-Some.ensures ∙ some)
