use Rattle.std.proofs.Common.{map, refl, string_bytes}
use Rattle.syn_model.specs.BareParts.{bare_program_tree}
use Rattle.syn_model.specs.BareTrees.{bare_theory_tree}
use Rattle.syn_app.specs.EvalWork.{program_stage, values_work}
use Rattle.syn_app.proofs.Stops.{rest_ends}
use Rattle.syn_app.proofs.evaluating.program_text.Goals as goal

pub returns-in-Ok-clause-status : goal.returns-in-Ok-clause-status
returns-in-Ok-clause-status g c =
    let t = bare_theory_tree c.args.theory.now in
    rest_ends _ (program_stage t c.args.names.program.now) (λ p. values_work t p (map string_bytes c.args.names.values.now)) (bare_program_tree c.in-Ok.program) c.in-Ok.ensures.status string_bytes _ _ _ _ _ refl c.load_program.ensures.later (c.values_text.ensures _ _)
