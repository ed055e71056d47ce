use Rattle.std.proofs.Common.{map, string_bytes}
use Rattle.syn_model.specs.BareTrees.{bare_theory_tree}
use Rattle.syn_app.specs.EvalWork.{program_work, theory_file_stage}
use Rattle.syn_app.proofs.Stops.{rest_ends}
use Rattle.syn_app.proofs.evaluating.eval_text.Goals as goal

pub returns-in-Ok-clause-status : goal.returns-in-Ok-clause-status
returns-in-Ok-clause-status g c =
    rest_ends _ (theory_file_stage c.args.names.theory.now) (λ t. program_work t c.args.names.program.now (map string_bytes c.args.names.values.now)) (bare_theory_tree c.in-Ok.theory) c.in-Ok.ensures.status string_bytes _ _ _ _ _ c.load_theory.ensures.files c.load_theory.ensures.later c.program_text.ensures.status
