use Rattle.std.proofs.Common.{[], subst}
use Rattle.syn_model.specs.Calls.{Meaning, numbered_values, reading_at}
use Rattle.syn_model.specs.Evaluation.{evaluate_form}
use Rattle.syn_eval.specs.Ending.{Tells}
use Rattle.syn_machine.proofs.top.run_test.Goals as goal

pub returns : goal.returns
returns c = subst (λ (z : Meaning). Tells (λ n. evaluate_form (reading_at z n c.args.args.now) (numbered_values []) c.args.form.now) c.args.turns c.truth_on.result) c.in_ok-set.ensures c.truth_on.ensures
