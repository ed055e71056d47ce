use Rattle.std.proofs.Common.{string_bytes}
use Rattle.syn_app.proofs.EvalEnding.{values_judged}
use Rattle.syn_app.proofs.evaluating.values_text.Goals as goal

pub returns-in-Ok : goal.returns-in-Ok
returns-in-Ok c = λ files now. values_judged string_bytes files now c.args.theory.now c.args.program.now _ c.in-Ok.values c.as_slice.result.now _ c.as_slice.ensures c.in-Ok.ensures c.call_text.ensures
