use Rattle.std.proofs.Common.{string_bytes}
use Rattle.syn_app.proofs.Ending.{judged}
use Rattle.syn_app.proofs.judging.judge_derivation.Goals as goal

pub returns-in-Ok : goal.returns-in-Ok
returns-in-Ok c = judged string_bytes c.args.spec.now c.args.bytes.now c.in-Ok.rows.items c.as_slice.result.now c.judge_rows.result c.as_slice.ensures.value c.in-Ok.ensures c.judge_rows.ensures
