use Rattle.std.proofs.Common.{string_bytes}
use Rattle.syn_app.proofs.Ending.{derivation_ends}
use Rattle.syn_app.proofs.judging.derivation_text.Goals as goal

pub returns-in-Ok-clause-status : goal.returns-in-Ok-clause-status
returns-in-Ok-clause-status g c =
    derivation_ends string_bytes _ _ _ c.args.spec.now _ c.as_slice.result.now c.in-Ok.bytes.items _ c.as_slice.ensures.value c.in-Ok.ensures.bytes c.judge_derivation.ensures
