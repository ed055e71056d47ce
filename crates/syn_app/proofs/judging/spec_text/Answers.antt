use Rattle.std.proofs.Common.{string_bytes}
use Rattle.syn_app.proofs.Ending.{after_spec}
use Rattle.syn_app.proofs.judging.spec_text.Goals as goal

pub returns-clause-status : goal.returns-clause-status
returns-clause-status g c =
    after_spec string_bytes _ _ _ _ _ c.in-Ok-judge_spec.spec c.args.name.now c.args.deriv.now c.as_slice.result.now c.in-Ok.bytes.items _ c.as_slice.ensures.value c.in-Ok.ensures.bytes c.in-Ok-judge_spec.ensures c.load.ensures.files c.load.ensures.later c.derivation_text.ensures.status
