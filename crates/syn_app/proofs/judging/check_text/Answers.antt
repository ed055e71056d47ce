use Rattle.std.proofs.Common.{string_bytes}
use Rattle.syn_app.proofs.Ending.{after_theory}
use Rattle.syn_app.proofs.judging.check_text.Goals as goal

pub returns-in-Ok-clause-status : goal.returns-in-Ok-clause-status
returns-in-Ok-clause-status g c =
    after_theory string_bytes _ _ _ _ _ c.args.names.theory.now c.args.names.spec.now c.args.names.deriv.now _ c.in-Ok.ensures.status c.check_theory.ensures.files c.check_theory.ensures.later c.spec_text.ensures.status
