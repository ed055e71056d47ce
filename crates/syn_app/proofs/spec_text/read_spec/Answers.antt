use Rattle.syn_app.proofs.spec_text.read_spec.Goals as goal

pub returns-in-Ok : goal.returns-in-Ok
returns-in-Ok c = c.spec_in.ensures _ c.in-Ok.ensures.cut
