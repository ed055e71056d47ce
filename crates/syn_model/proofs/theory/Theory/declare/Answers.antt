use Rattle.syn_model.proofs.theory.Theory.declare.Goals as goal

pub put_or_refuse-requires : goal.put_or_refuse-requires
put_or_refuse-requires c = c.in-Ok-true.ensures.0 c.in-Ok-true.field-0-test
