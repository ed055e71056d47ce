use Rattle.syn_form.proofs.PutInputs.{puts_inputs}
use Rattle.syn_form.proofs.inputs.put_inputs.Goals as goal

pub returns-clause-laws : goal.returns-clause-laws
returns-clause-laws c = puts_inputs c.args.inputs.now c.args.f.now
