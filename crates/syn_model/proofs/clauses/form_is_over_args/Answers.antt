use Rattle.syn_model.proofs.ClauseLaws.{over_args}
use Rattle.syn_model.proofs.clauses.form_is_over_args.Goals as goal

pub returns : goal.returns
returns c = over_args _ _ _ _ c.args.args.now c.in_ok-vars.ensures c.as_slice.ensures c.form_is_over.ensures
