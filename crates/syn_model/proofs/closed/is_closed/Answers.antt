use Rattle.syn_form.proofs.Deciding.{other_way, same_fact}
use Rattle.syn_model.proofs.Free.{among_none}
use Rattle.syn_model.proofs.closed.is_closed.Goals as goal

pub returns : goal.returns
returns c = same_fact (other_way (among_none _ _ c.nothing.ensures)) c.form_is_bound.ensures
