use Rattle.std.proofs.Common.{refl}
use Rattle.syn_form.proofs.Deciding.{other_way, same_fact}
use Rattle.syn_model.proofs.Free.{among_none}
use Rattle.syn_model.proofs.program.has_no_vars.Goals as goal

pub returns : goal.returns
returns c = same_fact (other_way (among_none _ _ refl)) c.out_is_over.ensures
