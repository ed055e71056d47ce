use Rattle.syn_form.proofs.Deciding.{when_first}
use Rattle.syn_model.proofs.heads.has_names.Goals as goal

pub returns-then-are_new_names : goal.returns-then-are_new_names
returns-then-are_new_names c = when_first ((λ h. h), (λ h. h)) c.are_new_names.ensures c.if-are_new_names.true c.are_distinct_names.ensures
