use Rattle.std.proofs.Common.{◌∷◌, ◌∙◌, ap}
use Rattle.syn_form.proofs.Deciding.{other_way, same_fact}
use Rattle.syn_model.proofs.Free.{among_one}
use Rattle.syn_model.proofs.closed.has_free_only.Goals as goal

pub returns : goal.returns
returns c = same_fact (other_way (among_one _ _ c.args.v (c.also.ensures ∙ ap (λ vs. c.args.v ∷ vs) c.nothing.ensures))) c.form_is_bound.ensures
