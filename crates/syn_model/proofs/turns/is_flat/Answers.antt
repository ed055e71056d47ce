use Rattle.std.proofs.Common.{◌∙◌, sym}
use Rattle.syn_model.proofs.ArgumentLaws.{flat_test}
use Rattle.syn_model.proofs.turns.is_flat.Goals as goal

pub returns-in-App : goal.returns-in-App
returns-in-App c = flat_test _ _ _ _ _ _ (sym c.get.ensures ∙ c.in-App.is) c.as_slice.ensures c.are_variables.ensures
