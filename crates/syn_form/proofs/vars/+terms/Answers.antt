use Rattle.std.proofs.Common.{sym, ◌∙◌}
use Rattle.std.proofs.lemmas.Result.{on_ok_weaker}
use Rattle.syn_form.proofs.Variables.{application_vars, put_whole}
use Rattle.syn_form.proofs.vars.+terms.Goals as goal

pub put_term_vars-returns-in-App : goal.put_term_vars-returns-in-App
put_term_vars-returns-in-App t c = on_ok_weaker c.put_all_vars.result (λ h. put_whole _ _ _ _ (application_vars _ _ _ _ _ (sym c.get.ensures ∙ c.in-App.is) c.as_slice.ensures) h) c.put_all_vars.ensures
