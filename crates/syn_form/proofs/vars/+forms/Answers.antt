use Rattle.std.proofs.Common.{◌∙◌}
use Rattle.std.proofs.lemmas.Result.{on_ok_weaker}
use Rattle.syn_form.proofs.Variables.{chain_vars, put_whole}
use Rattle.syn_form.proofs.vars.+forms.Goals as goal

pub put_form_vars-returns-in-And : goal.put_form_vars-returns-in-And
put_form_vars-returns-in-And t c = on_ok_weaker c.put_forms_vars.result (λ h. put_whole _ _ _ _ (chain_vars _ _ _ c.in-And.is (c.as_slice-in-And.ensures ∙ c.get-in-And.ensures)) h) c.put_forms_vars.ensures
