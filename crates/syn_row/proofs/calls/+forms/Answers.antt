use Rattle.std.proofs.Common.{◌∙◌}
use Rattle.std.proofs.lemmas.Result.{on_ok_weaker}
use Rattle.syn_row.proofs.CallsStanding.{chain_standing, put_whole_calls}
use Rattle.syn_row.proofs.calls.+forms.Goals as goal

pub put_form_calls-returns-in-And : goal.put_form_calls-returns-in-And
put_form_calls-returns-in-And t c = on_ok_weaker c.put_forms_calls.result (λ h. put_whole_calls _ _ _ _ (chain_standing _ _ _ _ c.in-And.is (c.as_slice-in-And.ensures ∙ c.get-in-And.ensures)) h) c.put_forms_calls.ensures
