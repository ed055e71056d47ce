use Rattle.std.proofs.Common.{sym, ◌∙◌}
use Rattle.std.proofs.lemmas.Result.{on_ok_weaker}
use Rattle.syn_row.proofs.CallsStanding.{put_standing}
use Rattle.syn_row.proofs.calls.+calls.Goals as goal

pub put_calls-returns-in_ok-put_if_called-in-App : goal.put_calls-returns-in_ok-put_if_called-in-App
put_calls-returns-in_ok-put_if_called-in-App t c = on_ok_weaker c.put_all_calls.result (λ h. put_standing _ _ _ _ _ _ _ _ _ (sym c.get.ensures ∙ c.in-App.is) c.as_slice.ensures c.in_ok-put_if_called-in-App.ensures h) c.put_all_calls.ensures
