use Rattle.std.proofs.Common.{sym, ◌∙◌, ap}
use Rattle.std.specs.Option.{option_copied}
use Rattle.std.proofs.lemmas.Result.{on_ok_weaker}
use Rattle.syn_resolve.proofs.BroughtCalls.{bound_image, no_image}
use Rattle.syn_resolve.proofs.brought.put_image_calls.Goals as goal

pub returns-in-None : goal.returns-in-None
returns-in-None c = no_image c.args.f c.args.s.now c.args.v _ (sym c.get.ensures.term ∙ ap option_copied c.in-None.is)

pub returns-in-Some : goal.returns-in-Some
returns-in-Some c = on_ok_weaker c.put_calls.result (λ h. bound_image c.args.f c.args.s.now c.args.v _ _ _ (sym c.get.ensures.term ∙ ap option_copied c.in-Some.is) h) c.put_calls.ensures
