use Rattle.std.proofs.Common.{refl, sym, ap, ◌∙◌, arith}
use Rattle.syn_machine.specs.inner.Frames.{variables_of}
use Rattle.syn_machine.proofs.Rooming.{variable_put}
use Rattle.syn_machine.proofs.TermForms.{app_does, var_does}
use Rattle.syn_machine.proofs.terms.open_term.Goals as goal

pub returns-in_ok-push-in-Var-clause-does : goal.returns-in_ok-push-in-Var-clause-does
returns-in_ok-push-in-Var-clause-does c =
    var_does c.args.work.now (record { frames = c.args.work.now.frames; values = c.push.new.self; truths = c.args.work.now.truths }) c.args.scope c.args.term (omega arith) _ c.in-Var.v c.in_ok-value-in-Var.value c.variables.result.now
    (sym c.get.ensures ∙ c.in-Var.is) c.in_ok-value-in-Var.ensures (c.variables.ensures ∙ ap (variables_of c.args.scope) c.as_slice.ensures) c.in_ok-push-in-Var.ensures.ok refl refl

pub returns-in_ok-push-in-Var-clause-room : goal.returns-in_ok-push-in-Var-clause-room
returns-in_ok-push-in-Var-clause-room c left le h =
    variable_put left c.args.scope c.args.work.now.values c.in-Var.v.number c.in_ok-value-in-Var.value c.variables.result.now _ le c.in_ok-value-in-Var.ensures (c.variables.ensures ∙ ap (variables_of c.args.scope) c.as_slice.ensures) c.in_ok-push-in-Var.ensures.ok h

pub returns-in_ok-push-in-App-clause-does : goal.returns-in_ok-push-in-App-clause-does
returns-in_ok-push-in-App-clause-does c =
    app_does c.args.work.now (record { frames = c.push-in-App.new.self; values = c.args.work.now.values; truths = c.args.work.now.truths }) c.args.scope c.args.term (omega arith) _ c.in-App.f c.in-App.f _ c.len-in-App.result c.as_slice-in-App.result
    (sym c.get.ensures ∙ c.in-App.is) refl c.as_slice-in-App.ensures c.len-in-App.ensures refl refl c.in_ok-push-in-App.ensures
