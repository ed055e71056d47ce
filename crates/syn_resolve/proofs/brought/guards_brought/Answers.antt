use Rattle.std.proofs.Common.{◌≡◌, ◌∙◌}
use Rattle.std.proofs.lemmas.Result.{IfOk-weaker}
use Rattle.syn_resolve.specs.inner.Reflexing.{outputs_calls}
use Rattle.syn_resolve.proofs.BroughtCalls.{brought_are_calls, brought_belong, brought_guards_are, brought_sorted, brought_vars}
use Rattle.syn_resolve.proofs.brought.guards_brought.Goals as goal

pub call_guards-guards-requires-clause-calls : goal.call_guards-guards-requires-clause-calls
call_guards-guards-requires-clause-calls c = brought_are_calls (c.args.rule.now).program c.args.s.now c.args.outs.now _ (c.as_slice.ensures ∙ c.in_ok-calls.ensures)

pub call_guards-guards-requires-clause-sorted : goal.call_guards-guards-requires-clause-sorted
call_guards-guards-requires-clause-sorted c = brought_sorted (c.args.rule.now).program c.args.s.now c.args.outs.now _ (c.as_slice.ensures ∙ c.in_ok-calls.ensures) c.args.syms.now c.requires.keeps

pub call_guards-guards-requires-clause-belongs : goal.call_guards-guards-requires-clause-belongs
call_guards-guards-requires-clause-belongs c = brought_belong (c.args.rule.now).program c.args.s.now c.args.outs.now _ (c.as_slice.ensures ∙ c.in_ok-calls.ensures) _ c.requires.own

pub returns-clause-guards : goal.returns-clause-guards
returns-clause-guards c =
    let same : c.as_slice.result.now ≡ outputs_calls (c.args.rule.now).program c.args.s.now c.args.outs.now = c.as_slice.ensures ∙ c.in_ok-calls.ensures in
    IfOk-weaker c.call_guards-guards.result _ _ (λ gs e. brought_guards_are c.args.syms.now c.args.rule.now c.requires.rule c.args.s.now c.args.outs.now c.as_slice.result.now gs same e) c.call_guards-guards.ensures.guards

pub returns-clause-vars : goal.returns-clause-vars
returns-clause-vars c =
    let same : c.as_slice.result.now ≡ outputs_calls (c.args.rule.now).program c.args.s.now c.args.outs.now = c.as_slice.ensures ∙ c.in_ok-calls.ensures in
    IfOk-weaker c.call_guards-guards.result _ _ (λ gs h w k. brought_vars (c.args.rule.now).program c.args.s.now c.args.outs.now c.as_slice.result.now same w (h w k)) c.call_guards-guards.ensures.vars
