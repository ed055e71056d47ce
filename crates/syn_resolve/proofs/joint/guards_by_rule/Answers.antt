use Rattle.std.proofs.Common.{◌≡◌, ◌∙◌}
use Rattle.std.proofs.lemmas.Result.{IfOk-weaker}
use Rattle.syn_resolve.specs.inner.Resolving.{calls_of_both}
use Rattle.syn_resolve.proofs.JointCalls.{joint_are_calls, joint_belong, joint_guards_are, joint_sorted, joint_vars}
use Rattle.syn_resolve.proofs.joint.guards_by_rule.Goals as goal

pub call_guards-guards-requires-clause-calls : goal.call_guards-guards-requires-clause-calls
call_guards-guards-requires-clause-calls c = joint_are_calls (c.args.rule.now).program c.args.p.now c.args.s.now (c.args.first.now).out (c.args.second.now).out _ (c.as_slice.ensures ∙ c.in_ok-calls.ensures)

pub call_guards-guards-requires-clause-sorted : goal.call_guards-guards-requires-clause-sorted
call_guards-guards-requires-clause-sorted c = joint_sorted (c.args.rule.now).program c.args.p.now c.args.s.now (c.args.first.now).out (c.args.second.now).out _ (c.as_slice.ensures ∙ c.in_ok-calls.ensures) c.args.syms.now c.requires.keeps c.requires.formed

pub call_guards-guards-requires-clause-belongs : goal.call_guards-guards-requires-clause-belongs
call_guards-guards-requires-clause-belongs c = joint_belong (c.args.rule.now).program c.args.p.now c.args.s.now (c.args.first.now).out (c.args.second.now).out _ (c.as_slice.ensures ∙ c.in_ok-calls.ensures) _ c.requires.own c.requires.part_own

pub returns-clause-guards : goal.returns-clause-guards
returns-clause-guards c =
    let same : c.as_slice.result.now ≡ calls_of_both (c.args.rule.now).program c.args.s.now c.args.p.now (c.args.first.now).out (c.args.second.now).out = c.as_slice.ensures ∙ c.in_ok-calls.ensures in
    IfOk-weaker c.call_guards-guards.result _ _ (λ gs e. joint_guards_are c.args.syms.now c.args.rule.now c.requires.rule c.args.p.now c.args.s.now (c.args.first.now).out (c.args.second.now).out c.as_slice.result.now gs same e) c.call_guards-guards.ensures.guards

pub returns-clause-vars : goal.returns-clause-vars
returns-clause-vars c =
    let same : c.as_slice.result.now ≡ calls_of_both (c.args.rule.now).program c.args.s.now c.args.p.now (c.args.first.now).out (c.args.second.now).out = c.as_slice.ensures ∙ c.in_ok-calls.ensures in
    IfOk-weaker c.call_guards-guards.result _ _ (λ gs h w k. joint_vars (c.args.rule.now).program c.args.p.now c.args.s.now (c.args.first.now).out (c.args.second.now).out c.as_slice.result.now same w (h w k)) c.call_guards-guards.ensures.vars
