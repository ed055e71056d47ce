use Rattle.std.proofs.Common.{◌<◌, ◌≡◌, List, length, take, ap, arith}
use Rattle.std.specs.List.{flat_map}
use Rattle.std.proofs.lemmas.List.{take_all}
use Rattle.std.proofs.lemmas.Option.{MatchOption-at_some}
use Rattle.syn_term.specs.Bank.{Belongs, Belongs-extends, Extends-trans}
use Rattle.syn_term.specs.Terms.{TermTree}
use Rattle.syn_form.specs.Plain.{IsFormed}
use Rattle.syn_form.specs.Trees.{bare_form, form_vars, term_vars}
use Rattle.syn_form.proofs.Lists.{Contains-along}
use Rattle.syn_form.proofs.MadeTerms.{item_of}
use Rattle.syn_row.specs.Guards.{guard_of}
use Rattle.syn_row.proofs.GuardsEach.{RuleBelongs-extends, guards_belong, one_more_holds, one_more_made, one_more_within}
use Rattle.syn_row.proofs.guarding.guards_by.Goals as goal

pub guard-requires-clause-own : goal.guard-requires-clause-own
guard-requires-clause-own c = RuleBelongs-extends _ _ _ c.loop-call.invariant.extends c.requires.own

pub guard-requires-clause-belongs : goal.guard-requires-clause-belongs
guard-requires-clause-belongs c =
    let within : c.loop-call.call-index < length c.args.calls.now = omega arith in
    Belongs-extends _ _ _ c.loop-call.invariant.extends (item_of (Belongs _) _ _ _ _ within c.call-item.is c.requires.belongs)

pub loop-call-preserved : goal.loop-call-preserved
loop-call-preserved c =
    let within : c.loop-call.call-index < length c.args.calls.now = omega arith in
    record {
      guards = one_more_made c.args.calls.now c.loop-call.call-index _ _ within c.call-item.is c.loop-call.done _ c.in-Some.guard c.in_ok-push-in-Some.ensures.ok bare_form (guard_of c.args.rule.now) c.loop-call.invariant.guards (MatchOption-at_some _ _ _ c.in-Some.is c.in_ok-guard.ensures.guard).1;
      formed = one_more_holds c.args.calls.now c.loop-call.call-index _ _ within c.call-item.is c.loop-call.done _ c.in-Some.guard c.in_ok-push-in-Some.ensures.ok (IsFormed c.args.syms.now) c.loop-call.invariant.formed (MatchOption-at_some _ _ _ c.in-Some.is c.in_ok-guard.ensures.formed);
      vars = one_more_within c.args.calls.now c.loop-call.call-index _ _ within c.call-item.is c.loop-call.done _ c.in-Some.guard c.in_ok-push-in-Some.ensures.ok form_vars term_vars c.loop-call.invariant.vars (MatchOption-at_some _ _ _ c.in-Some.is c.in_ok-guard.ensures.vars);
      extends = Extends-trans _ _ _ c.loop-call.invariant.extends c.guard.ensures.extends;
      belongs = guards_belong _ _ _ _ _ c.guard.ensures.extends c.loop-call.invariant.belongs (MatchOption-at_some _ _ _ c.in-Some.is c.in_ok-guard.ensures.belongs) c.in_ok-push-in-Some.ensures.ok;
    }

pub returns-clause-vars : goal.returns-clause-vars
returns-clause-vars c w k =
    let whole : take c.loop-call.call-index c.args.calls.now ≡ c.args.calls.now = take_all c.loop-call.call-index c.args.calls.now (omega arith) in
    Contains-along _ _ w (ap (λ (z : List TermTree). flat_map term_vars z) whole) (c.loop-call.invariant.vars w k)
