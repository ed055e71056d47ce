use Rattle.std.proofs.Common.{◌≡◌, Some, drop, map, refl, sym, ap, ◌∙◌, arith}
use Rattle.syn_form.specs.Trees.{out_nodes}
use Rattle.syn_model.specs.Calls.{chosen}
use Rattle.syn_eval.specs.inner.Rules.{choice_seen, rule_seen}
use Rattle.syn_eval.specs.inner.Scopes.{function_at}
use Rattle.syn_eval.specs.inner.Weights.{all_nodes}
use Rattle.syn_eval.proofs.CallAnswers.{choice_is}
use Rattle.syn_eval.proofs.Light.{chosen_light}
use Rattle.syn_eval.proofs.Rooms.{chosen_room, drop_rooms}
use Rattle.syn_machine.specs.inner.Steps.{function_entered}
use Rattle.syn_machine.proofs.Entering.{function_chosen, put_same}
use Rattle.syn_machine.proofs.calling.call_function.Goals as goal

pub returns-in-Some-clause-does : goal.returns-in-Some-clause-does
returns-in-Some-clause-does c =
    let args = drop c.args.base c.args.work.now.values in
    let e = choice_is c.in_ok-choose.field-0 c.in-Some.chosen _ _ (map rule_seen c.args.rules.now) c.behind.result.now c.in-Some.is c.symbols.ensures c.in_ok-choose.ensures in
    let k : chosen c.args.set.now.table (map rule_seen c.args.rules.now) args ≡ Some (choice_seen c.in-Some.chosen) = ap (chosen c.args.set.now.table (map rule_seen c.args.rules.now)) (sym (c.behind.ensures ∙ ap (drop c.args.base) c.as_slice.ensures)) ∙ e in
    put_same c.args.work.now c.args.base c.args.set.now c.args.left c.enter.new.work (function_at c.args.set.now (map rule_seen c.args.rules.now) args) (function_entered c.args.set.now (choice_seen c.in-Some.chosen))
    (function_chosen c.args.set.now (map rule_seen c.args.rules.now) args (choice_seen c.in-Some.chosen) k) c.enter.result (c.enter.ensures.does c.args.set.now c.args.left (omega arith))

pub returns-in-Some-clause-lighter : goal.returns-in-Some-clause-lighter
returns-in-Some-clause-lighter c =
    let e = choice_is c.in_ok-choose.field-0 c.in-Some.chosen _ _ (map rule_seen c.args.rules.now) c.behind.result.now c.in-Some.is c.symbols.ensures c.in_ok-choose.ensures in
    c.enter.ensures.lighter c.args.set.now (chosen_light out_nodes (all_nodes c.args.set.now) c.args.set.now.table (map rule_seen c.args.rules.now) c.behind.result.now (choice_seen c.in-Some.chosen) e c.requires.light)

pub returns-in-Some-clause-room : goal.returns-in-Some-clause-room
returns-in-Some-clause-room c =
    let e = choice_is c.in_ok-choose.field-0 c.in-Some.chosen _ _ (map rule_seen c.args.rules.now) c.behind.result.now c.in-Some.is c.symbols.ensures c.in_ok-choose.ensures in
    c.enter.ensures.room c.args.left c.requires.fits
    (chosen_room c.args.left c.args.left c.args.set.now.table (map rule_seen c.args.rules.now) c.behind.result.now (choice_seen c.in-Some.chosen) _ (omega arith) e refl (drop_rooms c.args.left c.args.base c.args.work.now.values _ (c.behind.ensures ∙ ap (drop c.args.base) c.as_slice.ensures) c.requires.fits))
