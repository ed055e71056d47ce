use Rattle.std.proofs.Common.{◌+◌, ◌-◌, ◌*◌, ◌<◌, ◌≤◌, not, ◌||◌, [], ◌∷◌, ◌++◌, Err, map, sum, refl, sym, ap, ap₂, subst, ◌∙◌, arith}
use Rattle.std.specs.Option.{option_copied, option_map}
use Rattle.std.proofs.lemmas.Result.{err_from_is_err_and}
use Rattle.syn_term.specs.Terms.{nodes}
use Rattle.syn_form.specs.declared.trees.Form.TheVariants as form
use Rattle.syn_form.specs.declared.trees.Form.TheViews as form_view
use Rattle.syn_form.specs.Trees.{form_nodes, out_nodes}
use Rattle.syn_value.specs.Values.{number_of, same_value}
use Rattle.syn_eval.specs.declared.evaluating.Tally.{Tally}
use Rattle.syn_eval.specs.Ending.{Ends, IsWithin}
use Rattle.syn_eval.specs.inner.Rules.{choice_seen, entry_seen, rule_seen}
use Rattle.syn_eval.specs.inner.Scopes.{form_in, number_in, out_in, tally_in, term_in, terms_in, truth_in, value_in}
use Rattle.syn_eval.specs.inner.Weights.{all_nodes, weight}
use Rattle.syn_eval.proofs.Answers.{ends_same, first_fails, made_fails, made_within, second_fails, two_within}
use Rattle.syn_eval.proofs.CallAnswers.{choice_is, function_fails, function_gives, program_fails, program_gives, relation_fails, relation_gives}
use Rattle.syn_eval.proofs.EntryAnswers.{constructor_answer, function_answer, input_answer, known_fact, known_functions, known_measure, known_relations, order_answer, program_answer, relation_answer, unmeasured_answer, untrue_answer}
use Rattle.syn_eval.proofs.Growing.{form_grows, term_grows, terms_grow, truth_grows, value_grows}
use Rattle.syn_eval.proofs.Light.{body_is_light, chosen_light}
use Rattle.syn_eval.proofs.Lists.{forms_fail, forms_next, tally_next, terms_fail, terms_next, terms_none}
use Rattle.syn_eval.proofs.Measures.{arm_less, ask_less, atom_less, body_less, call_less, conclusion_less, equal_less, implies_less, item_less, second_term_less}
use Rattle.syn_eval.proofs.OrderAnswers.{compared_within, first_measure_fails, not_compared, second_measure_fails}
use Rattle.syn_eval.proofs.Rooms.{chosen_room, drop_rooms, no_rooms, pushed_rooms, rooms_fewer, rooms_same, scope_fewer, scope_rooms, take_rooms, values_rooms, variable_room}
use Rattle.syn_eval.proofs.Steps.{and_is, app_is, arm_grows, arm_of, atom_is, choice_is as choice_is_if, equal_is, form_ends, give_is, implied_by, implied_by_grows, implies_is, not_is, or_is, same_as, same_as_grows, told_same}
use Rattle.syn_eval.proofs.Turns.{turn_less}
use Rattle.syn_eval.proofs.evaluating.+eval.Goals as goal

pub ask-ask_relation-requires : goal.ask-ask_relation-requires
ask-ask_relation-requires t c =
    let less : c.args.turns * weight c.args.scope.now.set.now + 1 < t = omega arith in
    (less, (c.requires.args, known_relations c.args.scope.now.set.now c.args.r (entry_seen c.in-Some.entry.now) (known_fact _ _ _ _ c.in-Some.is c.entry.ensures) _ (ap (map rule_seen) c.as_slice.ensures)))

pub ask-ask_order-requires : goal.ask-ask_order-requires
ask-ask_order-requires t c =
    let less : c.args.turns * weight c.args.scope.now.set.now + 1 < t = omega arith in
    (less, (c.requires.args, known_measure c.args.scope.now.set.now c.args.r (entry_seen c.in-Some.entry.now) (known_fact _ _ _ _ c.in-Some.is c.entry.ensures) _ (ap option_copied c.in-Some-measure.is)))

pub ask-returns-in-Rel-clause-ends : goal.ask-returns-in-Rel-clause-ends
ask-returns-in-Rel-clause-ends t c = relation_answer c.args.scope.now.set.now c.args.r (entry_seen c.in-Some.entry.now) (known_fact _ _ _ _ c.in-Some.is c.entry.ensures) c.args.scope.now.inputs.now c.args.args.now c.args.turns c.in-Rel.is _ (ap (map rule_seen) c.as_slice.ensures) _ c.ask_relation.ensures.ends

pub ask-returns-in-None-measure-clause-ends : goal.ask-returns-in-None-measure-clause-ends
ask-returns-in-None-measure-clause-ends t c = unmeasured_answer c.args.scope.now.set.now c.args.r (entry_seen c.in-Some.entry.now) (known_fact _ _ _ _ c.in-Some.is c.entry.ensures) c.args.scope.now.inputs.now c.args.args.now c.args.turns c.in-Order.is (ap option_copied c.in-None-measure.is)

pub ask-returns-in-Some-measure-clause-ends : goal.ask-returns-in-Some-measure-clause-ends
ask-returns-in-Some-measure-clause-ends t c = order_answer c.args.scope.now.set.now c.args.r (entry_seen c.in-Some.entry.now) (known_fact _ _ _ _ c.in-Some.is c.entry.ensures) c.args.scope.now.inputs.now c.args.args.now c.args.turns c.in-Order.is _ (ap option_copied c.in-Some-measure.is) _ c.ask_order.ensures.ends

pub ask-returns-in_default : goal.ask-returns-in_default
ask-returns-in_default t c = record { ends = untrue_answer c.args.scope.now.set.now c.args.r (entry_seen c.in-Some.entry.now) (known_fact _ _ _ _ c.in-Some.is c.entry.ensures) c.args.scope.now.inputs.now c.args.args.now c.args.turns c.in_default.not-Rel c.in_default.not-Order; within = tt }

pub call-call_function-requires : goal.call-call_function-requires
call-call_function-requires t c =
    let less : c.args.turns * weight c.args.scope.now.set.now + 2 < t = omega arith in
    (less, (c.requires.args, known_functions c.args.scope.now.set.now c.args.f (entry_seen c.in-Some.entry.now) (known_fact _ _ _ _ c.in-Some.is c.entry.ensures) _ (ap (map rule_seen) c.as_slice.ensures)))

pub call-returns-in-Fun-clause-ends : goal.call-returns-in-Fun-clause-ends
call-returns-in-Fun-clause-ends t c = function_answer c.args.scope.now.set.now c.args.f (entry_seen c.in-Some.entry.now) (known_fact _ _ _ _ c.in-Some.is c.entry.ensures) c.args.scope.now.inputs.now c.args.args.now c.args.turns c.in-Fun.is _ (ap (map rule_seen) c.as_slice.ensures) _ c.call_function.ensures.ends

pub call-returns-in-Program-clause-ends : goal.call-returns-in-Program-clause-ends
call-returns-in-Program-clause-ends t c = program_answer c.args.scope.now.set.now c.args.f (entry_seen c.in-Some.entry.now) (known_fact _ _ _ _ c.in-Some.is c.entry.ensures) c.args.scope.now.inputs.now c.args.args.now c.args.turns c.in-Program.is _ c.call_program.ensures.ends

pub call-returns-in-Input-clause-ends : goal.call-returns-in-Input-clause-ends
call-returns-in-Input-clause-ends t c = input_answer c.args.scope.now.set.now c.args.f (entry_seen c.in-Some.entry.now) (known_fact _ _ _ _ c.in-Some.is c.entry.ensures) c.args.scope.now.inputs.now c.args.args.now c.args.turns c.in-Input.is _ c.read_input.ensures.ends

pub call-returns-in_default : goal.call-returns-in_default
call-returns-in_default t c =
    record {
      ends = constructor_answer c.args.scope.now.set.now c.args.f (entry_seen c.in-Some.entry.now) (known_fact _ _ _ _ c.in-Some.is c.entry.ensures) c.args.scope.now.inputs.now c.args.args.now c.args.turns c.in_default.not-Fun c.in_default.not-Program c.in_default.not-Input _ c.construct.ensures.ends;
      within = c.construct.ensures.within;
      fits = c.construct.ensures.fits;
    }

pub ask_relation-eval_form-outcome-requires : goal.ask_relation-eval_form-outcome-requires
ask_relation-eval_form-outcome-requires t c =
    let e = (choice_is c.in_ok-choose.field-0 c.in-Some.chosen _ _ (map rule_seen c.args.rules.now) c.args.args.now c.in-Some.is c.symbols.ensures c.in_ok-choose.ensures) in
    let light : form_nodes c.in-Some.chosen.body.now ≤ all_nodes c.args.set.now = chosen_light form_nodes (all_nodes c.args.set.now) c.args.set.now.table (map rule_seen c.args.rules.now) c.args.args.now (choice_seen c.in-Some.chosen) e c.requires.light in
    let k = body_less c.args.set.now c.args.turns (c.args.turns - 1) _ (4 * form_nodes c.in-Some.chosen.body.now) 1 (omega arith) light (omega arith) in
    let less : (c.args.turns - 1) * weight c.args.set.now + 4 * form_nodes c.in-Some.chosen.body.now < t = omega (arith, k) in
    (less, scope_rooms _ (c.args.turns - 1) (no_rooms _ _ refl) (chosen_room c.args.turns (c.args.turns - 1) c.args.set.now.table (map rule_seen c.args.rules.now) c.args.args.now (choice_seen c.in-Some.chosen) _ (omega arith) e c.as_slice.ensures c.requires.args))

pub ask_relation-returns-in-Err-clause-ends : goal.ask_relation-returns-in-Err-clause-ends
ask_relation-returns-in-Err-clause-ends t c = relation_fails c.args.set.now (map rule_seen c.args.rules.now) c.args.args.now c.args.turns (record { set = c.args.set; inputs = record { ref_ptr = c.args.args.ref_ptr; now = [] }; values = c.as_slice.result }) (choice_seen c.in-Some.chosen) _ (choice_is c.in_ok-choose.field-0 c.in-Some.chosen _ _ (map rule_seen c.args.rules.now) c.args.args.now c.in-Some.is c.symbols.ensures c.in_ok-choose.ensures) refl (record { set = refl; inputs_are = refl; values_are = c.as_slice.ensures }) (omega arith) _ c.in-Err.ensures.ends

pub ask_relation-returns-in-Ok-clause-ends : goal.ask_relation-returns-in-Ok-clause-ends
ask_relation-returns-in-Ok-clause-ends t c = relation_gives c.args.set.now (map rule_seen c.args.rules.now) c.args.args.now c.args.turns (record { set = c.args.set; inputs = record { ref_ptr = c.args.args.ref_ptr; now = [] }; values = c.as_slice.result }) (choice_seen c.in-Some.chosen) _ (choice_is c.in_ok-choose.field-0 c.in-Some.chosen _ _ (map rule_seen c.args.rules.now) c.args.args.now c.in-Some.is c.symbols.ensures c.in_ok-choose.ensures) refl (record { set = refl; inputs_are = refl; values_are = c.as_slice.ensures }) (omega arith) _ _ c.in-Ok.ensures.ends

pub call_function-eval_out-outcome-requires : goal.call_function-eval_out-outcome-requires
call_function-eval_out-outcome-requires t c =
    let e = (choice_is c.in_ok-choose.field-0 c.in-Some.chosen _ _ (map rule_seen c.args.rules.now) c.args.args.now c.in-Some.is c.symbols.ensures c.in_ok-choose.ensures) in
    let light : out_nodes c.in-Some.chosen.body.now ≤ all_nodes c.args.set.now = chosen_light out_nodes (all_nodes c.args.set.now) c.args.set.now.table (map rule_seen c.args.rules.now) c.args.args.now (choice_seen c.in-Some.chosen) e c.requires.light in
    let k = body_less c.args.set.now c.args.turns (c.args.turns - 1) _ (4 * out_nodes c.in-Some.chosen.body.now + 1) 2 (omega arith) light (omega arith) in
    let less : (c.args.turns - 1) * weight c.args.set.now + (4 * out_nodes c.in-Some.chosen.body.now + 1) < t = omega (arith, k) in
    (less, scope_rooms _ (c.args.turns - 1) (no_rooms _ _ refl) (chosen_room c.args.turns (c.args.turns - 1) c.args.set.now.table (map rule_seen c.args.rules.now) c.args.args.now (choice_seen c.in-Some.chosen) _ (omega arith) e c.as_slice.ensures c.requires.args))

pub call_function-returns-in-Err-clause-ends : goal.call_function-returns-in-Err-clause-ends
call_function-returns-in-Err-clause-ends t c = function_fails c.args.set.now (map rule_seen c.args.rules.now) c.args.args.now c.args.turns (record { set = c.args.set; inputs = record { ref_ptr = c.args.args.ref_ptr; now = [] }; values = c.as_slice.result }) (choice_seen c.in-Some.chosen) _ (choice_is c.in_ok-choose.field-0 c.in-Some.chosen _ _ (map rule_seen c.args.rules.now) c.args.args.now c.in-Some.is c.symbols.ensures c.in_ok-choose.ensures) refl (record { set = refl; inputs_are = refl; values_are = c.as_slice.ensures }) (omega arith) _ c.in-Err.ensures.ends

pub call_function-returns-in-Ok-clause-ends : goal.call_function-returns-in-Ok-clause-ends
call_function-returns-in-Ok-clause-ends t c = function_gives c.args.set.now (map rule_seen c.args.rules.now) c.args.args.now c.args.turns (record { set = c.args.set; inputs = record { ref_ptr = c.args.args.ref_ptr; now = [] }; values = c.as_slice.result }) (choice_seen c.in-Some.chosen) _ (choice_is c.in_ok-choose.field-0 c.in-Some.chosen _ _ (map rule_seen c.args.rules.now) c.args.args.now c.in-Some.is c.symbols.ensures c.in_ok-choose.ensures) refl (record { set = refl; inputs_are = refl; values_are = c.as_slice.ensures }) (omega arith) _ _ c.in-Ok.ensures.ends

pub call_program-eval_out-requires : goal.call_program-eval_out-requires
call_program-eval_out-requires t c =
    let e = (sym c.body.ensures ∙ ap option_copied c.in-Some.is) in
    let k = body_less c.args.set.now c.args.turns (c.args.turns - 1) _ (4 * out_nodes c.in-Some.body.now + 1) 2 (omega arith) (body_is_light c.args.set.now c.in-Some.body.now e) (omega arith) in
    let less : (c.args.turns - 1) * weight c.args.set.now + (4 * out_nodes c.in-Some.body.now + 1) < t = omega (arith, k) in
    (less, scope_rooms _ (c.args.turns - 1) (rooms_fewer _ c.args.turns (c.args.turns - 1) (omega arith) c.requires.args) (no_rooms _ _ refl))

pub call_program-returns-in_err-value-in-Some-clause-ends : goal.call_program-returns-in_err-value-in-Some-clause-ends
call_program-returns-in_err-value-in-Some-clause-ends t c =
    let p = err_from_is_err_and c.from_residual.result c.from_residual.ensures.1 in
    rw (p.1, p.2) (program_fails c.args.set.now c.args.args.now c.args.turns (record { set = c.args.set; inputs = c.args.args; values = record { ref_ptr = c.args.args.ref_ptr; now = [] } }) c.in-Some.body.now _ (sym c.body.ensures ∙ ap option_copied c.in-Some.is) refl (record { set = refl; inputs_are = refl; values_are = refl }) (omega arith) _ c.in_err-value-in-Some.ensures.ends)

pub call_program-returns-in_ok-value-in-Some-clause-ends : goal.call_program-returns-in_ok-value-in-Some-clause-ends
call_program-returns-in_ok-value-in-Some-clause-ends t c = program_gives c.args.set.now c.args.args.now c.args.turns (record { set = c.args.set; inputs = c.args.args; values = record { ref_ptr = c.args.args.ref_ptr; now = [] } }) c.in-Some.body.now _ (sym c.body.ensures ∙ ap option_copied c.in-Some.is) refl (record { set = refl; inputs_are = refl; values_are = refl }) (omega arith) _ _ c.in_ok-value-in-Some.ensures.ends

pub eval_term-returns-in_err-args-in-App-clause-ends : goal.eval_term-returns-in_err-args-in-App-clause-ends
eval_term-returns-in_err-args-in-App-clause-ends t c =
    let p = err_from_is_err_and c.from_residual.result c.from_residual.ensures.1 in
    rw (p.1, p.2) (first_fails (terms_in c.args.scope.now c.as_slice.result.now) (value_in c.args.scope.now c.in-App.f) (term_in c.args.scope.now c.args.t.now) (app_is c.args.scope.now _ _ _ _ _ (sym c.get.ensures ∙ c.in-App.is) c.as_slice.ensures) (terms_grow c.args.scope.now c.as_slice.result.now) (value_grows c.args.scope.now c.in-App.f) c.args.turns _ c.in_err-args-in-App.ensures.ends)

pub eval_term-call-outcome-requires : goal.eval_term-call-outcome-requires
eval_term-call-outcome-requires t c =
    let k = call_less (weight c.args.scope.now.set.now) c.args.turns (c.args.turns - c.in_ok-args-in-App.used) c.args.t.now _ _ _ (sym c.get.ensures ∙ c.in-App.is) (omega arith) in
    let less : (c.args.turns - c.in_ok-args-in-App.used) * weight c.args.scope.now.set.now + 3 < t = omega (arith, k) in
    (less, (scope_fewer c.args.scope.now c.args.turns _ (omega arith) c.requires.fits, rooms_same _ _ _ (sym c.as_slice-in-App.ensures) c.in_ok-args-in-App.ensures.fits))

pub eval_term-returns-in_err-value-in-App-clause-ends : goal.eval_term-returns-in_err-value-in-App-clause-ends
eval_term-returns-in_err-value-in-App-clause-ends t c =
    let p = err_from_is_err_and c.from_residual-in_err-value-in-App.result c.from_residual-in_err-value-in-App.ensures.1 in
    rw (p.1, p.2) (second_fails (terms_in c.args.scope.now c.as_slice.result.now) (value_in c.args.scope.now c.in-App.f) (term_in c.args.scope.now c.args.t.now) (app_is c.args.scope.now _ _ _ _ _ (sym c.get.ensures ∙ c.in-App.is) c.as_slice.ensures) (terms_grow c.args.scope.now c.as_slice.result.now) (value_grows c.args.scope.now c.in-App.f) c.args.turns c.in_ok-args-in-App.args c.in_ok-args-in-App.used c.in_ok-args-in-App.ensures.ends _ (subst (λ z. Ends (value_in c.args.scope.now c.in-App.f z) (c.args.turns - c.in_ok-args-in-App.used) (Err c.in_err-value-in-App.field-0.0)) c.as_slice-in-App.ensures c.in_err-value-in-App.ensures.ends))

pub eval_term-returns-in-Ok-clause-fits : goal.eval_term-returns-in-Ok-clause-fits
eval_term-returns-in-Ok-clause-fits t c = variable_room c.args.turns _ _ _ (omega (arith, c.ranges.turns.fits)) c.in-Ok.ensures (values_rooms c.args.scope.now c.args.turns c.requires.fits)

pub eval_term-returns-in_ok-value-in-App-clause-ends : goal.eval_term-returns-in_ok-value-in-App-clause-ends
eval_term-returns-in_ok-value-in-App-clause-ends t c = two_within (terms_in c.args.scope.now c.as_slice.result.now) (value_in c.args.scope.now c.in-App.f) (term_in c.args.scope.now c.args.t.now) (app_is c.args.scope.now _ _ _ _ _ (sym c.get.ensures ∙ c.in-App.is) c.as_slice.ensures) (terms_grow c.args.scope.now c.as_slice.result.now) (value_grows c.args.scope.now c.in-App.f) c.args.turns c.in_ok-args-in-App.args c.in_ok-args-in-App.used _ _ c.in_ok-args-in-App.ensures.ends (subst (λ z. IsWithin (value_in c.args.scope.now c.in-App.f z) (c.args.turns - c.in_ok-args-in-App.used) (record { result = c.in_ok-value-in-App.value; turns = c.in_ok-value-in-App.more })) c.as_slice-in-App.ensures c.in_ok-value-in-App.ensures.ends)

pub eval_terms-loop-t-init : goal.eval_terms-loop-t-init
eval_terms-loop-t-init t c = (omega arith, terms_none c.args.scope.now c.args.terms.now c.args.turns _ c.new-made.ensures, no_rooms _ _ c.new-made.ensures)

pub eval_terms-eval_term-requires : goal.eval_terms-eval_term-requires
eval_terms-eval_term-requires t c =
    let k = item_less nodes (weight c.args.scope.now.set.now) c.args.turns (c.args.turns - c.loop-t.used) c.args.terms.now c.loop-t.t-index _ (omega arith) c.t-item.is (omega arith) in
    let less : (c.args.turns - c.loop-t.used) * weight c.args.scope.now.set.now + 4 * nodes c.t-item.result < t = omega (arith, k) in
    (less, scope_fewer c.args.scope.now c.args.turns _ (omega arith) c.requires.fits)

pub eval_terms-returns-in-Err-clause-ends : goal.eval_terms-returns-in-Err-clause-ends
eval_terms-returns-in-Err-clause-ends t c = terms_fail c.args.scope.now c.args.turns c.args.terms.now c.loop-t.t-index _ (omega arith) c.t-item.is c.loop-t.made c.loop-t.used c.loop-t.invariant.1 c.in-Err.error c.in-Err.ensures.ends

pub eval_terms-loop-t-preserved : goal.eval_terms-loop-t-preserved
eval_terms-loop-t-preserved t c = (
  omega (arith, c.loop-t.invariant.0, c.in-Ok.ensures.within),
  terms_next c.args.scope.now c.args.turns c.args.terms.now c.loop-t.t-index _ (omega arith) c.t-item.is c.loop-t.made c.loop-t.used c.loop-t.invariant.1 c.in-Ok.value c.in-Ok.more c.in-Ok.ensures.ends _ c.in_ok-push-in-Ok.ensures.ok,
  pushed_rooms c.args.turns c.loop-t.used c.in-Ok.more c.loop-t.made c.in-Ok.value _ c.in_ok-push-in-Ok.ensures.ok c.loop-t.invariant.2 c.in-Ok.ensures.fits,
)

pub eval_out-returns-in_err-is-in-If-clause-ends : goal.eval_out-returns-in_err-is-in-If-clause-ends
eval_out-returns-in_err-is-in-If-clause-ends t c =
    let p = err_from_is_err_and c.from_residual.result c.from_residual.ensures.1 in
    rw (p.1, p.2) (first_fails (form_in c.args.scope.now c.get.result.now) (λ b. out_in c.args.scope.now (arm_of c.args.scope.now c.in-If.first c.in-If.second b)) (out_in c.args.scope.now c.args.out.now) (choice_is_if c.args.scope.now _ _ _ _ _ c.in-If.is c.get.ensures) (form_grows c.args.scope.now c.get.result.now) (arm_grows c.args.scope.now c.in-If.first c.in-If.second) c.args.turns _ c.in_err-is-in-If.ensures.ends)

pub eval_out-eval_out-requires : goal.eval_out-eval_out-requires
eval_out-eval_out-requires t c =
    let k = arm_less (weight c.args.scope.now.set.now) c.args.turns (c.args.turns - c.in_ok-is-in-If.used) c.args.out.now _ c.in-If.first c.in-If.second c.arm.result.now c.in_ok-is-in-If.is' c.in-If.is c.arm.ensures (omega arith) in
    let less : (c.args.turns - c.in_ok-is-in-If.used) * weight c.args.scope.now.set.now + (4 * out_nodes c.arm.result.now + 1) < t = omega (arith, k) in
    (less, scope_fewer c.args.scope.now c.args.turns _ (omega arith) c.requires.fits)

pub eval_out-returns-in_err-value-in-If-clause-ends : goal.eval_out-returns-in_err-value-in-If-clause-ends
eval_out-returns-in_err-value-in-If-clause-ends t c =
    let p = err_from_is_err_and c.from_residual-in_err-value-in-If.result c.from_residual-in_err-value-in-If.ensures.1 in
    rw (p.1, p.2) (second_fails (form_in c.args.scope.now c.get.result.now) (λ b. out_in c.args.scope.now (arm_of c.args.scope.now c.in-If.first c.in-If.second b)) (out_in c.args.scope.now c.args.out.now) (choice_is_if c.args.scope.now _ _ _ _ _ c.in-If.is c.get.ensures) (form_grows c.args.scope.now c.get.result.now) (arm_grows c.args.scope.now c.in-If.first c.in-If.second) c.args.turns c.in_ok-is-in-If.is' c.in_ok-is-in-If.used c.in_ok-is-in-If.ensures.ends _ (subst (λ z. Ends (out_in c.args.scope.now z) (c.args.turns - c.in_ok-is-in-If.used) (Err c.in_err-value-in-If.field-0.0)) c.arm.ensures c.in_err-value-in-If.ensures.ends))

pub eval_out-returns-in-Give-clause-ends : goal.eval_out-returns-in-Give-clause-ends
eval_out-returns-in-Give-clause-ends t c = ends_same _ _ c.args.turns (give_is c.args.scope.now _ _ _ c.in-Give.is refl) _ c.eval_term.ensures.ends

pub eval_out-returns-in_ok-value-in-If-clause-ends : goal.eval_out-returns-in_ok-value-in-If-clause-ends
eval_out-returns-in_ok-value-in-If-clause-ends t c = two_within (form_in c.args.scope.now c.get.result.now) (λ b. out_in c.args.scope.now (arm_of c.args.scope.now c.in-If.first c.in-If.second b)) (out_in c.args.scope.now c.args.out.now) (choice_is_if c.args.scope.now _ _ _ _ _ c.in-If.is c.get.ensures) (form_grows c.args.scope.now c.get.result.now) (arm_grows c.args.scope.now c.in-If.first c.in-If.second) c.args.turns c.in_ok-is-in-If.is' c.in_ok-is-in-If.used _ _ c.in_ok-is-in-If.ensures.ends (subst (λ z. IsWithin (out_in c.args.scope.now z) (c.args.turns - c.in_ok-is-in-If.used) (record { result = c.in_ok-value-in-If.value; turns = c.in_ok-value-in-If.more })) c.arm.ensures c.in_ok-value-in-If.ensures.ends)

pub eval_atom-returns-in_err-values-clause-ends : goal.eval_atom-returns-in_err-values-clause-ends
eval_atom-returns-in_err-values-clause-ends t c =
    let p = err_from_is_err_and c.from_residual.result c.from_residual.ensures.1 in
    rw (p.1, p.2) (first_fails (terms_in c.args.scope.now c.args.args.now) (truth_in c.args.scope.now c.args.r) (form_in c.args.scope.now (form.Atom c.args.r c.args.args.now)) (atom_is c.args.scope.now _ _ _ _ refl refl) (terms_grow c.args.scope.now c.args.args.now) (truth_grows c.args.scope.now c.args.r) c.args.turns _ c.in_err-values.ensures.ends)

pub eval_atom-ask-requires : goal.eval_atom-ask-requires
eval_atom-ask-requires t c =
    let k = ask_less (weight c.args.scope.now.set.now) c.args.turns (c.args.turns - c.in_ok-values.used) c.args.args.now (omega arith) in
    let less : (c.args.turns - c.in_ok-values.used) * weight c.args.scope.now.set.now + 2 < t = omega (arith, k) in
    (less, (scope_fewer c.args.scope.now c.args.turns _ (omega arith) c.requires.fits, rooms_same _ _ _ (sym c.as_slice.ensures) c.in_ok-values.ensures.fits))

pub eval_atom-returns-in_err-is-clause-ends : goal.eval_atom-returns-in_err-is-clause-ends
eval_atom-returns-in_err-is-clause-ends t c =
    let p = err_from_is_err_and c.from_residual-in_err-is.result c.from_residual-in_err-is.ensures.1 in
    rw (p.1, p.2) (second_fails (terms_in c.args.scope.now c.args.args.now) (truth_in c.args.scope.now c.args.r) (form_in c.args.scope.now (form.Atom c.args.r c.args.args.now)) (atom_is c.args.scope.now _ _ _ _ refl refl) (terms_grow c.args.scope.now c.args.args.now) (truth_grows c.args.scope.now c.args.r) c.args.turns c.in_ok-values.values c.in_ok-values.used c.in_ok-values.ensures.ends _ (subst (λ z. Ends (truth_in c.args.scope.now c.args.r z) (c.args.turns - c.in_ok-values.used) (Err c.in_err-is.field-0.0)) c.as_slice.ensures c.in_err-is.ensures.ends))

pub eval_atom-returns-clause-ends : goal.eval_atom-returns-clause-ends
eval_atom-returns-clause-ends t c = two_within (terms_in c.args.scope.now c.args.args.now) (truth_in c.args.scope.now c.args.r) (form_in c.args.scope.now (form.Atom c.args.r c.args.args.now)) (atom_is c.args.scope.now _ _ _ _ refl refl) (terms_grow c.args.scope.now c.args.args.now) (truth_grows c.args.scope.now c.args.r) c.args.turns c.in_ok-values.values c.in_ok-values.used _ _ c.in_ok-values.ensures.ends (subst (λ z. IsWithin (truth_in c.args.scope.now c.args.r z) (c.args.turns - c.in_ok-values.used) (record { result = c.in_ok-is.is'; turns = c.in_ok-is.more })) c.as_slice.ensures c.in_ok-is.ensures.ends)

pub eval_equal-returns-in_err-v-clause-ends : goal.eval_equal-returns-in_err-v-clause-ends
eval_equal-returns-in_err-v-clause-ends t c =
    let p = err_from_is_err_and c.from_residual.result c.from_residual.ensures.1 in
    rw (p.1, p.2) (first_fails (term_in c.args.scope.now c.args.first.now) (same_as c.args.scope.now c.args.second.now) (form_in c.args.scope.now (form.Equal c.args.first.now c.args.second.now)) (equal_is c.args.scope.now _ _ _ refl) (term_grows c.args.scope.now c.args.first.now) (same_as_grows c.args.scope.now c.args.second.now) c.args.turns _ c.in_err-v.ensures.ends)

pub eval_equal-eval_term-requires-2 : goal.eval_equal-eval_term-requires-2
eval_equal-eval_term-requires-2 t c =
    let k = second_term_less (weight c.args.scope.now.set.now) c.args.turns (c.args.turns - c.in_ok-v.used) c.args.first.now c.args.second.now (omega arith) in
    let less : (c.args.turns - c.in_ok-v.used) * weight c.args.scope.now.set.now + 4 * nodes c.args.second.now < t = omega (arith, k) in
    (less, scope_fewer c.args.scope.now c.args.turns _ (omega arith) c.requires.fits)

pub eval_equal-returns-in-Err-clause-ends : goal.eval_equal-returns-in-Err-clause-ends
eval_equal-returns-in-Err-clause-ends t c = second_fails (term_in c.args.scope.now c.args.first.now) (same_as c.args.scope.now c.args.second.now) (form_in c.args.scope.now (form.Equal c.args.first.now c.args.second.now)) (equal_is c.args.scope.now _ _ _ refl) (term_grows c.args.scope.now c.args.first.now) (same_as_grows c.args.scope.now c.args.second.now) c.args.turns c.in_ok-v.v c.in_ok-v.used c.in_ok-v.ensures.ends _ (made_fails (same_value c.in_ok-v.v) (term_in c.args.scope.now c.args.second.now) _ _ c.in-Err.ensures.ends)

pub eval_equal-returns-in-Ok-clause-ends : goal.eval_equal-returns-in-Ok-clause-ends
eval_equal-returns-in-Ok-clause-ends t c = two_within (term_in c.args.scope.now c.args.first.now) (same_as c.args.scope.now c.args.second.now) (form_in c.args.scope.now (form.Equal c.args.first.now c.args.second.now)) (equal_is c.args.scope.now _ _ _ refl) (term_grows c.args.scope.now c.args.first.now) (same_as_grows c.args.scope.now c.args.second.now) c.args.turns c.in_ok-v.v c.in_ok-v.used _ _ c.in_ok-v.ensures.ends (told_same c.args.scope.now c.args.second.now c.in_ok-v.v c.in-Ok.w _ _ c.same-is.result c.same-is.ensures c.in-Ok.ensures.ends)

pub eval_implies-returns-in_err-x-clause-ends : goal.eval_implies-returns-in_err-x-clause-ends
eval_implies-returns-in_err-x-clause-ends t c =
    let p = err_from_is_err_and c.from_residual.result c.from_residual.ensures.1 in
    rw (p.1, p.2) (first_fails (form_in c.args.scope.now c.args.first.now) (implied_by c.args.scope.now c.args.second.now) (form_in c.args.scope.now (form_view.Implies c.args.first.now c.args.second.now)) (implies_is c.args.scope.now _ _ _ _ _ refl refl refl) (form_grows c.args.scope.now c.args.first.now) (implied_by_grows c.args.scope.now c.args.second.now) c.args.turns _ c.in_err-x.ensures.ends)

pub eval_implies-eval_form-requires-2 : goal.eval_implies-eval_form-requires-2
eval_implies-eval_form-requires-2 t c =
    let k = conclusion_less (weight c.args.scope.now.set.now) c.args.turns (c.args.turns - c.in_ok-x.used) c.args.first.now c.args.second.now (omega arith) in
    let less : (c.args.turns - c.in_ok-x.used) * weight c.args.scope.now.set.now + 4 * form_nodes c.args.second.now < t = omega (arith, k) in
    (less, scope_fewer c.args.scope.now c.args.turns _ (omega arith) c.requires.fits)

pub eval_implies-returns-in_err-y-clause-ends : goal.eval_implies-returns-in_err-y-clause-ends
eval_implies-returns-in_err-y-clause-ends t c =
    let p = err_from_is_err_and c.from_residual-in_err-y.result c.from_residual-in_err-y.ensures.1 in
    rw (p.1, p.2) (second_fails (form_in c.args.scope.now c.args.first.now) (implied_by c.args.scope.now c.args.second.now) (form_in c.args.scope.now (form_view.Implies c.args.first.now c.args.second.now)) (implies_is c.args.scope.now _ _ _ _ _ refl refl refl) (form_grows c.args.scope.now c.args.first.now) (implied_by_grows c.args.scope.now c.args.second.now) c.args.turns c.in_ok-x.x c.in_ok-x.used c.in_ok-x.ensures.ends _ (made_fails (λ y. not c.in_ok-x.x || y) (form_in c.args.scope.now c.args.second.now) _ _ c.in_err-y.ensures.ends))

pub eval_implies-returns-clause-ends : goal.eval_implies-returns-clause-ends
eval_implies-returns-clause-ends t c = two_within (form_in c.args.scope.now c.args.first.now) (implied_by c.args.scope.now c.args.second.now) (form_in c.args.scope.now (form_view.Implies c.args.first.now c.args.second.now)) (implies_is c.args.scope.now _ _ _ _ _ refl refl refl) (form_grows c.args.scope.now c.args.first.now) (implied_by_grows c.args.scope.now c.args.second.now) c.args.turns c.in_ok-x.x c.in_ok-x.used _ _ c.in_ok-x.ensures.ends (subst (λ z. IsWithin (implied_by c.args.scope.now c.args.second.now c.in_ok-x.x) (c.args.turns - c.in_ok-x.used) (record { result = z; turns = c.in_ok-y.more })) (sym c.implies.ensures) (made_within (λ y. not c.in_ok-x.x || y) (form_in c.args.scope.now c.args.second.now) (c.args.turns - c.in_ok-x.used) c.in_ok-y.y c.in_ok-y.more c.in_ok-y.ensures.ends))

pub eval_form-eval_atom-requires : goal.eval_form-eval_atom-requires
eval_form-eval_atom-requires t c =
    let k = atom_less (weight c.args.scope.now.set.now) c.args.turns c.args.form.now _ _ c.as_slice.result.now c.in-Atom.is (c.as_slice.ensures ∙ c.get.ensures) in
    let less : c.args.turns * weight c.args.scope.now.set.now + (4 * sum (map nodes c.as_slice.result.now) + 3) < t = omega (arith, k) in
    (less, c.requires.fits)

pub eval_form-eval_equal-requires : goal.eval_form-eval_equal-requires
eval_form-eval_equal-requires t c =
    let k = equal_less (weight c.args.scope.now.set.now) c.args.turns c.args.form.now c.in-Equal.first c.in-Equal.second c.in-Equal.is in
    let less : c.args.turns * weight c.args.scope.now.set.now + (4 * (nodes c.in-Equal.first + nodes c.in-Equal.second) + 1) < t = omega (arith, k) in
    (less, c.requires.fits)

pub eval_form-eval_implies-requires : goal.eval_form-eval_implies-requires
eval_form-eval_implies-requires t c =
    let k = implies_less (weight c.args.scope.now.set.now) c.args.turns c.args.form.now _ _ c.get-in-Implies.result.now c.get-in-Implies-2.result.now c.in-Implies.is c.get-in-Implies.ensures c.get-in-Implies-2.ensures in
    let less : c.args.turns * weight c.args.scope.now.set.now + (4 * (form_nodes c.get-in-Implies.result.now + form_nodes c.get-in-Implies-2.result.now) + 1) < t = omega (arith, k) in
    (less, c.requires.fits)

pub eval_form-returns-in-Atom-clause-ends : goal.eval_form-returns-in-Atom-clause-ends
eval_form-returns-in-Atom-clause-ends t c = form_ends c.args.scope.now c.args.turns _ _ _ (c.in-Atom.is ∙ ap (form.Atom c.in-Atom.r) (sym (c.as_slice.ensures ∙ c.get.ensures))) c.eval_atom.ensures.ends

pub eval_form-returns-in-Equal-clause-ends : goal.eval_form-returns-in-Equal-clause-ends
eval_form-returns-in-Equal-clause-ends t c = form_ends c.args.scope.now c.args.turns _ _ _ c.in-Equal.is c.eval_equal.ensures.ends

pub eval_form-returns-in-Implies-clause-ends : goal.eval_form-returns-in-Implies-clause-ends
eval_form-returns-in-Implies-clause-ends t c = form_ends c.args.scope.now c.args.turns _ _ _ (c.in-Implies.is ∙ ap₂ form_view.Implies (sym c.get-in-Implies.ensures) (sym c.get-in-Implies-2.ensures)) c.eval_implies.ensures.ends

pub eval_form-returns-in_err-is-in-Not-clause-ends : goal.eval_form-returns-in_err-is-in-Not-clause-ends
eval_form-returns-in_err-is-in-Not-clause-ends t c =
    let p = err_from_is_err_and c.from_residual.result c.from_residual.ensures.1 in
    rw (p.1, p.2) (ends_same _ _ c.args.turns (not_is c.args.scope.now _ _ _ c.in-Not.is c.get-in-Not.ensures) (Err c.in_err-is-in-Not.field-0.0) (made_fails not (form_in c.args.scope.now c.get-in-Not.result.now) _ _ c.in_err-is-in-Not.ensures.ends))

pub eval_form-returns-in-And-clause-ends : goal.eval_form-returns-in-And-clause-ends
eval_form-returns-in-And-clause-ends t c = form_ends c.args.scope.now c.args.turns _ _ _ (c.in-And.is ∙ ap form_view.And (sym (c.as_slice-in-And.ensures ∙ c.get-in-And.ensures))) c.eval_and.ensures.ends

pub eval_and-returns-in_err-tally-clause-ends : goal.eval_and-returns-in_err-tally-clause-ends
eval_and-returns-in_err-tally-clause-ends t c =
    let p = err_from_is_err_and c.from_residual.result c.from_residual.ensures.1 in
    rw (p.1, p.2) (ends_same _ _ c.args.turns (and_is c.args.scope.now _ _ _ refl refl) (Err c.in_err-tally.field-0.0) (made_fails (λ (z : Tally). z.all) (tally_in c.args.scope.now c.args.all.now) _ _ c.in_err-tally.ensures.ends))

pub eval_form-returns-in-Or-clause-ends : goal.eval_form-returns-in-Or-clause-ends
eval_form-returns-in-Or-clause-ends t c = form_ends c.args.scope.now c.args.turns _ _ _ (c.in-Or.is ∙ ap form_view.Or (sym (c.as_slice-in-Or.ensures ∙ c.get-in-Or.ensures))) c.eval_or.ensures.ends

pub eval_or-returns-in_err-tally-clause-ends : goal.eval_or-returns-in_err-tally-clause-ends
eval_or-returns-in_err-tally-clause-ends t c =
    let p = err_from_is_err_and c.from_residual.result c.from_residual.ensures.1 in
    rw (p.1, p.2) (ends_same _ _ c.args.turns (or_is c.args.scope.now _ _ _ refl refl) (Err c.in_err-tally.field-0.0) (made_fails (λ (z : Tally). z.any) (tally_in c.args.scope.now c.args.all.now) _ _ c.in_err-tally.ensures.ends))

pub eval_forms-eval_form-requires : goal.eval_forms-eval_form-requires
eval_forms-eval_form-requires t c =
    let k = item_less form_nodes (weight c.args.scope.now.set.now) c.args.turns (c.args.turns - c.loop-form.used) c.args.forms.now c.loop-form.form-index _ (omega arith) c.form-item.is (omega arith) in
    let less : (c.args.turns - c.loop-form.used) * weight c.args.scope.now.set.now + 4 * form_nodes c.form-item.result < t = omega (arith, k) in
    (less, scope_fewer c.args.scope.now c.args.turns _ (omega arith) c.requires.fits)

pub eval_forms-returns-in_err-is-clause-ends : goal.eval_forms-returns-in_err-is-clause-ends
eval_forms-returns-in_err-is-clause-ends t c =
    let p = err_from_is_err_and c.from_residual.result c.from_residual.ensures.1 in
    rw (p.1, p.2) (forms_fail c.args.scope.now c.args.turns c.args.forms.now c.loop-form.form-index _ (omega arith) c.form-item.is c.loop-form.invariant.1.values c.loop-form.used c.loop-form.invariant.1.given _ c.in_err-is.ensures.ends)

pub eval_forms-loop-form-preserved : goal.eval_forms-loop-form-preserved
eval_forms-loop-form-preserved t c = (
  omega (arith, c.loop-form.invariant.0, c.in_ok-is.ensures.within),
  record {
    values = c.loop-form.invariant.1.values ++ c.in_ok-is.is' ∷ [];
    tallied = c.with_one-tally.ensures ∙ tally_next c.loop-form.invariant.1.values c.in_ok-is.is' c.loop-form.tally c.loop-form.invariant.1.tallied;
    given = forms_next c.args.scope.now c.args.turns c.args.forms.now c.loop-form.form-index _ (omega arith) c.form-item.is c.loop-form.invariant.1.values c.loop-form.used c.loop-form.invariant.1.given c.in_ok-is.is' c.in_ok-is.more c.in_ok-is.ensures.ends;
  },
)

pub eval_number-returns-in_err-v-clause-ends : goal.eval_number-returns-in_err-v-clause-ends
eval_number-returns-in_err-v-clause-ends t c =
    let p = err_from_is_err_and c.from_residual.result c.from_residual.ensures.1 in
    rw (p.1, p.2) (made_fails number_of (term_in c.args.scope.now c.args.t.now) _ _ c.in_err-v.ensures.ends)

pub eval_number-returns-clause-ends : goal.eval_number-returns-clause-ends
eval_number-returns-clause-ends t c = subst (λ z. IsWithin (number_in c.args.scope.now c.args.t.now) c.args.turns (record { result = z; turns = c.in_ok-v.used })) (sym c.as_number.ensures) (made_within number_of (term_in c.args.scope.now c.args.t.now) c.args.turns c.in_ok-v.v c.in_ok-v.used c.in_ok-v.ensures.ends)

pub ask_order-eval_number-requires : goal.ask_order-eval_number-requires
ask_order-eval_number-requires t c =
    let k = turn_less (c.args.turns - 1) c.args.turns (weight c.args.set.now) (4 * nodes c.args.measure.now + 1) 1 (omega arith) (omega (arith, c.requires.light)) in
    let less : (c.args.turns - 1) * weight c.args.set.now + (4 * nodes c.args.measure.now + 1) < t = omega (arith, k) in
    (less, scope_rooms _ (c.args.turns - 1) (no_rooms _ _ refl) (rooms_fewer _ c.args.turns (c.args.turns - 1) (omega arith) (take_rooms c.args.turns _ _ _ c.front.ensures c.requires.args)))

pub ask_order-returns-in_err-m-clause-ends : goal.ask_order-returns-in_err-m-clause-ends
ask_order-returns-in_err-m-clause-ends t c =
    let p = err_from_is_err_and c.from_residual.result c.from_residual.ensures.1 in
    rw (p.1, p.2) (first_measure_fails c.args.set.now c.args.measure.now c.args.args.now (record { set = c.args.set; inputs = record { ref_ptr = c.args.args.ref_ptr; now = [] }; values = c.front.result }) (record { set = c.args.set; inputs = record { ref_ptr = c.args.args.ref_ptr; now = [] }; values = c.back.result }) (record { set = refl; inputs_are = refl; values_are = c.front.ensures }) (record { set = refl; inputs_are = refl; values_are = c.back.ensures }) c.args.turns (omega arith) _ c.in_err-m.ensures.ends)

pub ask_order-eval_number-requires-2 : goal.ask_order-eval_number-requires-2
ask_order-eval_number-requires-2 t c =
    let k = turn_less ((c.args.turns - 1) - c.in_ok-m.used) c.args.turns (weight c.args.set.now) (4 * nodes c.args.measure.now + 1) 1 (omega arith) (omega (arith, c.requires.light)) in
    let less : ((c.args.turns - 1) - c.in_ok-m.used) * weight c.args.set.now + (4 * nodes c.args.measure.now + 1) < t = omega (arith, k) in
    (less, scope_rooms _ ((c.args.turns - 1) - c.in_ok-m.used) (no_rooms _ _ refl) (rooms_fewer _ c.args.turns ((c.args.turns - 1) - c.in_ok-m.used) (omega arith) (drop_rooms c.args.turns _ _ _ c.back.ensures c.requires.args)))

pub ask_order-returns-in_err-n-clause-ends : goal.ask_order-returns-in_err-n-clause-ends
ask_order-returns-in_err-n-clause-ends t c =
    let p = err_from_is_err_and c.from_residual-in_err-n.result c.from_residual-in_err-n.ensures.1 in
    rw (p.1, p.2) (second_measure_fails c.args.set.now c.args.measure.now c.args.args.now (record { set = c.args.set; inputs = record { ref_ptr = c.args.args.ref_ptr; now = [] }; values = c.front.result }) (record { set = c.args.set; inputs = record { ref_ptr = c.args.args.ref_ptr; now = [] }; values = c.back.result }) (record { set = refl; inputs_are = refl; values_are = c.front.ensures }) (record { set = refl; inputs_are = refl; values_are = c.back.ensures }) c.args.turns (omega arith) c.in_ok-m.m c.in_ok-m.used c.in_ok-m.ensures.ends _ c.in_err-n.ensures.ends)

pub ask_order-returns-in-None-clause-ends : goal.ask_order-returns-in-None-clause-ends
ask_order-returns-in-None-clause-ends t c = not_compared c.args.set.now c.args.measure.now c.args.args.now (record { set = c.args.set; inputs = record { ref_ptr = c.args.args.ref_ptr; now = [] }; values = c.front.result }) (record { set = c.args.set; inputs = record { ref_ptr = c.args.args.ref_ptr; now = [] }; values = c.back.result }) (record { set = refl; inputs_are = refl; values_are = c.front.ensures }) (record { set = refl; inputs_are = refl; values_are = c.back.ensures }) c.args.turns (omega arith) c.in_ok-m.m c.in_ok-m.used c.in_ok-m.ensures.ends c.in_ok-n.n c.in_ok-n.more c.in_ok-n.ensures.ends (sym c.is_below.ensures ∙ ap (option_map (λ b. record { result = b; turns = 0 })) c.in-None.is)

pub ask_order-returns-in-Some-clause-ends : goal.ask_order-returns-in-Some-clause-ends
ask_order-returns-in-Some-clause-ends t c = compared_within c.args.set.now c.args.measure.now c.args.args.now (record { set = c.args.set; inputs = record { ref_ptr = c.args.args.ref_ptr; now = [] }; values = c.front.result }) (record { set = c.args.set; inputs = record { ref_ptr = c.args.args.ref_ptr; now = [] }; values = c.back.result }) (record { set = refl; inputs_are = refl; values_are = c.front.ensures }) (record { set = refl; inputs_are = refl; values_are = c.back.ensures }) c.args.turns (omega arith) c.in_ok-m.m c.in_ok-m.used c.in_ok-m.ensures.ends c.in_ok-n.n c.in_ok-n.more c.in_ok-n.ensures.ends _ (sym c.is_below.ensures ∙ ap (option_map (λ b. record { result = b; turns = 0 })) c.in-Some.is)
