use Rattle.std.proofs.Common.{◌+◌, ◌<◌, ◌≤◌, ◌^◌, length, rules, sym, ◌∙◌, arith}
use Rattle.std.specs.Str.Iter.{chars_rest}
use Rattle.std.proofs.lemmas.Str.{IsUtf8-past_char}
use Rattle.syn_lex.proofs.Runs.{run_step, run_room, run_stops, run_none}
use Rattle.syn_lex.proofs.lengths.run_len.Goals as goal

pub returns-then-not-is_xid_continue-clause-value : goal.returns-then-not-is_xid_continue-clause-value
returns-then-not-is_xid_continue-clause-value c =
    run_stops c.loop-c.total (chars_rest c.loop-c.c-iterator) (chars_rest c.next.new.self) c.args.text.now c.in-Some.c c.loop-c.invariant.0 c.in-Some.ensures.steps.0 (sym c.is_xid_continue.ensures.value ∙ c.if-not-is_xid_continue.true) c.loop-c.invariant.1

pub overflow_add-total : goal.overflow_add-total
overflow_add-total c =
    let room : (c.loop-c.total + c.len_utf8-total.result) + length (chars_rest c.next.new.self) ≤ length c.args.text.now =
    run_room c.loop-c.total c.len_utf8-total.result (chars_rest c.loop-c.c-iterator) (chars_rest c.next.new.self) c.args.text.now c.in-Some.c c.in-Some.ensures.steps.0 c.len_utf8-total.ensures.len c.loop-c.invariant.2 in
    let bound : length c.args.text.now < 2 ^ 64 = search rules in record { fits = omega arith }

pub loop-c-preserved : goal.loop-c-preserved
loop-c-preserved c = (
  IsUtf8-past_char _ _ c.in-Some.c c.loop-c.invariant.0 c.in-Some.ensures.steps.0,
  run_step c.loop-c.total c.len_utf8-total.result (chars_rest c.loop-c.c-iterator) (chars_rest c.next.new.self) c.args.text.now c.in-Some.c c.loop-c.invariant.0 c.in-Some.ensures.steps.0 (sym c.is_xid_continue.ensures.value ∙ c.if-not-is_xid_continue.false) c.len_utf8-total.ensures.len c.loop-c.invariant.1,
  run_room c.loop-c.total c.len_utf8-total.result (chars_rest c.loop-c.c-iterator) (chars_rest c.next.new.self) c.args.text.now c.in-Some.c c.in-Some.ensures.steps.0 c.len_utf8-total.ensures.len c.loop-c.invariant.2,
)

pub returns-clause-value : goal.returns-clause-value
returns-clause-value c = run_none c.loop-c.total (chars_rest c.loop-c.c-iterator) c.args.text.now c.in-None.ensures.steps.0.0 c.loop-c.invariant.1
