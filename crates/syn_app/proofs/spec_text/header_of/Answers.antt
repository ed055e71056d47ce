use Rattle.std.proofs.Common.{sym, ◌∙◌, true≢false}
use Rattle.syn_app.proofs.SpecTexts.{no_input, no_output, no_end, not_distinct, not_empty}
use Rattle.syn_app.proofs.spec_text.header_of.Goals as goal

pub returns-in_default-name_before-2 : goal.returns-in_default-name_before-2
returns-in_default-name_before-2 c =
    no_input c.args.line.now c.in-Some.after_word.now c.in-Some-name_before.program.now c.in-Some-name_before.after_program.now
    c.in-Some.ensures c.in-Some-name_before.ensures.1 c.in-Some-name_before.ensures.0
    c.in_default-name_before-2.ensures

pub returns-in_default-name_before-3 : goal.returns-in_default-name_before-3
returns-in_default-name_before-3 c =
    no_output c.args.line.now c.in-Some.after_word.now c.in-Some-name_before.program.now c.in-Some-name_before.after_program.now
    c.in-Some.ensures c.in-Some-name_before.ensures.1 c.in-Some-name_before.ensures.0
    c.in-Some-name_before-2.input.now c.in-Some-name_before-2.after_input.now c.in-Some-name_before-2.ensures.1 c.in-Some-name_before-2.ensures.0
    c.in_default-name_before-3.ensures

pub returns-then-not-is_empty : goal.returns-then-not-is_empty
returns-then-not-is_empty c =
    no_end c.args.line.now c.in-Some.after_word.now c.in-Some-name_before.program.now c.in-Some-name_before.after_program.now
    c.in-Some.ensures c.in-Some-name_before.ensures.1 c.in-Some-name_before.ensures.0
    c.in-Some-name_before-2.input.now c.in-Some-name_before-2.after_input.now c.in-Some-name_before-2.ensures.1 c.in-Some-name_before-2.ensures.0
    c.in-Some-name_before-3.output.now c.in-Some-name_before-3.after_output.now c.in-Some-name_before-3.ensures.1 c.in-Some-name_before-3.ensures.0
    (not_empty c.in-Some-name_before-3.after_output.now c.is_empty.result c.is_empty.ensures c.if-not-is_empty.true)

pub returns-then-not-are_distinct : goal.returns-then-not-are_distinct
returns-then-not-are_distinct c =
    not_distinct c.args.line.now c.in-Some.after_word.now c.in-Some-name_before.program.now c.in-Some-name_before.after_program.now
    c.in-Some.ensures c.in-Some-name_before.ensures.1 c.in-Some-name_before.ensures.0
    c.in-Some-name_before-2.input.now c.in-Some-name_before-2.after_input.now c.in-Some-name_before-2.ensures.1 c.in-Some-name_before-2.ensures.0
    c.in-Some-name_before-3.output.now c.in-Some-name_before-3.after_output.now c.in-Some-name_before-3.ensures.1 c.in-Some-name_before-3.ensures.0
    (λ e. true≢false (sym (c.are_distinct.ensures.1 e) ∙ c.if-not-are_distinct.true))
