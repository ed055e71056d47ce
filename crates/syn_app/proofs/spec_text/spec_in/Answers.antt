use Rattle.std.proofs.Common.{List, ℕ, Bor, map, sym, ◌∙◌, true≢false}
use Rattle.syn_app.proofs.SpecTexts.{spec_second, spec_third, spec_fourth, spec_whole}
use Rattle.syn_app.proofs.spec_text.spec_in.Goals as goal

pub returns-in_default-header_of : goal.returns-in_default-header_of
returns-in_default-header_of c = λ bytes is_cut.
    spec_second bytes c.args.cut.now.rest.now c.in-Some.name.now c.in-Some.ensures.0 (map (λ (z : Bor (List ℕ)). z.now) c.args.cut.now.lines.items)
    is_cut (sym c.line_at.ensures ∙ c.in-Some.ensures.1)
    (λ n ok e. c.in_default-header_of.ensures n ok (c.line_at-2.ensures ∙ e))

pub returns-in_default-condition_of : goal.returns-in_default-condition_of
returns-in_default-condition_of c = λ bytes is_cut.
    spec_third bytes c.args.cut.now.rest.now c.in-Some.name.now c.in-Some.ensures.0
    (record { program = c.in-Some-header_of.header.program.now; input = c.in-Some-header_of.header.input.now; output = c.in-Some-header_of.header.output.now })
    c.in-Some-header_of.ensures.0 (map (λ (z : Bor (List ℕ)). z.now) c.args.cut.now.lines.items)
    is_cut (sym c.line_at.ensures ∙ c.in-Some.ensures.1) (sym c.line_at-2.ensures ∙ c.in-Some-header_of.ensures.1)
    (λ r ok e. c.in_default-condition_of.ensures r ok (c.line_at-3.ensures ∙ e))

pub returns-then-not-ends_after : goal.returns-then-not-ends_after
returns-then-not-ends_after c = λ bytes is_cut.
    spec_fourth bytes c.args.cut.now.rest.now c.in-Some.name.now c.in-Some.ensures.0
    (record { program = c.in-Some-header_of.header.program.now; input = c.in-Some-header_of.header.input.now; output = c.in-Some-header_of.header.output.now })
    c.in-Some-header_of.ensures.0 c.in-Some-condition_of.term c.in-Some-condition_of.ensures.0 (map (λ (z : Bor (List ℕ)). z.now) c.args.cut.now.lines.items)
    is_cut (sym c.line_at.ensures ∙ c.in-Some.ensures.1) (sym c.line_at-2.ensures ∙ c.in-Some-header_of.ensures.1)
    (sym c.line_at-3.ensures ∙ c.in-Some-condition_of.ensures.1)
    (λ e. true≢false (sym (c.ends_after.ensures.1 e) ∙ c.if-not-ends_after.true))

pub returns : goal.returns
returns c = λ bytes is_cut.
    spec_whole bytes c.args.cut.now.rest.now c.in-Some.name.now c.in-Some.ensures.0
    (record { program = c.in-Some-header_of.header.program.now; input = c.in-Some-header_of.header.input.now; output = c.in-Some-header_of.header.output.now })
    c.in-Some-header_of.ensures.0 c.in-Some-condition_of.term c.in-Some-condition_of.ensures.0 (map (λ (z : Bor (List ℕ)). z.now) c.args.cut.now.lines.items)
    is_cut (sym c.line_at.ensures ∙ c.in-Some.ensures.1) (sym c.line_at-2.ensures ∙ c.in-Some-header_of.ensures.1)
    (sym c.line_at-3.ensures ∙ c.in-Some-condition_of.ensures.1)
    (c.ends_after.ensures.0 c.if-not-ends_after.false)
