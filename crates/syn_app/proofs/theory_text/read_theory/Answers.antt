use Rattle.std.proofs.Common.{List, ℕ, Bor, map, sym, ◌∙◌, true≢false}
use Rattle.syn_app.proofs.SpecTexts.{theory_second}
use Rattle.syn_app.proofs.theory_text.read_theory.Goals as goal

pub returns-then-not-ends_after : goal.returns-then-not-ends_after
returns-then-not-ends_after c =
    theory_second c.args.bytes.now c.in-Ok.cut.rest.now (map (λ (z : Bor (List ℕ)). z.now) c.in-Ok.cut.lines.items) c.in-Some.name.now
    c.in-Ok.ensures.cut c.in-Some.ensures.0 (sym c.line_at.ensures ∙ c.in-Some.ensures.1)
    (λ e. true≢false (sym (c.ends_after.ensures.1 e) ∙ c.if-not-ends_after.true))
