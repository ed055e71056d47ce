use Rattle.std.proofs.Common.{◌≡◌, ◌∷◌, ℕ, List, map, string_bytes, ap, sym, ◌∙◌}
use Rattle.std.proofs.lemmas.Result.{MatchResult-weaker}
use Rattle.syn_app.proofs.EvalEnding.{later_fails, more_values}
use Rattle.syn_app.proofs.evaluating.+read_values.Goals as goal

pub returns-in-Ok : goal.returns-in-Ok
returns-in-Ok t c =
    let first_input = c.in-Some.ensures.cases.0 in
    let others = map string_bytes c.in-Some-split_first.words.now in
    let first_word : map string_bytes c.args.words.now ≡ c.as_str.result.now ∷ others =
    ap (map string_bytes) c.in-Some-split_first.ensures.cases.0 ∙ ap (λ (w : List ℕ). w ∷ others) (sym c.as_str.ensures.value) in
    MatchResult-weaker c.read_values.result c.read_values.ensures
    (λ x h. more_values c.args.syms.now _ _ _ _ c.in-Some.input.now c.as_str.result.now first_input first_word c.in_ok-value.value c.args.values.now _ _ c.in_ok-value.ensures c.in-Ok.ensures.ok h)
    (λ e h. later_fails c.args.syms.now _ _ _ _ c.in-Some.input.now c.as_str.result.now first_input first_word c.args.place c.in_ok-value.value e c.in_ok-value.ensures h)
