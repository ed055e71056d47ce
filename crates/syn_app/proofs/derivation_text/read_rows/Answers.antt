use Rattle.std.proofs.Common.{◌<◌, [], List, ℕ, Bor, map, length, sym, ◌∙◌, arith}
use Rattle.std.proofs.lemmas.List.{get_or-map, length-map}
use Rattle.syn_app.proofs.RowTexts.{read_stops, read_more_rows}
use Rattle.syn_app.proofs.derivation_text.read_rows.Goals as goal

pub returns-in_default : goal.returns-in_default
returns-in_default c =
    let lt : c.loop-number.number < length c.args.lines.now = c.loop-number-test.true in
    let l = length-map c.args.lines.now (λ (z : Bor (List ℕ)). z.now) in
    read_stops c.args.input.now (map (λ (z : Bor (List ℕ)). z.now) c.args.lines.now) c.loop-number.rows.items c.loop-number.number
    c.loop-number.invariant.rows c.loop-number.invariant.count c.loop-number.invariant.lines (omega arith)
    (λ r ok e. c.in_default.ensures r ok (sym (get_or-map (λ (z : Bor (List ℕ)). z.now) c.args.lines.now c.loop-number.number _ [] lt) ∙ e))

pub loop-number-preserved : goal.loop-number-preserved
loop-number-preserved c =
    let lt : c.loop-number.number < length c.args.lines.now = c.loop-number-test.true in
    let l = length-map c.args.lines.now (λ (z : Bor (List ℕ)). z.now) in
    let m = read_more_rows c.args.input.now (map (λ (z : Bor (List ℕ)). z.now) c.args.lines.now) c.loop-number.rows.items c.push.new.rows.items c.in-Some.row c.loop-number.number
    c.loop-number.invariant.rows c.loop-number.invariant.count (omega arith) c.loop-number.invariant.lines
    (get_or-map (λ (z : Bor (List ℕ)). z.now) c.args.lines.now c.loop-number.number _ [] lt ∙ c.in-Some.ensures.1) c.in-Some.ensures.0 c.in_default-push.ensures in
    record { lines = m.0; rows = m.1; count = m.2 }
