use Rattle.std.proofs.Common.{◌≡◌, ◌+◌, List, ℕ, Bor, map, length, sym, ◌∙◌, ap, arith, subst}
use Rattle.std.proofs.lemmas.List.{length-map}
use Rattle.syn_app.specs.DerivationText.{ExtendsDerivation}
use Rattle.syn_app.specs.inner.Readers.{RefusesLines}
use Rattle.syn_app.proofs.RowTexts.{derivation_refused, derivation_open}
use Rattle.syn_app.proofs.SpecTexts.{not_empty}
use Rattle.syn_app.proofs.derivation_text.read_derivation.Goals as goal

pub returns-in-Err : goal.returns-in-Err
returns-in-Err c =
    derivation_refused c.args.bytes.now c.args.input.now c.in-Ok.cut.rest.now (map (λ (z : Bor (List ℕ)). z.now) c.in-Ok.cut.lines.items) c.in-Err.error c.in-Ok.ensures.cut
    (subst (λ (x : List (Bor (List ℕ))). RefusesLines (ExtendsDerivation c.args.input.now) (map (λ (z : Bor (List ℕ)). z.now) x) c.in-Err.error) c.as_slice.ensures.value c.in-Err.ensures)

pub returns-then-not-is_empty : goal.returns-then-not-is_empty
returns-then-not-is_empty c =
    let l = length-map c.in-Ok.cut.lines.items (λ (z : Bor (List ℕ)). z.now) in
    let n : c.len.result ≡ length c.in-Ok.cut.lines.items = omega arith in
    derivation_open c.args.bytes.now c.args.input.now c.in-Ok.cut.rest.now (map (λ (z : Bor (List ℕ)). z.now) c.in-Ok.cut.lines.items) c.in-Ok-read_rows.rows.items (c.len.result + 1)
    c.in-Ok.ensures.cut
    (ap (λ (x : List (Bor (List ℕ))). map (λ (z : Bor (List ℕ)). z.now) x) (sym c.as_slice.ensures.value) ∙ c.in-Ok-read_rows.ensures.0) c.in-Ok-read_rows.ensures.1
    (not_empty c.in-Ok.cut.rest.now c.is_empty.result c.is_empty.ensures c.if-not-is_empty.true) (omega arith)
