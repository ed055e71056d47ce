use Rattle.std.proofs.Common.{◌≡◌, ◌+◌, ◌∷◌, length, map, take}
use Rattle.syn_app.specs.DerivationText.{AreRows, first_line, row_lines}
use Rattle.syn_app.proofs.derivation_text.read_rows.Given as goal

abbrev pub invariant-loop-number : goal.invariant-loop-number
invariant-loop-number l = record {
  lines : take l.number (map (λ z. z.now) l.lines) ≡ first_line ∷ row_lines l.input 1 l.rows.items;
  rows : AreRows l.rows.items;
  count : l.number ≡ length l.rows.items + 1;
}
