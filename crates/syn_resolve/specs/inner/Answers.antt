-- For private contracts: what is answered of the row under the line.
use Rattle.std.specs.Prelude.{◌≡◌, Option, MatchOption}
use Rattle.syn_row.specs.Rows.{IsWithinRow, RowTree, bare_row, canonical_row, simplified_row}

-- none where it isn't within the limit of a row once it is simplified, and else its canonical row
abbrev pub Answered : RowTree → Option RowTree → Type 0
Answered u o = MatchOption o (IsWithinRow (simplified_row u) → ⊥) (λ q. IsWithinRow (simplified_row u) × (bare_row q ≡ bare_row (canonical_row u)))
