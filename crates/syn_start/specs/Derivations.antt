-- For public contracts: a derivation as the list of its lines.
use Rattle.std.specs.Prelude.{ℕ, zero, suc, List, Option, None, slice_get}
use Rattle.syn_row.specs.Rows.{RowTree}
use Rattle.syn_start.specs.declared.steps.Step.{Step}

-- lines, each a step and the row that is said to come of it
abbrev pub Lines : Type 0
Lines = List (Step × RowTree)

-- the line with this number, counted from 1
abbrev pub line_at : Lines → ℕ → Option (Step × RowTree)
line_at ls zero = None
line_at ls (suc i) = slice_get ls i
