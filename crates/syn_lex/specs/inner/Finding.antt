-- Inner. What the scanner finds at a place, as the grammar names it, and that it ends within the line.
use Rattle.std.specs.Prelude.{ℕ, ◌<◌, ◌≤◌, List, length}
use Rattle.syn_term.specs.Tokens.{Start, gap, over, bad, token}
use Rattle.syn_lex.specs.declared.token.What.{What}
use Rattle.syn_lex.specs.declared.token.What.TheVariants as what

-- What is found at a place.
abbrev pub seen : What → Start
seen what.Gap = gap
seen what.Over = over
seen (what.Bad n) = bad n
seen (what.Token k n) = token k n

-- What begins here ends within the line.
abbrev pub Within : List ℕ → Start → Type 0
Within rest gap = 0 < length rest
Within rest over = Unit {0}
Within rest (bad n) = n < length rest
Within rest (token k n) = (0 < n) × (n ≤ length rest)
