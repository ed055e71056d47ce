-- For public contracts: how large what is read and printed may be.
use Rattle.std.specs.Prelude.{ℕ}

-- the greatest number that is written as one
abbrev pub largest_numeral : ℕ
largest_numeral = 1000

-- the most nodes, and the most levels, of an expression and of a row
abbrev pub most_nodes : ℕ
most_nodes = 4096

abbrev pub most_levels : ℕ
most_levels = 1200

-- the most nodes, and the most levels, of the instances of a step
abbrev pub most_step_nodes : ℕ
most_step_nodes = 65536

abbrev pub most_step_levels : ℕ
most_step_levels = 2400

-- the most levels of the body of a program
abbrev pub most_body_levels : ℕ
most_body_levels = 1264

-- the most bytes of a file
abbrev pub most_bytes : ℕ
most_bytes = 4194304

-- the most turns of an evaluation
abbrev pub most_turns : ℕ
most_turns = 10000000
