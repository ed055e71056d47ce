-- For public contracts: the one text that is printed for a derivation.
use Rattle.std.specs.Prelude.{ℕ, ◌+◌, ◌≤◌, List, [], ◌∷◌, ◌++◌, Option, None, Some, All, codes, decimal, length, map}
use Rattle.std.specs.List.{flat_map}
use Rattle.syn_term.specs.declared.sorts.Var.{Var}
use Rattle.syn_term.specs.Symbols.{SymbolTable}
use Rattle.syn_form.specs.Printing.{joined, printed_form, printed_out}
use Rattle.syn_form.specs.Trees.{OutTree}
use Rattle.syn_lex.specs.TextLines.{with_feed}
use Rattle.syn_row.specs.declared.direction.Dir.{Dir}
use Rattle.syn_row.specs.Rows.{RowTree, row_vars}
use Rattle.syn_start.specs.declared.steps.Origin.{Origin}
use Rattle.syn_start.specs.declared.steps.Origin.TheVariants as origin
use Rattle.syn_start.specs.declared.steps.Step.{Step}
use Rattle.syn_start.specs.declared.steps.Step.TheVariants as step
use Rattle.syn_start.specs.Derivations.{Lines}
use Rattle.syn_start.specs.Starts.{StartTree}
use Rattle.syn_deriv.specs.DerivationLines.{HasText, IsFew, IsTextRow, direction, row_scope, side_name}

-- `-`, or numbers with full stops between
abbrev pub position_text : List ℕ → List ℕ
position_text [] = codes "-"
position_text (k ∷ ks) = joined (codes ".") (map decimal (k ∷ ks))

-- positions with commas between, and no spaces
abbrev pub positions_text : List (List ℕ) → List ℕ
positions_text ps = joined (codes ",") (map position_text ps)

-- N POS lr N POS
abbrev pub used_text : ℕ → List ℕ → Dir → ℕ → List ℕ → List ℕ
used_text n at way m place = decimal n ++ codes " " ++ position_text at ++ codes " " ++ direction way ++ codes " " ++ decimal m ++ codes " " ++ position_text place

abbrev pub origin_text : Origin → List ℕ
origin_text origin.Goal = codes "goal"
origin_text origin.Input = codes "input"
origin_text (origin.Axiom name) = codes "axiom " ++ name
origin_text (origin.Def name k) = codes "def " ++ name ++ codes " " ++ decimal k
origin_text origin.Induct = codes "induct"

abbrev pub step_text : Step → List ℕ
step_text (step.Start o) = origin_text o
step_text (step.Split n member) = codes "split " ++ decimal n ++ codes " " ++ decimal member
step_text (step.Dual n) = codes "dual " ++ decimal n
step_text (step.Reflex n at) = codes "reflex " ++ decimal n ++ codes " " ++ position_text at
step_text (step.Resolve n ps m qs) = codes "resolve " ++ decimal n ++ codes " " ++ positions_text ps ++ codes " " ++ decimal m ++ codes " " ++ positions_text qs
step_text (step.Equal n at way m place) = codes "equal " ++ used_text n at way m place
step_text (step.Relate n at way m place) = codes "relate " ++ used_text n at way m place

abbrev pub output_text : SymbolTable → Option OutTree → List ℕ
output_text table None = []
output_text table (Some o) = codes " | " ++ printed_out (row_scope table) o

-- KIND FORM [ | OUT ]
abbrev pub printed_row : SymbolTable → RowTree → List ℕ
printed_row table r = side_name r.side ++ codes " " ++ printed_form (row_scope table) r.form ++ output_text table r.out

-- N RULE: KIND FORM [ | OUT ]
abbrev pub printed_line : SymbolTable → ℕ → Step × RowTree → List ℕ
printed_line table n line = decimal n ++ codes " " ++ step_text line.0 ++ codes ": " ++ printed_row table line.1

-- the lines, numbered from n on
abbrev pub printed_lines : SymbolTable → ℕ → Lines → List (List ℕ)
printed_lines table n [] = []
printed_lines table n (l ∷ ls) = printed_line table n l ∷ printed_lines table (n + 1) ls

-- the text that is printed for the derivation over the start
abbrev pub printed_derivation : StartTree → Lines → List ℕ
printed_derivation x ls = flat_map with_feed (codes "derivation 1" ∷ printed_lines x.spec.table 1 ls)

-- a variable that is written in a row: its number is from 1 and has at most seven digits
abbrev pub IsRowVar : Var → Type 0
IsRowVar v = (1 ≤ v.number) × IsFew v.number

-- a line that has a text
pub record IsPrintable (x : StartTree) (line : Step × RowTree) : Type 0 where
  pub step : HasText line.0
  pub row : IsTextRow x line.1
  pub vars : All IsRowVar (row_vars line.1)

-- a derivation that has a text: each line has one, and the number of the last has at most seven digits
pub record ArePrintable (x : StartTree) (ls : Lines) : Type 0 where
  pub few : IsFew (length ls)
  pub each : All (IsPrintable x) ls
