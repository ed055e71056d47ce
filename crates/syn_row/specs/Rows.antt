-- For public contracts: rows, the renamings of their variables, variants, and the canonical row.
use Rattle.std.specs.Prelude.{◌≡◌, ◌≤◌, ℕ, ◌+◌, max, not, List, [], ◌∷◌, ◌++◌, Contains, filter}
use Rattle.std.specs.Option.{option_map, option_map_or}
use Rattle.syn_term.specs.declared.sorts.Var.{Var}
use Rattle.syn_term.specs.Symbols.{SymbolTable}
use Rattle.syn_term.specs.Terms.{TermTree, bare, variable_tree}
use Rattle.syn_form.specs.Plain.{IsPlainRow}
use Rattle.syn_form.specs.Simplification.{simplified_form, simplified_out}
use Rattle.syn_form.specs.Substitutions.{Substitution, image, same_var, substituted_form, substituted_out}
use Rattle.syn_form.specs.Texts.{Limit}
use Rattle.syn_form.specs.Trees.{form_nodes, form_depth, form_terms, form_vars, bare_form, out_nodes, out_depth, out_terms, out_vars, bare_out}
use Rattle.syn_row.specs.declared.rows.Row.{Row}

abbrev pub RowTree : Type 0
RowTree = Row

-- the terms of a row, and its variables, one for each place where one stands: those of the formula, then those of the output
abbrev pub row_terms : RowTree → List TermTree
row_terms r = form_terms r.form ++ option_map_or out_terms r.out []

abbrev pub row_vars : RowTree → List Var
row_vars r = form_vars r.form ++ option_map_or out_vars r.out []

-- the number of nodes, formula and output added up, and the depth, which is the greater of the two
abbrev pub row_nodes : RowTree → ℕ
row_nodes r = form_nodes r.form + option_map_or out_nodes r.out 0

abbrev pub row_depth : RowTree → ℕ
row_depth r = max (form_depth r.form) (option_map_or out_depth r.out 0)

-- the row with the places of its terms left out: two rows are one where these are equal
abbrev pub bare_row : RowTree → RowTree
bare_row r = record { side = r.side; form = bare_form r.form; out = option_map bare_out r.out }

-- formula and output are plain, and no variable number has two sorts in the two together
abbrev pub IsPlain : SymbolTable → RowTree → Type 0
IsPlain table r = IsPlainRow table r.form r.out

-- the limit of a row
abbrev pub row_limit : Limit
row_limit = record { nodes = 4096; depth = 1200 }

pub record IsWithinRow (r : RowTree) : Type 0 where
  pub few : row_nodes r ≤ row_limit.nodes
  pub shallow : row_depth r ≤ row_limit.depth

-- formula and output simplified
abbrev pub simplified_row : RowTree → RowTree
simplified_row r = record { side = r.side; form = simplified_form r.form; out = option_map simplified_out r.out }

-- simplification leaves the row as it is
abbrev pub IsSimplified : RowTree → Type 0
IsSimplified r = bare_row (simplified_row r) ≡ bare_row r

-- the row with its variables replaced, all at once
abbrev pub substituted_row : Substitution → RowTree → RowTree
substituted_row σ r = record { side = r.side; form = substituted_form σ r.form; out = option_map (substituted_out σ) r.out }

-- a substitution renames these variables where each becomes a variable of its own sort, and no two become one
pub record IsRenaming (vars : List Var) (σ : Substitution) : Type 0 where
  pub to : Var → Var
  pub is : (v : Var) → Contains vars v → bare (image σ v) ≡ variable_tree (to v)
  pub sorts : (v : Var) → Contains vars v → (to v).sort ≡ v.sort
  pub one : (v w : Var) → Contains vars v → Contains vars w → to v ≡ to w → v ≡ w

-- two rows are variants where a renaming of the variables of the first makes it the second
pub record AreVariants (r s : RowTree) : Type 0 where
  pub renaming : Substitution
  pub renames : IsRenaming (row_vars r) renaming
  pub is : bare_row (substituted_row renaming r) ≡ bare_row s

-- each variable of a list once, in the order in which they first occur
abbrev pub first_occurrences : List Var → List Var
first_occurrences [] = []
first_occurrences (v ∷ vs) = v ∷ filter (λ w. not (same_var v w)) (first_occurrences vs)

-- these variables become, one after another, those of the numbers from n on, each of its own sort
abbrev pub numbered_from : ℕ → List Var → Substitution
numbered_from n [] = []
numbered_from n (v ∷ vs) = record { var = v; term = variable_tree (record { number = n; sort = v.sort }) } ∷ numbered_from (n + 1) vs

-- what gives the variables of a row the numbers 1, 2, 3 .. in the order in which they first occur
abbrev pub numbering : RowTree → Substitution
numbering r = numbered_from 1 (first_occurrences (row_vars r))

abbrev pub renumbered_row : RowTree → RowTree
renumbered_row r = substituted_row (numbering r) r

-- the canonical row of `goal ?7 = dbl(?3) and true | ?7` is `goal ?1 = dbl(?2) | ?1`
abbrev pub canonical_row : RowTree → RowTree
canonical_row r = renumbered_row (simplified_row r)
