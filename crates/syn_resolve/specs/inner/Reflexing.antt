-- For private contracts: the calls that a substitution brings into outputs, and what is made of a row and guards.
use Rattle.std.specs.Prelude.{List, [], ◌∷◌, Option, MatchOption, Contains}
use Rattle.std.specs.List.{flat_map}
use Rattle.syn_term.specs.declared.sorts.SymId.{SymId}
use Rattle.syn_term.specs.declared.sorts.Var.{Var}
use Rattle.syn_term.specs.Terms.{TermTree}
use Rattle.syn_form.specs.Substitutions.{Substitution, image}
use Rattle.syn_form.specs.Trees.{FormTree, OutTree, out_vars}
use Rattle.syn_row.specs.Calls.{calls_standing}
use Rattle.syn_row.specs.Results.{Figure, Gives, guarded, out_list}
use Rattle.syn_row.specs.Rows.{RowTree, first_occurrences}
use Rattle.syn_unify.specs.Bindings.{bound_vars}

-- the calls that stand in what a variable becomes
abbrev pub image_calls : SymId → Substitution → Var → List TermTree
image_calls f σ v = calls_standing f (image σ v)

-- those of an output's variables, in the order in which they first occur
abbrev pub output_calls : SymId → Substitution → OutTree → List TermTree
output_calls f σ o = flat_map (image_calls f σ) (first_occurrences (out_vars o))

-- the same of several outputs
abbrev pub outputs_calls : SymId → Substitution → List OutTree → List TermTree
outputs_calls f σ outs = flat_map (output_calls f σ) outs

-- what is put in has these variables alone
abbrev pub AreBoundAmong : List Var → Substitution → Type 0
AreBoundAmong vars σ = (v : Var) → Contains (bound_vars σ) v → Contains vars v

-- the row with the guards joined to its formula
abbrev pub row_with_guards : RowTree → List FormTree → RowTree
row_with_guards r guards = record { side = r.side; form = guarded r.side r.form guards; out = r.out }

-- what is made of a row and guards
abbrev pub guarded_figure : RowTree → List FormTree → Figure
guarded_figure r guards = record { forms = r.form ∷ []; outs = out_list r.out; guards = guards; row = row_with_guards r guards }

-- the row that a figure gives, or none where it gives none
abbrev pub FigureGives : Figure → Option RowTree → Type 0
FigureGives x o = MatchOption o ((q : RowTree) → Gives x q → ⊥) (Gives x)
