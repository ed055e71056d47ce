-- For public contracts: that truth is stable, though it is no computation: no formula is neither true nor false.
use Rattle.std.specs.Prelude.{List, [], All}
use Rattle.syn_form.specs.PlainQuantified.{IsPlainQForm}
use Rattle.syn_form.specs.Quantified.{free_vars}
use Rattle.syn_form.specs.Trees.{QFormTree}
use Rattle.syn_value.specs.Values.{OfSort}
use Rattle.syn_model.specs.declared.decl.Decl.{Decl}
use Rattle.syn_model.specs.Evaluation.{Environment}
use Rattle.syn_model.specs.Tables.{table_of}
use Rattle.syn_model.specs.Truth.{IsTrueIn, theory_meaning}

-- A plain formula whose free variables are read as values of their sorts is true where it can't be false.
abbrev pub TruthIsStable : List Decl → Type 0
TruthIsStable ds =
    (f : QFormTree) (env : Environment) → IsPlainQForm (table_of ds) f → All (λ v. OfSort (table_of ds) v.sort (env v.number)) (free_vars f)
    → ((IsTrueIn (theory_meaning ds) [] env f → ⊥) → ⊥) → IsTrueIn (theory_meaning ds) [] env f
