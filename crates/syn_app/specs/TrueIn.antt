-- For public contracts: truth of formulas without program calls. It is no computation: an equality is true where for some bound on the
-- nesting both sides give one value.
use Rattle.std.specs.Prelude.{◌≡◌, ℕ, Some}
use Rattle.syn_app.specs.declared.trees.Value.{Value}
use Rattle.syn_app.specs.declared.trees.Form.TheVariants as form
use Rattle.syn_app.specs.Trees.{FormTree, TheoryTree}
use Rattle.syn_app.specs.Evaluation.{Meaning, Environment, evaluate_term}

abbrev pub IsTrueIn : Meaning → Environment → FormTree → Type 0
IsTrueIn m env form.True = Unit {0}
IsTrueIn m env (form.Equal s t) = (n : ℕ) × (v : Value) × (j : ℕ) × (k : ℕ) × (evaluate_term m n env s ≡ Some (v, j)) × (evaluate_term m n env t ≡ Some (v, k))

-- each listed axiom is true, and each monotonicity row: no theory that can be read has one yet
abbrev pub AxiomsHold : TheoryTree → Type 0
AxiomsHold theory = Unit {0}
