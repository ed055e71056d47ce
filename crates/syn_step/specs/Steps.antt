-- For public contracts: what a step gives over the rows before it. `axiom`, `induct` and relation replacement give nothing yet.
use Rattle.std.specs.Prelude.{◌≡◌, ℕ, zero, suc, List, Option, None, Some, slice_get}
use Rattle.syn_row.specs.Rows.{RowTree}
use Rattle.syn_resolve.specs.Replacement.{EqualGives}
use Rattle.syn_resolve.specs.Resolution.{ReflexGives, ResolveGives}
use Rattle.syn_resolve.specs.Splitting.{DualGives, SplitGives}
use Rattle.syn_start.specs.declared.steps.Origin.TheVariants as origin
use Rattle.syn_start.specs.declared.steps.Step.{Step}
use Rattle.syn_start.specs.declared.steps.Step.TheVariants as step
use Rattle.syn_start.specs.Initial.{DefRow, GoalRow, InputRow}
use Rattle.syn_start.specs.Starts.{StartTree}

-- the row with this number, counted from 1
abbrev pub row_at : List RowTree → ℕ → Option RowTree
row_at rows zero = None
row_at rows (suc i) = slice_get rows i

-- the row with this number is there, and this holds of it
abbrev pub OfRow : List RowTree → ℕ → (RowTree → Type 0) → Type 0
OfRow rows n Holds = (r : RowTree) × (row_at rows n ≡ Some r) × Holds r

-- Over these rows the step gives q. An initial row needs no row; a step that names a row which isn't among them gives nothing.
abbrev pub StepGives : StartTree → List RowTree → Step → RowTree → Type 0
StepGives x rows (step.Start origin.Goal) q = GoalRow x.spec q
StepGives x rows (step.Start origin.Input) q = InputRow x.spec q
StepGives x rows (step.Start (origin.Def name k)) q = DefRow x.theory.decls name k q
StepGives x rows (step.Split n member) q = OfRow rows n (λ r. SplitGives r member q)
StepGives x rows (step.Dual n) q = OfRow rows n (λ r. DualGives r q)
StepGives x rows (step.Reflex n at) q = OfRow rows n (λ r. ReflexGives x.spec.table x.rule r at q)
StepGives x rows (step.Resolve n ps m qs) q = OfRow rows n (λ r. OfRow rows m (λ s. ResolveGives x.spec.table x.rule r ps s qs q))
StepGives x rows (step.Equal n at way m place) q = OfRow rows n (λ r. OfRow rows m (λ s. EqualGives x.spec.table x.rule r at way s place q))
StepGives x rows _ q = ⊥
