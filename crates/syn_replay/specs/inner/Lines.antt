-- For private contracts: which row comes of a step over rows that are simplified.
use Rattle.std.specs.Prelude.{List}
use Rattle.syn_row.specs.Rows.{AreVariants, RowTree}
use Rattle.syn_start.specs.declared.steps.Step.{Step}
use Rattle.syn_start.specs.Starts.{StartTree}
use Rattle.syn_step.specs.Steps.{StepGives}

-- the step gives a row over these rows of which this one is a variant
pub record ComesOf (x : StartTree) (rows : List RowTree) (step : Step) (r : RowTree) : Type 0 where
  pub row : RowTree
  pub gives : StepGives x rows step row
  pub variant : AreVariants r row
