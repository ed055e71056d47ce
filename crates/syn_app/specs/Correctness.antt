-- For public contracts: what it is for a program to be correct for a specification.
use Rattle.std.specs.Prelude.{◌≡◌, ℕ, List, None, Some, map, if◌then◌else◌, nat_eq}
use Rattle.syn_app.specs.declared.trees.Value.{Value}
use Rattle.syn_app.specs.Trees.{TheoryTree, SpecTree, ProgramTree, spec_symbols, first_input, sort_declared}
use Rattle.syn_app.specs.Values.{OfSort, OfSorts}
use Rattle.syn_app.specs.Evaluation.{Meaning, Environment, inputs_read, call_of}
use Rattle.syn_app.specs.TrueIn.{IsTrueIn}

-- what gives the symbols of a specification their meaning; a call of the program has none
abbrev pub spec_meaning : TheoryTree → SpecTree → Meaning
spec_meaning theory spec = record { symbols = spec_symbols theory spec; first_input = first_input theory; body = None }

-- the output, the variable with number 0, is read as the value
abbrev pub with_output : Environment → Value → Environment
with_output env v = record { variable = λ k. if nat_eq k 0 then Some v else env.variable k; input = env.input }

-- the input condition is true of the values
abbrev pub MeetsRequires : TheoryTree → SpecTree → List Value → Type 0
MeetsRequires theory spec args = IsTrueIn (spec_meaning theory spec) (inputs_read (first_input theory) args) spec.requires_form

-- the output condition is true of the values and the result
abbrev pub MeetsEnsures : TheoryTree → SpecTree → List Value → Value → Type 0
MeetsEnsures theory spec args v = IsTrueIn (spec_meaning theory spec) (with_output (inputs_read (first_input theory) args) v) spec.ensures_form

-- what the program's call on these values has to do: it ends, for some bound on the nesting, with a value of the
-- output's sort that meets the output condition
pub record EndsWell (theory : TheoryTree) (spec : SpecTree) (p : ProgramTree) (args : List Value) : Type 0 where
  pub nesting : ℕ
  pub value : Value
  pub turns : ℕ
  pub ends : call_of theory p nesting args ≡ Some (value, turns)
  pub of_sort : OfSort (spec_symbols theory spec) value spec.output.sort
  pub good : MeetsEnsures theory spec args value

-- the program is correct: it ends well on all values of the inputs' sorts that meet the input condition
unfoldable pub IsCorrect : TheoryTree → SpecTree → ProgramTree → Type 0
IsCorrect theory spec p =
    (args : List Value) → OfSorts (spec_symbols theory spec) args (map sort_declared spec.inputs) → MeetsRequires theory spec args → EndsWell theory spec p args
