-- For public contracts: what it is for a program to be correct for a specification.
use Rattle.std.specs.Prelude.{ℕ, List, [], None, Some, All}
use Rattle.syn_form.specs.Quantified.{as_qform}
use Rattle.syn_form.specs.Trees.{OutTree}
use Rattle.syn_value.specs.declared.tree.ValueTree.{ValueTree}
use Rattle.syn_value.specs.Values.{OfSort}
use Rattle.syn_model.specs.declared.decl.Decl.{Decl}
use Rattle.syn_model.specs.declared.spec_part.SpecPart.{SpecPart}
use Rattle.syn_model.specs.declared.spec_part.SpecPart.TheVariants as part
use Rattle.syn_model.specs.Calls.{Meaning, call_of, numbered_values}
use Rattle.syn_model.specs.Heads.{sorts_of}
use Rattle.syn_model.specs.Specifications.{SpecTree}
use Rattle.syn_model.specs.Truth.{Gives, IsTrueIn, OfSorts, read_as}

-- in the conditions of a specification a call of its program has no value
abbrev pub spec_meaning : List Decl → SpecTree → Meaning
spec_meaning ds s = record { decls = ds; table = s.table; body = None }

abbrev pub program_meaning : List Decl → SpecTree → OutTree → Meaning
program_meaning ds s body = record { decls = ds; table = s.table; body = Some body }

-- what a part states of values of the inputs
abbrev pub Requires : List Decl → SpecTree → List ValueTree → SpecPart → Type 0
Requires ds s args (part.Requires form) = IsTrueIn (spec_meaning ds s) args (numbered_values []) (as_qform form)
Requires ds s args _ = Unit {0}

-- and of values of the inputs and the output
abbrev pub Ensures : List Decl → SpecTree → List ValueTree → ValueTree → SpecPart → Type 0
Ensures ds s args v (part.Ensures form) = IsTrueIn (spec_meaning ds s) args (read_as (numbered_values []) 0 v) form
Ensures ds s args v _ = Unit {0}

-- the values meet the input condition, where there is one
abbrev pub MeetsRequires : List Decl → SpecTree → List ValueTree → Type 0
MeetsRequires ds s args = All (Requires ds s args) s.parts

-- the values and the result meet the output condition
abbrev pub MeetsEnsures : List Decl → SpecTree → List ValueTree → ValueTree → Type 0
MeetsEnsures ds s args v = All (Ensures ds s args v) s.parts

-- the call of the program on the values ends, for some bound on the nesting, with a value of the output's sort that meets the
-- output condition
pub record EndsWell (ds : List Decl) (s : SpecTree) (body : OutTree) (args : List ValueTree) : Type 0 where
  pub nesting : ℕ
  pub value : ValueTree
  pub ends : Gives (call_of (program_meaning ds s body) nesting args) value
  pub of_sort : OfSort s.table s.head.result value
  pub good : MeetsEnsures ds s args value

-- The body makes a correct program for the specification: it ends well on all values of the inputs' sorts that meet the input
-- condition.
unfoldable pub IsCorrect : List Decl → SpecTree → OutTree → Type 0
IsCorrect ds s body = (args : List ValueTree) → OfSorts s.table (sorts_of s.head.inputs) args → MeetsRequires ds s args → EndsWell ds s body args
