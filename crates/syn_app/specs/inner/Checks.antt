-- For private contracts: what the check of a derivation answers.
use Rattle.std.specs.Prelude.{◌≡◌, List, [], ◌∷◌, ◌++◌}
use Rattle.syn_term.specs.Terms.{TermTree}
use Rattle.syn_app.specs.Trees.{TheoryTree, SpecTree}
use Rattle.syn_app.specs.declared.flat.Row.{Row}
use Rattle.syn_app.specs.declared.flat.Entry.{Entry}
use Rattle.syn_app.specs.declared.replay.CheckError.{CheckError}
use Rattle.syn_app.specs.declared.replay.CheckError.TheVariants as error
use Rattle.syn_app.specs.declared.spec_text.FlatSpec.{FlatSpec}
use Rattle.syn_app.specs.Replay.{IsFirstToFail, IsUnfinished}
use Rattle.syn_app.specs.SpecText.{ProgramNames, spec_of}
use Rattle.syn_app.specs.inner.Shapes.{solved_goal}

-- the names of a specification that was read, and the specification itself
abbrev pub flat_names : FlatSpec → ProgramNames
flat_names s = record { program = s.program.now; input = s.input.now; output = s.output.now }

abbrev pub flat_spec : FlatSpec → SpecTree
flat_spec s = spec_of s.name.now (flat_names s) s.term

-- why a derivation isn't accepted
abbrev pub FailsCheck : SpecTree → List Entry → CheckError → Type 0
FailsCheck spec entries (error.NotFollows n) = IsFirstToFail spec entries n
FailsCheck spec entries error.NotFinal = (theory : TheoryTree) → IsUnfinished theory spec entries
FailsCheck spec entries error.NoMemory = Unit {0}

-- the rows end with `true` and this output
abbrev pub EndsWith : List Row → TermTree → Type 0
EndsWith rows t = (before : List Row) × (rows ≡ before ++ solved_goal t ∷ [])

abbrev pub EndsOtherwise : List Row → Type 0
EndsOtherwise rows = (t : TermTree) → ¬ (EndsWith rows t)
