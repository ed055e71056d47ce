-- For private contracts: how a specification is kept: it is one, and its symbols are found by their numbers.
use Rattle.std.specs.Prelude.{◌≡◌, ℕ, ◌+◌, List, length}
use Rattle.syn_model.specs.declared.head_table.HeadTable.{HeadTable}
use Rattle.syn_model.specs.declared.spec_part.SpecPart.{SpecPart}
use Rattle.syn_model.specs.Heads.{HeadTree}
use Rattle.syn_model.specs.Specifications.{IsSomeSpec, SpecTree}
use Rattle.syn_model.specs.inner.HeadTables.{AreIds}

-- what the fields are seen as
abbrev pub spec_seen : List ℕ → HeadTree → List ℕ → HeadTable → List SpecPart → SpecTree
spec_seen name h output made parts = record { name = name; head = h; output = output; table = made.syms; parts = parts }

-- it is a specification over some theory, whose symbols end before the program's, and the inputs follow that one
pub record HoldsSpec (s : SpecTree) (made : HeadTable) : Type 0 where
  pub some : IsSomeSpec s
  pub place : length s.table.syms ≡ made.program.0 + (1 + length s.head.inputs)
  pub inputs : AreIds s.table made.inputs s.head.inputs
