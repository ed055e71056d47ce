-- For private contracts: how the head of a program is kept: it is one, and its symbols are found by their numbers.
use Rattle.std.specs.Prelude.{◌≡◌, Some}
use Rattle.syn_term.specs.Symbols.{symbol_at}
use Rattle.syn_model.specs.declared.head_table.HeadTable.{HeadTable}
use Rattle.syn_model.specs.Heads.{HeadTree, program_symbol}
use Rattle.syn_model.specs.Programs.{IsSomeProgramHead, ProgramHeadTree}
use Rattle.syn_model.specs.inner.HeadTables.{AreIds}

-- what the fields are seen as
abbrev pub head_seen : HeadTree → HeadTable → ProgramHeadTree
head_seen h made = record { head = h; table = made.syms }

-- it is a head over some theory, and the program and the inputs have these numbers
pub record HoldsProgramHead (h : ProgramHeadTree) (made : HeadTable) : Type 0 where
  pub some : IsSomeProgramHead h
  pub program : symbol_at h.table made.program ≡ Some (program_symbol h.head)
  pub inputs : AreIds h.table made.inputs h.head.inputs
