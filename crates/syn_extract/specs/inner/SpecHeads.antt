-- For private contracts: the head of the program of a specification, with its table, and the symbols of inputs.
use Rattle.std.specs.Prelude.{◌≡◌, Some}
use Rattle.syn_term.specs.declared.sorts.SymId.{SymId}
use Rattle.syn_term.specs.Symbols.{SymbolTable, symbol_at}
use Rattle.syn_model.specs.Heads.{Param, input_symbol}
use Rattle.syn_model.specs.Programs.{ProgramHeadTree}
use Rattle.syn_model.specs.Specifications.{SpecTree}

abbrev pub head_of_spec : SpecTree → ProgramHeadTree
head_of_spec s = record { head = s.head; table = s.table }

-- the symbol is that of some input
pub record IsInputAt (table : SymbolTable) (id : SymId) : Type 0 where
  pub param : Param
  pub is : symbol_at table id ≡ Some (input_symbol param)
