-- For private contracts: the order that a specification names.
use Rattle.std.specs.Prelude.{◌≡◌, ℕ, List, Some}
use Rattle.syn_term.specs.declared.sorts.SymId.{SymId}
use Rattle.syn_term.specs.DeclaredSorts.{IsTable}
use Rattle.syn_model.specs.Declaring.{symbol_of_name}
use Rattle.syn_model.specs.Specifications.{SpecTree}
use Rattle.syn_start.specs.Rules.{order_name}

-- the symbol has the name of the order in the specification's table
pub record IsOrderOf (s : SpecTree) (id : SymId) : Type 0 where
  pub name : List ℕ
  pub named : order_name s.parts ≡ Some name
  pub found : symbol_of_name s.table name ≡ Some id
  pub table : IsTable s.table
