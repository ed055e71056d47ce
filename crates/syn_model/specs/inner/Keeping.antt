-- For private contracts: how a theory is kept. It has a name, and the table and the index that its declarations make, each of which
-- may follow those before it.
use Rattle.std.specs.Prelude.{◌≡◌, ℕ, Bool, true, false, List}
use Rattle.syn_term.specs.Names.{IsName}
use Rattle.syn_term.specs.Symbols.{SymbolTable}
use Rattle.syn_model.specs.declared.decl.Decl.{Decl}
use Rattle.syn_model.specs.Declaring.{IsTheory}
use Rattle.syn_model.specs.Tables.{table_after, table_of}
use Rattle.syn_model.specs.Theories.{MayBring}
use Rattle.syn_model.specs.inner.Indexing.{Indexed, index_after, index_of}

pub record HoldsTheory (name : List ℕ) (table : SymbolTable) (index : Indexed) (ds : List Decl) : Type 0 where
  pub named : IsName name
  pub table_is : table ≡ table_of ds
  pub index_is : index ≡ index_of ds
  pub theory : IsTheory ds

-- a declaration is put down exactly where the table may take what it brings, and otherwise all stays as it was
abbrev pub Settles : SymbolTable → SymbolTable → Indexed → Indexed → Decl → Bool → Type 0
Settles before after index next d true = MayBring before d × (after ≡ table_after before d) × (next ≡ index_after index d)
Settles before after index next d false = (MayBring before d → ⊥) × (after ≡ before) × (next ≡ index)
