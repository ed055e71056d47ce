-- For public contracts: a theory as its users see it, and what it is to put a declaration down.
use Rattle.std.specs.Prelude.{◌≡◌, ℕ, Bool, true, false, List, [], ◌∷◌, ◌++◌}
use Rattle.syn_term.specs.Symbols.{SymbolTable, MayAdd}
use Rattle.syn_term.specs.DeclaredSorts.{MayAddList, MayAddTuple}
use Rattle.syn_model.specs.declared.decl.Decl.{Decl}
use Rattle.syn_model.specs.declared.decl.Decl.TheVariants as decl
use Rattle.syn_model.specs.Tables.{fun_symbol, order_symbol, rel_symbol}

-- a theory: its name and its declarations
pub record TheoryTree : Type 0 where
  pub name : List ℕ
  pub decls : List Decl

-- the theory of this name that declares nothing
abbrev pub bare_theory : List ℕ → TheoryTree
bare_theory name = record { name = name; decls = [] }

-- the theory with one more declaration behind the others
abbrev pub with_decl : TheoryTree → Decl → TheoryTree
with_decl t d = record { name = t.name; decls = t.decls ++ d ∷ [] }

-- a step is taken exactly where it may be, and otherwise all stays as it was
abbrev pub Steps : {X : Type 0} → X → X → X → Type 0 → Bool → Type 0
Steps before after next May true = May × (after ≡ next)
Steps before after next May false = (May → ⊥) × (after ≡ before)

-- the table may take what the declaration brings: its symbol, or its sort with the makers
abbrev pub MayBring : SymbolTable → Decl → Type 0
MayBring table (decl.ListSort name nil cons item) = MayAddList table name nil cons item
MayBring table (decl.TupleSort name make parts) = MayAddTuple table name make parts
MayBring table (decl.Fun name args result) = MayAdd table (fun_symbol name args result)
MayBring table (decl.Rel name args) = MayAdd table (rel_symbol name args)
MayBring table (decl.Order name args measure) = MayAdd table (order_symbol name args)
MayBring table _ = Unit {0}
