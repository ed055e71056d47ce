-- For private contracts: what is looked up among declarations by hash, and how it grows with them.
use Rattle.std.specs.Prelude.{ℕ, Bool, true, false, List, [], ◌∷◌, ◌++◌, Contains, map}
use Rattle.std.specs.List.{flat_map}
use Rattle.syn_form.specs.declared.trees.Mono.{Mono}
use Rattle.syn_model.specs.declared.decl.Decl.{Decl}
use Rattle.syn_model.specs.declared.decl.Decl.TheVariants as decl
use Rattle.syn_model.specs.declared.index.RowKey.{RowKey}
use Rattle.syn_model.specs.Tables.{axiom_names, monos_of}

-- the names of axioms, those of monotonicity rows, and what the rows are known by
pub record Indexed : Type 0 where
  pub axioms : List (List ℕ)
  pub rows : List (List ℕ)
  pub keys : List RowKey

abbrev pub row_key : Mono → RowKey
row_key m = record { rel = m.rel.0; sym = m.sym.0; place = m.place }

abbrev pub row_name : Decl → List (List ℕ)
row_name (decl.Monotone name mono) = name ∷ []
row_name _ = []

-- the names of monotonicity rows
abbrev pub row_names : List Decl → List (List ℕ)
row_names = flat_map row_name

abbrev pub index_of : List Decl → Indexed
index_of ds = record { axioms = axiom_names ds; rows = row_names ds; keys = map row_key (monos_of ds) }

-- the index after one more declaration
abbrev pub index_after : Indexed → Decl → Indexed
index_after i (decl.Axiom name form) = record i { axioms = i.axioms ++ name ∷ [] }
index_after i (decl.Monotone name mono) = record { axioms = i.axioms; rows = i.rows ++ name ∷ []; keys = i.keys ++ row_key mono ∷ [] }
index_after i _ = i

-- what the declaration brings is new in the index
abbrev pub IsNewIn : Indexed → Decl → Type 0
IsNewIn i (decl.Axiom name form) = Contains i.axioms name → ⊥
IsNewIn i (decl.Monotone name mono) = (Contains i.rows name → ⊥) × (Contains i.keys (row_key mono) → ⊥)
IsNewIn i _ = Unit {0}

-- the declaration goes into the index; any other goes into the table, or into neither
abbrev pub is_indexed : Decl → Bool
is_indexed (decl.Axiom name form) = true
is_indexed (decl.Monotone name mono) = true
is_indexed _ = false
