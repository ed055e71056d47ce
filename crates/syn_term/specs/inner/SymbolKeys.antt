-- Inside the crate: how the code keeps a table of symbols. Only private contracts cite this file.
use Rattle.std.specs.Prelude.{◌≡◌, ℕ, ◌≤◌, ◌^◌, List, Some, String, map, length, slice_get, string_bytes}
use Rattle.std.specs.Map.{values_of}
use Rattle.std.specs.String.{string_eq}
use Rattle.std.specs.declared.alloc.Global.{Global}
use Rattle.indexmap.specs.IndexMap.{insert_entry}
use Rattle.syn_term.specs.declared.sorts.NamedSort.{NamedSort}
use Rattle.syn_term.specs.declared.sorts.Shape.{Shape}
use Rattle.syn_term.specs.declared.sorts.Shape.TheVariants.{Nat}
use Rattle.syn_term.specs.declared.sorts.Sym.{Sym}
use Rattle.syn_term.specs.DeclaredSorts.{IsTable, default_sizes}

-- The keys of a hash table, as texts.
abbrev pub texts_of : {X : Type 0} → List (String Global × X) → List (List ℕ)
texts_of entries = map (λ entry. string_bytes entry.0) entries

-- How the hash table is kept: each symbol stands under its own name, and they are no more than numbers of 32 bits count.
pub record IsKeyed (entries : List (String Global × Sym)) : Type 0 where
  pub own_names : texts_of entries ≡ map (λ entry. entry.1.name) entries
  pub few : length entries ≤ 2 ^ 32

-- How the sizes of sorts are kept: the number of nodes of each declared sort's default term stands under the sort's name, and
-- they stand in the order of the sorts.
pub record IsSized (entries : List (String Global × ℕ)) (sorts : List NamedSort) : Type 0 where
  pub names : texts_of entries ≡ map (λ sort. sort.name) sorts
  pub sizes : values_of entries ≡ default_sizes sorts

-- How a table is kept: the two hash tables as above, no more sorts than numbers of 32 bits count, and the shape of the natural
-- numbers to be lent.
pub record IsIndexed (entries : List (String Global × Sym)) (sorts : List NamedSort) (sizes : List (String Global × ℕ)) (nat : Shape) : Type 0 where
  pub keyed : IsKeyed entries
  pub sized : IsSized sizes sorts
  pub few : length sorts ≤ 2 ^ 32
  pub table : IsTable (record { syms = map (λ entry. entry.1) entries; sorts = sorts })
  pub lent : nat ≡ Nat

-- The value is put under a key with this text.
pub record IsPut {X : Type 0} (name : List ℕ) (value : X) (before after : List (String Global × X)) : Type 0 where
  pub key : String Global
  pub own : string_bytes key ≡ name
  pub is : after ≡ insert_entry string_eq before key value

-- The symbol is entered under its own name.
abbrev pub IsEntered : Sym → List (String Global × Sym) → List (String Global × Sym) → Type 0
IsEntered sym = IsPut sym.name sym

-- No two keys have one text.
abbrev pub HasDistinctKeys : List (String Global × ℕ) → Type 0
HasDistinctKeys entries = (i j : ℕ) (name : List ℕ) → slice_get (texts_of entries) i ≡ Some name → slice_get (texts_of entries) j ≡ Some name → i ≡ j

-- The same sizes under the same texts.
pub record AreSameSizes (a b : List (String Global × ℕ)) : Type 0 where
  pub names : texts_of b ≡ texts_of a
  pub sizes : values_of b ≡ values_of a
