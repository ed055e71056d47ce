-- For private contracts: names that are found by hash, as texts in the order in which they came.
use Rattle.std.specs.Prelude.{ℕ, List, String, map, string_bytes}
use Rattle.std.specs.declared.alloc.Global.{Global}
use Rattle.indexmap.specs.IndexSet.{IndexSet}

abbrev pub texts : {S : Type 0} → IndexSet (String Global) S → List (List ℕ)
texts s = map string_bytes s.keys
