-- A binder's name is new beside the names of axioms and monotonicity rows, and one more.
use Rattle.std.proofs.Common.{◌≢◌, ℕ, List}
use Rattle.syn_form.specs.declared.trees.Binder.{Binder}
use Rattle.syn_model.specs.declared.decl.Decl.{Decl}
use Rattle.syn_model.specs.Declaring.{IsOtherwiseFree}

abbrev pub HasNewName : List Decl → List ℕ → Binder → Type 0
HasNewName ds name b = IsOtherwiseFree ds b.name × (b.name ≢ name)
