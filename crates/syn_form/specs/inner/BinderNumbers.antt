-- Inner. The numbers of binders.
use Rattle.std.specs.Prelude.{◌≡◌, ℕ, List, length, map}
use Rattle.std.specs.List.{range_with_len}
use Rattle.syn_form.specs.declared.trees.Binder.{Binder}

-- the binders have the numbers from n on
abbrev pub AreFrom : ℕ → List Binder → Type 0
AreFrom n bs = map (λ b. b.var.number) bs ≡ range_with_len n (length bs)
