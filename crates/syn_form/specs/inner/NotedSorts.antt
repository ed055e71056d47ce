-- Inner. Which sort was noted for each number.
use Rattle.std.specs.Prelude.{◌≡◌, ℕ, Bool, true, false, Option, Some, if◌then◌else◌, nat_eq}
use Rattle.syn_term.specs.declared.sorts.Sort.{Sort}
use Rattle.syn_term.specs.declared.sorts.Var.{Var}

-- the variable's sort is noted, or another sort was noted for its number
abbrev pub IsNoted : (ℕ → Option Sort) → (ℕ → Option Sort) → Var → Bool → Type 0
IsNoted old new v true = ((k : ℕ) → new k ≡ (if nat_eq v.number k then Some v.sort else old k)) × ((s : Sort) → old v.number ≡ Some s → s ≡ v.sort)
IsNoted old new v false = (s : Sort) × (old v.number ≡ Some s) × (s ≡ v.sort → ⊥)
