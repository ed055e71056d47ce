-- For private contracts: what is appended of the formulas that stand at positions.
use Rattle.std.specs.Prelude.{◌≡◌, ℕ, Bool, true, false, List, ◌++◌, Some, map}
use Rattle.syn_form.specs.Positions.{at_position, formula}
use Rattle.syn_form.specs.Trees.{FormTree}

-- these stand there, each at its position
abbrev pub Stand : FormTree → List (List ℕ) → List FormTree → Type 0
Stand f positions parts = map (λ p. at_position p (formula f)) positions ≡ map (λ g. Some (formula g)) parts

-- the formulas that stand there are appended; or there is a position where none stands
abbrev pub Puts : Bool → List (List ℕ) → FormTree → List FormTree → List FormTree → Type 0
Puts true positions f old new = (parts : List FormTree) × (new ≡ old ++ parts) × Stand f positions parts
Puts false positions f old new = (parts : List FormTree) → Stand f positions parts → ⊥
