-- Public. Lists of what may not be there.
use Rattle.std.specs.Prelude.{List, [], ◌∷◌, Option, Some}
use Rattle.std.specs.Option.{option_map, option_and_then}

-- the values of all, none where one has none
abbrev pub all_there : {A : Type 0} → List (Option A) → Option (List A)
all_there [] = Some []
all_there (x ∷ xs) = option_and_then (λ a. option_map (λ rest. a ∷ rest) (all_there xs)) x
