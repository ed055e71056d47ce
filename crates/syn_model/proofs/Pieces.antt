-- What holds of the pieces that a list is put together from, and of the whole.
use Rattle.std.proofs.Common.{◌↔◌, List, Any, Contains, All, IsTrue, Bool, get_or}
use Rattle.std.specs.List.{flat_map}
use Rattle.std.proofs.lemmas.List.Elements.{Contains-get_or}
use Rattle.syn_form.proofs.Lists.{All-flat_map, All-within, Contains-flat_map, Contains-flat_map_from}

module _ {X Y : Type 0} (f : X → List Y) where
  -- the whole has an element where one of the pieces has it
  pub whole_has : (xs : List X) (y : Y) → Any (λ x. Contains (f x) y) xs → Contains (flat_map f xs) y
  whole_has xs y a = Contains-flat_map_from f xs a.1 y (a.0, a.2, a.3) a.4

  pub piece_has : (xs : List X) (y : Y) → Contains (flat_map f xs) y → Any (λ x. Contains (f x) y) xs
  piece_has xs y c = let p = Contains-flat_map f xs y c in (p.1.0, p.0, p.1.1, p.1.2, p.2)

  -- so a test of the one is a test of the other
  pub tests_whole : (r : Bool) (xs : List X) (y : Y) → IsTrue r ↔ Any (λ x. Contains (f x) y) xs → IsTrue r ↔ Contains (flat_map f xs) y
  tests_whole r xs y h = ((λ e. whole_has xs y (h.0 e)), (λ c. h.1 (piece_has xs y c)))

  -- what holds of each element of the whole holds of each element of each piece
  pub All-pieces : (P : Y → Type 0) (xs : List X) → All P (flat_map f xs) → All (λ x. All P (f x)) xs
  All-pieces P xs h k d lt = All-within P (f (get_or xs k d)) (flat_map f xs) (λ y c. Contains-flat_map_from f xs (get_or xs k d) y (Contains-get_or xs k d lt) c) h

  pub tests_all : (P : Y → Type 0) (r : Bool) (xs : List X) → IsTrue r ↔ All (λ x. All P (f x)) xs → IsTrue r ↔ All P (flat_map f xs)
  tests_all P r xs h = ((λ e. All-flat_map P f xs (h.0 e)), (λ a. h.1 (All-pieces P xs a)))
