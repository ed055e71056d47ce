-- A name is on the `primitive` line exactly where it is among the names of one of the parts.
use Rattle.std.proofs.Common.{◌≡◌, ◌↔◌, Any, IsTrue, List, Bool, Contains, refl, subst}
use Rattle.std.specs.List.{flat_map}
use Rattle.syn_form.proofs.Lists.{Contains-flat_map, Contains-flat_map_from}

module _ {X Y : Type 0} (f : X → List Y) (y : Y) where
  there : (xs : List X) → Any (λ x. Any (λ z. z ≡ y) (f x)) xs → Contains (flat_map f xs) y
  there xs a =
      let b = a.4 in
      Contains-flat_map_from f xs a.1 y (a.0, a.2, a.3) (subst (Contains (f a.1)) b.4 (b.0, b.2, b.3))

  back : (xs : List X) → Contains (flat_map f xs) y → Any (λ x. Any (λ z. z ≡ y) (f x)) xs
  back xs c =
      let p = Contains-flat_map f xs y c in
      (p.1.0, p.0, p.1.1, p.1.2, (p.2.0, y, p.2.1, p.2.2, refl))

  -- what a test of the items of all lists says
  pub among_all : {r : Bool} (xs ps : List X) → xs ≡ ps → (IsTrue r ↔ Any (λ x. Any (λ z. z ≡ y) (f x)) xs) → IsTrue r ↔ Contains (flat_map f ps) y
  among_all {r} xs ps same t =
      subst (λ (z : List X). IsTrue r ↔ Contains (flat_map f z) y) same ((λ e. there xs (t.0 e)), (λ c. t.1 (back xs c)))
