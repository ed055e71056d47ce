-- What is known where a step of the machine leads on.
use Rattle.std.proofs.Common.{◌≡◌, Bool, true, false, cond, Option, Some, None, refl}
use Rattle.std.specs.Option.{option_and_then, option_map}

module _ {X : Type 0} where
  pub cond_some : (b : Bool) (o : Option X) (x : X) → cond b o None ≡ Some x → (b ≡ true) × (o ≡ Some x)
  cond_some true o x e = (refl, e)
  cond_some false o x e = absurd (cc)

  pub cond_none : (b : Bool) (o : Option X) (x : X) → cond b None o ≡ Some x → (b ≡ false) × (o ≡ Some x)
  cond_none true o x e = absurd (cc)
  cond_none false o x e = (refl, e)

  pub cond_true : (b : Bool) (x y : X) → b ≡ true → cond b x y ≡ x
  cond_true true x y e = refl
  cond_true false x y e = absurd (cc)

  pub cond_false : (b : Bool) (x y : X) → b ≡ false → cond b x y ≡ y
  cond_false true x y e = absurd (cc)
  cond_false false x y e = refl

module _ {X Y : Type 0} where
  pub map_some : (f : X → Y) (o : Option X) (y : Y) → option_map f o ≡ Some y → (x : X) × (o ≡ Some x) × (y ≡ f x)
  map_some f None y e = absurd (cc)
  map_some f (Some x) y e = (x, refl, cc)

  pub then_some : (f : X → Option Y) (o : Option X) (y : Y) → option_and_then f o ≡ Some y → (x : X) × (o ≡ Some x) × (f x ≡ Some y)
  then_some f None y e = absurd (cc)
  then_some f (Some x) y e = (x, refl, e)
