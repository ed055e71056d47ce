-- Whether all of some truth values are true and whether any is, with one more behind them.
use Rattle.std.proofs.Common.{◌≡◌, Bool, true, false, ◌&&◌, ◌||◌, List, [], ◌∷◌, ◌++◌, refl, ap, ◌∙◌}
use Rattle.std.specs.List.{list_all, list_any}

abbrev pub all_true : List Bool → Bool
all_true bs = list_all (λ b. b) bs

abbrev pub any_true : List Bool → Bool
any_true bs = list_any (λ b. b) bs

and_true : (b : Bool) → (b && true) ≡ b
and_true true = refl
and_true false = refl

or_false : (b : Bool) → (b || false) ≡ b
or_false true = refl
or_false false = refl

and_and : (a b c : Bool) → (a && (b && c)) ≡ ((a && b) && c)
and_and true b c = refl
and_and false b c = refl

or_or : (a b c : Bool) → (a || (b || c)) ≡ ((a || b) || c)
or_or true b c = refl
or_or false b c = refl

pub all_true_last : (bs : List Bool) (b : Bool) → all_true (bs ++ b ∷ []) ≡ (all_true bs && b)
all_true_last [] b = and_true b
all_true_last (c ∷ bs) b = ap (λ z. c && z) (all_true_last bs b) ∙ and_and c (all_true bs) b

pub any_true_last : (bs : List Bool) (b : Bool) → any_true (bs ++ b ∷ []) ≡ (any_true bs || b)
any_true_last [] b = or_false b
any_true_last (c ∷ bs) b = ap (λ z. c || z) (any_true_last bs b) ∙ or_or c (any_true bs) b
