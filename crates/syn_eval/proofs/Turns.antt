-- Why each step of an evaluation is less than the one before: fewer turns, or as many and fewer nodes.
use Rattle.std.proofs.Common.{ℕ, suc, ◌+◌, ◌*◌, ◌<◌, ◌≤◌, arith}
use Rattle.std.proofs.lemmas.Nat.{mul-le}

-- no more turns, and less besides
pub fewer : (a b w x y : ℕ) → a ≤ b → x < y → a * w + x < b * w + y
fewer a b w x y h l = let m : a * w ≤ b * w = mul-le a w b w h (omega arith) in omega (arith, m, l)

-- a turn less, and no more besides than a turn is worth
pub turn_less : (a b w x y : ℕ) → a < b → x < w + y → a * w + x < b * w + y
turn_less a b w x y h l = let m : suc a * w ≤ b * w = mul-le (suc a) w b w h (omega arith) in omega (arith, m, l)
