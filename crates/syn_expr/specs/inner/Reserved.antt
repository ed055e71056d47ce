-- For private contracts: the one reserved word that a name may be.
use Rattle.std.specs.Prelude.{ℕ, List, codes, cond, nat_eq}
use Rattle.std.specs.Str.{byte}

-- the one whose bytes may begin with these three
abbrev pub candidate : ℕ → ℕ → ℕ → List ℕ
candidate a b c =
    cond (nat_eq a (byte "n")) (cond (nat_eq b (byte "o")) (codes "not") (codes "nat"))
    (cond (nat_eq a (byte "s")) (cond (nat_eq b (byte "o")) (codes "some") (codes "s"))
    (cond (nat_eq a (byte "t")) (cond (nat_eq b (byte "h")) (codes "then") (codes "true"))
    (cond (nat_eq a (byte "a")) (cond (nat_eq b (byte "l")) (codes "all") (codes "and"))
    (cond (nat_eq a (byte "i")) (cond (nat_eq b (byte "f")) (codes "if") (cond (nat_eq c (byte "p")) (codes "input") (codes "induct")))
    (cond (nat_eq a (byte "f")) (codes "false")
    (cond (nat_eq a (byte "o")) (codes "or")
    (cond (nat_eq a (byte "e")) (codes "else") (codes "goal"))))))))
