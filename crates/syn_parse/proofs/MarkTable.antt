-- Each mark stands in the table, and no two marks are one word.
use Rattle.std.proofs.Common.{◌≡◌, ℕ, ◌<◌, List, [], ◌∷◌, Option, None, Some, cond, get_or, refl, sym, ◌∙◌, ap, arith}
use Rattle.std.specs.Str.{bytes_eq}
use Rattle.syn_form.specs.declared.syntax.Mark.{Mark}
use Rattle.syn_form.specs.declared.syntax.Mark.TheVariants as mark
use Rattle.syn_term.specs.Tokens.{Word}
use Rattle.syn_form.specs.Grammar.{mark_word}
use Rattle.syn_parse.specs.inner.Spelling.{NoMark}

abbrev pub table : List Mark
table =
    mark.Open ∷ mark.Close ∷ mark.Comma ∷ mark.Colon ∷ mark.Dot ∷ mark.Equals ∷ mark.Arrow ∷ mark.BothWays ∷ mark.Not ∷ mark.And
    ∷ mark.Or ∷ mark.If ∷ mark.Then ∷ mark.Else ∷ mark.True ∷ mark.False ∷ mark.ForAll ∷ mark.ForSome ∷ mark.Nat ∷ []

-- where a mark stands in the table
record Stands (m : Mark) : Type 0 where
  place : ℕ
  within : place < 19
  there : (d : Mark) → get_or table place d ≡ m

stands : (m : Mark) → Stands m
stands mark.Open = record { place = 0; within = omega arith; there = λ d. refl }
stands mark.Close = record { place = 1; within = omega arith; there = λ d. refl }
stands mark.Comma = record { place = 2; within = omega arith; there = λ d. refl }
stands mark.Colon = record { place = 3; within = omega arith; there = λ d. refl }
stands mark.Dot = record { place = 4; within = omega arith; there = λ d. refl }
stands mark.Equals = record { place = 5; within = omega arith; there = λ d. refl }
stands mark.Arrow = record { place = 6; within = omega arith; there = λ d. refl }
stands mark.BothWays = record { place = 7; within = omega arith; there = λ d. refl }
stands mark.Not = record { place = 8; within = omega arith; there = λ d. refl }
stands mark.And = record { place = 9; within = omega arith; there = λ d. refl }
stands mark.Or = record { place = 10; within = omega arith; there = λ d. refl }
stands mark.If = record { place = 11; within = omega arith; there = λ d. refl }
stands mark.Then = record { place = 12; within = omega arith; there = λ d. refl }
stands mark.Else = record { place = 13; within = omega arith; there = λ d. refl }
stands mark.True = record { place = 14; within = omega arith; there = λ d. refl }
stands mark.False = record { place = 15; within = omega arith; there = λ d. refl }
stands mark.ForAll = record { place = 16; within = omega arith; there = λ d. refl }
stands mark.ForSome = record { place = 17; within = omega arith; there = λ d. refl }
stands mark.Nat = record { place = 18; within = omega arith; there = λ d. refl }

-- where no mark of the table is the word, none is
pub none_spelled : (w : Word) → ((k : ℕ) (d : Mark) → k < 19 → mark_word (get_or table k d) ≡ w → ⊥) → NoMark w
none_spelled w none m e = let s = stands m in none s.place m s.within (ap mark_word (s.there m) ∙ e)

-- the first mark with these bytes
abbrev first_with : List Mark → List ℕ → Option Mark
first_with [] bytes = None
first_with (m ∷ ms) bytes = cond (bytes_eq (mark_word m).bytes bytes) (Some m) (first_with ms bytes)

found : (m : Mark) → first_with table (mark_word m).bytes ≡ Some m
found mark.Open = refl
found mark.Close = refl
found mark.Comma = refl
found mark.Colon = refl
found mark.Dot = refl
found mark.Equals = refl
found mark.Arrow = refl
found mark.BothWays = refl
found mark.Not = refl
found mark.And = refl
found mark.Or = refl
found mark.If = refl
found mark.Then = refl
found mark.Else = refl
found mark.True = refl
found mark.False = refl
found mark.ForAll = refl
found mark.ForSome = refl
found mark.Nat = refl

some_same : (m n : Mark) → Some m ≡ Some n → m ≡ n
some_same m n e = cc

pub one_mark : (m n : Mark) → mark_word m ≡ mark_word n → m ≡ n
one_mark m n e = some_same m n (sym (found m) ∙ (ap (λ (w : Word). first_with table w.bytes) e ∙ found n))
