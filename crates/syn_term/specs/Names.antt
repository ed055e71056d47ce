-- In public contracts: which texts are names, and which are names of Skolem symbols.
use Rattle.std.specs.Prelude.{◌≡◌, ℕ, ◌<◌, ◌≤◌, ◌^◌, ◌⊎◌, ◌++◌, ◌||◌, ◌==◌, Bool, List, [], ◌∷◌, IsTrue, Contains, codes, decimal, length}
use Rattle.std.specs.Char.{is_ascii_alphanumeric}
use Rattle.std.specs.Str.{IsUtf8, chars}
use Rattle.std.specs.List.{list_all}
use Rattle.unicode_ident.specs.Ident.{is_xid_start, is_xid_continue}

-- The words that no symbol may have as its name, since the texts use them for themselves.
abbrev pub reserved : List (List ℕ)
reserved =
    codes "nat" ∷ codes "s" ∷ codes "true" ∷ codes "false" ∷ codes "not" ∷ codes "and" ∷ codes "or" ∷ codes "if" ∷ codes "then"
    ∷ codes "else" ∷ codes "all" ∷ codes "some" ∷ codes "goal" ∷ codes "input" ∷ codes "induct" ∷ []

-- The first character is there, and may start a name, as a letter may.
abbrev pub Starts : List ℕ → Type 0
Starts [] = ⊥
Starts (c ∷ cs) = IsTrue (is_xid_start c)

-- A name is a text whose first character may start an identifier of Unicode and whose characters may all continue one,
-- which takes at most 64 bytes, and which is no reserved word: `count` and `a_1`, but not `_a` and not `nat`.
pub record IsName (bytes : List ℕ) : Type 0 where
  pub text : IsUtf8 bytes
  pub starts : Starts (chars bytes)
  pub continues : IsTrue (list_all is_xid_continue (chars bytes))
  pub short : length bytes ≤ 64
  pub free : ¬ (Contains reserved bytes)

-- A tag says where a Skolem symbol came from: the goal, an induction, or what has the name.
abbrev pub IsTag : List ℕ → Type 0
IsTag tag = (tag ≡ codes "goal") ⊎ ((tag ≡ codes "induct") ⊎ IsName tag)

-- The digits of a number from 1 that has at most seven, with no zero before them.
pub record IsNumber (bytes : List ℕ) : Type 0 where
  pub number : ℕ
  pub positive : 0 < number
  pub small : number < 10 ^ 7
  pub is : bytes ≡ decimal number

-- The name of a Skolem symbol is an exclamation mark, a tag, a full stop and a number from 1: `!gap.1`.
pub record IsSkolemName (bytes : List ℕ) : Type 0 where
  pub tag : List ℕ
  pub number : List ℕ
  pub tagged : IsTag tag
  pub numbered : IsNumber number
  pub is : bytes ≡ codes "!" ++ tag ++ codes "." ++ number

-- Among the ASCII characters a name is made of letters, digits and the underscore alone.
abbrev pub is_name_byte : ℕ → Bool
is_name_byte b = is_ascii_alphanumeric b || (b == 95)
