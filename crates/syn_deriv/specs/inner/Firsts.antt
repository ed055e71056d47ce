-- For private contracts: what stands at the front of words, and the words behind it.
use Rattle.std.specs.Prelude.{ℕ, Bool, true, false, ◌&&◌, List, [], ◌∷◌, Option, None, Some, decimal, if◌then◌else◌, nat_lt, ◌^◌}
use Rattle.std.specs.Option.{option_and_then, option_map}
use Rattle.std.specs.Str.{bytes_eq}
use Rattle.std.specs.Str.Parse.{digits_value}
use Rattle.syn_term.specs.declared.tokens.TokenKind.{TokenKind}
use Rattle.syn_term.specs.declared.tokens.TokenKind.TheVariants as kind
use Rattle.syn_term.specs.Tokens.{Word, is_reserved}

-- what was read, and the words that are left
pub record Got (A : Type 0) : Type 0 where
  pub value : A
  pub left : List Word

abbrev pub got : {A : Type 0} → A → List Word → Got A
got a ws = record { value = a; left = ws }

infixl 10 ◌>>=◌
abbrev pub ◌>>=◌ : {A B : Type 0} → Option A → (A → Option B) → Option B
o >>= f = option_and_then f o

abbrev pub name_of_kind : TokenKind → List ℕ → Option (List ℕ)
name_of_kind kind.Name bytes = Some bytes
name_of_kind _ bytes = None

-- the bytes of the word, where it is a name
abbrev pub name_of : Word → Option (List ℕ)
name_of w = name_of_kind w.kind w.bytes

abbrev pub is_sign_kind : TokenKind → Bool
is_sign_kind kind.Sign = true
is_sign_kind _ = false

-- the word is this sign
abbrev pub is_sign : List ℕ → Word → Bool
is_sign sign w = is_sign_kind w.kind && bytes_eq w.bytes sign

abbrev pub name_first : List Word → Option (Got (List ℕ))
name_first [] = None
name_first (w ∷ ws) = option_map (λ x. got x ws) (name_of w)

-- a name that is no reserved word
abbrev pub unreserved : Got (List ℕ) → Option (Got (List ℕ))
unreserved x = if is_reserved x.value then None else Some x

abbrev pub free_first : List Word → Option (Got (List ℕ))
free_first ws = name_first ws >>= unreserved

-- the words behind this sign
abbrev pub sign_first : List ℕ → List Word → Option (List Word)
sign_first sign [] = None
sign_first sign (w ∷ ws) = if is_sign sign w then Some ws else None

-- a number of at most seven digits, with no zero before others
abbrev pub number_in : List ℕ → Option ℕ
number_in bytes = if bytes_eq bytes (decimal (digits_value 10 bytes)) && nat_lt (digits_value 10 bytes) (10 ^ 7) then Some (digits_value 10 bytes) else None

abbrev pub number_of_kind : TokenKind → List ℕ → Option ℕ
number_of_kind kind.Number bytes = number_in bytes
number_of_kind _ bytes = None

-- the number that the word is
abbrev pub number_of : Word → Option ℕ
number_of w = number_of_kind w.kind w.bytes

abbrev pub number_first : List Word → Option (Got ℕ)
number_first [] = None
number_first (w ∷ ws) = option_map (λ n. got n ws) (number_of w)
