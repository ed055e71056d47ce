-- For private contracts: what stands at the front of words, and the words behind it.
use Rattle.std.specs.Prelude.{ℕ, Bool, true, false, ◌&&◌, List, [], ◌∷◌, Option, None, Some, codes, decimal, if◌then◌else◌, nat_lt, ◌^◌}
use Rattle.std.specs.Option.{option_and_then, option_map}
use Rattle.std.specs.Str.{bytes_eq}
use Rattle.std.specs.Str.Parse.{digits_value}
use Rattle.syn_form.specs.Elaboration.{symbol_named}
use Rattle.syn_term.specs.declared.sorts.Sort.{Sort}
use Rattle.syn_term.specs.declared.sorts.SymId.{SymId}
use Rattle.syn_term.specs.declared.tokens.TokenKind.{TokenKind}
use Rattle.syn_term.specs.declared.tokens.TokenKind.TheVariants as kind
use Rattle.syn_term.specs.DeclaredSorts.{sort_named}
use Rattle.syn_term.specs.Symbols.{SymbolTable}
use Rattle.syn_term.specs.Tokens.{Word}

-- what was read, and the words that are left
pub record Got (A : Type 0) : Type 0 where
  pub value : A
  pub left : List Word

abbrev pub got : {A : Type 0} → A → List Word → Got A
got a ws = record { value = a; left = ws }

infixl 10 ◌>>=◌
abbrev pub ◌>>=◌ : {A B : Type 0} → Option A → (A → Option B) → Option B
o >>= f = option_and_then f o

abbrev pub name_of_kind : TokenKind → List ℕ → Option (List ℕ)
name_of_kind kind.Name bytes = Some bytes
name_of_kind _ bytes = None

-- the bytes of the word, where it is a name
abbrev pub name_of : Word → Option (List ℕ)
name_of w = name_of_kind w.kind w.bytes

abbrev pub is_sign_kind : TokenKind → Bool
is_sign_kind kind.Sign = true
is_sign_kind _ = false

-- the word is this sign
abbrev pub is_sign : List ℕ → Word → Bool
is_sign sign w = is_sign_kind w.kind && bytes_eq w.bytes sign

abbrev pub name_first : List Word → Option (Got (List ℕ))
name_first [] = None
name_first (w ∷ ws) = option_map (λ x. got x ws) (name_of w)

-- the words behind this sign
abbrev pub sign_first : List ℕ → List Word → Option (List Word)
sign_first sign [] = None
sign_first sign (w ∷ ws) = if is_sign sign w then Some ws else None

-- the words behind this name
abbrev pub word_first : List ℕ → List Word → Option (List Word)
word_first name ws = name_first ws >>= λ x. if bytes_eq x.value name then Some x.left else None

abbrev pub sort_first : SymbolTable → List Word → Option (Got Sort)
sort_first table ws = name_first ws >>= λ x. option_map (λ s. got s x.left) (sort_named table x.value)

-- this, where no words are left
abbrev pub ended : {A : Type 0} → List Word → A → Option A
ended [] a = Some a
ended (w ∷ ws) a = None

abbrev pub with_sort : Sort → Got (List Sort) → Got (List Sort)
with_sort s g = got (s ∷ g.value) g.left

-- sorts with commas between, up to a closing bracket; a sort that was read last waits for what stands behind it
abbrev pub sorts_on : SymbolTable → Option Sort → List Word → Option (Got (List Sort))
sorts_on table last [] = None
sorts_on table None (w ∷ ws) = (name_of w >>= sort_named table) >>= λ s. sorts_on table (Some s) ws
sorts_on table (Some s) (w ∷ ws) =
    if is_sign (codes ")") w then Some (got (s ∷ []) ws) else (if is_sign (codes ",") w then option_map (with_sort s) (sorts_on table None ws) else None)

-- sorts in brackets
abbrev pub sorts_first : SymbolTable → List Word → Option (Got (List Sort))
sorts_first table ws = sign_first (codes "(") ws >>= sorts_on table None

-- a number of at most seven digits, with no zero before others
abbrev pub number_in : List ℕ → Option ℕ
number_in bytes = if bytes_eq bytes (decimal (digits_value 10 bytes)) && nat_lt (digits_value 10 bytes) (10 ^ 7) then Some (digits_value 10 bytes) else None

abbrev pub number_of_kind : TokenKind → List ℕ → Option ℕ
number_of_kind kind.Number bytes = number_in bytes
number_of_kind _ bytes = None

abbrev pub number_first : List Word → Option (Got ℕ)
number_first [] = None
number_first (w ∷ ws) = option_map (λ n. got n ws) (number_of_kind w.kind w.bytes)

abbrev pub symbol_first : SymbolTable → List Word → Option (Got SymId)
symbol_first table ws = name_first ws >>= λ x. option_map (λ f. got f x.left) (symbol_named table x.value)

abbrev pub direction_of : List ℕ → Option Bool
direction_of x = if bytes_eq x (codes "up") then Some true else (if bytes_eq x (codes "down") then Some false else None)

abbrev pub direction_first : List Word → Option (Got Bool)
direction_first ws = name_first ws >>= λ x. option_map (λ b. got b x.left) (direction_of x.value)
