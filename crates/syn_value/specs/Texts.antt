-- In public contracts: the text of a value, and which texts are values of a sort.
use Rattle.std.specs.Prelude.{◌≡◌, ℕ, ◌≤◌, IsTrue, List, [], ◌∷◌, ◌++◌, Result, Ok, Err, All, codes, decimal}
use Rattle.std.specs.List.{concat}
use Rattle.syn_term.specs.declared.sorts.Sort.{Sort}
use Rattle.syn_value.specs.declared.errors.ValueError.{ValueError}
use Rattle.syn_value.specs.declared.errors.ValueError.TheVariants as error
use Rattle.syn_term.specs.Symbols.{SymbolTable}
use Rattle.syn_term.specs.Tokens.{is_blank}
use Rattle.syn_value.specs.declared.tree.ValueTree.{ValueTree, fold-ValueTree}
use Rattle.syn_value.specs.declared.tree.ValueTree.TheOpen.{ValueTree-F}
use Rattle.syn_value.specs.Values.{OfSort, numbers_in, parts_in}

-- The greatest number in a text that is read, and the most list items and tuple parts together.
abbrev pub greatest_number : ℕ
greatest_number = 1000000

abbrev pub most_parts : ℕ
most_parts = 10000

-- some lists of tokens with a comma between
abbrev pub separated : List (List (List ℕ)) → List (List ℕ)
separated [] = []
separated (tokens ∷ []) = tokens
separated (tokens ∷ next ∷ more) = tokens ++ codes "," ∷ separated (next ∷ more)

abbrev pub tokens_step : ValueTree-F (List (List ℕ)) → List (List ℕ)
tokens_step (ValueTree-F.Num n) = decimal n ∷ []
tokens_step (ValueTree-F.List items) = codes "[" ∷ separated items ++ codes "]" ∷ []
tokens_step (ValueTree-F.Tuple parts) = codes "(" ∷ separated parts ++ codes ")" ∷ []

-- the tokens of a value: a number's digits, and brackets round a list's items and a tuple's parts, with commas between
abbrev pub value_tokens : ValueTree → List (List ℕ)
value_tokens = fold-ValueTree (List (List ℕ)) tokens_step

-- The text of a value as it is printed, its tokens without blanks: `[(1,2),(3,4)]`.
abbrev pub value_text : ValueTree → List ℕ
value_text v = concat (value_tokens v)

-- The bytes are the tokens, each with any blanks before it.
abbrev pub Follows : List (List ℕ) → List ℕ → Type 0
Follows [] bytes = bytes ≡ []
Follows (token ∷ tokens) bytes =
    (blanks rest : List ℕ) × All (λ b. IsTrue (is_blank b)) blanks × (bytes ≡ blanks ++ (token ++ rest)) × Follows tokens rest

-- The bytes spell the tokens: any blanks may stand between two of them, and nothing else.
abbrev pub Spells : List (List ℕ) → List ℕ → Type 0
Spells [] bytes = bytes ≡ []
Spells (token ∷ tokens) bytes = (rest : List ℕ) × (bytes ≡ token ++ rest) × Follows tokens rest

-- The bytes are a text of the value, which is of the sort: they spell its tokens, no number is above 1,000,000, and it has at
-- most 10,000 list items and tuple parts together. `[ 1,2 ]` is a text of the list of 1 and 2.
pub record IsValueText (table : SymbolTable) (sort : Sort) (bytes : List ℕ) (v : ValueTree) : Type 0 where
  pub fitting : OfSort table sort v
  pub small : All (λ n. n ≤ greatest_number) (numbers_in v)
  pub few : parts_in v ≤ most_parts
  pub spelled : Spells (value_tokens v) bytes

-- What a reader answers: the value of the sort that the text is, and BadValue exactly where it is a text of no value of the
-- sort. Want of memory is free.
abbrev pub IsRead : SymbolTable → Sort → List ℕ → Result ValueTree ValueError → Type 0
IsRead table sort bytes (Ok v) = IsValueText table sort bytes v
IsRead table sort bytes (Err error.BadValue) = (v : ValueTree) → ¬ (IsValueText table sort bytes v)
IsRead table sort bytes (Err error.NoMemory) = Unit {0}

-- A text is of one value at most.
abbrev pub OneValue : Type 0
OneValue = (table : SymbolTable) (sort : Sort) (bytes : List ℕ) (v w : ValueTree) → IsValueText table sort bytes v → IsValueText table sort bytes w → v ≡ w

-- A value of the sort within the limits is what its printed text is read as.
abbrev pub ReadsBack : Type 0
ReadsBack = (table : SymbolTable) (sort : Sort) (v : ValueTree) → OfSort table sort v → All (λ n. n ≤ greatest_number) (numbers_in v) → parts_in v ≤ most_parts → IsValueText table sort (value_text v) v
