-- For public contracts: the words of lines: keywords, signs, sorts, and lists with commas between.
use Rattle.std.specs.Prelude.{◌≡◌, ℕ, List, [], ◌∷◌, ◌++◌, Some, codes, decimal}
use Rattle.syn_term.specs.declared.sorts.Sort.{Sort}
use Rattle.syn_term.specs.declared.tokens.TokenKind.TheVariants as kind
use Rattle.syn_term.specs.Symbols.{SymbolTable}
use Rattle.syn_term.specs.DeclaredSorts.{sort_named}
use Rattle.syn_term.specs.Tokens.{Word}
use Rattle.syn_form.specs.Grammar.{name_word, sign_word}
use Rattle.syn_model.specs.declared.heads.Param.{Param}

abbrev pub number_word : ℕ → Word
number_word n = record { kind = kind.Number; bytes = decimal n }

-- the word writes the sort: it is `nat`, or the name of a declared one
abbrev pub WritesSort : SymbolTable → Sort → Word → Type 0
WritesSort table s w = (x : List ℕ) × (sort_named table x ≡ Some s) × (w ≡ name_word x)

-- one word for each sort
abbrev pub WriteSorts : SymbolTable → List Sort → List Word → Type 0
WriteSorts table [] [] = Unit {0}
WriteSorts table [] (w ∷ ws) = ⊥
WriteSorts table (s ∷ ss) [] = ⊥
WriteSorts table (s ∷ ss) (w ∷ ws) = WritesSort table s w × WriteSorts table ss ws

abbrev pub comma : Word
comma = sign_word (codes ",")

-- these lists of words, one after another, with commas between
abbrev pub listed_words : List (List Word) → List Word
listed_words [] = []
listed_words (x ∷ []) = x
listed_words (x ∷ y ∷ more) = x ++ comma ∷ listed_words (y ∷ more)

-- the words between brackets
abbrev pub bracketed : List Word → List Word
bracketed words = sign_word (codes "(") ∷ (words ++ sign_word (codes ")") ∷ [])

-- each word by itself
abbrev pub singly : List Word → List (List Word)
singly [] = []
singly (w ∷ ws) = (w ∷ []) ∷ singly ws

-- `x: S`
abbrev pub parameter_words : List ℕ → Word → List Word
parameter_words x w = name_word x ∷ sign_word (codes ":") ∷ w ∷ []

-- each parameter with its sort
abbrev pub WriteParameters : SymbolTable → List Param → List (List Word) → Type 0
WriteParameters table [] [] = Unit {0}
WriteParameters table [] (q ∷ qs) = ⊥
WriteParameters table (p ∷ ps) [] = ⊥
WriteParameters table (p ∷ ps) (q ∷ qs) = ((w : Word) × WritesSort table p.sort w × (q ≡ parameter_words p.name w)) × WriteParameters table ps qs
