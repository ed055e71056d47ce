-- For private contracts: what a reader of lines answers.
use Rattle.std.specs.Prelude.{◌≡◌, ℕ, Bool, true, false, List, [], ◌∷◌, Option, None, Some, codes}
use Rattle.std.specs.Option.{option_map}
use Rattle.std.specs.Str.{bytes_eq}
use Rattle.syn_term.specs.Tokens.{Word}
use Rattle.syn_form.specs.Grammar.{name_word}
use Rattle.syn_model.specs.declared.decl.Decl.{Decl}
use Rattle.syn_model.specs.BareTrees.{bare_decl, bare_theory_tree}
use Rattle.syn_model.specs.Declaring.{MayDeclare}
use Rattle.syn_model.specs.Theories.{TheoryTree}
use Rattle.syn_files.specs.TheoryLines.{TheoryLine, TheoryState, WordsLead, Writes}

-- the words write the declaration, its places left out, and no other that may follow; where none is answered they write none that
-- may follow
abbrev pub ReadsDecl : List Decl → List Word → Option Decl → Type 0
ReadsDecl ds words None = (e : Decl) → Writes ds e words → MayDeclare ds e → ⊥
ReadsDecl ds words (Some d) = Writes ds (bare_decl d) words × ((e : Decl) → Writes ds e words → MayDeclare ds e → e ≡ bare_decl d)

-- a theory as the definitions of texts see it, or none yet
abbrev pub seen : Option TheoryTree → TheoryState
seen = option_map bare_theory_tree

-- whether the words lead on from the first state, and then they lead to the second
abbrev pub TakesWords : TheoryState → List Word → TheoryState → Bool → Type 0
TakesWords s words t true = WordsLead s words t
TakesWords s words t false = (u : TheoryState) → WordsLead s words u → ⊥

-- the same for a line
abbrev pub TakesLine : TheoryState → List ℕ → TheoryState → Bool → Type 0
TakesLine s line t true = TheoryLine s line t
TakesLine s line t false = (u : TheoryState) → TheoryLine s line u → ⊥

-- the words of a theory's first line
abbrev pub title_words : List ℕ → List Word
title_words name = name_word (codes "theory") ∷ name_word name ∷ []

-- the word begins no line without expressions
pub record IsOtherKeyword (keyword : List ℕ) : Type 0 where
  pub no_sort : bytes_eq keyword (codes "sort") ≡ false
  pub no_fun : bytes_eq keyword (codes "fun") ≡ false
  pub no_rel : bytes_eq keyword (codes "rel") ≡ false
