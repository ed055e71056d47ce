-- For public contracts: the text of a theory: the one line `theory NAME`.
use Rattle.std.specs.Prelude.{◌≡◌, ℕ, List, [], ◌∷◌, codes, length}
use Rattle.syn_term.specs.Names.{IsName}
use Rattle.syn_app.specs.Trees.{TheoryTree}
use Rattle.syn_app.specs.Lines.{in_words}
use Rattle.syn_lex.specs.TextLines.{IsCut}

abbrev pub theory_line : List ℕ → List ℕ
theory_line name = in_words (codes "theory" ∷ name ∷ [])

-- which line extends which lines of a theory
abbrev pub ExtendsTheory : List (List ℕ) → List ℕ → Type 0
ExtendsTheory [] line = (name : List ℕ) × IsName name × (line ≡ theory_line name)
ExtendsTheory (a ∷ before) line = ⊥

-- no line is missing
abbrev pub WholeTheory : List (List ℕ) → Type 0
WholeTheory lines = length lines ≡ 1

-- the bytes are the text of this theory
pub record IsTheoryText (bytes : List ℕ) (theory : TheoryTree) : Type 0 where
  pub cut : IsCut bytes (theory_line theory.name ∷ []) []
  pub name : IsName theory.name
