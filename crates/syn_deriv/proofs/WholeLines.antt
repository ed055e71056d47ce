-- What a reader of a derivation's lines knows behind a row, by what the reader of a row tells.
use Rattle.std.proofs.Common.{◌≡◌, ◌↔◌, ℕ, ◌+◌, IsTrue, false, List, [], ◌∷◌, ◌++◌, IfSome, Option, None, Some, length, sym, subst, true≢false}
use Rattle.syn_term.specs.Bank.{Extends, Kept}
use Rattle.syn_term.specs.Tokens.{Word}
use Rattle.syn_row.specs.Rows.{RowTree}
use Rattle.syn_start.specs.declared.steps.Step.{Step}
use Rattle.syn_start.specs.Derivations.{Lines}
use Rattle.syn_start.specs.Rows.{IsRowOf}
use Rattle.syn_start.specs.Starts.{StartTree}
use Rattle.syn_deriv.specs.DerivationLines.{DerivationState, DerivationWordsLead, WritesLine, bare_line, bare_lines}
use Rattle.syn_deriv.specs.inner.Telling.{AreLinesOf, Tells}
use Rattle.syn_deriv.proofs.DerivationSteps.{row_missing, row_taken}
use Rattle.syn_deriv.proofs.RowsKept.{lines_more}

-- a test that fails
pub refused : (P : Type 0) → (P → ⊥) → IsTrue false ↔ P
refused P never = ((λ t. absurd (true≢false (sym t))), (λ p. absurd (never p)))

module _ (x : StartTree) where
  abbrev LineOf : Kept → Step × RowTree → Type 0
  LineOf bank l = IsRowOf x bank l.1

  -- behind a row
  line_there : (b : Kept) (o : Option (Step × RowTree)) (l : Step × RowTree) → o ≡ Some l → IfSome o (LineOf b) → IsRowOf x b l.1
  line_there b o l is h = subst (λ (z : Option (Step × RowTree)). IfSome z (LineOf b)) is h

  pub rows_more : (a b : Kept) (d new : Lines) (o : Option (Step × RowTree)) (l : Step × RowTree) → Extends a b → AreLinesOf x a (Some d) → IfSome o (LineOf b) → o ≡ Some l → new ≡ d ++ l ∷ [] → AreLinesOf x b (Some new)
  rows_more a b d new o l e h row is more = lines_more x a b d new l more e h (line_there b o l is row)

  -- what the reader of a row's line tells
  module _ (d : Lines) (words : List Word) (n : ℕ) (o : Option (Step × RowTree)) (number : n ≡ length d + 1) (told : Tells bare_line (λ l. WritesLine x n l words) o) where
    abbrev Told : Option (Step × RowTree) → Type 0
    Told a = Tells bare_line (λ l. WritesLine x n l words) a

    pub row_told_out : (words ≡ [] → ⊥) → o ≡ None → (u : DerivationState) → DerivationWordsLead x (Some (bare_lines d)) words u → ⊥
    row_told_out some is = row_missing x d words n number some (subst Told is told)

    pub row_told : (new : Lines) (l : Step × RowTree) → o ≡ Some l → new ≡ d ++ l ∷ [] → DerivationWordsLead x (Some (bare_lines d)) words (Some (bare_lines new))
    row_told new l is more = row_taken x d new l words n number (subst Told is told) more
