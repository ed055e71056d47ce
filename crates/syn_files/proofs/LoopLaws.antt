-- What a reader of a theory knows behind each line, and at the end.
use Rattle.std.proofs.Common.{◌≡◌, ℕ, ◌+◌, ◌<◌, true, List, [], ◌∷◌, ◌++◌, Option, None, Some, length, take, slice_index_or, sym, ◌∙◌, ap, subst}
use Rattle.std.proofs.lemmas.List.{take_more}
use Rattle.syn_lex.specs.Stepping.{Ends, Extends, IsTextOf, Lead}
use Rattle.syn_lex.specs.TextLines.{IsCut, IsFirstBad}
use Rattle.syn_lex.proofs.Led.{bad_end, bad_line, led_more, whole_text}
use Rattle.syn_model.specs.BareTrees.{bare_theory_tree}
use Rattle.syn_model.specs.Headings.{is_whole}
use Rattle.syn_model.specs.Theories.{TheoryTree}
use Rattle.syn_model.proofs.BareDeclaring.{whole_bare}
use Rattle.syn_files.specs.TheoryLines.{IsWholeTheory, TheoryLine, TheoryState}
use Rattle.syn_files.specs.inner.Telling.{seen}
use Rattle.syn_files.proofs.WriteOnce.{theory_lines_once}

-- the lines up to one lead to a state
abbrev pub LedTo : List (List ℕ) → TheoryState → Type 0
LedTo = Lead TheoryLine None

abbrev pub IsRefused : List ℕ → ℕ → Type 0
IsRefused = IsFirstBad (Extends TheoryLine None) (Ends TheoryLine None IsWholeTheory)

-- one line more
pub one_more_line : (lines : List (List ℕ)) (i : ℕ) (line : List ℕ) (s t : TheoryState) → i < length lines → line ≡ slice_index_or lines i [] → LedTo (take i lines) s → TheoryLine s line t → LedTo (take (i + 1) lines) t
one_more_line lines i line s t lt is led step =
    subst (λ (z : List (List ℕ)). LedTo z t) (sym (take_more lines i [] lt ∙ ap (λ (z : List ℕ). take i lines ++ z ∷ []) (sym is))) (led_more TheoryLine None s t (take i lines) line led step)

module _ (bytes : List ℕ) (lines : List (List ℕ)) (rest : List ℕ) (cut : IsCut bytes lines rest) where
  -- a line that leads nowhere
  pub refused_line : (i : ℕ) (line : List ℕ) (s : TheoryState) → i < length lines → line ≡ slice_index_or lines i [] → LedTo (take i lines) s → ((t : TheoryState) → TheoryLine s line t → ⊥) → IsRefused bytes (i + 1)
  refused_line i line s lt is led none = bad_line TheoryLine theory_lines_once None IsWholeTheory bytes lines rest cut i s lt led (subst (λ (z : List ℕ). (t : TheoryState) → TheoryLine s z t → ⊥) is none)

  module _ (s : Option TheoryTree) (n : ℕ) (number : n ≡ length lines + 1) (led : LedTo lines (seen s)) where
    pub end_none : s ≡ None → IsRefused bytes n
    end_none is = subst (IsRefused bytes) (sym number) (bad_end TheoryLine theory_lines_once None IsWholeTheory bytes lines rest cut None (subst (λ (z : Option TheoryTree). LedTo lines (seen z)) is led) (λ none whole. whole))

    pub end_short : (t : TheoryTree) → s ≡ Some t → ((rest ≡ []) × (is_whole t.decls ≡ true) → ⊥) → IsRefused bytes n
    end_short t is short =
        subst (IsRefused bytes) (sym number) (bad_end TheoryLine theory_lines_once None IsWholeTheory bytes lines rest cut (Some (bare_theory_tree t)) (subst (λ (z : Option TheoryTree). LedTo lines (seen z)) is led)
        (λ none whole. short (none, sym (whole_bare t.decls) ∙ whole)))

    pub end_whole : (t : TheoryTree) → s ≡ Some t → (rest ≡ []) × (is_whole t.decls ≡ true) → IsTextOf TheoryLine None IsWholeTheory bytes (Some (bare_theory_tree t))
    end_whole t is h =
        whole_text TheoryLine theory_lines_once None IsWholeTheory bytes lines rest cut (Some (bare_theory_tree t)) (subst (λ (z : Option TheoryTree). LedTo lines (seen z)) is led) h.0 (whole_bare t.decls ∙ h.1)
