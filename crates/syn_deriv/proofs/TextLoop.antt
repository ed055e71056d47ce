-- What a reader that goes line by line knows behind each line, and at the end, for any format.
use Rattle.std.proofs.Common.{◌≡◌, ℕ, ◌+◌, ◌<◌, List, [], ◌∷◌, ◌++◌, length, take, slice_index_or, sym, ◌∙◌, ap, subst}
use Rattle.std.proofs.lemmas.List.{take_more}
use Rattle.syn_lex.specs.Stepping.{Ends, Extends, Lead, Step}
use Rattle.syn_lex.specs.TextLines.{IsCut, IsFirstBad}
use Rattle.syn_lex.proofs.Led.{LeadsOnce, bad_end, bad_line, led_more}

module _ {S : Type 0} (step : Step S) (once : LeadsOnce step) (start : S) (Whole : S → Type 0) where
  -- one line more
  pub led_on : (lines : List (List ℕ)) (i : ℕ) (line : List ℕ) (s t : S) → i < length lines → line ≡ slice_index_or lines i [] → Lead step start (take i lines) s → step s line t → Lead step start (take (i + 1) lines) t
  led_on lines i line s t lt is led more =
      subst (λ (z : List (List ℕ)). Lead step start z t) (sym (take_more lines i [] lt ∙ ap (λ (z : List ℕ). take i lines ++ z ∷ []) (sym is))) (led_more step start s t (take i lines) line led more)

  module _ (bytes : List ℕ) (lines : List (List ℕ)) (rest : List ℕ) (cut : IsCut bytes lines rest) where
    -- a line that leads nowhere
    pub refused_at : (i : ℕ) (line : List ℕ) (s : S) → i < length lines → line ≡ slice_index_or lines i [] → Lead step start (take i lines) s → ((t : S) → step s line t → ⊥) → IsFirstBad (Extends step start) (Ends step start Whole) bytes (i + 1)
    refused_at i line s lt is led none = bad_line step once start Whole bytes lines rest cut i s lt led (subst (λ (z : List ℕ). (t : S) → step s z t → ⊥) is none)

    -- and an end that comes too early
    pub early_at : (n : ℕ) (s : S) → n ≡ length lines + 1 → Lead step start lines s → (rest ≡ [] → Whole s → ⊥) → IsFirstBad (Extends step start) (Ends step start Whole) bytes n
    early_at n s number led short = subst (IsFirstBad (Extends step start) (Ends step start Whole) bytes) (sym number) (bad_end step once start Whole bytes lines rest cut s led short)
