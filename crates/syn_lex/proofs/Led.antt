-- Texts whose lines lead from state to state, where a line leads to one state at most: what a reader that goes line by line knows
-- when it refuses a line, when it has read them all, and that a text stands for one state.
use Rattle.std.proofs.Common.{◌≡◌, ℕ, zero, suc, ◌+◌, ◌<◌, ◌≤◌, List, [], ◌∷◌, ◌++◌, length, take, slice_index_or, refl, sym, ◌∙◌, ap, subst, arith}
use Rattle.std.proofs.lemmas.List.{take_all}
use Rattle.syn_lex.specs.TextLines.{IsCut, IsFirstBad}
use Rattle.syn_lex.specs.Stepping.{Step, Lead, Extends, Ends, IsTextOf, OneText}
use Rattle.syn_lex.proofs.OneCut.{cut_once}

-- a line leads from a state to one state at most
abbrev pub LeadsOnce : {S : Type 0} → Step S → Type 0
LeadsOnce {S} step = (s t u : S) (line : List ℕ) → step s line t → step s line u → t ≡ u

-- one line more
pub led_more : {S : Type 0} (step : Step S) (s t u : S) (lines : List (List ℕ)) (line : List ℕ) → Lead step s lines t → step t line u → Lead step s (lines ++ line ∷ []) u
led_more {S} step s t u [] line h k = (u, subst (λ (z : S). step z line u) (sym h) k, refl)
led_more step s t u (l ∷ ls) line h k = (h.0, h.1, led_more step h.0 t u ls line h.2 k)

-- each of the first lines extends those before it
pub led_before : {S : Type 0} (step : Step S) (s t : S) (lines : List (List ℕ)) (i k : ℕ) → k < i → i ≤ length lines → Lead step s (take i lines) t → Extends step s (take k lines) (slice_index_or lines k [])
led_before step s t [] i k lt le h = absurd (omega arith)
led_before step s t (l ∷ ls) zero k lt le h = absurd (omega arith)
led_before step s t (l ∷ ls) (suc i) zero lt le h = (s, h.0, refl, h.1)
led_before step s t (l ∷ ls) (suc i) (suc k) lt le h =
    let p = led_before step h.0 t ls i k (omega arith) (omega arith) h.2 in (p.0, p.1, (h.0, h.1, p.2), p.3)

module _ {S : Type 0} (step : Step S) (one : LeadsOnce step) where
  -- lines lead to one state at most
  pub led_once : (s t u : S) (lines : List (List ℕ)) → Lead step s lines t → Lead step s lines u → t ≡ u
  led_once s t u [] h k = sym h ∙ k
  led_once s t u (line ∷ lines) h k =
      let e : h.0 ≡ k.0 = one s h.0 k.0 line h.1 k.1 in
      led_once k.0 t u lines (subst (λ (z : S). Lead step z lines t) e h.2) k.2

  -- the bytes stand for one state at most
  pub one_text : (start : S) (Whole : S → Type 0) (bytes : List ℕ) → OneText step start Whole bytes
  one_text start Whole bytes s t h k =
      let e : h.lines ≡ k.lines = (cut_once bytes h.lines k.lines [] [] h.cut k.cut).0 in
      led_once start s t k.lines (subst (λ (z : List (List ℕ)). Lead step start z s) e h.led) k.led

  module _ (start : S) (Whole : S → Type 0) (bytes : List ℕ) (lines : List (List ℕ)) (rest : List ℕ) (cut : IsCut bytes lines rest) where
    -- the first line from which nothing leads on is the first bad line
    pub bad_line : (i : ℕ) (t : S) → i < length lines → Lead step start (take i lines) t → ((u : S) → step t (slice_index_or lines i []) u → ⊥) → IsFirstBad (Extends step start) (Ends step start Whole) bytes (i + 1)
    bad_line i t lt led none = record {
      lines = lines;
      rest = rest;
      cut = cut;
      at = i;
      is = refl;
      within = omega arith;
      before = λ k below. led_before step start t lines i k below (omega arith) led;
      bad = λ here e. none e.1 (subst (λ (z : S). step z (slice_index_or lines i []) e.1) (led_once start e.0 t (take i lines) e.2 led) e.3);
      early = λ end. absurd (omega (arith, end));
    }

    -- where something follows the last line feed, or the lines end too early, the line after the last is bad
    pub bad_end : (t : S) → Lead step start lines t → (rest ≡ [] → Whole t → ⊥) → IsFirstBad (Extends step start) (Ends step start Whole) bytes (length lines + 1)
    bad_end t led short = record {
      lines = lines;
      rest = rest;
      cut = cut;
      at = length lines;
      is = refl;
      within = omega arith;
      before = λ k below. led_before step start t lines (length lines) k below (omega arith) (subst (λ (z : List (List ℕ)). Lead step start z t) (sym (take_all (length lines) lines (omega arith))) led);
      bad = λ here. absurd (omega (arith, here));
      early = λ end none e. short none (subst Whole (led_once start e.0 t lines e.1 led) e.2);
    }

    -- and else the bytes stand for the state that the lines lead to
    pub whole_text : (t : S) → Lead step start lines t → rest ≡ [] → Whole t → IsTextOf step start Whole bytes t
    whole_text t led none whole = record { lines = lines; cut = subst (IsCut bytes lines) none cut; led = led; whole = whole }
