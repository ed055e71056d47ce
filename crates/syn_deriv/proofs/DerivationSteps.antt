-- Where the words of a derivation's lines lead: one state at most, what a reader knows that was led there, and what it knows at the end.
use Rattle.std.proofs.Common.{◌≡◌, ◌↔◌, ℕ, ◌+◌, Bool, IsTrue, true, false, true≢false, List, [], ◌∷◌, ◌++◌, All, IfOk, Result, Option, None, Some, codes, length, refl, sym, ◌∙◌, ap, subst, arith}
use Rattle.std.specs.Str.{bytes_eq}
use Rattle.std.proofs.lemmas.Slice.Eq.{bytes_eq-Decides}
use Rattle.std.proofs.lemmas.Option.{same_Some}
use Rattle.std.proofs.lemmas.List.{length-map, map-append}
use Rattle.std.proofs.lemmas.Result.{IfOk-weaker}
use Rattle.syn_term.specs.declared.memory.NoMemory.{NoMemory}
use Rattle.syn_term.specs.Tokens.{OneSpelling, Spelled, Word}
use Rattle.syn_term.proofs.OneSpelling.{one_spelling}
use Rattle.syn_form.specs.Grammar.{name_word}
use Rattle.syn_lex.specs.Lexing.{IsTokenWord}
use Rattle.syn_lex.specs.Stepping.{Ends, Extends, Lead}
use Rattle.syn_lex.specs.TextLines.{IsCut, IsFirstBad}
use Rattle.syn_lex.proofs.Led.{LeadsOnce, whole_text}
use Rattle.syn_lex.proofs.NotSpelled.{spelled_tokens}
use Rattle.syn_row.specs.Rows.{RowTree}
use Rattle.syn_start.specs.declared.steps.Step.{Step}
use Rattle.syn_start.specs.Derivations.{Lines}
use Rattle.syn_start.specs.Starts.{StartTree}
use Rattle.syn_deriv.specs.DerivationLines.{DerivationLine, DerivationState, DerivationWordsLead, IsBegun, IsDerivationText, WritesLine, bare_line, bare_lines, blank, header, number_word, one_row}
use Rattle.syn_deriv.specs.inner.Firsts.{Got, got, name_first, number_first}
use Rattle.syn_deriv.specs.inner.Telling.{TakesDerivationLine, TakesDerivationWords, seen}
use Rattle.syn_deriv.proofs.FirstLaws.{name_read, number_read, number_reads, same_text}
use Rattle.syn_deriv.proofs.LineLaws.{line_once}
use Rattle.syn_deriv.proofs.TextLoop.{early_at}

-- the first line
abbrev pub header_words : List Word
header_words = name_word (codes "derivation") ∷ number_word 1 ∷ []

same_got : {A : Type 0} (o : Option (Got A)) (g h : Got A) → o ≡ Some g → o ≡ Some h → g ≡ h
same_got o g h e f = same_Some g h (sym e ∙ f)

nothing_got : {A : Type 0} (o : Option A) (g : A) → o ≡ None → o ≡ Some g → ⊥
nothing_got o g e f = let k : None ≡ Some g = sym e ∙ f in absurd (cc)

-- its number
abbrev version_words : List Word
version_words = number_word 1 ∷ []

version_reads : (ws : List Word) → ws ≡ version_words → number_first ws ≡ Some (got 1 [])
version_reads ws e = ap number_first e ∙ number_reads 1 [] (omega arith)

pub no_version : (ws : List Word) → number_first ws ≡ None → ws ≡ version_words → ⊥
no_version ws none e = nothing_got (number_first ws) (got 1 []) none (version_reads ws e)

pub other_version : (ws left : List Word) (n : ℕ) → number_first ws ≡ Some (got n left) → (n ≡ 1 → ⊥) → ws ≡ version_words → ⊥
other_version ws left n there other e = other (ap (λ (z : Got ℕ). z.value) (same_got (number_first ws) (got n left) (got 1 []) there (version_reads ws e)))

pub this_version : (ws left : List Word) (n : ℕ) (b : Bool) → number_first ws ≡ Some (got n left) → n ≡ 1 → (IsTrue b ↔ (left ≡ [])) → IsTrue b ↔ (ws ≡ version_words)
this_version ws left n b there same h = (
  (λ t. (number_read ws (got n left) there).0 ∙ (ap (λ (z : ℕ). number_word z ∷ left) same ∙ ap (λ (z : List Word). number_word 1 ∷ z) (h.0 t))),
  (λ e. h.1 (ap (λ (z : Got ℕ). z.left) (same_got (number_first ws) (got n left) (got 1 []) there (version_reads ws e)))),
)

-- its name
header_reads : (ws : List Word) → ws ≡ header_words → name_first ws ≡ Some (got (codes "derivation") version_words)
header_reads ws e = ap name_first e

pub no_header : (ws : List Word) → name_first ws ≡ None → ws ≡ header_words → ⊥
no_header ws none e = nothing_got (name_first ws) (got (codes "derivation") version_words) none (header_reads ws e)

pub other_header : (ws left : List Word) (name : List ℕ) → name_first ws ≡ Some (got name left) → bytes_eq name (codes "derivation") ≡ false → ws ≡ header_words → ⊥
other_header ws left name there other e =
    let g = same_got (name_first ws) (got name left) (got (codes "derivation") version_words) there (header_reads ws e) in
    true≢false (sym ((bytes_eq-Decides name (codes "derivation")).1 (ap (λ (z : Got (List ℕ)). z.value) g)) ∙ other)

pub this_header : (ws left : List Word) (name : List ℕ) (b : Bool) → name_first ws ≡ Some (got name left) → bytes_eq name (codes "derivation") ≡ true → (IsTrue b ↔ (left ≡ version_words)) → IsTrue b ↔ (ws ≡ header_words)
this_header ws left name b there same h = (
  (λ t. name_read ws (got name left) there ∙ (ap (λ (z : List ℕ). name_word z ∷ left) (same_text name (codes "derivation") same) ∙ ap (λ (z : List Word). name_word (codes "derivation") ∷ z) (h.0 t))),
  (λ e. h.1 (ap (λ (z : Got (List ℕ)). z.left) (same_got (name_first ws) (got name left) (got (codes "derivation") version_words) there (header_reads ws e)))),
)

module _ (x : StartTree) where
  -- where words lead, by what is known
  abbrev LeadsBy : DerivationState → List Word → DerivationState → Type 0
  LeadsBy s [] t = s ≡ t
  LeadsBy None (w ∷ ws) t = (w ∷ ws ≡ header_words) × (t ≡ Some [])
  LeadsBy (Some ls) (w ∷ ws) t = (l : Step × RowTree) × WritesLine x (length ls + 1) l (w ∷ ws) × (t ≡ Some (ls ++ l ∷ []))

  no_line_words : (n : ℕ) (l : Step × RowTree) → WritesLine x n l [] → ⊥
  no_line_words n l w = let e = w.is in absurd (cc)

  leads_by : (s : DerivationState) (words : List Word) (t : DerivationState) → DerivationWordsLead x s words t → LeadsBy s words t
  leads_by _ _ _ (blank s) = refl
  leads_by _ _ _ header = (refl, refl)
  leads_by _ _ _ (one_row ls l [] h) = absurd (no_line_words (length ls + 1) l h)
  leads_by _ _ _ (one_row ls l (w ∷ ws) h) = (l, h, refl)

  by_once : (s : DerivationState) (words : List Word) (t u : DerivationState) → All IsTokenWord words → LeadsBy s words t → LeadsBy s words u → t ≡ u
  by_once s [] t u each h k = sym h ∙ k
  by_once None (w ∷ ws) t u each h k = h.1 ∙ sym k.1
  by_once (Some ls) (w ∷ ws) t u each h k = h.2 ∙ (ap (λ (z : Step × RowTree). Some (ls ++ z ∷ [])) (line_once x (length ls + 1) (w ∷ ws) h.0 k.0 each h.1 k.1) ∙ sym k.2)

  -- a line leads to one state at most
  pub derivation_lines_once : LeadsOnce (DerivationLine x)
  derivation_lines_once s t u line h k =
      let same : h.0 ≡ k.0 = one_spelling line h.0 k.0 h.1 k.1 in
      by_once s k.0 t u (spelled_tokens line k.0 k.1) (leads_by s k.0 t (subst (λ (z : List Word). DerivationWordsLead x s z t) same h.2)) (leads_by s k.0 u k.2)

  -- a line whose words are these
  line_taken : (s t : DerivationState) (line : List ℕ) (words : List Word) (b : Bool) → OneSpelling line → Spelled line words → TakesDerivationWords x s words t b → TakesDerivationLine x s line t b
  line_taken s t line words true one is h = (words, is, h)
  line_taken s t line words false one is h = λ u k. h u (subst (λ (z : List Word). DerivationWordsLead x s z u) (one k.0 words k.1 is) k.2)

  pub derivation_taken_of : (s t : DerivationState) (line : List ℕ) (words : List Word) (r : Result Bool NoMemory) → OneSpelling line → Spelled line words → IfOk r (TakesDerivationWords x s words t) → IfOk r (TakesDerivationLine x s line t)
  derivation_taken_of s t line words r one is h = IfOk-weaker r _ _ (λ b k. line_taken s t line words b one is k) h

  pub blank_words : (s : DerivationState) (words : List Word) → words ≡ [] → DerivationWordsLead x s words s
  blank_words s words e = subst (λ (z : List Word). DerivationWordsLead x s z s) (sym e) (blank s)

  -- the first line
  pub header_taken : (d e : Option Lines) (words : List Word) → d ≡ None → e ≡ Some [] → words ≡ header_words → DerivationWordsLead x (seen d) words (seen e)
  header_taken d e words none there is =
      subst (λ (z : Option Lines). DerivationWordsLead x (seen z) words (seen e)) (sym none)
      (subst (λ (z : Option Lines). DerivationWordsLead x None words (seen z)) (sym there) (subst (λ (z : List Word). DerivationWordsLead x None z (Some [])) (sym is) header))

  header_out : (words : List Word) → (words ≡ [] → ⊥) → (words ≡ header_words → ⊥) → (u : DerivationState) → DerivationWordsLead x None words u → ⊥
  header_out [] some other u h = some refl
  header_out (w ∷ ws) some other u h = other (leads_by None (w ∷ ws) u h).0

  pub header_missing : (d : Option Lines) (words : List Word) → d ≡ None → (words ≡ [] → ⊥) → (words ≡ header_words → ⊥) → (u : DerivationState) → DerivationWordsLead x (seen d) words u → ⊥
  header_missing d words none some other = subst (λ (z : Option Lines). (u : DerivationState) → DerivationWordsLead x (seen z) words u → ⊥) (sym none) (header_out words some other)

  -- a row
  module _ (old : Lines) where
    counted : length (bare_lines old) ≡ length old
    counted = length-map old bare_line

    pub row_taken : (new : Lines) (l : Step × RowTree) (words : List Word) (n : ℕ) → n ≡ length old + 1 → WritesLine x n (bare_line l) words → new ≡ old ++ l ∷ [] → DerivationWordsLead x (Some (bare_lines old)) words (Some (bare_lines new))
    row_taken new l words n number h is =
        subst (λ (z : Lines). DerivationWordsLead x (Some (bare_lines old)) words (Some z)) (sym (ap bare_lines is ∙ map-append bare_line old (l ∷ [])))
        (one_row (bare_lines old) (bare_line l) words (subst (λ (k : ℕ). WritesLine x k (bare_line l) words) (number ∙ ap (λ (k : ℕ). k + 1) (sym counted)) h))

    row_out : (words : List Word) → (words ≡ [] → ⊥) → ((l : Step × RowTree) → WritesLine x (length (bare_lines old) + 1) l words → ⊥) → (u : DerivationState) → DerivationWordsLead x (Some (bare_lines old)) words u → ⊥
    row_out [] some none u h = some refl
    row_out (w ∷ ws) some none u h = let p = leads_by (Some (bare_lines old)) (w ∷ ws) u h in none p.0 p.1

    pub row_missing : (words : List Word) (n : ℕ) → n ≡ length old + 1 → (words ≡ [] → ⊥) → ((l : Step × RowTree) → WritesLine x n l words → ⊥) → (u : DerivationState) → DerivationWordsLead x (Some (bare_lines old)) words u → ⊥
    row_missing words n number some none = row_out words some (subst (λ (k : ℕ). (l : Step × RowTree) → WritesLine x k l words → ⊥) (number ∙ ap (λ (k : ℕ). k + 1) (sym counted)) none)

  -- at the end of the lines
  module _ (bytes : List ℕ) (lines : List (List ℕ)) (rest : List ℕ) (cut : IsCut bytes lines rest) (d : Option Lines) (n : ℕ) (number : n ≡ length lines + 1) (led : Lead (DerivationLine x) None lines (seen d)) where
    abbrev IsShort : Type 0
    IsShort = IsFirstBad (Extends (DerivationLine x) None) (Ends (DerivationLine x) None IsBegun) bytes n

    pub end_without : d ≡ None → IsShort
    end_without is = early_at (DerivationLine x) derivation_lines_once None IsBegun bytes lines rest cut n (seen d) number led (λ none whole. subst (λ (z : Option Lines). IsBegun (seen z)) is whole)

    pub end_open : (rest ≡ [] → ⊥) → IsShort
    end_open unended = early_at (DerivationLine x) derivation_lines_once None IsBegun bytes lines rest cut n (seen d) number led (λ none whole. unended none)

    pub end_complete : (ls : Lines) → d ≡ Some ls → rest ≡ [] → IsDerivationText x bytes (bare_lines ls)
    end_complete ls is none =
        whole_text (DerivationLine x) derivation_lines_once None IsBegun bytes lines rest cut (Some (bare_lines ls)) (subst (λ (z : Option Lines). Lead (DerivationLine x) None lines (seen z)) is led) none tt
