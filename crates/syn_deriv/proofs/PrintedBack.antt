-- What is printed for a derivation reads back to it, the places of its terms left out.
use Rattle.std.proofs.Common.{◌≡◌, ℕ, ◌+◌, ◌<◌, ◌≤◌, ◌^◌, true, List, [], ◌∷◌, ◌++◌, None, Some, All, codes, length, refl, sym, ap, subst, arith, append_assoc, append-nil}
use Rattle.std.specs.List.{flat_map}
use Rattle.std.proofs.lemmas.Fmt.{decimal_digit}
use Rattle.std.proofs.lemmas.List.{length-append, length-map, map-append}
use Rattle.std.proofs.lemmas.List.Elements.{All-cons, All-head, All-nil, All-tail}
use Rattle.syn_term.specs.DeclaredSorts.{IsTable}
use Rattle.syn_term.specs.Tokens.{Spelled}
use Rattle.syn_form.specs.Grammar.{name_word}
use Rattle.syn_form.specs.Writing.{CanWriteTable}
use Rattle.syn_lex.specs.Stepping.{Lead}
use Rattle.syn_lex.specs.TextLines.{Without, with_feed}
use Rattle.syn_row.specs.Rows.{RowTree}
use Rattle.syn_start.specs.declared.steps.Step.{Step}
use Rattle.syn_start.specs.Derivations.{Lines}
use Rattle.syn_start.specs.Starts.{StartTree}
use Rattle.syn_deriv.specs.DerivationLines.{DerivationLine, DerivationWordsLead, IsDerivationText, IsFew, WritesLine, bare_line, bare_lines, header, number_word, one_row}
use Rattle.syn_deriv.specs.PrintedDerivation.{ArePrintable, IsPrintable, printed_derivation, printed_line, printed_lines}
use Rattle.syn_deriv.proofs.PrintedRows.{LineTold, line_told}
use Rattle.syn_deriv.proofs.PrintedSpelling.{Says, line_clean, name_says, number_says, says_alone, spaced_says}
use Rattle.syn_deriv.proofs.PrintedSteps.{keyword}

-- the first line
one_says : Says (codes "1") (number_word 1 ∷ [])
one_says = subst (λ (z : List ℕ). Says z (number_word 1 ∷ [])) (decimal_digit 1 (omega arith)) (number_says 1 (omega arith))

title_spelled : Spelled (codes "derivation 1") (name_word (codes "derivation") ∷ number_word 1 ∷ [])
title_spelled =
    says_alone (codes "derivation 1") (name_word (codes "derivation") ∷ number_word 1 ∷ [])
    (spaced_says (codes "derivation") (codes "1") (name_word (codes "derivation") ∷ []) (number_word 1 ∷ []) (name_says (codes "derivation") (keyword refl)) one_says)

module _ (x : StartTree) (good : IsTable x.spec.table) (written : CanWriteTable true x.spec.table) where
  title_led : DerivationLine x None (codes "derivation 1") (Some [])
  title_led = (name_word (codes "derivation") ∷ number_word 1 ∷ [], title_spelled, header)

  -- a row's line leads on from the rows before it
  line_led : (before : Lines) (line : Step × RowTree) → IsFew (length before + 1) → IsPrintable x line → DerivationLine x (Some (bare_lines before)) (printed_line x.spec.table (length before + 1) line) (Some (bare_lines (before ++ line ∷ [])))
  line_led before line few may =
      let told : LineTold x good written (length before + 1) line = line_told x good written (length before + 1) line few may in
      let count : length before + 1 ≡ length (bare_lines before) + 1 = ap (λ (n : ℕ). n + 1) (sym (length-map before bare_line)) in
      let lead = one_row (bare_lines before) (bare_line line) told.words (subst (λ (n : ℕ). WritesLine x n (bare_line line) told.words) count told.writes) in
      (told.words, told.spelled, subst (λ (z : Lines). DerivationWordsLead x (Some (bare_lines before)) told.words (Some z)) (sym (map-append bare_line before (line ∷ []))) lead)

  -- so do all lines
  lines_led : (before ls : Lines) → IsFew (length before + length ls) → All (IsPrintable x) ls → Lead (DerivationLine x) (Some (bare_lines before)) (printed_lines x.spec.table (length before + 1) ls) (Some (bare_lines (before ++ ls)))
  lines_led before [] few each = ap (λ (z : Lines). Some (bare_lines z)) (sym (append-nil before))
  lines_led before (l ∷ ls) few each =
      let more : Lines = before ++ l ∷ [] in
      let count : length more ≡ length before + 1 = length-append before (l ∷ []) in
      let here : DerivationLine x (Some (bare_lines before)) (printed_line x.spec.table (length before + 1) l) (Some (bare_lines more)) = line_led before l (omega (arith, few)) (All-head (IsPrintable x) l ls each) in
      let rest = lines_led more ls (omega (arith, few, count)) (All-tail (IsPrintable x) l ls each) in
      let same : before ++ (l ∷ ls) ≡ more ++ ls = sym (append_assoc before (l ∷ []) ls) in (
        Some (bare_lines more),
        here,
        subst (λ (z : Lines). Lead (DerivationLine x) (Some (bare_lines more)) (printed_lines x.spec.table ((length before + 1) + 1) ls) (Some (bare_lines z))) (sym same)
            (subst (λ (n : ℕ). Lead (DerivationLine x) (Some (bare_lines more)) (printed_lines x.spec.table (n + 1) ls) (Some (bare_lines (more ++ ls)))) count rest),
      )

  -- and none has a line feed
  lines_clean : (n : ℕ) (ls : Lines) → n + length ls ≤ 10 ^ 7 → All (IsPrintable x) ls → All (Without 10) (printed_lines x.spec.table n ls)
  lines_clean n [] few each = All-nil (Without 10)
  lines_clean n (l ∷ ls) few each =
      let told : LineTold x good written n l = line_told x good written n l (omega (arith, few)) (All-head (IsPrintable x) l ls each) in
      All-cons (Without 10) (printed_line x.spec.table n l) (printed_lines x.spec.table (n + 1) ls) (line_clean (printed_line x.spec.table n l) told.words told.spelled) (lines_clean (n + 1) ls (omega (arith, few)) (All-tail (IsPrintable x) l ls each))

  pub derivation_back : (ls : Lines) → ArePrintable x ls → IsDerivationText x (printed_derivation x ls) (bare_lines ls)
  derivation_back ls h =
      let lines = codes "derivation 1" ∷ printed_lines x.spec.table 1 ls in
      let few : length ls < 10 ^ 7 = h.few in
      record {
        lines = lines;
        cut = record {
          is = append-nil (flat_map with_feed lines);
          clean = All-cons (Without 10) (codes "derivation 1") (printed_lines x.spec.table 1 ls) (line_clean (codes "derivation 1") (name_word (codes "derivation") ∷ number_word 1 ∷ []) title_spelled) (lines_clean 1 ls (omega (arith, few)) h.each);
          open_clean = All-nil (λ (c : ℕ). c ≡ 10 → ⊥);
        };
        led = (Some [], title_led, lines_led [] ls (omega (arith, few)) h.each);
        whole = tt;
      }
