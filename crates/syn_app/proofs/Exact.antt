-- What a reader answers is the one thing that it can: a file has one first bad line at most, a text has none, and no text
-- stands for two theories, specifications or derivations.
use Rattle.std.proofs.Common.{◌≡◌, ◌++◌, codes, ℕ, zero, suc, ◌+◌, ◌<◌, ◌≤◌, List, [], ◌∷◌, length, map, refl, sym, ◌∙◌, ap, subst, arith, ⊎_elim}
use Rattle.std.proofs.lemmas.Bool.{cases_lt}
use Rattle.std.proofs.lemmas.List.{append_cancel_left}
use Rattle.syn_term.specs.Names.{IsName}
use Rattle.syn_app.specs.Trees.{SpecTree, TheoryTree}
use Rattle.syn_app.specs.declared.flat.Entry.{Entry}
use Rattle.syn_app.specs.declared.flat.FlatRow.{FlatRow}
use Rattle.syn_app.specs.declared.flat.FlatTerm.{FlatTerm}
use Rattle.syn_app.specs.DerivationText.{AreRows, ExtendsDerivation, IsDerivationText, WholeDerivation, entry_of, first_line, row_line, row_lines}
use Rattle.syn_lex.specs.TextLines.{ExtendsAt, IsFirstBad, IsText}
use Rattle.syn_app.specs.inner.Readers.{IsFlatDerivation, IsFlatSpec, row_text}
use Rattle.syn_app.specs.SpecText.{ExtendsSpec, IsSpecText, ProgramNames, WholeSpec, ensures_line, program_line, spec_line, spec_of}
use Rattle.syn_app.specs.Terms.{term_text}
use Rattle.syn_app.specs.TheoryText.{ExtendsTheory, IsTheoryText, WholeTheory, theory_line}
use Rattle.syn_lex.proofs.OneCut.{cut_once}
use Rattle.syn_app.proofs.RowTexts.{after_number_is, line_is, length_lines, row_once, row_parts, whole_extends}
use Rattle.syn_app.proofs.SpecTexts.{program_once, three_lines}
use Rattle.syn_app.proofs.TermTexts.{term_once}

module _ (Extends : List (List ℕ) → List ℕ → Type 0) (Whole : List (List ℕ) → Type 0) (bytes : List ℕ) where
  not_before : (m n : ℕ) (a : IsFirstBad Extends Whole bytes m) (b : IsFirstBad Extends Whole bytes n) → a.at < b.at → ⊥
  not_before m n a b lt =
      let c = cut_once bytes a.lines b.lines a.rest b.rest a.cut b.cut in
      let l : length a.lines ≡ length b.lines = ap (λ (x : List (List ℕ)). length x) c.0 in
      let w : b.at ≤ length b.lines = b.within in
      a.bad (omega arith) (subst (λ (x : List (List ℕ)). ExtendsAt Extends x a.at) (sym c.0) (b.before a.at lt))

  -- a file has one first bad line at most
  pub first_bad_once : (m n : ℕ) → IsFirstBad Extends Whole bytes m → IsFirstBad Extends Whole bytes n → m ≡ n
  first_bad_once m n a b =
      let e : m ≡ a.at + 1 = a.is in
      let f : n ≡ b.at + 1 = b.is in
      ⊎_elim (λ (h : a.at < b.at). absurd (not_before m n a b h))
      (λ (h : b.at ≤ a.at). ⊎_elim (λ (k : b.at < a.at). absurd (not_before n m b a k)) (λ (k : a.at ≤ b.at). let s : m ≡ n = omega arith in s) (cases_lt b.at a.at))
      (cases_lt a.at b.at)

  -- a text has no bad line
  pub text_or_bad : (n : ℕ) → IsText Extends Whole bytes → IsFirstBad Extends Whole bytes n → ⊥
  text_or_bad n t b =
      let c = cut_once bytes t.lines b.lines [] b.rest t.cut b.cut in
      let l : length t.lines ≡ length b.lines = ap (λ (x : List (List ℕ)). length x) c.0 in
      let w : b.at ≤ length b.lines = b.within in
      ⊎_elim (λ (h : b.at < length b.lines). b.bad h (subst (λ (x : List (List ℕ)). ExtendsAt Extends x b.at) c.0 (t.begins b.at (omega arith))))
      (λ (h : length b.lines ≤ b.at). b.early (omega arith) (sym c.1) (subst Whole c.0 t.whole)) (cases_lt b.at (length b.lines))

one_line : (name : List ℕ) → IsName name → (i : ℕ) → i < 1 → ExtendsAt ExtendsTheory (theory_line name ∷ []) i
one_line name named zero lt = (name, named, refl)
one_line name named (suc i) lt = absurd (omega arith)

pub theory_is_text : (bytes : List ℕ) (t : TheoryTree) → IsTheoryText bytes t → IsText ExtendsTheory WholeTheory bytes
theory_is_text bytes t h = record { lines = theory_line t.name ∷ []; cut = h.cut; begins = one_line t.name h.name; whole = refl }

pub spec_is_text : (bytes name : List ℕ) (n : ProgramNames) (t : FlatTerm) → IsFlatSpec bytes name n t → IsText ExtendsSpec WholeSpec bytes
spec_is_text bytes name n t h = record {
  lines = spec_line name ∷ program_line n ∷ ensures_line n t ∷ [];
  cut = h.cut;
  begins = three_lines bytes [] name h.is_name n h.are_names t h.condition (spec_line name) (program_line n) (ensures_line n t) [] refl refl refl;
  whole = refl;
}

lines_extend : (input : List ℕ) (rows : List FlatRow) → AreRows rows → (i : ℕ) → i < length (first_line ∷ row_lines input 1 rows) → ExtendsAt (ExtendsDerivation input) (first_line ∷ row_lines input 1 rows) i
lines_extend input rows are i lt = let l = length_lines input 1 rows in whole_extends input rows are i (omega arith)

pub derivation_is_text : (input bytes : List ℕ) (rows : List FlatRow) → IsFlatDerivation input bytes rows → IsText (ExtendsDerivation input) WholeDerivation bytes
derivation_is_text input bytes rows h = record {
  lines = first_line ∷ row_lines input 1 rows;
  cut = h.cut;
  begins = lines_extend input rows h.are_rows;
  whole = omega arith;
}

-- no text stands for two theories
pub theory_once : (bytes : List ℕ) (a b : TheoryTree) → IsTheoryText bytes a → IsTheoryText bytes b → a ≡ b
theory_once bytes a b ha hb =
    let c = cut_once bytes (theory_line a.name ∷ []) (theory_line b.name ∷ []) [] [] ha.cut hb.cut in
    let l : theory_line a.name ∷ [] ≡ theory_line b.name ∷ [] = c.0 in
    let e : theory_line a.name ≡ theory_line b.name = cc in
    ap (λ (n : List ℕ). record { name = n }) (append_cancel_left (theory_line []) a.name b.name e)

same_spec : (x y : List ℕ) (n m : ProgramNames) (t u : FlatTerm) → x ≡ y → n ≡ m → t ≡ u → spec_of x n t ≡ spec_of y m u
same_spec x y n m t u a b c = ap (λ (z : List ℕ). spec_of z n t) a ∙ (ap (λ (z : ProgramNames). spec_of y z t) b ∙ ap (λ (z : FlatTerm). spec_of y m z) c)

condition_same : (n : ProgramNames) (t u : FlatTerm) → ensures_line n t ≡ ensures_line n u → term_text n.input t ≡ term_text n.input u
condition_same n t u e =
    append_cancel_left (codes " = ") (term_text n.input t) (term_text n.input u)
    (append_cancel_left n.output (codes " = " ++ term_text n.input t) (codes " = " ++ term_text n.input u)
    (append_cancel_left (codes "ensures ") (n.output ++ (codes " = " ++ term_text n.input t)) (n.output ++ (codes " = " ++ term_text n.input u)) e))

pub spec_once : (bytes x y : List ℕ) (n m : ProgramNames) (t u : FlatTerm) → IsFlatSpec bytes x n t → IsFlatSpec bytes y m u → (x ≡ y) × (n ≡ m) × (t ≡ u)
spec_once bytes x y n m t u h k =
    let c = cut_once bytes (spec_line x ∷ program_line n ∷ ensures_line n t ∷ []) (spec_line y ∷ program_line m ∷ ensures_line m u ∷ []) [] [] h.cut k.cut in
    let l : spec_line x ∷ program_line n ∷ ensures_line n t ∷ [] ≡ spec_line y ∷ program_line m ∷ ensures_line m u ∷ [] = c.0 in
    let e0 : spec_line x ≡ spec_line y = cc in
    let e1 : program_line n ≡ program_line m = cc in
    let e2 : ensures_line n t ≡ ensures_line m u = cc in
    let p : n ≡ m = program_once (program_line n) n m h.are_names k.are_names refl e1 in
    let w : ensures_line n t ≡ ensures_line n u = e2 ∙ ap (λ (z : ProgramNames). ensures_line z u) (sym p) in (
      append_cancel_left (spec_line []) x y e0,
      p,
      term_once n.input t u h.are_names.input h.condition.base k.condition.base (condition_same n t u w),
    )

pub spec_text_flat : (bytes : List ℕ) (s : SpecTree) (h : IsSpecText bytes s) → IsFlatSpec bytes h.name h.names h.term
spec_text_flat bytes s h = record { cut = h.cut; is_name = h.is_name; are_names = h.are_names; condition = h.condition }

-- no text stands for two specifications
pub spec_text_once : (bytes : List ℕ) (a b : SpecTree) → IsSpecText bytes a → IsSpecText bytes b → a ≡ b
spec_text_once bytes a b h k =
    let e = spec_once bytes h.name k.name h.names k.names h.term k.term (spec_text_flat bytes a h) (spec_text_flat bytes b k) in
    h.is ∙ (same_spec h.name k.name h.names k.names h.term k.term e.0 e.1 e.2 ∙ sym k.is)

rows_same : (input : List ℕ) (n : ℕ) (rs qs : List FlatRow) → IsName input → AreRows rs → AreRows qs → row_lines input n rs ≡ row_lines input n qs → rs ≡ qs
rows_same input n [] [] named hr hq e = refl
rows_same input n [] (q ∷ qs) named hr hq e = absurd (cc)
rows_same input n (r ∷ rs) [] named hr hq e = absurd (cc)
rows_same input n (r ∷ rs) (q ∷ qs) named hr hq e =
    let line : row_line input n r ≡ row_line input n q = cc in
    let more : row_lines input (n + 1) rs ≡ row_lines input (n + 1) qs = cc in
    let h : r ≡ q = row_once input r q named (row_parts r hr.0) (row_parts q hq.0) (after_number_is (row_line input n r) input (row_text input r) n q (line_is input n r) line) in
    let k : rs ≡ qs = rows_same input (n + 1) rs qs named hr.1 hq.1 more in cc

-- no text stands for two lists of rows
pub derivation_once : (input bytes : List ℕ) (rs qs : List FlatRow) → IsName input → IsFlatDerivation input bytes rs → IsFlatDerivation input bytes qs → rs ≡ qs
derivation_once input bytes rs qs named h k =
    let c = cut_once bytes (first_line ∷ row_lines input 1 rs) (first_line ∷ row_lines input 1 qs) [] [] h.cut k.cut in
    let l : first_line ∷ row_lines input 1 rs ≡ first_line ∷ row_lines input 1 qs = c.0 in
    rows_same input 1 rs qs named h.are_rows k.are_rows (append_cancel_left (first_line ∷ []) (row_lines input 1 rs) (row_lines input 1 qs) l)

pub derivation_text_flat : (input bytes : List ℕ) (d : List Entry) (h : IsDerivationText input bytes d) → IsFlatDerivation input bytes h.rows
derivation_text_flat input bytes d h = record { cut = h.cut; are_rows = h.are_rows }

-- nor for two derivations
pub derivation_text_once : (input bytes : List ℕ) (a b : List Entry) → IsName input → IsDerivationText input bytes a → IsDerivationText input bytes b → a ≡ b
derivation_text_once input bytes a b named h k =
    h.is ∙ (ap (λ (rows : List FlatRow). map entry_of rows) (derivation_once input bytes h.rows k.rows named (derivation_text_flat input bytes a h) (derivation_text_flat input bytes b k)) ∙ sym k.is)
