-- The line of a row has one reading at most, and which line of a derivation is the first bad one.
use Rattle.std.proofs.Common.{◌≡◌, Option, None, Some, MatchOption, Bor, ℕ, zero, suc, ◌+◌, ◌<◌, ◌≤◌, ◌^◌, ◌++◌, inl, List, [], ◌∷◌, length, get_or, take, map, codes, decimal, refl, sym, ◌∙◌, ap, subst, arith}
use Rattle.std.proofs.lemmas.List.{append_cancel_left, take_more, take-take, get_or-take, take_all, length-take-le, length_push}
use Rattle.std.proofs.lemmas.List.Elements.{All-cons, All-nil}
use Rattle.std.proofs.lemmas.Fmt.{decimal_injective}
use Rattle.syn_term.specs.Names.{IsName}
use Rattle.syn_term.specs.Terms.{nodes}
use Rattle.syn_lex.specs.declared.lines.FileError.{FileError}
use Rattle.syn_lex.specs.declared.lines.FileError.TheVariants as error
use Rattle.syn_app.specs.declared.flat.FlatForm.{FlatForm}
use Rattle.syn_app.specs.declared.flat.FlatForm.TheVariants as flat
use Rattle.syn_app.specs.declared.flat.FlatRow.{FlatRow}
use Rattle.syn_app.specs.declared.flat.Step.{Step}
use Rattle.syn_app.specs.declared.flat.Step.TheVariants as step
use Rattle.syn_app.specs.declared.flat.FlatTerm.{FlatTerm}
use Rattle.syn_app.specs.DerivationText.{AreRows, ExtendsDerivation, WholeDerivation, IsDerivationText, IsForm, IsRow, IsStep, entry_of, first_line, form_tree, row_line, row_lines}
use Rattle.syn_app.specs.Limits.{FitsForm}
use Rattle.syn_lex.specs.TextLines.{ExtendsAt, IsCut, IsFirstBad, Without}
use Rattle.syn_app.specs.inner.Readers.{HasParts, HasTerms, IsFlatDerivation, IsFirstBadLine, IsTerm, Refuses, RefusesLines, row_text, with_form, with_step}
use Rattle.syn_app.specs.Terms.{term_text, term_tree}
use Rattle.syn_app.proofs.Parts.{part_once}
use Rattle.syn_lex.proofs.OneCut.{cut_same}
use Rattle.syn_app.proofs.Closed.{nodes-term_tree}
use Rattle.syn_app.proofs.TermTexts.{decimal_without, term_once, term_no_space}

-- a term before a space is the whole part before it
module _ (text others input : List ℕ) (named : IsName input) where
  pub no_term_before : ((part rest : List ℕ) → Without 32 part → text ≡ part ++ 32 ∷ (others ++ rest) → ⊥) → (r : FlatTerm) (rest : List ℕ) → IsTerm r → text ≡ term_text input r ++ 32 ∷ (others ++ rest) → ⊥
  no_term_before none r rest ok e = none (term_text input r) rest (term_no_space input r named ok.0) e

  pub no_term_word : (part rest : List ℕ) → Without 32 part → text ≡ part ++ 32 ∷ (others ++ rest) → ((r : FlatTerm) → IsTerm r → part ≡ term_text input r → ⊥) → (r : FlatTerm) (s : List ℕ) → IsTerm r → text ≡ term_text input r ++ 32 ∷ (others ++ s) → ⊥
  no_term_word part rest clean is none r s ok e =
      none r ok (part_once text others part (term_text input r) rest s 32 clean (term_no_space input r named ok.0) is e).0

  pub term_before_once : (r q : FlatTerm) (s t : List ℕ) → IsTerm r → IsTerm q → text ≡ term_text input r ++ 32 ∷ (others ++ s) → text ≡ term_text input q ++ 32 ∷ (others ++ t) → (r ≡ q) × (s ≡ t)
  term_before_once r q s t hr hq er eq =
      let p = part_once text others (term_text input r) (term_text input q) s t 32 (term_no_space input r named hr.0) (term_no_space input q named hq.0) er eq in
      (term_once input r q named hr.0 hq.0 p.0, p.1)

low_without : (n : ℕ) → n < 10 ^ 7 → Without 32 (decimal n)
low_without n low = decimal_without n 32 low (inl (omega arith))

module _ (text after : List ℕ) (goal : (rest : List ℕ) → text ≡ codes "goal: goal " ++ rest → ⊥) (cut : text ≡ codes "reflex " ++ after) where
  pub no_step_word : ((part rest : List ℕ) → Without 32 part → after ≡ part ++ 32 ∷ (codes "-: goal " ++ rest) → ⊥) → (s : Step) (rest : List ℕ) → IsStep s → text ≡ with_step s rest → ⊥
  no_step_word none step.Goal rest ok e = goal rest e
  no_step_word none (step.Reflex row) rest ok e =
      none (decimal row) rest (low_without row ok) (append_cancel_left (codes "reflex ") after (decimal row ++ 32 ∷ (codes "-: goal " ++ rest)) (sym cut ∙ e))

  pub no_step_number : (word rest : List ℕ) → Without 32 word → after ≡ word ++ 32 ∷ (codes "-: goal " ++ rest) → ((n : ℕ) → n < 10 ^ 7 → word ≡ decimal n → ⊥) → (s : Step) (r : List ℕ) → IsStep s → text ≡ with_step s r → ⊥
  no_step_number word rest clean is none step.Goal r ok e = goal r e
  no_step_number word rest clean is none (step.Reflex row) r ok e =
      let t : after ≡ decimal row ++ 32 ∷ (codes "-: goal " ++ r) = append_cancel_left (codes "reflex ") after (decimal row ++ 32 ∷ (codes "-: goal " ++ r)) (sym cut ∙ e) in
      none row ok (part_once after (codes "-: goal ") word (decimal row) rest r 32 clean (low_without row ok) is t).0

number_same : (m n : ℕ) → m < 10 ^ 7 → n < 10 ^ 7 → decimal m ≡ decimal n → m ≡ n
number_same m n hm hn e = decimal_injective m n (omega arith) (omega arith) e

head_differs : (x y : ℕ) (r s : List ℕ) → (x ≡ y → ⊥) → x ∷ r ≡ y ∷ s → ⊥
head_differs x y r s other e = let h : x ≡ y = cc in other h

pub step_once : (s t : Step) (r q : List ℕ) → IsStep s → IsStep t → with_step s r ≡ with_step t q → (s ≡ t) × (r ≡ q)
step_once step.Goal step.Goal r q hs ht e = (refl, append_cancel_left (codes "goal: goal ") r q e)
step_once step.Goal (step.Reflex n) r q hs ht e = absurd (head_differs 103 114 _ _ (λ h. absurd (omega arith)) e)
step_once (step.Reflex m) step.Goal r q hs ht e = absurd (head_differs 114 103 _ _ (λ h. absurd (omega arith)) e)
step_once (step.Reflex m) (step.Reflex n) r q hs ht e =
    let t : decimal m ++ 32 ∷ (codes "-: goal " ++ r) ≡ decimal n ++ 32 ∷ (codes "-: goal " ++ q) = append_cancel_left (codes "reflex ") (decimal m ++ 32 ∷ (codes "-: goal " ++ r)) (decimal n ++ 32 ∷ (codes "-: goal " ++ q)) e in
    let p = part_once (decimal m ++ 32 ∷ (codes "-: goal " ++ r)) (codes "-: goal ") (decimal m) (decimal n) r q 32 (low_without m hs) (low_without n ht) refl t in
    (ap (λ (k : ℕ). step.Reflex k) (number_same m n hs ht p.0), p.1)

-- a formula is told by its first word, or by what follows that
module _ (input : List ℕ) (named : IsName input) (text : List ℕ) (no_true : (rest : List ℕ) → text ≡ codes "true | " ++ rest → ⊥) where
  pub no_right : (left : FlatTerm) (after : List ℕ) → IsTerm left → text ≡ term_text input left ++ 32 ∷ (codes "= " ++ after) → ((r : FlatTerm) (rest : List ℕ) → IsTerm r → after ≡ term_text input r ++ 32 ∷ (codes "| " ++ rest) → ⊥) → (f : FlatForm) (rest : List ℕ) → HasTerms f → text ≡ with_form input f rest → ⊥
  no_right left after hl is none flat.True rest ok e = no_true rest e
  no_right left after hl is none (flat.Equal s t) rest ok e =
      none t rest ok.1 (term_before_once text (codes "= ") input named left s after (term_text input t ++ 32 ∷ (codes "| " ++ rest)) hl ok.0 is e).1

true_without : Without 32 (codes "true")
true_without =
    All-cons (λ c. c ≡ 32 → ⊥) 116 (114 ∷ 117 ∷ 101 ∷ []) (λ e. absurd (omega arith))
    (All-cons (λ c. c ≡ 32 → ⊥) 114 (117 ∷ 101 ∷ []) (λ e. absurd (omega arith))
    (All-cons (λ c. c ≡ 32 → ⊥) 117 (101 ∷ []) (λ e. absurd (omega arith))
    (All-cons (λ c. c ≡ 32 → ⊥) 101 [] (λ e. absurd (omega arith)) (All-nil (λ c. c ≡ 32 → ⊥)))))

true_no_equality : (input : List ℕ) (s : FlatTerm) (r q : List ℕ) → IsName input → IsTerm s → codes "true | " ++ r ≡ term_text input s ++ 32 ∷ (codes "= " ++ q) → ⊥
true_no_equality input s r q named ok e =
    head_differs 124 61 (32 ∷ r) (32 ∷ q) (λ h. absurd (omega arith))
    (cut_same (codes "true") (term_text input s) (codes "| " ++ r) (codes "= " ++ q) 32 true_without (term_no_space input s named ok.0) e).1

pub form_once : (input : List ℕ) (f g : FlatForm) (r q : List ℕ) → IsName input → HasTerms f → HasTerms g → with_form input f r ≡ with_form input g q → (f ≡ g) × (r ≡ q)
form_once input flat.True flat.True r q named hf hg e = (refl, append_cancel_left (codes "true | ") r q e)
form_once input flat.True (flat.Equal s t) r q named hf hg e = absurd (true_no_equality input s r (term_text input t ++ 32 ∷ (codes "| " ++ q)) named hg.0 e)
form_once input (flat.Equal s t) flat.True r q named hf hg e = absurd (true_no_equality input s q (term_text input t ++ 32 ∷ (codes "| " ++ r)) named hf.0 (sym e))
form_once input (flat.Equal s t) (flat.Equal u v) r q named hf hg e =
    let a = term_before_once (with_form input (flat.Equal s t) r) (codes "= ") input named s u (term_text input t ++ 32 ∷ (codes "| " ++ r)) (term_text input v ++ 32 ∷ (codes "| " ++ q)) hf.0 hg.0 refl e in
    let b = term_before_once (term_text input t ++ 32 ∷ (codes "| " ++ r)) (codes "| ") input named t v r q hf.1 hg.1 refl a.1 in
    let h : s ≡ u = a.0 in
    let k : t ≡ v = b.0 in (cc, b.1)

-- the parts of a row's line, one after another
module _ (input : List ℕ) (named : IsName input) (text : List ℕ) where
  module _ (s : Step) (after : List ℕ) (hs : IsStep s) (cut : text ≡ with_step s after) where
    after_is : (r : FlatRow) → HasParts r → text ≡ row_text input r → (s ≡ r.step) × (after ≡ with_form input r.form (term_text input r.out))
    after_is r ok e = step_once s r.step after (with_form input r.form (term_text input r.out)) hs ok.step (sym cut ∙ e)

    pub no_row_form : ((f : FlatForm) (rest : List ℕ) → HasTerms f → after ≡ with_form input f rest → ⊥) → (r : FlatRow) → HasParts r → text ≡ row_text input r → ⊥
    no_row_form none r ok e = none r.form (term_text input r.out) ok.form (after_is r ok e).1

    module _ (f : FlatForm) (rest : List ℕ) (hf : HasTerms f) (cut_form : after ≡ with_form input f rest) where
      rest_is : (r : FlatRow) → HasParts r → text ≡ row_text input r → (f ≡ r.form) × (rest ≡ term_text input r.out)
      rest_is r ok e = form_once input f r.form rest (term_text input r.out) named hf ok.form (sym cut_form ∙ (after_is r ok e).1)

      pub no_row_out : ((t : FlatTerm) → IsTerm t → rest ≡ term_text input t → ⊥) → (r : FlatRow) → HasParts r → text ≡ row_text input r → ⊥
      no_row_out none r ok e = none r.out ok.out (rest_is r ok e).1

flat_same : (s t : Step) (f g : FlatForm) (o u : FlatTerm) → s ≡ t → f ≡ g → o ≡ u → ◌≡◌ {A = FlatRow} (record { step = s; form = f; out = o }) (record { step = t; form = g; out = u })
flat_same s t f g o u a b c = cc

pub row_once : (input : List ℕ) (r q : FlatRow) → IsName input → HasParts r → HasParts q → row_text input r ≡ row_text input q → r ≡ q
row_once input r q named hr hq e =
    let a = step_once r.step q.step (with_form input r.form (term_text input r.out)) (with_form input q.form (term_text input q.out)) hr.step hq.step e in
    let b = form_once input r.form q.form (term_text input r.out) (term_text input q.out) named hr.form hq.form a.1 in
    flat_same r.step q.step r.form q.form r.out q.out a.0 b.0 (term_once input r.out q.out named hr.out.0 hq.out.0 b.1)

line_parts : (number input : List ℕ) (s : Step) (f : FlatForm) (o : FlatTerm) (n : ℕ) → number ≡ decimal n → row_line input n (record { step = s; form = f; out = o }) ≡ number ++ 32 ∷ row_text input (record { step = s; form = f; out = o })
line_parts number input step.Goal flat.True o n is = ap (λ (x : List ℕ). x ++ 32 ∷ row_text input (record { step = step.Goal; form = flat.True; out = o })) (sym is)
line_parts number input step.Goal (flat.Equal s t) o n is = ap (λ (x : List ℕ). x ++ 32 ∷ row_text input (record { step = step.Goal; form = flat.Equal s t; out = o })) (sym is)
line_parts number input (step.Reflex k) flat.True o n is = ap (λ (x : List ℕ). x ++ 32 ∷ row_text input (record { step = step.Reflex k; form = flat.True; out = o })) (sym is)
line_parts number input (step.Reflex k) (flat.Equal s t) o n is = ap (λ (x : List ℕ). x ++ 32 ∷ row_text input (record { step = step.Reflex k; form = flat.Equal s t; out = o })) (sym is)

-- the line of a row is its number and then its parts
pub line_is : (input : List ℕ) (n : ℕ) (r : FlatRow) → row_line input n r ≡ decimal n ++ 32 ∷ row_text input r
line_is input n r = line_parts (decimal n) input r.step r.form r.out n refl

-- what follows the number and the space
pub number_rest : (line b : List ℕ) (n : ℕ) (r : Option (Bor (List ℕ))) → line ≡ decimal n ++ b → MatchOption r ((rest : List ℕ) → b ≡ 32 ∷ rest → ⊥) (λ x. b ≡ 32 ∷ x.now) → MatchOption r ((rest : List ℕ) → line ≡ decimal n ++ 32 ∷ rest → ⊥) (λ x. line ≡ decimal n ++ 32 ∷ x.now)
number_rest line b n None is h = λ rest e. h rest (append_cancel_left (decimal n) b (32 ∷ rest) (sym is ∙ e))
number_rest line b n (Some x) is h = is ∙ ap (λ (t : List ℕ). decimal n ++ t) h

pub after_number_is : (line input text : List ℕ) (n : ℕ) (r : FlatRow) → line ≡ decimal n ++ 32 ∷ text → line ≡ row_line input n r → text ≡ row_text input r
after_number_is line input text n r cut e =
    let t : 32 ∷ text ≡ 32 ∷ row_text input r = append_cancel_left (decimal n) (32 ∷ text) (32 ∷ row_text input r) (sym cut ∙ (e ∙ line_is input n r)) in
    append_cancel_left (32 ∷ []) text (row_text input r) t

term_low : (r : FlatTerm) → nodes (term_tree r) ≤ 4096 → r.successors ≤ 4096
term_low r h = let t = nodes-term_tree r in omega arith

form_terms : (f : FlatForm) → IsForm f → FitsForm (form_tree f) → HasTerms f
form_terms flat.True ok fit = tt
form_terms (flat.Equal s t) ok fit =
    let n : 1 + (nodes (term_tree s) + nodes (term_tree t)) ≤ 4096 = fit.0 in
    ((ok.0, term_low s (omega arith)), (ok.1, term_low t (omega arith)))

pub row_parts : (r : FlatRow) → IsRow r → HasParts r
row_parts r h = record { step = h.step; form = form_terms r.form h.form h.fits_form; out = (h.out, term_low r.out h.fits_out.0) }

module _ (line input text : List ℕ) (n : ℕ) (named : IsName input) (cut : line ≡ decimal n ++ 32 ∷ text) where
  pub no_row_parts : ((r : FlatRow) → HasParts r → text ≡ row_text input r → ⊥) → (r : FlatRow) → IsRow r → line ≡ row_line input n r → ⊥
  no_row_parts none r ok e = none r (row_parts r ok) (after_number_is line input text n r cut e)

  pub same_row : (t : FlatRow) → HasParts t → text ≡ row_text input t → (r : FlatRow) → IsRow r → line ≡ row_line input n r → IsRow t
  same_row t ok is r row e =
      subst IsRow (sym (row_once input t r named ok (row_parts r row) (sym is ∙ after_number_is line input text n r cut e))) row

-- one row more
pub lines_more : (input : List ℕ) (n m : ℕ) (rows : List FlatRow) (r : FlatRow) → m ≡ n + length rows → row_lines input n (rows ++ r ∷ []) ≡ row_lines input n rows ++ row_line input m r ∷ []
lines_more input n m [] r is = ap (λ (k : ℕ). row_line input k r ∷ []) (let e : n ≡ m = omega arith in e)
lines_more input n m (q ∷ rows) r is = ap (λ (x : List (List ℕ)). row_line input n q ∷ x) (lines_more input (n + 1) m rows r (omega arith))

pub rows_more : (rows : List FlatRow) (r : FlatRow) → AreRows rows → IsRow r → AreRows (rows ++ r ∷ [])
rows_more [] r are row = (row, tt)
rows_more (q ∷ rows) r are row = (are.0, rows_more rows r are.1 row)

pub length_lines : (input : List ℕ) (n : ℕ) (rows : List FlatRow) → length (row_lines input n rows) ≡ length rows
length_lines input n [] = refl
length_lines input n (r ∷ rows) = ap suc (length_lines input (n + 1) rows)

-- the line at k is that of a row with its number
row_at : (input : List ℕ) (n k : ℕ) (rows : List FlatRow) → AreRows rows → k < length rows → (r : FlatRow) × IsRow r × (get_or (row_lines input n rows) k [] ≡ row_line input (n + k) r)
row_at input n k [] are lt = absurd (omega arith)
row_at input n zero (r ∷ rows) are lt = (r, are.0, ap (λ (j : ℕ). row_line input j r) (let e : n ≡ n + 0 = omega arith in e))
row_at input n (suc k) (r ∷ rows) are lt =
    let p = row_at input (n + 1) k rows are.1 (omega arith) in
    let e : n + 1 + k ≡ n + suc k = omega arith in
    (p.0, p.1, p.2 ∙ ap (λ (j : ℕ). row_line input j p.0) e)

pub whole_extends : (input : List ℕ) (rows : List FlatRow) → AreRows rows → (i : ℕ) → i < length rows + 1 → ExtendsAt (ExtendsDerivation input) (first_line ∷ row_lines input 1 rows) i
whole_extends input rows are zero lt = refl
whole_extends input rows are (suc k) lt =
    let p = row_at input 1 k rows are (omega arith) in
    let n = length_lines input 1 rows in
    let l : length (take k (row_lines input 1 rows)) ≡ k = length-take-le k (row_lines input 1 rows) (omega arith) in
    let e : 1 + k ≡ length (take k (row_lines input 1 rows)) + 1 = omega arith in
    (p.0, p.1, p.2 ∙ ap (λ (j : ℕ). row_line input j p.0) e)

-- lines that are read so far extend one another
pub read_extends : (input : List ℕ) (lines : List (List ℕ)) (rows : List FlatRow) (n : ℕ) → AreRows rows → n ≡ length rows + 1 → take n lines ≡ first_line ∷ row_lines input 1 rows → (i : ℕ) → i < n → ExtendsAt (ExtendsDerivation input) lines i
read_extends input lines rows n are count is i lt =
    let a : take i (first_line ∷ row_lines input 1 rows) ≡ take i lines = ap (λ (x : List (List ℕ)). take i x) (sym is) ∙ take-take i n lines (omega arith) in
    let b : get_or (first_line ∷ row_lines input 1 rows) i [] ≡ get_or lines i [] = ap (λ (x : List (List ℕ)). get_or x i []) (sym is) ∙ get_or-take n lines i [] lt in
    subst (λ (x : List (List ℕ)). ExtendsDerivation input x (get_or lines i [])) a
    (subst (λ (y : List ℕ). ExtendsDerivation input (take i (first_line ∷ row_lines input 1 rows)) y) b (whole_extends input rows are i (omega arith)))

pub read_stops : (input : List ℕ) (lines : List (List ℕ)) (rows : List FlatRow) (n : ℕ) → AreRows rows → n ≡ length rows + 1 → take n lines ≡ first_line ∷ row_lines input 1 rows → n < length lines → ((r : FlatRow) → IsRow r → get_or lines n [] ≡ row_line input n r → ⊥) → IsFirstBadLine (ExtendsDerivation input) lines (n + 1)
read_stops input lines rows n are count is lt none = record {
  at = n;
  is = refl;
  within = lt;
  before = read_extends input lines rows n are count is;
  bad = λ ext.
      let e = subst (λ (x : List (List ℕ)). ExtendsDerivation input x (get_or lines n [])) is ext in
      let l = length_lines input 1 rows in
      let k : length (row_lines input 1 rows) + 1 ≡ n = omega arith in
      none e.0 e.1 (e.2 ∙ ap (λ (j : ℕ). row_line input j e.0) k);
}

-- a line more is read
pub read_more : (input : List ℕ) (lines : List (List ℕ)) (rows : List FlatRow) (r : FlatRow) (n : ℕ) → n ≡ length rows + 1 → n < length lines → take n lines ≡ first_line ∷ row_lines input 1 rows → get_or lines n [] ≡ row_line input n r → take (n + 1) lines ≡ first_line ∷ row_lines input 1 (rows ++ r ∷ [])
read_more input lines rows r n count lt is line =
    take_more lines n [] lt
    ∙ (ap (λ (x : List (List ℕ)). x ++ get_or lines n [] ∷ []) is
    ∙ (ap (λ (y : List ℕ). first_line ∷ (row_lines input 1 rows ++ y ∷ [])) line
    ∙ ap (λ (z : List (List ℕ)). first_line ∷ z) (sym (lines_more input 1 n rows r (let e : n ≡ 1 + length rows = omega arith in e)))))

pub read_more_rows : (input : List ℕ) (lines : List (List ℕ)) (rows more : List FlatRow) (r : FlatRow) (n : ℕ) → AreRows rows → n ≡ length rows + 1 → n < length lines → take n lines ≡ first_line ∷ row_lines input 1 rows → get_or lines n [] ≡ row_line input n r → IsRow r → more ≡ rows ++ r ∷ [] → (take (n + 1) lines ≡ first_line ∷ row_lines input 1 more) × AreRows more × (n + 1 ≡ length more + 1)
read_more_rows input lines rows more r n are count lt is line row e =
    let l : length more ≡ length rows + 1 = ap (λ (x : List FlatRow). length x) e ∙ length_push rows r in (
      read_more input lines rows r n count lt is line ∙ ap (λ (x : List FlatRow). first_line ∷ row_lines input 1 x) (sym e),
      subst AreRows (sym e) (rows_more rows r are row),
      omega arith,
    )

module _ (bytes input rest : List ℕ) where
  pub derivation_stops : (lines : List (List ℕ)) (n : ℕ) → IsCut bytes lines rest → IsFirstBadLine (ExtendsDerivation input) lines n → IsFirstBad (ExtendsDerivation input) WholeDerivation bytes n
  derivation_stops lines n cut h =
      let lt : h.at < length lines = h.within in
      record {
        lines = lines;
        rest = rest;
        cut = cut;
        at = h.at;
        is = h.is;
        within = omega arith;
        before = h.before;
        bad = λ l. h.bad;
        early = λ e r whole. absurd (omega arith);
      }

  pub derivation_refused : (lines : List (List ℕ)) (e : FileError) → IsCut bytes lines rest → RefusesLines (ExtendsDerivation input) lines e → Refuses (ExtendsDerivation input) WholeDerivation bytes e
  derivation_refused lines (error.Bad n) cut h = derivation_stops lines n cut h
  derivation_refused lines error.NoMemory cut h = tt

  pub derivation_open : (lines : List (List ℕ)) (rows : List FlatRow) (n : ℕ) → IsCut bytes lines rest → lines ≡ first_line ∷ row_lines input 1 rows → AreRows rows → (rest ≡ [] → ⊥) → n ≡ length lines + 1 → IsFirstBad (ExtendsDerivation input) WholeDerivation bytes n
  derivation_open lines rows n cut is are open_end count =
      let l = length_lines input 1 rows in
      let m : length lines ≡ suc (length (row_lines input 1 rows)) = ap (λ (x : List (List ℕ)). length x) is in
      record {
        lines = lines;
        rest = rest;
        cut = cut;
        at = length lines;
        is = count;
        within = omega arith;
        before = read_extends input lines rows (length lines) are (omega arith) (take_all (length lines) lines (omega arith) ∙ is);
        bad = λ lt. absurd (omega arith);
        early = λ e r whole. open_end r;
      }

-- what is read is the text of the derivation
pub derivation_text : (input bytes : List ℕ) (rows : List FlatRow) → IsFlatDerivation input bytes rows → IsDerivationText input bytes (map entry_of rows)
derivation_text input bytes rows h = record { rows = rows; cut = h.cut; are_rows = h.are_rows; is = refl }
