-- The line of a row, by its front and the row behind the colon; and that words are one line at most.
use Rattle.std.proofs.Common.{◌≡◌, ℕ, List, [], ◌∷◌, ◌++◌, All, MatchOption, Option, None, Some, codes, refl, sym, ◌∙◌, ap, subst, arith}
use Rattle.std.proofs.lemmas.List.Elements.{All-tail}
use Rattle.std.proofs.lemmas.Option.{same_Some}
use Rattle.syn_term.specs.Tokens.{Word}
use Rattle.syn_form.specs.declared.trees.Side.{Side}
use Rattle.syn_form.specs.Grammar.{name_word, sign_word}
use Rattle.syn_form.specs.Texts.{expression_limit}
use Rattle.syn_form.specs.Trees.{FormTree, OutTree}
use Rattle.syn_form.proofs.Owned.{All-left, All-right}
use Rattle.syn_lex.specs.Lexing.{IsTokenWord}
use Rattle.syn_parse.proofs.Parses.{one_form_syntax, one_out_syntax}
use Rattle.syn_expr.specs.TextAnswers.{OneAtMost}
use Rattle.syn_expr.proofs.Readers.{form_reader, out_reader}
use Rattle.syn_expr.proofs.Stands.{one_stands}
use Rattle.syn_row.specs.Rows.{RowTree, bare_row}
use Rattle.syn_start.specs.declared.steps.Step.{Step}
use Rattle.syn_start.specs.Starts.{StartTree}
use Rattle.syn_deriv.specs.DerivationLines.{HasText, WritesLine, WritesOutput, WritesRow, bare_line, number_word, row_scope, side_name, step_words}
use Rattle.syn_deriv.specs.inner.Firsts.{Got, got}
use Rattle.syn_deriv.specs.inner.StepReading.{front_first, side_first}
use Rattle.syn_deriv.specs.inner.Telling.{Tells, WritesBehind}
use Rattle.syn_deriv.proofs.BareRows.{row}
use Rattle.syn_deriv.proofs.Bars.{bar, cut_once, form_other, output_back}
use Rattle.syn_deriv.proofs.RowsTold.{Forms, Outs}
use Rattle.syn_deriv.proofs.StepRead.{front_read, side_read}
use Rattle.syn_deriv.proofs.StepReads.{front_reads, side_reads}

-- what is read at one place is one
same_got : {A : Type 0} (o : Option (Got A)) (g h : Got A) → o ≡ Some g → o ≡ Some h → g ≡ h
same_got o g h e f = same_Some g h (sym e ∙ f)

nothing_got : {A : Type 0} (o : Option A) (g : A) → o ≡ None → o ≡ Some g → ⊥
nothing_got o g e f = let k : None ≡ Some g = sym e ∙ f in absurd (cc)

abbrev pub line : Step → RowTree → Step × RowTree
line s r = (s, r)

module _ (x : StartTree) where
  -- the kind of a row
  row_side : (words : List Word) (r : RowTree) (w : WritesRow x r words) → side_first words ≡ Some (got r.side (w.front ++ w.back))
  row_side words r w = ap side_first w.is ∙ side_reads r.side (w.front ++ w.back)

  pub row_sideless : (words : List Word) → side_first words ≡ None → (r : RowTree) → WritesRow x r words → ⊥
  row_sideless words none r w = nothing_got (side_first words) (got r.side (w.front ++ w.back)) none (row_side words r w)

  pub row_told : (s : Side) (left words : List Word) → side_first words ≡ Some (got s left) → (a : Option RowTree) → Tells bare_row (WritesBehind x s left) a → Tells bare_row (λ r. WritesRow x r words) a
  row_told s left words e None h = λ r w.
      let g : got r.side (w.front ++ w.back) ≡ got s left = same_got (side_first words) (got r.side (w.front ++ w.back)) (got s left) (row_side words r w) e in
      h r (record { front = w.front; back = w.back; form = w.form; rest = record { side = ap (λ (z : Got Side). z.value) g; form = refl; output = w.output; may = w.may }; is = sym (ap (λ (z : Got Side). z.left) g) })
  row_told s left words e (Some r) h = record {
    front = h.front;
    back = h.back;
    form = h.form;
    output = h.rest.output;
    may = h.rest.may;
    is = side_read words (got s left) e ∙ (ap (λ (z : Side). name_word (side_name z) ∷ left) (sym h.rest.side) ∙ ap (λ (z : List Word). name_word (side_name r.side) ∷ z) h.is);
  }

  -- the front of a line
  line_front : (n : ℕ) (words : List Word) (l : Step × RowTree) (w : WritesLine x n l words) → front_first n words ≡ Some (got l.0 w.row)
  line_front n words l w = ap (front_first n) w.is ∙ front_reads n l.0 w.row w.few w.step

  pub line_frontless : (n : ℕ) (words : List Word) → front_first n words ≡ None → (l : Step × RowTree) → WritesLine x n l words → ⊥
  line_frontless n words none l w = nothing_got (front_first n words) (got l.0 w.row) none (line_front n words l w)

  pub line_told : (n : ℕ) (s : Step) (left words : List Word) → All IsTokenWord words → front_first n words ≡ Some (got s left) → (a : Option (Step × RowTree)) → MatchOption a ((r : RowTree) → WritesRow x r left → ⊥) (λ l. (l.0 ≡ s) × WritesRow x (bare_row l.1) left) → Tells bare_line (λ l. WritesLine x n l words) a
  line_told n s left words each e None h = λ l w.
      let g : got l.0 w.row ≡ got s left = same_got (front_first n words) (got l.0 w.row) (got s left) (line_front n words l w) e in
      h l.1 (subst (WritesRow x l.1) (ap (λ (z : Got Step). z.left) g) w.writes)
  line_told n s left words each e (Some l) h =
      let p = front_read n words (got s left) each e in
      record {
        row = left;
        few = p.0;
        step = subst HasText (sym h.0) p.1;
        writes = h.1;
        is = p.2 ∙ ap (λ (z : Step). number_word n ∷ (step_words z ++ sign_word (codes ":") ∷ left)) (sym h.0);
      }

  -- words are one expression at most
  one_form : (words : List Word) → All IsTokenWord words → OneAtMost (Forms x words)
  one_form words each = one_stands (form_reader expression_limit (omega arith) (row_scope x.spec.table) words (one_form_syntax words each))

  one_out : (words : List Word) → All IsTokenWord words → OneAtMost (Outs x words)
  one_out words each = one_stands (out_reader expression_limit (omega arith) (row_scope x.spec.table) words (one_out_syntax words each))

  out_once : (o p : Option OutTree) (back : List Word) → All IsTokenWord back → WritesOutput x.spec.table o back → WritesOutput x.spec.table p back → o ≡ p
  out_once None None back each h k = refl
  out_once None (Some p) back each h k = let e : [] ≡ bar ∷ k.0 = sym h ∙ k.2 in absurd (cc)
  out_once (Some o) None back each h k = let e : [] ≡ bar ∷ h.0 = sym k ∙ h.2 in absurd (cc)
  out_once (Some o) (Some p) back each h k =
      let e : bar ∷ h.0 ≡ bar ∷ k.0 = sym h.2 ∙ k.2 in
      let same : h.0 ≡ k.0 = cc in
      ap Some (one_out k.0 (All-tail IsTokenWord bar k.0 (subst (All IsTokenWord) k.2 each)) o p (subst (λ (z : List Word). Outs x z o) same h.1) k.1)

  -- one row
  row_once : (words : List Word) (r s : RowTree) → All IsTokenWord words → WritesRow x r words → WritesRow x s words → r ≡ s
  row_once words r s each h k =
      let g : got r.side (h.front ++ h.back) ≡ got s.side (k.front ++ k.back) = same_got (side_first words) (got r.side (h.front ++ h.back)) (got s.side (k.front ++ k.back)) (row_side words r h) (row_side words s k) in
      let p = cut_once h.front k.front h.back k.back (form_other expression_limit (row_scope x.spec.table) h.front r.form h.form) (form_other expression_limit (row_scope x.spec.table) k.front s.form k.form) (output_back x.spec.table r.out h.back h.output) (output_back x.spec.table s.out k.back k.output) (ap (λ (z : Got Side). z.left) g) in
      let rest = All-tail IsTokenWord (name_word (side_name s.side)) (k.front ++ k.back) (subst (All IsTokenWord) k.is each) in
      let form = one_form k.front (All-left IsTokenWord k.front k.back rest) r.form s.form (subst (λ (z : List Word). Forms x z r.form) p.0 h.form) k.form in
      let out = out_once r.out s.out k.back (All-right IsTokenWord k.front k.back rest) (subst (WritesOutput x.spec.table r.out) p.1 h.output) k.output in
      ap (λ (z : Got Side). row z.value r.form r.out) g ∙ (ap (λ (z : FormTree). row s.side z r.out) form ∙ ap (row s.side s.form) out)

  -- and one line
  pub line_once : (n : ℕ) (words : List Word) (l m : Step × RowTree) → All IsTokenWord words → WritesLine x n l words → WritesLine x n m words → l ≡ m
  line_once n words l m each h k =
      let g : got l.0 h.row ≡ got m.0 k.row = same_got (front_first n words) (got l.0 h.row) (got m.0 k.row) (line_front n words l h) (line_front n words m k) in
      let behind = All-tail IsTokenWord (number_word n) (step_words m.0 ++ sign_word (codes ":") ∷ k.row) (subst (All IsTokenWord) k.is each) in
      let rest = All-tail IsTokenWord (sign_word (codes ":")) k.row (All-right IsTokenWord (step_words m.0) (sign_word (codes ":") ∷ k.row) behind) in
      let same = row_once k.row l.1 m.1 rest (subst (WritesRow x l.1) (ap (λ (z : Got Step). z.left) g) h.writes) k.writes in
      ap (λ (z : Got Step). line z.value l.1) g ∙ ap (line m.0) same
