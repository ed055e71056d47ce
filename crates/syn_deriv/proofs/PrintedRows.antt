-- A row is printed as words that write it, its places left out; and so is its line.
use Rattle.std.proofs.Common.{◌≡◌, ℕ, ◌+◌, ◌≤◌, max, List, [], ◌∷◌, ◌++◌, Option, None, Some, IfSome, All, Contains, codes, decimal, map, refl, sym, ◌∙◌, ap, subst, arith, inr, true, append_assoc}
use Rattle.std.specs.Option.{option_map, option_map_or}
use Rattle.std.proofs.lemmas.List.Elements.{Contains-append_left, Contains-append_right}
use Rattle.syn_term.specs.declared.sorts.Var.{Var}
use Rattle.syn_term.specs.DeclaredSorts.{IsTable}
use Rattle.syn_term.specs.Symbols.{SymbolTable}
use Rattle.syn_term.specs.Tokens.{Spelled, Word}
use Rattle.syn_form.specs.declared.trees.Side.{Side}
use Rattle.syn_form.specs.declared.trees.Side.TheVariants as side
use Rattle.syn_form.specs.Grammar.{name_word, sign_word, spelling, words_of_form, words_of_out}
use Rattle.syn_form.specs.Plain.{HasOneSortEach, IsFormed, IsFormedOut, given_sort}
use Rattle.syn_form.specs.Printing.{printed_form, printed_out}
use Rattle.syn_form.specs.Texts.{IsFormOf, IsOutOf, expression_limit}
use Rattle.syn_form.specs.Trees.{FormTree, OutTree, bare_form, bare_out, form_depth, form_nodes, form_vars, out_depth, out_nodes, out_vars}
use Rattle.syn_form.specs.Writing.{CanWriteTable}
use Rattle.syn_form.proofs.BareFacts.{formed_bare, formed_out_bare}
use Rattle.syn_form.proofs.BareVars.{form_vars_bare, given_bare, out_vars_bare}
use Rattle.syn_form.proofs.Lists.{none_in_nil}
use Rattle.syn_form.proofs.Owned.{All-left, All-right}
use Rattle.syn_row.specs.Rows.{RowTree, bare_row, row_depth, row_nodes, row_vars}
use Rattle.syn_row.proofs.RowChanges.{row_vars-bare}
use Rattle.syn_expr.specs.Readable.{CanReadForm, CanReadOut}
use Rattle.syn_expr.proofs.BareCounts.{form_depth_bare, form_nodes_bare, out_depth_bare, out_nodes_bare}
use Rattle.syn_expr.proofs.Puts.{Stops, end_stops, space_stops, spelled_alone}
use Rattle.syn_expr.proofs.ReadsBack.{form_back, form_puts, out_back, out_puts}
use Rattle.syn_expr.proofs.Told.{CanReadVars, IsOver, var_told}
use Rattle.syn_expr.proofs.ToldForms.{form_told, out_told}
use Rattle.syn_expr.proofs.TreeReadings.{form_written, out_written}
use Rattle.syn_start.specs.declared.steps.Step.{Step}
use Rattle.syn_start.specs.Starts.{StartTree}
use Rattle.syn_deriv.specs.DerivationLines.{IsFew, IsTextRow, WritesLine, WritesOutput, WritesRow, bare_line, number_word, row_scope, side_name, step_words}
use Rattle.syn_deriv.specs.PrintedDerivation.{IsPrintable, IsRowVar, output_text, printed_line, printed_row, step_text}
use Rattle.syn_deriv.proofs.PrintedSpelling.{colon_ends, nothing_spelled, number_says, space_ends, space_spelled, word_spelled}
use Rattle.syn_deriv.proofs.PrintedSteps.{keyword, step_says}

-- the row without places may be written where the row may
out_formed : (table : SymbolTable) (o : Option OutTree) → IfSome o (IsFormedOut table) → IfSome (option_map bare_out o) (IsFormedOut table)
out_formed table None h = tt
out_formed table (Some o) h = (formed_out_bare table o).1 h

out_sort : (table : SymbolTable) (x : StartTree) (o : Option OutTree) → IfSome o (λ z. given_sort x.spec.table z ≡ Some x.spec.head.result) → IfSome (option_map bare_out o) (λ z. given_sort x.spec.table z ≡ Some x.spec.head.result)
out_sort table x None h = tt
out_sort table x (Some o) h = given_bare x.spec.table o ∙ h

nodes_same : (o : Option OutTree) → option_map_or out_nodes (option_map bare_out o) 0 ≡ option_map_or out_nodes o 0
nodes_same None = refl
nodes_same (Some o) = out_nodes_bare o

depth_same : (o : Option OutTree) → option_map_or out_depth (option_map bare_out o) 0 ≡ option_map_or out_depth o 0
depth_same None = refl
depth_same (Some o) = out_depth_bare o

bare_nodes : (r : RowTree) → row_nodes (bare_row r) ≡ row_nodes r
bare_nodes r = ap (λ (n : ℕ). n + option_map_or out_nodes (option_map bare_out r.out) 0) (form_nodes_bare r.form) ∙ ap (λ (n : ℕ). form_nodes r.form + n) (nodes_same r.out)

bare_depth : (r : RowTree) → row_depth (bare_row r) ≡ row_depth r
bare_depth r = ap (λ (n : ℕ). max n (option_map_or out_depth (option_map bare_out r.out) 0)) (form_depth_bare r.form) ∙ ap (λ (n : ℕ). max (form_depth r.form) n) (depth_same r.out)

pub text_row_bare : (x : StartTree) (r : RowTree) → IsTextRow x r → IsTextRow x (bare_row r)
text_row_bare x r h = record {
  plain = record {
    form = (formed_bare x.spec.table r.form).1 h.plain.form;
    out = out_formed x.spec.table r.out h.plain.out;
    sorts = subst HasOneSortEach (sym (row_vars-bare r)) h.plain.sorts;
  };
  within = record {
    few = subst (λ (n : ℕ). n ≤ 4096) (sym (bare_nodes r)) h.within.few;
    shallow = subst (λ (n : ℕ). n ≤ 1200) (sym (bare_depth r)) h.within.shallow;
  };
  output = out_sort x.spec.table x r.out h.output;
}

-- what is printed behind a formula: words that write the output, its places left out
pub record BackTold (table : SymbolTable) (o : Option OutTree) : Type 0 where
  pub words : List Word
  pub stops : Stops (output_text table o)
  pub spelled : Spelled (output_text table o) words
  pub writes : WritesOutput table (option_map bare_out o) words

-- the words of a formula, and what they stand for
pub record FrontTold (table : SymbolTable) (f : FormTree) : Type 0 where
  pub words : List Word
  pub spelled : (rest : List ℕ) (ws : List Word) → Stops rest → Spelled rest ws → Spelled (printed_form (row_scope table) f ++ rest) (words ++ ws)
  pub stands : IsFormOf expression_limit (row_scope table) words (bare_form f)

-- the line is words that write the row
pub record RowTold (x : StartTree) (r : RowTree) : Type 0 where
  pub words : List Word
  pub spelled : Spelled (printed_row x.spec.table r) words
  pub writes : WritesRow x (bare_row r) words

module _ (table : SymbolTable) (good : IsTable table) (written : CanWriteTable true table) where
  over : IsOver (row_scope table)
  over = record { table = good; written = written; free = λ n c t. none_in_nil n c }

  can_vars : (vars : List Var) → All IsRowVar vars → CanReadVars (row_scope table) over vars
  can_vars vars numbers v c s = var_told (row_scope table) over vars (record { nameless = refl; numbers = numbers }) v c s

  front_told : (f : FormTree) → IsFormed table f → HasOneSortEach (form_vars f) → All IsRowVar (form_vars f) → form_nodes f ≤ 4096 → form_depth f ≤ 1200 → FrontTold table f
  front_told f formed sorts numbers few shallow =
      let scope = row_scope table in
      let can : CanReadForm scope f = form_told scope over f formed (can_vars (form_vars f) numbers) in
      record {
        words = map spelling (words_of_form (form_written scope f).whole);
        spelled = form_puts scope f formed can;
        stands = record {
          reading = (form_written scope f).whole;
          written = refl;
          tree = form_back scope f formed can;
          sorts = subst HasOneSortEach (sym (form_vars_bare f)) sorts;
          few = subst (λ n. n ≤ 4096) (sym (form_nodes_bare f)) few;
          shallow = subst (λ n. n ≤ 1200) (sym (form_depth_bare f)) shallow;
        };
      }

  out_stands : (o : OutTree) → IsFormedOut table o → HasOneSortEach (out_vars o) → CanReadOut (row_scope table) o → out_nodes o ≤ 4096 → out_depth o ≤ 1200 → IsOutOf expression_limit (row_scope table) (map spelling (words_of_out (out_written (row_scope table) o))) (bare_out o)
  out_stands o formed sorts can few shallow = record {
    reading = out_written (row_scope table) o;
    written = refl;
    tree = out_back (row_scope table) o formed can;
    sorts = subst HasOneSortEach (sym (out_vars_bare o)) sorts;
    few = subst (λ n. n ≤ 4096) (sym (out_nodes_bare o)) few;
    shallow = subst (λ n. n ≤ 1200) (sym (out_depth_bare o)) shallow;
  }

  -- a bar, and what is spelled behind it
  barred : (text : List ℕ) (words : List Word) → Spelled text words → Spelled (codes " | " ++ text) (sign_word (codes "|") ∷ words)
  barred text words s =
      space_spelled (124 ∷ 32 ∷ text) (sign_word (codes "|") ∷ words) (word_spelled (sign_word (codes "|")) (32 ∷ text) words (5, omega arith, refl) refl (space_spelled text words s))

  back_told : (o : Option OutTree) → IfSome o (IsFormedOut table) → HasOneSortEach (option_map_or out_vars o []) → All IsRowVar (option_map_or out_vars o []) → option_map_or out_nodes o 0 ≤ 4096 → option_map_or out_depth o 0 ≤ 1200 → BackTold table o
  back_told None formed sorts numbers few shallow = record { words = []; stops = end_stops; spelled = nothing_spelled; writes = refl }
  back_told (Some o) formed sorts numbers few shallow =
      let scope = row_scope table in
      let can : CanReadOut scope o = out_told scope over o formed (can_vars (out_vars o) numbers) in
      let lexemes = words_of_out (out_written scope o) in
      record {
        words = sign_word (codes "|") ∷ map spelling lexemes;
        stops = space_stops;
        spelled = barred (printed_out scope o) (map spelling lexemes) (spelled_alone (printed_out scope o) lexemes (out_puts scope o formed can));
        writes = (map spelling lexemes, out_stands o formed sorts can few shallow, refl);
      }

-- the variables of a part have no two sorts where those of both parts have none
part_sorts : (vars more all : List Var) → ((v : Var) → Contains vars v → Contains all v) → HasOneSortEach all → HasOneSortEach vars
part_sorts vars more all among h v w c d e = h v w (among v c) (among w d) e

side_says : (s : Side) (rest : List ℕ) (words : List Word) → Spelled rest words → Spelled (side_name s ++ 32 ∷ rest) (name_word (side_name s) ∷ words)
side_says side.Goal rest words s = word_spelled (name_word (codes "goal")) (32 ∷ rest) words (inr (12, omega arith, refl)) (space_ends rest).name (space_spelled rest words s)
side_says side.Assertion rest words s = word_spelled (name_word (codes "assertion")) (32 ∷ rest) words (keyword refl) (space_ends rest).name (space_spelled rest words s)

row_text : (a f o : List ℕ) → a ++ codes " " ++ f ++ o ≡ a ++ (32 ∷ (f ++ o))
row_text a f o = append_assoc (a ++ codes " ") f o ∙ append_assoc a (codes " ") (f ++ o)

module _ (x : StartTree) (good : IsTable x.spec.table) (written : CanWriteTable true x.spec.table) where
  -- a row
  pub row_told : (r : RowTree) → IsTextRow x r → All IsRowVar (row_vars r) → RowTold x r
  row_told r may numbers =
      let table = x.spec.table in
      let behind = option_map_or out_vars r.out [] in
      let few : row_nodes r ≤ 4096 = may.within.few in
      let shallow : row_depth r ≤ 1200 = may.within.shallow in
      let front = front_told table good written r.form may.plain.form
      (part_sorts (form_vars r.form) behind (row_vars r) (λ v c. Contains-append_left (form_vars r.form) behind v c) may.plain.sorts)
      (All-left IsRowVar (form_vars r.form) behind numbers) (omega (arith, few)) (omega (arith, shallow)) in
      let back = back_told table good written r.out may.plain.out
      (part_sorts behind (form_vars r.form) (row_vars r) (λ v c. Contains-append_right (form_vars r.form) behind v c) may.plain.sorts)
      (All-right IsRowVar (form_vars r.form) behind numbers) (omega (arith, few)) (omega (arith, shallow)) in
      let both : Spelled (printed_form (row_scope table) r.form ++ output_text table r.out) (front.words ++ back.words) = front.spelled (output_text table r.out) back.words back.stops back.spelled in
      let words = name_word (side_name r.side) ∷ (front.words ++ back.words) in
      record {
        words = words;
        spelled =
            subst (λ (z : List ℕ). Spelled z words) (sym (row_text (side_name r.side) (printed_form (row_scope table) r.form) (output_text table r.out)))
            (side_says r.side (printed_form (row_scope table) r.form ++ output_text table r.out) (front.words ++ back.words) both);
        writes = record {
          front = front.words;
          back = back.words;
          form = front.stands;
          output = back.writes;
          may = text_row_bare x r may;
          is = refl;
        };
      }

  -- its line
  pub record LineTold (n : ℕ) (line : Step × RowTree) : Type 0 where
    pub words : List Word
    pub spelled : Spelled (printed_line x.spec.table n line) words
    pub writes : WritesLine x n (bare_line line) words

  line_text : (a s r : List ℕ) → a ++ codes " " ++ s ++ codes ": " ++ r ≡ a ++ (32 ∷ (s ++ (58 ∷ 32 ∷ r)))
  line_text a s r = simp append_assoc refl

  pub line_told : (n : ℕ) (line : Step × RowTree) → IsFew n → IsPrintable x line → LineTold n line
  line_told n line few may =
      let row = row_told line.1 may.row may.vars in
      let text = printed_row x.spec.table line.1 in
      let colon : Spelled (58 ∷ 32 ∷ text) (sign_word (codes ":") ∷ row.words) = word_spelled (sign_word (codes ":")) (32 ∷ text) row.words (3, omega arith, refl) refl (space_spelled text row.words row.spelled) in
      let stepped : Spelled (step_text line.0 ++ (58 ∷ 32 ∷ text)) (step_words line.0 ++ sign_word (codes ":") ∷ row.words) = step_says line.0 may.step (58 ∷ 32 ∷ text) (sign_word (codes ":") ∷ row.words) (colon_ends (32 ∷ text)) colon in
      let behind = step_text line.0 ++ (58 ∷ 32 ∷ text) in
      let words = number_word n ∷ (step_words line.0 ++ sign_word (codes ":") ∷ row.words) in
      let whole : Spelled (decimal n ++ (32 ∷ behind)) words = number_says n few (32 ∷ behind) (step_words line.0 ++ sign_word (codes ":") ∷ row.words) (space_ends behind) (space_spelled behind (step_words line.0 ++ sign_word (codes ":") ∷ row.words) stepped) in
      record {
        words = words;
        spelled = subst (λ (z : List ℕ). Spelled z words) (sym (line_text (decimal n) (step_text line.0) text)) whole;
        writes = record { row = row.words; few = few; step = may.step; writes = row.writes; is = refl };
      }
