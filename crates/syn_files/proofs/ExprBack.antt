-- Printed expressions of a file read back, put before what follows: terms, outputs and formulas whose variables are told by their
-- names, and closed formulas.
use Rattle.std.proofs.Common.{◌≡◌, ℕ, ◌+◌, ◌<◌, ◌≤◌, List, [], All, Contains, Some, length, map, refl, sym, subst}
use Rattle.std.proofs.lemmas.List.Elements.{All-contains, All-nil}
use Rattle.syn_term.specs.declared.sorts.Var.{Var}
use Rattle.syn_term.specs.DeclaredSorts.{IsTable}
use Rattle.syn_term.specs.Names.{IsName}
use Rattle.syn_term.specs.Symbols.{IsTaken, SymbolTable}
use Rattle.syn_term.specs.Terms.{TermTree, bare, depth_of, nodes}
use Rattle.syn_term.specs.Tokens.{Word}
use Rattle.syn_form.specs.declared.syntax.Lexeme.{Lexeme}
use Rattle.syn_form.specs.Elaboration.{elaborate_term}
use Rattle.syn_form.specs.Grammar.{spelling, words_of_form, words_of_out, words_of_term}
use Rattle.syn_form.specs.Plain.{HasOneSortEach, IsPlainForm, IsPlainOut, IsSorted}
use Rattle.syn_form.specs.PlainQuantified.{IsPlainQForm, binders_of}
use Rattle.syn_form.specs.Printing.{printed_form, printed_out, printed_qform, printed_term}
use Rattle.syn_form.specs.Quantified.{bare_qform, free_vars, qform_depth, qform_nodes}
use Rattle.syn_form.specs.Scopes.{Named, TextScope}
use Rattle.syn_form.specs.Texts.{IsFormOf, IsOutOf, IsQFormOf, IsTermOf, Limit, expression_limit}
use Rattle.syn_form.specs.Trees.{FormTree, OutTree, QFormTree, bare_form, bare_out, form_depth, form_nodes, form_vars, out_depth, out_nodes, out_vars, term_vars}
use Rattle.syn_form.proofs.BareVars.{form_vars_bare, out_vars_bare, qform_vars_bare, term_vars_bare}
use Rattle.syn_form.proofs.Lists.{none_in_nil}
use Rattle.syn_expr.specs.Readable.{CanReadForm, CanReadOut, CanReadQForm, CanReadTerm}
use Rattle.syn_form.specs.Writing.{CanWriteAll}
use Rattle.syn_expr.specs.Told.{TellsApart}
use Rattle.syn_expr.proofs.BackForms.{qform_back}
use Rattle.syn_expr.proofs.BackTerms.{term_back}
use Rattle.syn_expr.proofs.BareCounts.{depth_bare, form_depth_bare, form_nodes_bare, nodes_bare, out_depth_bare, out_nodes_bare, qform_depth_bare, qform_nodes_bare}
use Rattle.syn_expr.proofs.FormPuts.{qform_puts}
use Rattle.syn_expr.proofs.Puts.{Puts, PutsWords}
use Rattle.syn_expr.proofs.ReadsBack.{form_back, form_puts, out_back, out_puts}
use Rattle.syn_expr.proofs.TermPuts.{term_goes}
use Rattle.syn_expr.proofs.Told.{CanReadVars, IsOver, term_told, var_told}
use Rattle.syn_expr.proofs.ToldForms.{Sound, form_told, out_told, qform_told}
use Rattle.syn_expr.proofs.TreeReadings.{form_written, out_written, qform_written, term_written}
use Rattle.syn_files.specs.TheoryLines.{file_scope}

-- a text is these words, which stand for the tree
pub record Stands {T : Type 0} (Is : List Word → T → Type 0) (text : List ℕ) (tree : T) : Type 0 where
  pub lexemes : List Lexeme
  pub puts : PutsWords text lexemes
  pub stands : Is (map spelling lexemes) tree

module _ (table : SymbolTable) (names : List Named) (good : IsTable table) (written : CanWriteAll (file_scope table names)) (apart : TellsApart table names) where
  abbrev scope : TextScope
  scope = file_scope table names

  pub names_over : IsOver scope
  names_over = record { table = good; written = written; free = λ n c t. (All-contains (λ (z : Named). IsName z.text × (IsTaken table z.text → ⊥)) names n apart.free c).1 t }

  abbrev pub AreNamed : List Var → Type 0
  AreNamed vars = All (Contains (map (λ (n : Named). n.var) names)) vars

  can_vars : (vars : List Var) → AreNamed vars → CanReadVars scope names_over vars
  can_vars vars among v c s = var_told scope names_over vars (record { names = apart; named = among }) v c s

  pub term_can : (t : TermTree) → IsSorted table t → AreNamed (term_vars t) → CanReadTerm scope t
  term_can t sorted among = term_told scope names_over t sorted (can_vars (term_vars t) among)

  pub term_puts_back : (t : TermTree) → IsSorted table t → AreNamed (term_vars t) → Puts (printed_term scope t) (words_of_term (term_written scope t))
  term_puts_back t sorted among = (term_goes scope t sorted (term_can t sorted among)).puts

  pub term_is : (t : TermTree) → IsSorted table t → AreNamed (term_vars t) → elaborate_term scope (term_written scope t) ≡ Some (bare t)
  term_is t sorted among = term_back scope t sorted (term_can t sorted among)

  pub term_stands : (t : TermTree) → IsSorted table t → HasOneSortEach (term_vars t) → AreNamed (term_vars t) → nodes t ≤ expression_limit.nodes → depth_of t ≤ expression_limit.depth → Stands (IsTermOf expression_limit scope) (printed_term scope t) (bare t)
  term_stands t sorted one among few shallow = record {
    lexemes = words_of_term (term_written scope t);
    puts = (term_puts_back t sorted among).words;
    stands = record {
      syntax = term_written scope t;
      written = refl;
      tree = term_is t sorted among;
      sorts = subst HasOneSortEach (sym (term_vars_bare t)) one;
      few = subst (λ n. n ≤ expression_limit.nodes) (sym (nodes_bare t)) few;
      shallow = subst (λ n. n ≤ expression_limit.depth) (sym (depth_bare t)) shallow;
    };
  }

  pub form_stands : (f : FormTree) → IsPlainForm table f → AreNamed (form_vars f) → form_nodes f ≤ expression_limit.nodes → form_depth f ≤ expression_limit.depth → Stands (IsFormOf expression_limit scope) (printed_form scope f) (bare_form f)
  form_stands f plain among few shallow =
      let can : CanReadForm scope f = form_told scope names_over f plain.formed (can_vars (form_vars f) among) in
      record {
        lexemes = words_of_form (form_written scope f).whole;
        puts = form_puts scope f plain.formed can;
        stands = record {
          reading = (form_written scope f).whole;
          written = refl;
          tree = form_back scope f plain.formed can;
          sorts = subst HasOneSortEach (sym (form_vars_bare f)) plain.sorts;
          few = subst (λ n. n ≤ expression_limit.nodes) (sym (form_nodes_bare f)) few;
          shallow = subst (λ n. n ≤ expression_limit.depth) (sym (form_depth_bare f)) shallow;
        };
      }

  -- an output within a limit
  pub out_stands : (limit : Limit) (o : OutTree) → IsPlainOut table o → AreNamed (out_vars o) → out_nodes o ≤ limit.nodes → out_depth o ≤ limit.depth → Stands (IsOutOf limit scope) (printed_out scope o) (bare_out o)
  out_stands limit o plain among few shallow =
      let can : CanReadOut scope o = out_told scope names_over o plain.formed (can_vars (out_vars o) among) in
      record {
        lexemes = words_of_out (out_written scope o);
        puts = out_puts scope o plain.formed can;
        stands = record {
          reading = out_written scope o;
          written = refl;
          tree = out_back scope o plain.formed can;
          sorts = subst HasOneSortEach (sym (out_vars_bare o)) plain.sorts;
          few = subst (λ n. n ≤ limit.nodes) (sym (out_nodes_bare o)) few;
          shallow = subst (λ n. n ≤ limit.depth) (sym (out_depth_bare o)) shallow;
        };
      }

-- without names
pub none_apart : (table : SymbolTable) → TellsApart table []
none_apart table = record {
  free = All-nil (λ (z : Named). IsName z.text × (IsTaken table z.text → ⊥));
  texts = λ m n c d e. absurd (none_in_nil m c);
  numbers = λ m n c d e. absurd (none_in_nil m c);
}

module _ (table : SymbolTable) (good : IsTable table) (written : CanWriteAll (file_scope table [])) where
  pub nameless_over : IsOver (file_scope table [])
  nameless_over = names_over table [] good written (none_apart table)

  closed_sound : (f : QFormTree) → IsPlainQForm table f → free_vars f ≡ [] → Sound (file_scope table []) 1 (binders_of f) (free_vars f)
  closed_sound f plain closed = record {
    over = nameless_over;
    file = refl;
    apart = none_apart table;
    below = All-nil (λ (z : Named). z.var.number < 1);
    binders = plain.binders;
    others = λ b c m d. absurd (none_in_nil m d);
    from = plain.numbered;
    named = λ v c. absurd (none_in_nil v (subst (λ (z : List Var). Contains z v) closed c));
  }

  -- a closed formula
  pub qform_stands : (f : QFormTree) → IsPlainQForm table f → free_vars f ≡ [] → qform_nodes f ≤ expression_limit.nodes → qform_depth f ≤ expression_limit.depth → Stands (IsQFormOf expression_limit (file_scope table [])) (printed_qform (file_scope table []) f) (bare_qform f)
  qform_stands f plain closed few shallow =
      let can : CanReadQForm (file_scope table []) f = qform_told f (file_scope table []) 1 plain.formed plain.once (closed_sound f plain closed) in
      record {
        lexemes = words_of_form (qform_written f (file_scope table [])).whole;
        puts = (qform_puts f (file_scope table []) plain.formed can).0;
        stands = record {
          reading = (qform_written f (file_scope table [])).whole;
          next = 1 + length (binders_of f);
          written = refl;
          tree = qform_back f (file_scope table []) 1 plain.formed can plain.numbered;
          sorts = subst HasOneSortEach (sym (qform_vars_bare f)) plain.sorts;
          few = subst (λ n. n ≤ expression_limit.nodes) (sym (qform_nodes_bare f)) few;
          shallow = subst (λ n. n ≤ expression_limit.depth) (sym (qform_depth_bare f)) shallow;
        };
      }
