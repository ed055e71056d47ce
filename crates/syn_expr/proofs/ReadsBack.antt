-- Trees that a scope can read, printed, are read back: the laws.
use Rattle.std.proofs.Common.{◌≡◌, ℕ, ◌+◌, ◌≤◌, true, List, ◌∷◌, ◌++◌, Option, Some, codes, length, map, refl, sym, ◌∙◌, ap, subst, arith, append_assoc}
use Rattle.std.specs.Option.{option_and_then, option_map}
use Rattle.std.specs.List.{range_with_len}
use mathlib.Core.Logic.{inr}
use Rattle.syn_term.specs.Terms.{TermTree, bare}
use Rattle.syn_form.specs.declared.syntax.Lexeme.{Lexeme}
use Rattle.syn_form.specs.declared.syntax.Mark.TheVariants as mark
use Rattle.syn_form.specs.declared.trees.Binder.{Binder}
use Rattle.syn_form.specs.declared.trees.Out.{every_here-Out}
use Rattle.syn_form.specs.declared.trees.Out.TheVariants as out
use Rattle.syn_form.specs.declared.trees.Out.TheViews as out_view
use Rattle.syn_form.specs.Elaboration.{choice_tree, elaborate_out, elaborate_out_step, elaborate_plain}
use Rattle.syn_form.specs.Grammar.{OutText, choice, fixed, give, spelling, syntax_of_form, syntax_of_out, words_of_form, words_of_out, words_of_term}
use Rattle.syn_form.specs.Plain.{HasOneSortEach, IsFormed, IsFormedOut, IsSorted, PlainOutNode, given_sort}
use Rattle.syn_form.specs.PlainQuantified.{binders_of}
use Rattle.syn_form.specs.Printing.{PrintedForm, print_out_step, printed_form, printed_out, printed_qform, printed_term}
use Rattle.syn_form.specs.Quantified.{as_qform, bare_qform, unquantified}
use Rattle.syn_expr.specs.Readable.{CanReadForm, CanReadOut, CanReadOutNode, CanReadTerm, IsReadableForm, IsReadableOut, IsReadableQForm, IsReadableTerm}
use Rattle.syn_form.specs.Scopes.{TextScope}
use Rattle.syn_form.specs.Sorts.{are_of_one_sort}
use Rattle.syn_form.specs.Texts.{IsFormOf, IsOutOf, IsQFormOf, IsTermOf, IsTextOf, Limit}
use Rattle.syn_form.specs.Trees.{FormTree, OutTree, QFormTree, bare_form, bare_out}
use Rattle.syn_form.proofs.Equations.{bare_out-Give, fold-Give, fold-If, out-Give}
use Rattle.syn_form.proofs.Induction.{by_outs}
use Rattle.syn_form.proofs.Nodes.{node-If, parts-If}
use Rattle.syn_expr.proofs.AsQForm.{as_qform_back, as_qform_binders, as_qform_can, as_qform_formed, as_qform_printing}
use Rattle.syn_expr.proofs.BareCounts.{depth_bare, form_depth_bare, form_nodes_bare, nodes_bare, out_depth_bare, out_nodes_bare, qform_depth_bare, qform_nodes_bare}
use Rattle.syn_expr.proofs.BackForms.{qform_back}
use Rattle.syn_expr.proofs.BackTerms.{term_back}
use Rattle.syn_form.proofs.BareVars.{form_vars_bare, out_vars_bare, qform_vars_bare, term_vars_bare}
use Rattle.syn_expr.proofs.FormSyntaxes as syntaxes
use Rattle.syn_expr.proofs.OutMaking.{choice_made}
use Rattle.syn_expr.proofs.FormPuts.{qform_puts}
use Rattle.syn_expr.proofs.Puts.{PutsWords, else_between, space_stops, spelled_alone, then_between, word_then_space, words_then}
use Rattle.syn_expr.proofs.TermPuts.{term_puts}
use Rattle.syn_expr.proofs.ReadSorts.{given_there, one_sort}
use Rattle.syn_expr.proofs.TreeReadings.{form_written, out_written, out_written_step, qform_written, term_written}

texts_in_turn : (a b c d e f : List ℕ) → a ++ b ++ c ++ d ++ e ++ f ≡ a ++ (b ++ (c ++ (d ++ (e ++ f))))
texts_in_turn a b c d e f = simp append_assoc

-- a choice, from its parts
choice_puts : (f u v : List ℕ) (fs us vs : List Lexeme) → PutsWords f fs → PutsWords u us → PutsWords v vs → PutsWords (codes "if " ++ f ++ codes " then " ++ u ++ codes " else " ++ v) (fixed mark.If ∷ fs ++ fixed mark.Then ∷ us ++ fixed mark.Else ∷ vs)
choice_puts f u v fs us vs p q r =
    let last : PutsWords (codes " else " ++ v) (fixed mark.Else ∷ vs) = else_between.words v vs r in
    let arms : PutsWords (u ++ (codes " else " ++ v)) (us ++ fixed mark.Else ∷ vs) = words_then u (codes " else " ++ v) us (fixed mark.Else ∷ vs) q (λ rest stops. space_stops) last in
    let behind = codes " then " ++ (u ++ (codes " else " ++ v)) in
    let from_then : PutsWords behind (fixed mark.Then ∷ (us ++ fixed mark.Else ∷ vs)) = then_between.words (u ++ (codes " else " ++ v)) (us ++ fixed mark.Else ∷ vs) arms in
    let all : PutsWords (f ++ behind) (fs ++ fixed mark.Then ∷ (us ++ fixed mark.Else ∷ vs)) = words_then f behind fs (fixed mark.Then ∷ (us ++ fixed mark.Else ∷ vs)) p (λ rest stops. space_stops) from_then in
    let whole : PutsWords (codes "if " ++ (f ++ behind)) (fixed mark.If ∷ (fs ++ fixed mark.Then ∷ (us ++ fixed mark.Else ∷ vs))) = (word_then_space (fixed mark.If) (f ++ behind) (fs ++ fixed mark.Then ∷ (us ++ fixed mark.Else ∷ vs)) (inr (7, omega arith, refl)) all).words in
    subst (λ (z : List ℕ). PutsWords z (fixed mark.If ∷ fs ++ fixed mark.Then ∷ us ++ fixed mark.Else ∷ vs)) (sym (texts_in_turn (codes "if ") f (codes " then ") u (codes " else ") v))
    (subst (λ (z : List Lexeme). PutsWords (codes "if " ++ (f ++ behind)) (fixed mark.If ∷ z)) (sym (append_assoc fs (fixed mark.Then ∷ us) (fixed mark.Else ∷ vs))) whole)

-- the reading of a formula without quantifiers stands for it
pub form_back : (scope : TextScope) (f : FormTree) → IsFormed scope.table f → CanReadForm scope f → elaborate_plain scope (syntax_of_form (form_written scope f).whole) ≡ Some (bare_form f)
form_back scope f formed can =
    let numbers = λ (bs : List Binder). map (λ b. b.var.number) bs in
    let e = as_qform_binders f in
    let numbered : map (λ b. b.var.number) (binders_of (as_qform f)) ≡ range_with_len 1 (length (binders_of (as_qform f))) = ap numbers e ∙ sym (ap (λ (bs : List Binder). range_with_len 1 (length bs)) e) in
    ap (option_and_then (λ r. unquantified r.0)) (qform_back (as_qform f) scope 1 (as_qform_formed scope.table f formed) (as_qform_can scope f can) numbered) ∙ as_qform_back f

-- and its text has the words of the reading
pub form_puts : (scope : TextScope) (f : FormTree) → IsFormed scope.table f → CanReadForm scope f → PutsWords (printed_form scope f) (words_of_form (form_written scope f).whole)
form_puts scope f formed can =
    subst (λ (p : PrintedForm). PutsWords p.text (words_of_form (form_written scope f).whole)) (as_qform_printing scope f) (qform_puts (as_qform f) scope (as_qform_formed scope.table f formed) (as_qform_can scope f can)).0

module _ (scope : TextScope) where
  sorted_give : (t : TermTree) → IsFormedOut scope.table (out.Give t) → IsSorted scope.table t
  sorted_give t h = subst (PlainOutNode scope.table) (out-Give t) (every_here-Out (PlainOutNode scope.table) (out.Give t) h)

  can_give : (t : TermTree) → CanReadOut scope (out.Give t) → CanReadTerm scope t
  can_give t h = subst (CanReadOutNode scope) (out-Give t) (every_here-Out (CanReadOutNode scope) (out.Give t) h)

  abbrev OutBack : OutTree → Type 0
  OutBack o = IsFormedOut scope.table o → CanReadOut scope o → elaborate_out scope (syntax_of_out (out_written scope o)) ≡ Some (bare_out o)

  -- a choice, from its parts
  choice_back : (f : FormTree) (u v : OutTree) → IsFormedOut scope.table (out_view.If f u v) → CanReadOut scope (out_view.If f u v) → OutBack u → OutBack v → choice_tree scope.table (elaborate_plain scope (syntax_of_form (form_written scope f).whole)) (elaborate_out scope (syntax_of_out (out_written scope u))) (elaborate_out scope (syntax_of_out (out_written scope v))) ≡ Some (bare_out (out_view.If f u v))
  choice_back f u v formed can first second =
      let test = node-If (PlainOutNode scope.table) f u v formed in
      let arms = parts-If (PlainOutNode scope.table) f u v formed in
      let can_test : CanReadForm scope f = node-If (CanReadOutNode scope) f u v can in
      let can_arms = parts-If (CanReadOutNode scope) f u v can in
      let one : are_of_one_sort (given_sort scope.table u) (given_sort scope.table v) ≡ true = one_sort (given_sort scope.table u) (given_sort scope.table v) (given_there scope.table u arms.0) test.1 in
      ap (λ (z : Option FormTree). choice_tree scope.table z (elaborate_out scope (syntax_of_out (out_written scope u))) (elaborate_out scope (syntax_of_out (out_written scope v)))) (form_back scope f test.0 can_test)
      ∙ (ap (λ (z : Option OutTree). choice_tree scope.table (Some (bare_form f)) z (elaborate_out scope (syntax_of_out (out_written scope v)))) (first arms.0 can_arms.0)
      ∙ (ap (choice_tree scope.table (Some (bare_form f)) (Some (bare_out u))) (second arms.1 can_arms.1)
      ∙ sym (choice_made scope.table f u v (given_sort scope.table u) (given_sort scope.table v) true (sym one) refl refl f u v refl refl refl refl)))

  -- the reading of an output stands for it
  pub out_back : (o : OutTree) → OutBack o
  out_back = by_outs OutBack
      (λ t formed can.
      ap (λ (z : OutText). elaborate_out scope (syntax_of_out z)) (fold-Give (out_written_step scope) t)
      ∙ (syntaxes.fold-Give (elaborate_out_step scope) (term_written scope t)
      ∙ (ap (option_map out.Give) (term_back scope t (sorted_give t formed) (can_give t can))
      ∙ ap Some (sym (bare_out-Give t)))))
      (λ f u v first second formed can.
      ap (λ (z : OutText). elaborate_out scope (syntax_of_out z)) (fold-If (out_written_step scope) f u v)
      ∙ (syntaxes.fold-If (elaborate_out_step scope) (syntax_of_form (form_written scope f).whole) (syntax_of_out (out_written scope u)) (syntax_of_out (out_written scope v))
      ∙ choice_back f u v formed can first second))

  abbrev OutPuts : OutTree → Type 0
  OutPuts o = IsFormedOut scope.table o → CanReadOut scope o → PutsWords (printed_out scope o) (words_of_out (out_written scope o))

  puts_as : (o : OutTree) (text : List ℕ) (reading : OutText) → printed_out scope o ≡ text → out_written scope o ≡ reading → PutsWords text (words_of_out reading) → PutsWords (printed_out scope o) (words_of_out (out_written scope o))
  puts_as o text reading e h p = subst (λ (z : List ℕ). PutsWords z (words_of_out (out_written scope o))) (sym e) (subst (λ (z : OutText). PutsWords text (words_of_out z)) (sym h) p)

  -- and its text has the words of the reading
  pub out_puts : (o : OutTree) → OutPuts o
  out_puts = by_outs OutPuts
      (λ t formed can. puts_as (out.Give t) (printed_term scope t) (give (term_written scope t)) (fold-Give (print_out_step scope) t) (fold-Give (out_written_step scope) t) (term_puts scope t (sorted_give t formed) (can_give t can)))
      (λ f u v first second formed can.
      let arms = parts-If (PlainOutNode scope.table) f u v formed in
      let can_arms = parts-If (CanReadOutNode scope) f u v can in
      let tested = form_puts scope f (node-If (PlainOutNode scope.table) f u v formed).0 (node-If (CanReadOutNode scope) f u v can) in
      puts_as (out_view.If f u v) (codes "if " ++ printed_form scope f ++ codes " then " ++ printed_out scope u ++ codes " else " ++ printed_out scope v) (choice (form_written scope f).whole (out_written scope u) (out_written scope v)) (fold-If (print_out_step scope) f u v) (fold-If (out_written_step scope) f u v)
      (choice_puts (printed_form scope f) (printed_out scope u) (printed_out scope v) (words_of_form (form_written scope f).whole) (words_of_out (out_written scope u)) (words_of_out (out_written scope v)) tested (first arms.0 can_arms.0) (second arms.1 can_arms.1)))

-- a printed term is read back
pub term_reads_back : (limit : Limit) (scope : TextScope) (t : TermTree) → IsReadableTerm limit scope t → IsTextOf (IsTermOf limit scope) (printed_term scope t) (bare t)
term_reads_back limit scope t r = record {
  words = map spelling (words_of_term (term_written scope t));
  spelled = spelled_alone (printed_term scope t) (words_of_term (term_written scope t)) (term_puts scope t r.sorted r.can);
  stands = record {
    syntax = term_written scope t;
    written = refl;
    tree = term_back scope t r.sorted r.can;
    sorts = subst HasOneSortEach (sym (term_vars_bare t)) r.sorts;
    few = subst (λ n. n ≤ limit.nodes) (sym (nodes_bare t)) r.few;
    shallow = subst (λ n. n ≤ limit.depth) (sym (depth_bare t)) r.shallow;
  };
}

-- a printed formula without quantifiers
pub form_reads_back : (limit : Limit) (scope : TextScope) (f : FormTree) → IsReadableForm limit scope f → IsTextOf (IsFormOf limit scope) (printed_form scope f) (bare_form f)
form_reads_back limit scope f r = record {
  words = map spelling (words_of_form (form_written scope f).whole);
  spelled = spelled_alone (printed_form scope f) (words_of_form (form_written scope f).whole) (form_puts scope f r.plain.formed r.can);
  stands = record {
    reading = (form_written scope f).whole;
    written = refl;
    tree = form_back scope f r.plain.formed r.can;
    sorts = subst HasOneSortEach (sym (form_vars_bare f)) r.plain.sorts;
    few = subst (λ n. n ≤ limit.nodes) (sym (form_nodes_bare f)) r.few;
    shallow = subst (λ n. n ≤ limit.depth) (sym (form_depth_bare f)) r.shallow;
  };
}

-- a printed formula with quantifiers
pub qform_reads_back : (limit : Limit) (scope : TextScope) (f : QFormTree) → IsReadableQForm limit scope f → IsTextOf (IsQFormOf limit scope) (printed_qform scope f) (bare_qform f)
qform_reads_back limit scope f r = record {
  words = map spelling (words_of_form (qform_written f scope).whole);
  spelled = spelled_alone (printed_qform scope f) (words_of_form (qform_written f scope).whole) (qform_puts f scope r.plain.formed r.can).0;
  stands = record {
    reading = (qform_written f scope).whole;
    next = 1 + length (binders_of f);
    written = refl;
    tree = qform_back f scope 1 r.plain.formed r.can r.plain.numbered;
    sorts = subst HasOneSortEach (sym (qform_vars_bare f)) r.plain.sorts;
    few = subst (λ n. n ≤ limit.nodes) (sym (qform_nodes_bare f)) r.few;
    shallow = subst (λ n. n ≤ limit.depth) (sym (qform_depth_bare f)) r.shallow;
  };
}

-- a printed output
pub out_reads_back : (limit : Limit) (scope : TextScope) (o : OutTree) → IsReadableOut limit scope o → IsTextOf (IsOutOf limit scope) (printed_out scope o) (bare_out o)
out_reads_back limit scope o r = record {
  words = map spelling (words_of_out (out_written scope o));
  spelled = spelled_alone (printed_out scope o) (words_of_out (out_written scope o)) (out_puts scope o r.plain.formed r.can);
  stands = record {
    reading = out_written scope o;
    written = refl;
    tree = out_back scope o r.plain.formed r.can;
    sorts = subst HasOneSortEach (sym (out_vars_bare o)) r.plain.sorts;
    few = subst (λ n. n ≤ limit.nodes) (sym (out_nodes_bare o)) r.few;
    shallow = subst (λ n. n ≤ limit.depth) (sym (out_depth_bare o)) r.shallow;
  };
}
