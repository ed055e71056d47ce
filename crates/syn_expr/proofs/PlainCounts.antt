-- What is counted on the syntax trees of formulas without quantifiers, and of outputs, is what these have.
use Rattle.std.proofs.Common.{◌≡◌, ℕ, ◌+◌, max, sum, List, None, Some, All, map, sym, ◌∙◌, ap}
use Rattle.std.specs.Option.{option_and_then, option_map}
use Rattle.syn_term.specs.declared.sorts.SymId.{SymId}
use Rattle.syn_term.specs.Terms.{TermTree, nodes, depth_of, greatest}
use Rattle.syn_form.specs.declared.syntax.FormSyntax.{FormSyntax}
use Rattle.syn_form.specs.declared.syntax.TermSyntax.{TermSyntax}
use Rattle.syn_form.specs.declared.syntax.OutSyntax.{OutSyntax}
use Rattle.syn_form.specs.declared.syntax.OutSyntax.TheVariants as out_syntax
use Rattle.syn_form.specs.declared.syntax.OutSyntax.TheViews as out_syntax_view
use Rattle.syn_form.specs.declared.trees.Form.TheVariants as form
use Rattle.syn_form.specs.declared.trees.Form.TheViews as view
use Rattle.syn_form.specs.declared.trees.QForm.TheVariants as qform
use Rattle.syn_form.specs.declared.trees.QForm.TheViews as qview
use Rattle.syn_form.specs.declared.trees.Out.TheVariants as out
use Rattle.syn_form.specs.declared.trees.Out.TheViews as out_view
use Rattle.syn_form.specs.Elaboration.{choice_tree, elaborate_form, elaborate_out, elaborate_out_step, elaborate_plain, elaborate_term, sorted_choice}
use Rattle.syn_form.specs.Lists.{all_there}
use Rattle.syn_form.specs.Plain.{given_sort}
use Rattle.syn_form.specs.Quantified.{qform_nodes, qform_nodes_step, qform_depth, qform_depth_step, unquantified, unquantified_step}
use Rattle.syn_form.specs.Scopes.{TextScope}
use Rattle.syn_form.specs.Sorts.{are_of_one_sort}
use Rattle.syn_form.specs.Trees.{FormTree, OutTree, QFormTree, form_nodes, form_depth, out_nodes, out_depth}
use Rattle.syn_form.proofs.Equations.{form_nodes-True, form_nodes-False, form_nodes-Atom, form_nodes-Equal, form_nodes-Not, form_nodes-And, form_nodes-Or, form_nodes-Implies, form_depth-True, form_depth-False, form_depth-Atom, form_depth-Equal, form_depth-Not, form_depth-And, form_depth-Or, form_depth-Implies, out_nodes-Give, out_nodes-If, out_depth-Give, out_depth-If}
use Rattle.syn_expr.specs.Limits.{form_cost, form_levels, out_cost, out_cost_step, out_levels, out_levels_step, term_cost, term_levels}
use Rattle.syn_expr.proofs.FormCounts.{chosen_is, form_nodes_are, form_depth_is}
use Rattle.syn_expr.proofs.FormSyntaxes.{by_out_syntax, fold-Give, fold-If}
use Rattle.syn_form.proofs.QForms.{by_qform_cases, qfold-True, qfold-False, qfold-Atom, qfold-Equal, qfold-Not, qfold-And, qfold-Or, qfold-Implies, qfold-All, qfold-Exists}
use Rattle.syn_expr.proofs.TermCounts.{all_counted, step_there, term_nodes_are, term_depth_is, value_there}

-- a number of a formula without quantifiers, and of one with them, each from those of its parts
pub record PlainCounting (measure : FormTree → ℕ) (quantified : QFormTree → ℕ) : Type 0 where
  pub of_term : TermTree → ℕ
  pub whole : List ℕ → ℕ
  pub two : ℕ → ℕ → ℕ
  pub of_true : measure form.True ≡ 1
  pub of_false : measure form.False ≡ 1
  pub of_atom : (r : SymId) (args : List TermTree) → measure (form.Atom r args) ≡ 1 + whole (map of_term args)
  pub of_equal : (s t : TermTree) → measure (form.Equal s t) ≡ 1 + two (of_term s) (of_term t)
  pub of_not : (a : FormTree) → measure (view.Not a) ≡ 1 + measure a
  pub of_and : (all : List FormTree) → measure (view.And all) ≡ 1 + whole (map measure all)
  pub of_or : (all : List FormTree) → measure (view.Or all) ≡ 1 + whole (map measure all)
  pub of_implies : (a b : FormTree) → measure (view.Implies a b) ≡ 1 + two (measure a) (measure b)
  pub in_true : quantified qform.True ≡ 1
  pub in_false : quantified qform.False ≡ 1
  pub in_atom : (r : SymId) (args : List TermTree) → quantified (qform.Atom r args) ≡ 1 + whole (map of_term args)
  pub in_equal : (s t : TermTree) → quantified (qform.Equal s t) ≡ 1 + two (of_term s) (of_term t)
  pub in_not : (a : QFormTree) → quantified (qview.Not a) ≡ 1 + quantified a
  pub in_and : (all : List QFormTree) → quantified (qview.And all) ≡ 1 + whole (map quantified all)
  pub in_or : (all : List QFormTree) → quantified (qview.Or all) ≡ 1 + whole (map quantified all)
  pub in_implies : (a b : QFormTree) → quantified (qview.Implies a b) ≡ 1 + two (quantified a) (quantified b)

module _ (measure : FormTree → ℕ) (quantified : QFormTree → ℕ) (c : PlainCounting measure quantified) where
  abbrev Same : QFormTree → Type 0
  Same f = (g : FormTree) → unquantified f ≡ Some g → measure g ≡ quantified f

  leaf : (f : QFormTree) (a g : FormTree) (n : ℕ) → unquantified f ≡ Some a → measure a ≡ n → quantified f ≡ n → unquantified f ≡ Some g → measure g ≡ quantified f
  leaf f a g n is m q e = let k : a ≡ g = cc in ap measure (sym k) ∙ (m ∙ sym q)

  chain : (all : List QFormTree) (make : List FormTree → FormTree) (f : QFormTree) (g : FormTree) → All Same all → ((parts : List FormTree) → measure (make parts) ≡ 1 + c.whole (map measure parts)) → quantified f ≡ 1 + c.whole (map quantified all) → unquantified f ≡ option_map make (all_there (map unquantified all)) → unquantified f ≡ Some g → measure g ≡ quantified f
  chain all make f g h of q is e =
      let p = value_there make (all_there (map unquantified all)) g (sym is ∙ e) in
      ap measure (sym p.2) ∙ (of p.0 ∙ (ap (λ (ns : List ℕ). 1 + c.whole ns) (all_counted unquantified quantified measure all p.0 h p.1) ∙ sym q))

  pub plain_same : (f : QFormTree) → Same f
  plain_same = by_qform_cases Same record {
    at_true = λ g e. leaf qform.True form.True g 1 (qfold-True unquantified_step) c.of_true c.in_true e;
    at_false = λ g e. leaf qform.False form.False g 1 (qfold-False unquantified_step) c.of_false c.in_false e;
    at_atom = λ r args g e. leaf (qform.Atom r args) (form.Atom r args) g (1 + c.whole (map c.of_term args)) (qfold-Atom unquantified_step r args) (c.of_atom r args) (c.in_atom r args) e;
    at_equal = λ s t g e. leaf (qform.Equal s t) (form.Equal s t) g (1 + c.two (c.of_term s) (c.of_term t)) (qfold-Equal unquantified_step s t) (c.of_equal s t) (c.in_equal s t) e;
    at_not = λ a h g e. let p = value_there view.Not (unquantified a) g (sym (qfold-Not unquantified_step a) ∙ e) in ap measure (sym p.2) ∙ (c.of_not p.0 ∙ (ap (λ (z : ℕ). 1 + z) (h p.0 p.1) ∙ sym (c.in_not a)));
    at_and = λ all h g e. chain all view.And (qview.And all) g h c.of_and (c.in_and all) (qfold-And unquantified_step all) e;
    at_or = λ all h g e. chain all view.Or (qview.Or all) g h c.of_or (c.in_or all) (qfold-Or unquantified_step all) e;
    at_implies = λ a b h k g e.
        let p = step_there (λ x. option_map (view.Implies x) (unquantified b)) (unquantified a) g (sym (qfold-Implies unquantified_step a b) ∙ e) in
        let q = value_there (view.Implies p.0) (unquantified b) g p.2 in
        ap measure (sym q.2) ∙ (c.of_implies p.0 q.0 ∙ (ap (λ (z : ℕ). 1 + c.two z (measure q.0)) (h p.0 p.1) ∙ (ap (λ (z : ℕ). 1 + c.two (quantified a) z) (k q.0 q.1) ∙ sym (c.in_implies a b))));
    at_all = λ b a h g e. let n : None ≡ Some g = sym (qfold-All unquantified_step b a) ∙ e in absurd (cc);
    at_exists = λ b a h g e. let n : None ≡ Some g = sym (qfold-Exists unquantified_step b a) ∙ e in absurd (cc);
  }

plain_nodes : PlainCounting form_nodes qform_nodes
plain_nodes = record {
  of_term = nodes;
  whole = sum;
  two = λ a b. a + b;
  of_true = form_nodes-True;
  of_false = form_nodes-False;
  of_atom = form_nodes-Atom;
  of_equal = form_nodes-Equal;
  of_not = form_nodes-Not;
  of_and = form_nodes-And;
  of_or = form_nodes-Or;
  of_implies = form_nodes-Implies;
  in_true = qfold-True qform_nodes_step;
  in_false = qfold-False qform_nodes_step;
  in_atom = λ r args. qfold-Atom qform_nodes_step r args;
  in_equal = λ s t. qfold-Equal qform_nodes_step s t;
  in_not = λ a. qfold-Not qform_nodes_step a;
  in_and = λ all. qfold-And qform_nodes_step all;
  in_or = λ all. qfold-Or qform_nodes_step all;
  in_implies = λ a b. qfold-Implies qform_nodes_step a b;
}

plain_depth : PlainCounting form_depth qform_depth
plain_depth = record {
  of_term = depth_of;
  whole = greatest;
  two = max;
  of_true = form_depth-True;
  of_false = form_depth-False;
  of_atom = form_depth-Atom;
  of_equal = form_depth-Equal;
  of_not = form_depth-Not;
  of_and = form_depth-And;
  of_or = form_depth-Or;
  of_implies = form_depth-Implies;
  in_true = qfold-True qform_depth_step;
  in_false = qfold-False qform_depth_step;
  in_atom = λ r args. qfold-Atom qform_depth_step r args;
  in_equal = λ s t. qfold-Equal qform_depth_step s t;
  in_not = λ a. qfold-Not qform_depth_step a;
  in_and = λ all. qfold-And qform_depth_step all;
  in_or = λ all. qfold-Or qform_depth_step all;
  in_implies = λ a b. qfold-Implies qform_depth_step a b;
}

-- the formula without quantifiers has the nodes, and the depth, that its syntax tree tells
pub plain_nodes_are : (scope : TextScope) (s : FormSyntax) (g : FormTree) → elaborate_plain scope s ≡ Some g → form_nodes g ≡ form_cost s
plain_nodes_are scope s g e =
    let p = step_there (λ r. unquantified r.0) (elaborate_form s scope 1) g e in
    plain_same form_nodes qform_nodes plain_nodes (p.0).0 g p.2 ∙ form_nodes_are s scope 1 (p.0).1 (p.0).0 p.1

pub plain_depth_is : (scope : TextScope) (s : FormSyntax) (g : FormTree) → elaborate_plain scope s ≡ Some g → form_depth g ≡ form_levels s
plain_depth_is scope s g e =
    let p = step_there (λ r. unquantified r.0) (elaborate_form s scope 1) g e in
    plain_same form_depth qform_depth plain_depth (p.0).0 g p.2 ∙ form_depth_is s scope 1 (p.0).1 (p.0).0 p.1

-- a number of an output, from those of its parts, and the count that a syntax tree tells of it
pub record OutCounting (measure : OutTree → ℕ) (count : OutSyntax → ℕ) : Type 0 where
  pub of_term : TermTree → ℕ
  pub in_term : TermSyntax → ℕ
  pub of_form : FormTree → ℕ
  pub in_form : FormSyntax → ℕ
  pub terms : (scope : TextScope) (s : TermSyntax) (t : TermTree) → elaborate_term scope s ≡ Some t → of_term t ≡ in_term s
  pub forms : (scope : TextScope) (s : FormSyntax) (g : FormTree) → elaborate_plain scope s ≡ Some g → of_form g ≡ in_form s
  pub three : ℕ → ℕ → ℕ → ℕ
  pub of_give : (t : TermTree) → measure (out.Give t) ≡ of_term t
  pub of_if : (f : FormTree) (u v : OutTree) → measure (out_view.If f u v) ≡ three (of_form f) (measure u) (measure v)
  pub in_give : (t : TermSyntax) → count (out_syntax.Give t) ≡ in_term t
  pub in_if : (f : FormSyntax) (u v : OutSyntax) → count (out_syntax_view.If f u v) ≡ three (in_form f) (count u) (count v)

module _ (scope : TextScope) (measure : OutTree → ℕ) (count : OutSyntax → ℕ) (c : OutCounting measure count) where
  abbrev IsCounted : OutSyntax → Type 0
  IsCounted o = (u : OutTree) → elaborate_out scope o ≡ Some u → measure u ≡ count o

  choice_counted : (f : FormSyntax) (u v : OutSyntax) → IsCounted u → IsCounted v → (o : OutTree) → choice_tree scope.table (elaborate_plain scope f) (elaborate_out scope u) (elaborate_out scope v) ≡ Some o → measure o ≡ c.three (c.in_form f) (count u) (count v)
  choice_counted f u v h k o e =
      let p = step_there (λ x. option_and_then (λ y. option_and_then (sorted_choice scope.table x y) (elaborate_out scope v)) (elaborate_out scope u)) (elaborate_plain scope f) o e in
      let q = step_there (λ y. option_and_then (sorted_choice scope.table p.0 y) (elaborate_out scope v)) (elaborate_out scope u) o p.2 in
      let r = step_there (sorted_choice scope.table p.0 q.0) (elaborate_out scope v) o q.2 in
      let same = chosen_is (are_of_one_sort (given_sort scope.table q.0) (given_sort scope.table r.0)) (out_view.If p.0 q.0 r.0) o r.2 in
      ap measure (sym same.1) ∙ (c.of_if p.0 q.0 r.0 ∙ (ap (λ (z : ℕ). c.three z (measure q.0) (measure r.0)) (c.forms scope f p.0 p.1) ∙ (ap (λ (z : ℕ). c.three (c.in_form f) z (measure r.0)) (h q.0 q.1) ∙ ap (λ (z : ℕ). c.three (c.in_form f) (count u) z) (k r.0 r.1))))

  pub out_counted : (o : OutSyntax) → IsCounted o
  out_counted = by_out_syntax IsCounted
      (λ t u e. let p = value_there out.Give (elaborate_term scope t) u (sym (fold-Give (elaborate_out_step scope) t) ∙ e) in ap measure (sym p.2) ∙ (c.of_give p.0 ∙ (c.terms scope t p.0 p.1 ∙ sym (c.in_give t))))
      (λ f u v h k o e. choice_counted f u v h k o (sym (fold-If (elaborate_out_step scope) f u v) ∙ e) ∙ sym (c.in_if f u v))

out_counting_nodes : OutCounting out_nodes out_cost
out_counting_nodes = record {
  of_term = nodes;
  in_term = term_cost;
  of_form = form_nodes;
  in_form = form_cost;
  terms = term_nodes_are;
  forms = plain_nodes_are;
  three = λ f u v. 1 + (f + (u + v));
  of_give = out_nodes-Give;
  of_if = out_nodes-If;
  in_give = λ t. fold-Give out_cost_step t;
  in_if = λ f u v. fold-If out_cost_step f u v;
}

out_counting_levels : OutCounting out_depth out_levels
out_counting_levels = record {
  of_term = depth_of;
  in_term = term_levels;
  of_form = form_depth;
  in_form = form_levels;
  terms = term_depth_is;
  forms = plain_depth_is;
  three = λ f u v. 1 + max f (max u v);
  of_give = out_depth-Give;
  of_if = out_depth-If;
  in_give = λ t. fold-Give out_levels_step t;
  in_if = λ f u v. fold-If out_levels_step f u v;
}

-- the output has the nodes, and the depth, that its syntax tree tells
pub out_nodes_are : (scope : TextScope) (o : OutSyntax) (u : OutTree) → elaborate_out scope o ≡ Some u → out_nodes u ≡ out_cost o
out_nodes_are scope o u e = out_counted scope out_nodes out_cost out_counting_nodes o u e

pub out_depth_is : (scope : TextScope) (o : OutSyntax) (u : OutTree) → elaborate_out scope o ≡ Some u → out_depth u ≡ out_levels o
out_depth_is scope o u e = out_counted scope out_depth out_levels out_counting_levels o u e
