-- What is counted on the syntax tree of a formula is what its formula has.
use Rattle.std.proofs.Common.{◌≡◌, ℕ, ◌+◌, ◌*◌, max, sum, Bool, true, false, List, [], ◌∷◌, Option, None, Some, All, map, length, if◌then◌else◌, refl, sym, ◌∙◌, ap, arith}
use Rattle.std.specs.Option.{option_and_then, option_map}
use Rattle.std.proofs.lemmas.List.Elements.{All-head, All-tail}
use Rattle.syn_term.specs.declared.sorts.SymId.{SymId}
use Rattle.syn_term.specs.declared.sorts.Var.{Var}
use Rattle.syn_term.specs.Terms.{TermTree, nodes, depth_of, greatest, sort_of}
use Rattle.syn_form.specs.declared.syntax.TermSyntax.{TermSyntax}
use Rattle.syn_form.specs.declared.syntax.Quantifier.{Quantifier}
use Rattle.syn_form.specs.declared.syntax.Quantifier.TheVariants as quantifier
use Rattle.syn_form.specs.declared.syntax.BinderSyntax.{BinderSyntax}
use Rattle.syn_form.specs.declared.syntax.FormSyntax.{FormSyntax}
use Rattle.syn_form.specs.declared.syntax.FormSyntax.TheVariants as syntax
use Rattle.syn_form.specs.declared.syntax.FormSyntax.TheViews as syntax_view
use Rattle.syn_form.specs.declared.trees.Binder.{Binder}
use Rattle.syn_form.specs.declared.trees.QForm.TheVariants as form
use Rattle.syn_form.specs.declared.trees.QForm.TheViews as view
use Rattle.syn_form.specs.Elaboration.{Reading, and_then, atom_tree, elaborate_form, elaborate_form_step, elaborate_term, equality_tree, in_turn, mapped, nested, quantified_reading, quantifier_tree, sorted_atom, sorted_equality, symbol_named}
use Rattle.syn_form.specs.Lists.{all_there}
use Rattle.syn_form.specs.Quantified.{qform_nodes, qform_nodes_step, qform_depth, qform_depth_step}
use Rattle.syn_form.specs.Scopes.{TextScope, with_name}
use Rattle.syn_form.specs.Sorts.{are_of_one_sort, makes_atom}
use Rattle.syn_form.specs.Trees.{QFormTree}
use Rattle.syn_expr.specs.inner.Elaborating.{binder_var}
use Rattle.syn_expr.specs.Limits.{form_cost, form_cost_step, form_levels, form_levels_step, term_cost, term_levels}
use Rattle.syn_expr.proofs.FormMaking.{both, bound_is}
use Rattle.syn_expr.proofs.FormSyntaxes.{by_form_syntax, fold-True, fold-False, fold-Atom, fold-Equal, fold-Not, fold-And, fold-Or, fold-Implies, fold-BothWays, fold-Quantified}
use Rattle.syn_form.proofs.QForms.{qfold-True, qfold-False, qfold-Atom, qfold-Equal, qfold-Not, qfold-And, qfold-Or, qfold-Implies, qfold-All, qfold-Exists}
use Rattle.syn_expr.proofs.TermCounts.{all_counted, step_there, term_nodes_are, term_depth_is, value_there}

pub chosen_is : {A : Type 0} (b : Bool) (x y : A) → (if b then Some x else None) ≡ Some y → (b ≡ true) × (x ≡ y)
chosen_is true x y e = (refl, cc)
chosen_is false x y e = absurd (cc)

-- what was read before a step on it, and the number after
pub record Read {A : Type 0} {B : Type 0} (o : Option (A × ℕ)) (g : A → B) (f : B) (m : ℕ) : Type 0 where
  pub value : A
  pub is : o ≡ Some (both value m)
  pub gives : g value ≡ f

abbrev pub step_of : {A B : Type 0} → (A → B) → A × ℕ → B × ℕ
step_of g a = both (g a.0) a.1

pub read_before : {A B : Type 0} (g : A → B) (o : Option (A × ℕ)) (f : B) (m : ℕ) → option_map (step_of g) o ≡ Some (both f m) → Read o g f m
read_before {A} {B} g o f m e =
    let p = value_there (step_of g) o (both f m) e in
    let number : (p.0).1 ≡ m = ap (λ (r : B × ℕ). r.1) p.2 in
    record { value = (p.0).0; is = p.1 ∙ ap (λ (k : ℕ). Some (both (p.0).0 k)) number; gives = ap (λ (r : B × ℕ). r.0) p.2 }

-- two readings, one after the other
pub record TwoRead {A : Type 0} {B : Type 0} {C : Type 0} (r : Reading A) (q : Reading B) (g : A → B → C) (scope : TextScope) (n : ℕ) (f : C) (m : ℕ) : Type 0 where
  pub first : A
  pub after : ℕ
  pub second : B
  pub read_first : r scope n ≡ Some (both first after)
  pub read_second : q scope after ≡ Some (both second m)
  pub gives : g first second ≡ f

pub two_before : {A B C : Type 0} (r : Reading A) (q : Reading B) (g : A → B → C) (scope : TextScope) (n : ℕ) (f : C) (m : ℕ) → and_then g r q scope n ≡ Some (both f m) → TwoRead r q g scope n f m
two_before r q g scope n f m e =
    let p = step_there (λ a. option_map (step_of (g a.0)) (q scope a.1)) (r scope n) (both f m) e in
    let s = read_before (g (p.0).0) (q scope (p.0).1) f m p.2 in
    record { first = (p.0).0; after = (p.0).1; second = s.value; read_first = p.1; read_second = s.is; gives = s.gives }

-- what has no binder
pub steady_before : {A : Type 0} (o : Option A) (n : ℕ) (f : A) (m : ℕ) → option_map (λ a. both a n) o ≡ Some (both f m) → o ≡ Some f
steady_before {A} o n f m e = let p = value_there (λ a. both a n) o (both f m) e in p.1 ∙ ap Some (ap (λ (r : A × ℕ). r.0) p.2)

-- a number of a formula, from those of its parts, and the count that a syntax tree tells of it
pub record FormCounting (measure : QFormTree → ℕ) (count : FormSyntax → ℕ) : Type 0 where
  pub of_term : TermTree → ℕ
  pub in_term : TermSyntax → ℕ
  pub terms : (scope : TextScope) (s : TermSyntax) (t : TermTree) → elaborate_term scope s ≡ Some t → of_term t ≡ in_term s
  pub whole : List ℕ → ℕ
  pub two : ℕ → ℕ → ℕ
  pub of_true : measure form.True ≡ 1
  pub of_false : measure form.False ≡ 1
  pub of_atom : (r : SymId) (args : List TermTree) → measure (form.Atom r args) ≡ 1 + whole (map of_term args)
  pub of_equal : (s t : TermTree) → measure (form.Equal s t) ≡ 1 + two (of_term s) (of_term t)
  pub of_not : (a : QFormTree) → measure (view.Not a) ≡ 1 + measure a
  pub of_and : (all : List QFormTree) → measure (view.And all) ≡ 1 + whole (map measure all)
  pub of_or : (all : List QFormTree) → measure (view.Or all) ≡ 1 + whole (map measure all)
  pub of_implies : (a b : QFormTree) → measure (view.Implies a b) ≡ 1 + two (measure a) (measure b)
  pub of_all : (b : Binder) (a : QFormTree) → measure (view.All b a) ≡ 1 + measure a
  pub of_exists : (b : Binder) (a : QFormTree) → measure (view.Exists b a) ≡ 1 + measure a
  pub in_true : count syntax.True ≡ 1
  pub in_false : count syntax.False ≡ 1
  pub in_atom : (r : List ℕ) (args : List TermSyntax) → count (syntax.Atom r args) ≡ 1 + whole (map in_term args)
  pub in_equal : (s t : TermSyntax) → count (syntax.Equal s t) ≡ 1 + two (in_term s) (in_term t)
  pub in_not : (a : FormSyntax) → count (syntax_view.Not a) ≡ 1 + count a
  pub in_and : (all : List FormSyntax) → count (syntax_view.And all) ≡ 1 + whole (map count all)
  pub in_or : (all : List FormSyntax) → count (syntax_view.Or all) ≡ 1 + whole (map count all)
  pub in_implies : (a b : FormSyntax) → count (syntax_view.Implies a b) ≡ 1 + two (count a) (count b)
  pub in_both_ways : (a b : FormSyntax) → count (syntax_view.BothWays a b) ≡ 1 + whole ((1 + two (count a) (count b)) ∷ (1 + two (count b) (count a)) ∷ [])
  pub in_quantified : (q : Quantifier) (bs : List BinderSyntax) (a : FormSyntax) → count (syntax_view.Quantified q bs a) ≡ length bs + count a

module _ (measure : QFormTree → ℕ) (count : FormSyntax → ℕ) (c : FormCounting measure count) where
  abbrev IsCounted : FormSyntax → Type 0
  IsCounted s = (scope : TextScope) (n m : ℕ) (f : QFormTree) → elaborate_form s scope n ≡ Some (both f m) → measure f ≡ count s

  atom_counted : (scope : TextScope) (r : List ℕ) (xs : List TermSyntax) (f : QFormTree) → atom_tree scope r (map (elaborate_term scope) xs) ≡ Some f → measure f ≡ 1 + c.whole (map c.in_term xs)
  atom_counted scope r [] f e = absurd (cc)
  atom_counted scope r (x ∷ xs) f e =
      let p = step_there (λ args. option_and_then (sorted_atom scope.table args) (symbol_named scope.table r)) (all_there (map (elaborate_term scope) (x ∷ xs))) f e in
      let q = step_there (sorted_atom scope.table p.0) (symbol_named scope.table r) f p.2 in
      let same = chosen_is (makes_atom scope.table q.0 p.0) (form.Atom q.0 p.0) f q.2 in
      let args : map c.of_term p.0 ≡ map c.in_term (x ∷ xs) = all_counted (elaborate_term scope) c.in_term c.of_term (x ∷ xs) p.0 (λ k d lt t is. c.terms scope _ t is) p.1 in
      ap measure (sym same.1) ∙ (c.of_atom q.0 p.0 ∙ ap (λ (ns : List ℕ). 1 + c.whole ns) args)

  equal_counted : (scope : TextScope) (s t : TermSyntax) (f : QFormTree) → equality_tree scope (elaborate_term scope s) (elaborate_term scope t) ≡ Some f → measure f ≡ 1 + c.two (c.in_term s) (c.in_term t)
  equal_counted scope s t f e =
      let p = step_there (λ x. option_and_then (sorted_equality scope.table x) (elaborate_term scope t)) (elaborate_term scope s) f e in
      let q = step_there (sorted_equality scope.table p.0) (elaborate_term scope t) f p.2 in
      let same = chosen_is (are_of_one_sort (sort_of scope.table p.0) (sort_of scope.table q.0)) (form.Equal p.0 q.0) f q.2 in
      ap measure (sym same.1) ∙ (c.of_equal p.0 q.0 ∙ (ap (λ (k : ℕ). 1 + c.two k (c.of_term q.0)) (c.terms scope s p.0 p.1) ∙ ap (λ (k : ℕ). 1 + c.two (c.in_term s) k) (c.terms scope t q.0 q.1)))

  all_read : (all : List FormSyntax) (scope : TextScope) (n : ℕ) (fs : List QFormTree) (m : ℕ) → All IsCounted all → in_turn (map elaborate_form all) scope n ≡ Some (both fs m) → map measure fs ≡ map count all
  all_read [] scope n fs m h e = let k : Some [] ≡ Some fs = steady_before (Some []) n fs m e in let same : [] ≡ fs = cc in ap (map measure) (sym same)
  all_read (x ∷ xs) scope n fs m h e =
      let p = two_before (elaborate_form x) (in_turn (map elaborate_form xs)) (λ a rest. a ∷ rest) scope n fs m e in
      let here : measure p.first ≡ count x = All-head IsCounted x xs h scope n p.after p.first p.read_first in
      let there : map measure p.second ≡ map count xs = all_read xs scope p.after p.second m (All-tail IsCounted x xs h) p.read_second in
      ap (map measure) (sym p.gives) ∙ (ap (λ (k : ℕ). k ∷ map measure p.second) here ∙ ap (λ (ks : List ℕ). count x ∷ ks) there)

  implication_counted : (a b : FormSyntax) → IsCounted a → IsCounted b → (scope : TextScope) (n m : ℕ) (f : QFormTree) → and_then view.Implies (elaborate_form a) (elaborate_form b) scope n ≡ Some (both f m) → measure f ≡ 1 + c.two (count a) (count b)
  implication_counted a b h k scope n m f e =
      let p = two_before (elaborate_form a) (elaborate_form b) view.Implies scope n f m e in
      ap measure (sym p.gives) ∙ (c.of_implies p.first p.second ∙ (ap (λ (z : ℕ). 1 + c.two z (measure p.second)) (h scope n p.after p.first p.read_first) ∙ ap (λ (z : ℕ). 1 + c.two (count a) z) (k scope p.after m p.second p.read_second)))

  both_counted : (a b : FormSyntax) → IsCounted a → IsCounted b → (rows : Bool) (scope : TextScope) (n m : ℕ) (f : QFormTree) → (if rows then None else and_then (λ there back. view.And (there ∷ back ∷ [])) (and_then view.Implies (elaborate_form a) (elaborate_form b)) (and_then view.Implies (elaborate_form b) (elaborate_form a)) scope n) ≡ Some (both f m) → measure f ≡ count (syntax_view.BothWays a b)
  both_counted a b h k true scope n m f e = absurd (cc)
  both_counted a b h k false scope n m f e =
      let p = two_before (and_then view.Implies (elaborate_form a) (elaborate_form b)) (and_then view.Implies (elaborate_form b) (elaborate_form a)) (λ there back. view.And (there ∷ back ∷ [])) scope n f m e in
      let one = implication_counted a b h k scope n p.after p.first p.read_first in
      let other = implication_counted b a k h scope p.after m p.second p.read_second in
      ap measure (sym p.gives) ∙ (c.of_and (p.first ∷ p.second ∷ []) ∙ (ap (λ (z : ℕ). 1 + c.whole (z ∷ measure p.second ∷ [])) one ∙ (ap (λ (z : ℕ). 1 + c.whole ((1 + c.two (count a) (count b)) ∷ z ∷ [])) other ∙ sym (c.in_both_ways a b))))

  quantifier_counted : (q : Quantifier) (x : List ℕ) (v : Var) (f : QFormTree) → measure (quantifier_tree q x v f) ≡ 1 + measure f
  quantifier_counted quantifier.All x v f = c.of_all (record { var = v; name = x }) f
  quantifier_counted quantifier.Exists x v f = c.of_exists (record { var = v; name = x }) f

  nested_counted : (q : Quantifier) (bs : List BinderSyntax) (a : FormSyntax) → IsCounted a → (scope : TextScope) (n m : ℕ) (f : QFormTree) → nested q bs (elaborate_form a) scope n ≡ Some (both f m) → measure f ≡ length bs + count a
  nested_counted q [] a h scope n m f e = let k = h scope n m f e in omega arith
  nested_counted q (b ∷ bs) a h scope n m f e =
      let rest = nested q bs (elaborate_form a) in
      let p = step_there (λ v. mapped (quantifier_tree q b.name v) rest (with_name scope b.name v) (n + 1)) (binder_var scope n b) (both f m) (sym (bound_is q b rest scope n) ∙ e) in
      let r = read_before (quantifier_tree q b.name p.0) (rest (with_name scope b.name p.0) (n + 1)) f m p.2 in
      let inner : measure r.value ≡ length bs + count a = nested_counted q bs a h (with_name scope b.name p.0) (n + 1) m r.value r.is in
      let outer : measure f ≡ 1 + measure r.value = ap measure (sym r.gives) ∙ quantifier_counted q b.name p.0 r.value in omega arith

  quantified_counted : (q : Quantifier) (bs : List BinderSyntax) (a : FormSyntax) → IsCounted a → (scope : TextScope) (n m : ℕ) (f : QFormTree) → quantified_reading q bs (elaborate_form a) scope n ≡ Some (both f m) → measure f ≡ length bs + count a
  quantified_counted q [] a h scope n m f e = absurd (cc)
  quantified_counted q (b ∷ bs) a h scope n m f e = nested_counted q (b ∷ bs) a h scope n m f e

  abbrev at_scope : TextScope → ℕ → Reading QFormTree → Option (QFormTree × ℕ)
  at_scope scope n r = r scope n

  pub form_counted : (s : FormSyntax) → IsCounted s
  form_counted = by_form_syntax IsCounted record {
    at_true = λ scope n m f e. let k : Some form.True ≡ Some f = steady_before (Some form.True) n f m (sym (ap (at_scope scope n) (fold-True elaborate_form_step)) ∙ e) in let same : form.True ≡ f = cc in ap measure (sym same) ∙ (c.of_true ∙ sym c.in_true);
    at_false = λ scope n m f e. let k : Some form.False ≡ Some f = steady_before (Some form.False) n f m (sym (ap (at_scope scope n) (fold-False elaborate_form_step)) ∙ e) in let same : form.False ≡ f = cc in ap measure (sym same) ∙ (c.of_false ∙ sym c.in_false);
    at_atom = λ r args scope n m f e. atom_counted scope r args f (steady_before (atom_tree scope r (map (elaborate_term scope) args)) n f m (sym (ap (at_scope scope n) (fold-Atom elaborate_form_step r args)) ∙ e)) ∙ sym (c.in_atom r args);
    at_equal = λ s t scope n m f e. equal_counted scope s t f (steady_before (equality_tree scope (elaborate_term scope s) (elaborate_term scope t)) n f m (sym (ap (at_scope scope n) (fold-Equal elaborate_form_step s t)) ∙ e)) ∙ sym (c.in_equal s t);
    at_not = λ a h scope n m f e. let p = read_before view.Not (elaborate_form a scope n) f m (sym (ap (at_scope scope n) (fold-Not elaborate_form_step a)) ∙ e) in ap measure (sym p.gives) ∙ (c.of_not p.value ∙ (ap (λ (z : ℕ). 1 + z) (h scope n m p.value p.is) ∙ sym (c.in_not a)));
    at_and = λ all h scope n m f e. let p = read_before view.And (in_turn (map elaborate_form all) scope n) f m (sym (ap (at_scope scope n) (fold-And elaborate_form_step all)) ∙ e) in ap measure (sym p.gives) ∙ (c.of_and p.value ∙ (ap (λ (z : List ℕ). 1 + c.whole z) (all_read all scope n p.value m h p.is) ∙ sym (c.in_and all)));
    at_or = λ all h scope n m f e. let p = read_before view.Or (in_turn (map elaborate_form all) scope n) f m (sym (ap (at_scope scope n) (fold-Or elaborate_form_step all)) ∙ e) in ap measure (sym p.gives) ∙ (c.of_or p.value ∙ (ap (λ (z : List ℕ). 1 + c.whole z) (all_read all scope n p.value m h p.is) ∙ sym (c.in_or all)));
    at_implies = λ a b h k scope n m f e. implication_counted a b h k scope n m f (sym (ap (at_scope scope n) (fold-Implies elaborate_form_step a b)) ∙ e) ∙ sym (c.in_implies a b);
    at_both_ways = λ a b h k scope n m f e. both_counted a b h k scope.rows scope n m f (sym (ap (at_scope scope n) (fold-BothWays elaborate_form_step a b)) ∙ e);
    at_quantified = λ q bs a h scope n m f e. quantified_counted q bs a h scope n m f (sym (ap (at_scope scope n) (fold-Quantified elaborate_form_step q bs a)) ∙ e) ∙ sym (c.in_quantified q bs a);
  }

counting_form_nodes : FormCounting qform_nodes form_cost
counting_form_nodes = record {
  of_term = nodes;
  in_term = term_cost;
  terms = term_nodes_are;
  whole = sum;
  two = λ a b. a + b;
  of_true = qfold-True qform_nodes_step;
  of_false = qfold-False qform_nodes_step;
  of_atom = λ r args. qfold-Atom qform_nodes_step r args;
  of_equal = λ s t. qfold-Equal qform_nodes_step s t;
  of_not = λ a. qfold-Not qform_nodes_step a;
  of_and = λ all. qfold-And qform_nodes_step all;
  of_or = λ all. qfold-Or qform_nodes_step all;
  of_implies = λ a b. qfold-Implies qform_nodes_step a b;
  of_all = λ b a. qfold-All qform_nodes_step b a;
  of_exists = λ b a. qfold-Exists qform_nodes_step b a;
  in_true = fold-True form_cost_step;
  in_false = fold-False form_cost_step;
  in_atom = λ r args. fold-Atom form_cost_step r args;
  in_equal = λ s t. fold-Equal form_cost_step s t;
  in_not = λ a. fold-Not form_cost_step a;
  in_and = λ all. fold-And form_cost_step all;
  in_or = λ all. fold-Or form_cost_step all;
  in_implies = λ a b. fold-Implies form_cost_step a b;
  in_both_ways = λ a b. let e : form_cost (syntax_view.BothWays a b) ≡ 3 + 2 * (form_cost a + form_cost b) = fold-BothWays form_cost_step a b in omega arith;
  in_quantified = λ q bs a. fold-Quantified form_cost_step q bs a;
}

counting_form_levels : FormCounting qform_depth form_levels
counting_form_levels = record {
  of_term = depth_of;
  in_term = term_levels;
  terms = term_depth_is;
  whole = greatest;
  two = max;
  of_true = qfold-True qform_depth_step;
  of_false = qfold-False qform_depth_step;
  of_atom = λ r args. qfold-Atom qform_depth_step r args;
  of_equal = λ s t. qfold-Equal qform_depth_step s t;
  of_not = λ a. qfold-Not qform_depth_step a;
  of_and = λ all. qfold-And qform_depth_step all;
  of_or = λ all. qfold-Or qform_depth_step all;
  of_implies = λ a b. qfold-Implies qform_depth_step a b;
  of_all = λ b a. qfold-All qform_depth_step b a;
  of_exists = λ b a. qfold-Exists qform_depth_step b a;
  in_true = fold-True form_levels_step;
  in_false = fold-False form_levels_step;
  in_atom = λ r args. fold-Atom form_levels_step r args;
  in_equal = λ s t. fold-Equal form_levels_step s t;
  in_not = λ a. fold-Not form_levels_step a;
  in_and = λ all. fold-And form_levels_step all;
  in_or = λ all. fold-Or form_levels_step all;
  in_implies = λ a b. fold-Implies form_levels_step a b;
  in_both_ways = λ a b. let e : form_levels (syntax_view.BothWays a b) ≡ 2 + max (form_levels a) (form_levels b) = fold-BothWays form_levels_step a b in omega arith;
  in_quantified = λ q bs a. fold-Quantified form_levels_step q bs a;
}

-- the formula has the nodes, and the depth, that its syntax tree tells
pub form_nodes_are : (s : FormSyntax) (scope : TextScope) (n m : ℕ) (f : QFormTree) → elaborate_form s scope n ≡ Some (both f m) → qform_nodes f ≡ form_cost s
form_nodes_are = form_counted qform_nodes form_cost counting_form_nodes

pub form_depth_is : (s : FormSyntax) (scope : TextScope) (n m : ℕ) (f : QFormTree) → elaborate_form s scope n ≡ Some (both f m) → qform_depth f ≡ form_levels s
form_depth_is = form_counted qform_depth form_levels counting_form_levels
