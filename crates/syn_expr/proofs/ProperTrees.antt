-- What stands for a tree is proper.
use Rattle.std.proofs.Common.{◌≡◌, ℕ, ◌+◌, Bool, true, false, not, ◌&&◌, ◌||◌, List, [], ◌∷◌, Option, None, Some, All, map, nat_lt, if◌then◌else◌, refl, sym, ◌∙◌, ap, true≢false}
use Rattle.std.specs.Prelude.{codes, position}
use Rattle.std.specs.List.{list_any}
use Rattle.std.specs.Option.{option_and_then, option_map}
use Rattle.std.specs.Str.{bytes_eq}
use Rattle.std.proofs.lemmas.List.Elements.{All-head, All-tail}
use Rattle.syn_term.specs.declared.sorts.SymId.{SymId}
use Rattle.syn_term.specs.declared.sorts.Var.{Var}
use Rattle.syn_term.specs.DeclaredSorts.{sort_named}
use Rattle.syn_term.specs.Symbols.{SymbolTable, names_of}
use Rattle.syn_term.specs.Terms.{TermTree}
use Rattle.syn_term.specs.Tokens.{is_reserved}
use Rattle.syn_form.specs.declared.syntax.HeadName.{HeadName}
use Rattle.syn_form.specs.declared.syntax.HeadName.TheVariants as head
use Rattle.syn_form.specs.declared.syntax.TermSyntax.{TermSyntax}
use Rattle.syn_form.specs.declared.syntax.Quantifier.{Quantifier}
use Rattle.syn_form.specs.declared.syntax.BinderSyntax.{BinderSyntax}
use Rattle.syn_form.specs.declared.syntax.FormSyntax.{FormSyntax}
use Rattle.syn_form.specs.declared.syntax.OutSyntax.{OutSyntax}
use Rattle.syn_form.specs.declared.trees.Out.TheVariants as out
use Rattle.syn_form.specs.declared.trees.QForm.TheViews as view
use Rattle.syn_form.specs.Elaboration.{Reading, alone_tree, and_then, applied_tree, atom_tree, binder_sort, choice_tree, elaborate_form, elaborate_form_step, elaborate_out, elaborate_out_step, elaborate_plain, elaborate_term, elaborate_term_step, equality_tree, head_symbol, head_var, in_turn, is_free, mapped, nested, numbered_var, quantified_reading, quantifier_tree, sorted_application, sorted_atom, sorted_choice, sorted_equality, successors, sym_id, symbol_named, var_named}
use Rattle.syn_form.specs.Lists.{all_there}
use Rattle.syn_form.specs.Quantified.{unquantified}
use Rattle.syn_form.specs.Scopes.{Named, TextScope, with_name}
use Rattle.syn_form.specs.Trees.{OutTree, QFormTree}
use Rattle.syn_expr.specs.inner.Elaborating.{binder_var}
use Rattle.syn_expr.specs.inner.Proper.{all_true, are_proper_binders, is_proper_binder, is_proper_form, is_proper_head, is_proper_out, is_proper_term, is_symbol_name, proper_applied, proper_atom, proper_form_step, proper_out_step, proper_term_step}
use Rattle.syn_expr.proofs.FormCounts.{read_before, steady_before, two_before}
use Rattle.syn_expr.proofs.FormMaking.{both, bound_is}
use Rattle.syn_expr.proofs.FormSyntaxes.{by_form_syntax, by_out_syntax, fold-True, fold-False, fold-Atom, fold-Equal, fold-Not, fold-And, fold-Or, fold-Implies, fold-BothWays, fold-Quantified, fold-Give, fold-If}
use Rattle.syn_form.proofs.Sorting.{and_true, both_true}
use Rattle.syn_expr.proofs.TermCounts.{step_there, value_there}
use Rattle.syn_expr.proofs.TermSyntaxes.{fold-Number, fold-RowVar, fold-Alone, fold-Applied, by_term_syntax}

not_is : (b : Bool) → not b ≡ true → b ≡ false
not_is true h = absurd (true≢false (sym h))
not_is false h = refl

free_is : (scope : TextScope) (x : List ℕ) → is_free scope x ≡ true → is_reserved x ≡ false
free_is scope x h = not_is (is_reserved x) (both_true (not (is_reserved x)) (not (list_any (bytes_eq x) (names_of scope.table)) && (not (list_any (λ s. bytes_eq x s.name) scope.table.sorts) && not (list_any (λ (v : Named). bytes_eq x v.text) scope.names))) h).0

-- what is there where a test is off
off_at : {A : Type 0} (b : Bool) (o : Option A) (y : A) → (if b then None else o) ≡ Some y → b ≡ false
off_at true o y e = absurd (cc)
off_at false o y e = refl

found_at : {A : Type 0} (a b : Bool) (o : Option A) (y : A) → (if a && not b then None else o) ≡ Some y → (not a || b) ≡ true
found_at true true o y e = refl
found_at true false o y e = absurd (cc)
found_at false b o y e = refl

symbol_proper : (table : SymbolTable) (x : List ℕ) (f : SymId) → symbol_named table x ≡ Some f → is_symbol_name x ≡ true
symbol_proper table x f e = found_at (is_reserved x) (bytes_eq x (codes "s")) (option_map sym_id (position (bytes_eq x) (names_of table))) f e

head_proper : (scope : TextScope) (h : HeadName) (f : SymId) → head_symbol scope h ≡ Some f → is_proper_head h ≡ true
head_proper scope (head.Name x) f e = symbol_proper scope.table x f e
head_proper scope (head.Skolem x) f e = refl

not_reserved : (a b : Bool) → a ≡ false → (not a || b) ≡ true
not_reserved true b e = absurd (true≢false e)
not_reserved false b e = refl

-- what all items tell
all_told : {X Y : Type 0} (f : X → Option Y) (test : X → Bool) (xs : List X) (ys : List Y) → All (λ x. (y : Y) → f x ≡ Some y → test x ≡ true) xs → all_there (map f xs) ≡ Some ys → all_true (map test xs) ≡ true
all_told f test [] ys h e = refl
all_told {X} {Y} f test (x ∷ xs) ys h e =
    let p = step_there (λ a. option_map (λ rest. a ∷ rest) (all_there (map f xs))) (f x) ys e in
    let q = value_there (λ rest. p.0 ∷ rest) (all_there (map f xs)) ys p.2 in
    and_true (test x) (all_true (map test xs)) (All-head (λ (z : X). (y : Y) → f z ≡ Some y → test z ≡ true) x xs h p.0 p.1) (all_told f test xs q.0 (All-tail (λ (z : X). (y : Y) → f z ≡ Some y → test z ≡ true) x xs h) q.1)

module _ (scope : TextScope) where
  abbrev TermProper : TermSyntax → Type 0
  TermProper s = (t : TermTree) → elaborate_term scope s ≡ Some t → is_proper_term s ≡ true

  number_proper : (k : ℕ) (b : Bool) (t : TermTree) → (if b then None else successors scope.table k) ≡ Some t → not b ≡ true
  number_proper k true t e = absurd (cc)
  number_proper k false t e = refl

  variable_proper : (h : HeadName) (v : Var) → head_var scope h ≡ Some v → is_proper_head h ≡ true
  variable_proper (head.Name x) v e = not_reserved (is_reserved x) (bytes_eq x (codes "s")) (off_at (is_reserved x) (var_named scope.names x) v e)
  variable_proper (head.Skolem x) v e = refl

  alone_proper : (h : HeadName) (o : Option Var) (t : TermTree) → head_var scope h ≡ o → alone_tree scope h o ≡ Some t → is_proper_head h ≡ true
  alone_proper h None t is e = let p = step_there (sorted_application scope.table []) (head_symbol scope h) t e in head_proper scope h p.0 p.1
  alone_proper h (Some v) t is e = variable_proper h v is

  applied_proper : (h : HeadName) (xs : List TermSyntax) (t : TermTree) → All TermProper xs → applied_tree scope h (map (elaborate_term scope) xs) ≡ Some t → proper_applied h (map is_proper_term xs) ≡ true
  applied_proper h [] t all e = absurd (cc)
  applied_proper h (x ∷ xs) t all e =
      let p = step_there (λ args. option_and_then (sorted_application scope.table args) (head_symbol scope h)) (all_there (map (elaborate_term scope) (x ∷ xs))) t e in
      let q = step_there (sorted_application scope.table p.0) (head_symbol scope h) t p.2 in
      and_true (is_proper_head h) (all_true (map is_proper_term (x ∷ xs))) (head_proper scope h q.0 q.1) (all_told (elaborate_term scope) is_proper_term (x ∷ xs) p.0 all p.1)

  -- what stands for a term is proper
  pub term_proper : (s : TermSyntax) → TermProper s
  term_proper = by_term_syntax TermProper
      (λ k t e. fold-Number proper_term_step k ∙ number_proper k (nat_lt 1000 k) t (sym (fold-Number (elaborate_term_step scope) k) ∙ e))
      (λ k s t e. fold-RowVar proper_term_step k s)
      (λ h t e. fold-Alone proper_term_step h ∙ alone_proper h (head_var scope h) t refl (sym (fold-Alone (elaborate_term_step scope) h) ∙ e))
      (λ h args all t e. fold-Applied proper_term_step h args ∙ applied_proper h args t all (sym (fold-Applied (elaborate_term_step scope) h args) ∙ e))

  atom_proper : (r : List ℕ) (xs : List TermSyntax) (f : QFormTree) → atom_tree scope r (map (elaborate_term scope) xs) ≡ Some f → proper_atom r (map is_proper_term xs) ≡ true
  atom_proper r [] f e = absurd (cc)
  atom_proper r (x ∷ xs) f e =
      let p = step_there (λ args. option_and_then (sorted_atom scope.table args) (symbol_named scope.table r)) (all_there (map (elaborate_term scope) (x ∷ xs))) f e in
      let q = step_there (sorted_atom scope.table p.0) (symbol_named scope.table r) f p.2 in
      and_true (is_symbol_name r) (all_true (map is_proper_term (x ∷ xs))) (symbol_proper scope.table r q.0 q.1) (all_told (elaborate_term scope) is_proper_term (x ∷ xs) p.0 (λ k d lt t is. term_proper _ t is) p.1)

  equality_proper : (s t : TermSyntax) (f : QFormTree) → equality_tree scope (elaborate_term scope s) (elaborate_term scope t) ≡ Some f → (is_proper_term s && is_proper_term t) ≡ true
  equality_proper s t f e =
      let p = step_there (λ x. option_and_then (sorted_equality scope.table x) (elaborate_term scope t)) (elaborate_term scope s) f e in
      let q = step_there (sorted_equality scope.table p.0) (elaborate_term scope t) f p.2 in
      and_true (is_proper_term s) (is_proper_term t) (term_proper s p.0 p.1) (term_proper t q.0 q.1)

abbrev FormProper : FormSyntax → Type 0
FormProper s = (scope : TextScope) (n m : ℕ) (f : QFormTree) → elaborate_form s scope n ≡ Some (both f m) → is_proper_form s ≡ true

forms_proper : (all : List FormSyntax) (scope : TextScope) (n m : ℕ) (fs : List QFormTree) → All FormProper all → in_turn (map elaborate_form all) scope n ≡ Some (both fs m) → all_true (map is_proper_form all) ≡ true
forms_proper [] scope n m fs h e = refl
forms_proper (x ∷ xs) scope n m fs h e =
    let p = two_before (elaborate_form x) (in_turn (map elaborate_form xs)) (λ a rest. a ∷ rest) scope n fs m e in
    and_true (is_proper_form x) (all_true (map is_proper_form xs)) (All-head FormProper x xs h scope n p.after p.first p.read_first) (forms_proper xs scope p.after m p.second (All-tail FormProper x xs h) p.read_second)

implication_proper : (a b : FormSyntax) → FormProper a → FormProper b → (scope : TextScope) (n m : ℕ) (f : QFormTree) → and_then view.Implies (elaborate_form a) (elaborate_form b) scope n ≡ Some (both f m) → (is_proper_form a && is_proper_form b) ≡ true
implication_proper a b h k scope n m f e =
    let p = two_before (elaborate_form a) (elaborate_form b) view.Implies scope n f m e in
    and_true (is_proper_form a) (is_proper_form b) (h scope n p.after p.first p.read_first) (k scope p.after m p.second p.read_second)

both_proper : (a b : FormSyntax) → FormProper a → FormProper b → (rows : Bool) (scope : TextScope) (n m : ℕ) (f : QFormTree) → (if rows then None else and_then (λ there back. view.And (there ∷ back ∷ [])) (and_then view.Implies (elaborate_form a) (elaborate_form b)) (and_then view.Implies (elaborate_form b) (elaborate_form a)) scope n) ≡ Some (both f m) → (is_proper_form a && is_proper_form b) ≡ true
both_proper a b h k true scope n m f e = absurd (cc)
both_proper a b h k false scope n m f e =
    let p = two_before (and_then view.Implies (elaborate_form a) (elaborate_form b)) (and_then view.Implies (elaborate_form b) (elaborate_form a)) (λ there back. view.And (there ∷ back ∷ [])) scope n f m e in
    implication_proper a b h k scope n p.after p.first p.read_first

-- what is known of a binder whose variable is there
binder_at : (scope : TextScope) (n : ℕ) (b : BinderSyntax) (v : Var) (free : Bool) → is_free scope b.name ≡ free → (if free then option_map (numbered_var n) (binder_sort scope.table b.sort) else None) ≡ Some v → is_proper_binder b ≡ true
binder_at scope n b v true is e =
    let p = value_there (numbered_var n) (binder_sort scope.table b.sort) v e in
    and_true (not (is_reserved b.name)) (not (is_reserved b.sort) || bytes_eq b.sort (codes "nat")) (ap not (free_is scope b.name is)) (found_at (is_reserved b.sort) (bytes_eq b.sort (codes "nat")) (sort_named scope.table b.sort) p.0 p.1)
binder_at scope n b v false is e = absurd (cc)

nested_proper : (q : Quantifier) (bs : List BinderSyntax) (a : FormSyntax) → FormProper a → (scope : TextScope) (n m : ℕ) (f : QFormTree) → nested q bs (elaborate_form a) scope n ≡ Some (both f m) → (all_true (map is_proper_binder bs) ≡ true) × (is_proper_form a ≡ true)
nested_proper q [] a h scope n m f e = (refl, h scope n m f e)
nested_proper q (b ∷ bs) a h scope n m f e =
    let rest = nested q bs (elaborate_form a) in
    let p = step_there (λ v. mapped (quantifier_tree q b.name v) rest (with_name scope b.name v) (n + 1)) (binder_var scope n b) (both f m) (sym (bound_is q b rest scope n) ∙ e) in
    let r = read_before (quantifier_tree q b.name p.0) (rest (with_name scope b.name p.0) (n + 1)) f m p.2 in
    let here = binder_at scope n b p.0 (is_free scope b.name) refl p.1 in
    let inner = nested_proper q bs a h (with_name scope b.name p.0) (n + 1) m r.value r.is in
    (and_true (is_proper_binder b) (all_true (map is_proper_binder bs)) here inner.0, inner.1)

quantified_proper : (q : Quantifier) (bs : List BinderSyntax) (a : FormSyntax) → FormProper a → (scope : TextScope) (n m : ℕ) (f : QFormTree) → quantified_reading q bs (elaborate_form a) scope n ≡ Some (both f m) → (are_proper_binders bs && is_proper_form a) ≡ true
quantified_proper q [] a h scope n m f e = absurd (cc)
quantified_proper q (b ∷ bs) a h scope n m f e =
    let p = nested_proper q (b ∷ bs) a h scope n m f e in
    and_true (are_proper_binders (b ∷ bs)) (is_proper_form a) p.0 p.1

abbrev at_scope : TextScope → ℕ → Reading QFormTree → Option (QFormTree × ℕ)
at_scope scope n r = r scope n

-- what stands for a formula is proper
pub form_proper : (s : FormSyntax) → FormProper s
form_proper = by_form_syntax FormProper record {
  at_true = λ scope n m f e. fold-True proper_form_step;
  at_false = λ scope n m f e. fold-False proper_form_step;
  at_atom = λ r args scope n m f e. fold-Atom proper_form_step r args ∙ atom_proper scope r args f (steady_before (atom_tree scope r (map (elaborate_term scope) args)) n f m (sym (ap (at_scope scope n) (fold-Atom elaborate_form_step r args)) ∙ e));
  at_equal = λ s t scope n m f e. fold-Equal proper_form_step s t ∙ equality_proper scope s t f (steady_before (equality_tree scope (elaborate_term scope s) (elaborate_term scope t)) n f m (sym (ap (at_scope scope n) (fold-Equal elaborate_form_step s t)) ∙ e));
  at_not = λ a h scope n m f e. let p = read_before view.Not (elaborate_form a scope n) f m (sym (ap (at_scope scope n) (fold-Not elaborate_form_step a)) ∙ e) in fold-Not proper_form_step a ∙ h scope n m p.value p.is;
  at_and = λ all h scope n m f e. let p = read_before view.And (in_turn (map elaborate_form all) scope n) f m (sym (ap (at_scope scope n) (fold-And elaborate_form_step all)) ∙ e) in fold-And proper_form_step all ∙ forms_proper all scope n m p.value h p.is;
  at_or = λ all h scope n m f e. let p = read_before view.Or (in_turn (map elaborate_form all) scope n) f m (sym (ap (at_scope scope n) (fold-Or elaborate_form_step all)) ∙ e) in fold-Or proper_form_step all ∙ forms_proper all scope n m p.value h p.is;
  at_implies = λ a b h k scope n m f e. fold-Implies proper_form_step a b ∙ implication_proper a b h k scope n m f (sym (ap (at_scope scope n) (fold-Implies elaborate_form_step a b)) ∙ e);
  at_both_ways = λ a b h k scope n m f e. fold-BothWays proper_form_step a b ∙ both_proper a b h k scope.rows scope n m f (sym (ap (at_scope scope n) (fold-BothWays elaborate_form_step a b)) ∙ e);
  at_quantified = λ q bs a h scope n m f e. fold-Quantified proper_form_step q bs a ∙ quantified_proper q bs a h scope n m f (sym (ap (at_scope scope n) (fold-Quantified elaborate_form_step q bs a)) ∙ e);
}

-- what stands for an output is proper
module _ (scope : TextScope) where
  abbrev OutProper : OutSyntax → Type 0
  OutProper o = (u : OutTree) → elaborate_out scope o ≡ Some u → is_proper_out o ≡ true

  choice_proper : (f : FormSyntax) (u v : OutSyntax) → OutProper u → OutProper v → (o : OutTree) → choice_tree scope.table (elaborate_plain scope f) (elaborate_out scope u) (elaborate_out scope v) ≡ Some o → (is_proper_form f && (is_proper_out u && is_proper_out v)) ≡ true
  choice_proper f u v h k o e =
      let p = step_there (λ x. option_and_then (λ y. option_and_then (sorted_choice scope.table x y) (elaborate_out scope v)) (elaborate_out scope u)) (elaborate_plain scope f) o e in
      let q = step_there (λ y. option_and_then (sorted_choice scope.table p.0 y) (elaborate_out scope v)) (elaborate_out scope u) o p.2 in
      let r = step_there (sorted_choice scope.table p.0 q.0) (elaborate_out scope v) o q.2 in
      let read = step_there (λ r. unquantified r.0) (elaborate_form f scope 1) p.0 p.1 in
      and_true (is_proper_form f) (is_proper_out u && is_proper_out v) (form_proper f scope 1 (read.0).1 (read.0).0 read.1) (and_true (is_proper_out u) (is_proper_out v) (h q.0 q.1) (k r.0 r.1))

  pub out_proper : (o : OutSyntax) → OutProper o
  out_proper = by_out_syntax OutProper
      (λ t u e. let p = value_there out.Give (elaborate_term scope t) u (sym (fold-Give (elaborate_out_step scope) t) ∙ e) in fold-Give proper_out_step t ∙ term_proper scope t p.0 p.1)
      (λ f u v h k o e. fold-If proper_out_step f u v ∙ choice_proper f u v h k o (sym (fold-If (elaborate_out_step scope) f u v) ∙ e))
