-- What is counted on the syntax tree of a term is what its term has.
use Rattle.std.proofs.Common.{◌≡◌, ℕ, zero, suc, ◌+◌, sum, Bool, true, false, List, [], ◌∷◌, Option, None, Some, All, map, nat_lt, if◌then◌else◌, refl, sym, ◌∙◌, ap, arith}
use Rattle.std.specs.Prelude.{codes}
use Rattle.std.specs.Option.{option_and_then, option_map}
use Rattle.std.proofs.lemmas.List.Elements.{All-head, All-tail}
use Rattle.syn_term.specs.declared.sorts.SymId.{SymId}
use Rattle.syn_term.specs.declared.sorts.Sort.{Sort}
use Rattle.syn_term.specs.declared.sorts.Var.{Var}
use Rattle.syn_term.specs.Symbols.{SymbolTable}
use Rattle.syn_term.specs.Terms.{TermTree, application, variable_tree, nodes, nodes_step, depth_of, depth_step, greatest, nowhere}
use Rattle.syn_term.proofs.Trees.{nodes-App, depth_of-App, fold-Var}
use Rattle.syn_form.specs.declared.syntax.HeadName.{HeadName}
use Rattle.syn_form.specs.declared.syntax.TermSyntax.{TermSyntax}
use Rattle.syn_form.specs.declared.syntax.TermSyntax.TheVariants as term
use Rattle.syn_form.specs.declared.syntax.TermSyntax.TheViews as view
use Rattle.syn_form.specs.Sorts.{makes_term}
use Rattle.syn_form.specs.Elaboration.{sorted_application, symbol_named, successors, written_sort, head_symbol, head_var, alone_tree, applied_tree, elaborate_term, elaborate_term_step}
use Rattle.syn_form.specs.Lists.{all_there}
use Rattle.syn_form.specs.Scopes.{TextScope}
use Rattle.syn_expr.specs.Limits.{term_cost, term_cost_step, term_levels, term_levels_step}
use Rattle.syn_expr.proofs.TermSyntaxes.{fold-Number, fold-RowVar, fold-Alone, fold-Applied, by_term_syntax}

-- what is there after a step was there before it
pub step_there : {A B : Type 0} (g : A → Option B) (o : Option A) (y : B) → option_and_then g o ≡ Some y → (x : A) × (o ≡ Some x) × (g x ≡ Some y)
step_there g None y e = absurd (cc)
step_there g (Some x) y e = (x, refl, e)

pub value_there : {A B : Type 0} (g : A → B) (o : Option A) (y : B) → option_map g o ≡ Some y → (x : A) × (o ≡ Some x) × (g x ≡ y)
value_there g None y e = absurd (cc)
value_there g (Some x) y e = let k : g x ≡ y = cc in (x, refl, k)

chosen : {A : Type 0} (b : Bool) (x y : A) → (if b then Some x else None) ≡ Some y → x ≡ y
chosen true x y e = cc
chosen false x y e = absurd (cc)

module _ (table : SymbolTable) (args : List TermTree) where
  -- a symbol with arguments is its application
  pub symbol_applied : (o : Option SymId) (t : TermTree) → option_and_then (sorted_application table args) o ≡ Some t → (f : SymId) × (application f args ≡ t)
  symbol_applied o t e =
      let p = step_there (sorted_application table args) o t e in
      (p.0, chosen (makes_term table p.0 args) (application p.0 args) t p.2)

-- the values of all have the counts that their items tell
pub all_counted : {X Y : Type 0} (f : X → Option Y) (count : X → ℕ) (measure : Y → ℕ) (xs : List X) (ys : List Y) → All (λ x. (y : Y) → f x ≡ Some y → measure y ≡ count x) xs → all_there (map f xs) ≡ Some ys → map measure ys ≡ map count xs
all_counted f count measure [] ys h e = let k : [] ≡ ys = cc in ap (map measure) (sym k)
all_counted {X} {Y} f count measure (x ∷ xs) ys h e =
    let p = step_there (λ a. option_map (λ rest. a ∷ rest) (all_there (map f xs))) (f x) ys e in
    let q = value_there (λ rest. p.0 ∷ rest) (all_there (map f xs)) ys p.2 in
    let here : measure p.0 ≡ count x = All-head (λ (z : X). (y : Y) → f z ≡ Some y → measure y ≡ count z) x xs h p.0 p.1 in
    let there : map measure q.0 ≡ map count xs = all_counted f count measure xs q.0 (All-tail (λ (z : X). (y : Y) → f z ≡ Some y → measure y ≡ count z) x xs h) q.1 in
    ap (map measure) (sym q.2) ∙ (ap (λ (n : ℕ). n ∷ map measure q.0) here ∙ ap (λ (ns : List ℕ). count x ∷ ns) there)

-- a number of a tree, from those of the arguments, and the count that a syntax tree tells of it
pub record Counting (measure : TermTree → ℕ) (count : TermSyntax → ℕ) : Type 0 where
  pub whole : List ℕ → ℕ
  pub none : whole [] ≡ 0
  pub one : (n : ℕ) → whole (n ∷ []) ≡ n
  pub variable : (v : Var) → measure (variable_tree v) ≡ 1
  pub applying : (f : SymId) (ts : List TermTree) → measure (application f ts) ≡ 1 + whole (map measure ts)
  pub number : (k : ℕ) → count (term.Number k) ≡ k + 1
  pub row : (k : ℕ) (s : Option (List ℕ)) → count (term.RowVar k s) ≡ 1
  pub alone : (h : HeadName) → count (term.Alone h) ≡ 1
  pub applied : (h : HeadName) (args : List TermSyntax) → count (view.Applied h args) ≡ 1 + whole (map count args)

module _ (scope : TextScope) (measure : TermTree → ℕ) (count : TermSyntax → ℕ) (c : Counting measure count) where
  abbrev IsCounted : TermSyntax → Type 0
  IsCounted s = (t : TermTree) → elaborate_term scope s ≡ Some t → measure t ≡ count s

  leaf : (o : Option SymId) (t : TermTree) → option_and_then (sorted_application scope.table []) o ≡ Some t → measure t ≡ 1
  leaf o t e = let p = symbol_applied scope.table [] o t e in let n = c.none in let m = c.applying p.0 [] in ap measure (sym p.1) ∙ omega arith

  so_many : (k : ℕ) (t : TermTree) → successors scope.table k ≡ Some t → measure t ≡ k + 1
  so_many zero t e = leaf (symbol_named scope.table (codes "0")) t e
  so_many (suc k) t e =
      let p = step_there (λ u. option_and_then (sorted_application scope.table (u ∷ [])) (symbol_named scope.table (codes "s"))) (successors scope.table k) t e in
      let q = symbol_applied scope.table (p.0 ∷ []) (symbol_named scope.table (codes "s")) t p.2 in
      let m : measure (application q.0 (p.0 ∷ [])) ≡ 1 + c.whole (measure p.0 ∷ []) = c.applying q.0 (p.0 ∷ []) in
      let n = c.one (measure p.0) in
      let h = so_many k p.0 p.1 in ap measure (sym q.1) ∙ omega arith

  number_at : (k : ℕ) (b : Bool) (t : TermTree) → (if b then None else successors scope.table k) ≡ Some t → measure t ≡ k + 1
  number_at k true t e = absurd (cc)
  number_at k false t e = so_many k t e

  row_at : (b : Bool) (k : ℕ) (o : Option Sort) (t : TermTree) → (if b then option_map (λ s. variable_tree (record { number = k; sort = s })) o else None) ≡ Some t → measure t ≡ 1
  row_at true k o t e = let p = value_there (λ s. variable_tree (record { number = k; sort = s })) o t e in ap measure (sym p.2) ∙ c.variable (record { number = k; sort = p.0 })
  row_at false k o t e = absurd (cc)

  alone_at : (h : HeadName) (o : Option Var) (t : TermTree) → alone_tree scope h o ≡ Some t → measure t ≡ 1
  alone_at h None t e = leaf (head_symbol scope h) t e
  alone_at h (Some v) t e = let k : variable_tree v ≡ t = cc in ap measure (sym k) ∙ c.variable v

  applied_at : (h : HeadName) (xs : List TermSyntax) (t : TermTree) → All IsCounted xs → applied_tree scope h (map (elaborate_term scope) xs) ≡ Some t → measure t ≡ 1 + c.whole (map count xs)
  applied_at h [] t all e = absurd (cc)
  applied_at h (x ∷ xs) t all e =
      let p = step_there (λ args. option_and_then (sorted_application scope.table args) (head_symbol scope h)) (all_there (map (elaborate_term scope) (x ∷ xs))) t e in
      let q = symbol_applied scope.table p.0 (head_symbol scope h) t p.2 in
      ap measure (sym q.1) ∙ (c.applying q.0 p.0 ∙ ap (λ (ns : List ℕ). 1 + c.whole ns) (all_counted (elaborate_term scope) count measure (x ∷ xs) p.0 all p.1))

  pub counted : (s : TermSyntax) → IsCounted s
  counted = by_term_syntax IsCounted
      (λ k t e. number_at k (nat_lt 1000 k) t (sym (fold-Number (elaborate_term_step scope) k) ∙ e) ∙ sym (c.number k))
      (λ k s t e. row_at scope.rows k (written_sort scope.table s) t (sym (fold-RowVar (elaborate_term_step scope) k s) ∙ e) ∙ sym (c.row k s))
      (λ h t e. alone_at h (head_var scope h) t (sym (fold-Alone (elaborate_term_step scope) h) ∙ e) ∙ sym (c.alone h))
      (λ h args all t e. applied_at h args t all (sym (fold-Applied (elaborate_term_step scope) h args) ∙ e) ∙ sym (c.applied h args))

counting_nodes : Counting nodes term_cost
counting_nodes = record {
  whole = sum;
  none = refl;
  one = λ n. omega arith;
  variable = λ v. fold-Var nodes_step nowhere v;
  applying = λ f ts. nodes-App nowhere f ts;
  number = λ k. fold-Number term_cost_step k;
  row = λ k s. fold-RowVar term_cost_step k s;
  alone = λ h. fold-Alone term_cost_step h;
  applied = λ h args. fold-Applied term_cost_step h args;
}

counting_levels : Counting depth_of term_levels
counting_levels = record {
  whole = greatest;
  none = refl;
  one = λ n. omega arith;
  variable = λ v. fold-Var depth_step nowhere v;
  applying = λ f ts. depth_of-App nowhere f ts;
  number = λ k. fold-Number term_levels_step k;
  row = λ k s. fold-RowVar term_levels_step k s;
  alone = λ h. fold-Alone term_levels_step h;
  applied = λ h args. fold-Applied term_levels_step h args;
}

-- the term has the nodes, and the depth, that its syntax tree tells
pub term_nodes_are : (scope : TextScope) (s : TermSyntax) (t : TermTree) → elaborate_term scope s ≡ Some t → nodes t ≡ term_cost s
term_nodes_are scope s t e = counted scope nodes term_cost counting_nodes s t e

pub term_depth_is : (scope : TextScope) (s : TermSyntax) (t : TermTree) → elaborate_term scope s ≡ Some t → depth_of t ≡ term_levels s
term_depth_is scope s t e = counted scope depth_of term_levels counting_levels s t e
