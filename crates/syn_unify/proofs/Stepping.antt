-- One step of the code: the tops of a pair, and what becomes of the pair then.
use Rattle.std.proofs.Common.{◌≡◌, ◌+◌, ◌≤◌, ◌<◌, List, [], ◌∷◌, ◌++◌, refl, sym, ◌∙◌, ap, subst, arith, rules, All, Contains, Bool, true, false, None, Some, Option}
use Rattle.std.specs.Option.{unwrap_or}
use mathlib.Core.Logic.{inl, inr}
use Rattle.syn_term.specs.Bank.{Kept, Belongs}
use Rattle.syn_term.specs.declared.sorts.SymId.{SymId}
use Rattle.syn_term.specs.declared.sorts.Var.{Var}
use Rattle.syn_term.specs.declared.term.Place.{Place}
use Rattle.syn_term.specs.declared.term.Node.{Node, out-Node}
use Rattle.syn_term.specs.declared.term.Node.TheOpen.{Node-F}
use Rattle.syn_term.specs.declared.term.Node.TheVariants as node
use Rattle.syn_term.specs.declared.term.Node.TheViews as view
use Rattle.syn_term.specs.declared.term.Node.TheViews.{the_lemmas}
use Rattle.syn_term.specs.Symbols.{SymbolTable}
use Rattle.syn_term.specs.Terms.{TermTree, bare, nodes, variable_tree, sort_of}
use Rattle.syn_form.specs.Plain.{IsSorted}
use Rattle.syn_form.specs.Substitutions.{Substitution, KeepsSorts, image}
use Rattle.syn_form.specs.Trees.{term_vars}
use Rattle.syn_form.proofs.BareVars.{term_vars_bare}
use Rattle.syn_form.proofs.Lists.{Contains-along, Contains-head}
use Rattle.syn_form.proofs.TermNodes.{by_term_cases, out-App}
use Rattle.syn_unify.specs.declared.pairs.Pair.{Pair}
use Rattle.syn_unify.specs.Bindings.{BindsOwn, bound_to}
use Rattle.syn_unify.specs.inner.Changes.{under}
use Rattle.syn_unify.specs.inner.Solutions.{IsAfter, IsFitTerm, IsFree, Meets, Met, NoneSolves, OwnBinding, Parted, Reached, Steps, Stepped, Within, ahead, is_bound, top_of}
use Rattle.syn_unify.proofs.Lookups.{bound_holds, image_is, none_bound}
use Rattle.syn_unify.proofs.Measures.{less_bound, less_done, less_split}
use Rattle.syn_unify.proofs.Sizes.{nodes_bare}
use Rattle.syn_unify.proofs.Sorts.{image_under, sorted_along}
use Rattle.syn_unify.proofs.States.{Says, closed_after, free_under, none_by_clash, none_by_count, none_by_occurs, none_by_sort, pair_fit, step_bind, step_done, step_split, under_within}
use Rattle.syn_unify.proofs.Under.{after_under, bare_under, bare_variable, under_bare, under_variable, vars_variable}

out-Var : (p : Place) (v : Var) → out-Node (node.Var p v) ≡ Node-F.Var p v
out-Var p v = search (rules, the_lemmas)

module _ (σ : Substitution) where
  top_variable : (q : Place) (v : Var) → top_of σ (node.Var q v) ≡ unwrap_or (bound_to σ v) (node.Var q v)
  top_variable q v = let e = out-Var q v in rw e refl

  top_symbol : (q : Place) (f : SymId) (args : List Node) → top_of σ (view.App q f args) ≡ view.App q f args
  top_symbol q f args = let e = out-App q f args in rw e refl

  module _ (Q : TermTree → TermTree → Type 0) (symbol : (q : Place) (f : SymId) (args : List Node) → Q (view.App q f args) (view.App q f args)) (free : (q : Place) (v : Var) → bound_to σ v ≡ None → Q (node.Var q v) (node.Var q v)) (bound : (q : Place) (v : Var) (u : TermTree) → bound_to σ v ≡ Some u → Q (node.Var q v) u) where
    at_variable : (q : Place) (v : Var) (o : Option TermTree) → bound_to σ v ≡ o → Q (node.Var q v) (unwrap_or o (node.Var q v))
    at_variable q v None e = free q v e
    at_variable q v (Some u) e = bound q v u e

    -- a term and its top
    top_cases : (t : TermTree) → Q t (top_of σ t)
    top_cases = by_term_cases (λ t. Q t (top_of σ t))
        (λ q v. subst (Q (node.Var q v)) (sym (top_variable q v)) (at_variable q v (bound_to σ v) refl))
        (λ q f args h. subst (Q (view.App q f args)) (sym (top_symbol q f args)) (symbol q f args))

  abbrev StandsFor : TermTree → TermTree → Type 0
  StandsFor t s = (τ : Var → TermTree) → IsAfter τ (image σ) → under τ s ≡ under τ t

  -- what comes after σ makes one tree of a term and its top
  pub top_stands : (t : TermTree) → StandsFor t (top_of σ t)
  top_stands = top_cases StandsFor (λ q f args τ h. refl) (λ q v e τ h. refl)
      (λ q v u e τ h. let k : image σ v ≡ u = image_is σ v ∙ ap (λ (o : Option TermTree). unwrap_or o (variable_tree v)) e in sym (under_variable τ q v ∙ (h v ∙ ap (under τ) k)))

  pub top_sorted : (table : SymbolTable) → KeepsSorts table σ → (t : TermTree) → IsSorted table t → IsSorted table (top_of σ t)
  top_sorted table keeps = top_cases (λ t s. IsSorted table t → IsSorted table s) (λ q f args h. h) (λ q v e h. h)
      (λ q v u e h. (bound_holds (λ w r. IsSorted table r × (sort_of table r ≡ Some w.sort)) σ v u keeps e).0)

  pub top_belongs : (b : Kept) → BindsOwn b σ → (t : TermTree) → Belongs b t → Belongs b (top_of σ t)
  top_belongs b own = top_cases (λ t s. Belongs b t → Belongs b s) (λ q f args h. h) (λ q v e h. h) (λ q v u e h. bound_holds (λ w r. Belongs b r) σ v u own e)

  pub top_fit : (table : SymbolTable) (vars : List Var) → KeepsSorts table σ → All (OwnBinding vars) σ → (t : TermTree) → IsFitTerm table vars t → IsFitTerm table vars (top_of σ t)
  top_fit table vars keeps own = top_cases (λ t s. IsFitTerm table vars t → IsFitTerm table vars s) (λ q f args h. h) (λ q v e h. h)
      (λ q v u e h. ((bound_holds (λ w r. IsSorted table r × (sort_of table r ≡ Some w.sort)) σ v u keeps e).0, (bound_holds (λ w r. Contains vars w × Within vars r) σ v u own e).1))

  abbrev node_kind : Node-F Node → Bool
  node_kind (Node-F.Var p v) = true
  node_kind (Node-F.App p f args) = false

  symbol_no_variable : (q w : Place) (x : Var) (f : SymId) (args : List Node) → view.App q f args ≡ node.Var w x → ⊥
  symbol_no_variable q w x f args e = let h : Node-F.App q f args ≡ Node-F.Var w x = sym (out-App q f args) ∙ (ap out-Node e ∙ out-Var w x) in let k : false ≡ true = ap node_kind h in absurd (cc)

  variable_is : (q w : Place) (v x : Var) → node.Var q v ≡ node.Var w x → v ≡ x
  variable_is q w v x e = let h : Node-F.Var q v ≡ Node-F.Var w x = sym (out-Var q v) ∙ (ap out-Node e ∙ out-Var w x) in cc

  -- a variable at the top isn't bound
  pub top_free : All (λ b. IsFree σ b.term) σ → (w : Place) (x : Var) (t : TermTree) → top_of σ t ≡ node.Var w x → is_bound σ x ≡ false
  top_free closed w x = top_cases (λ t s. s ≡ node.Var w x → is_bound σ x ≡ false)
      (λ q f args e. absurd (symbol_no_variable q w x f args e))
      (λ q v n e. subst (λ (z : Var). is_bound σ z ≡ false) (variable_is q w v x e) (none_bound σ v n))
      (λ q v u b e. bound_holds (λ z r. IsFree σ r) σ v u closed b x (Contains-along (x ∷ []) (term_vars u) x (sym (ap term_vars e ∙ vars_variable w x)) (Contains-head x [])))

module _ (table : SymbolTable) (σ : Substitution) (left : List Pair) (p : Pair) (a c : TermTree) (q : Place) (x : Var) (is_x : a ≡ node.Var q x) where
  -- the variable a and the term c say what the pair says, in whatever state it stands
  abbrev pub Meeting : List Pair → List Var → Type 0
  Meeting first vars = Reached table first vars σ (left ++ p ∷ []) → Says σ p a c × IsFitTerm table vars a × IsFitTerm table vars c × (is_bound σ x ≡ false) × (nodes (under (image σ) c) ≤ nodes (under (image σ) p.left) + nodes (under (image σ) p.right))

  bare_x : bare a ≡ variable_tree x
  bare_x = ap bare is_x ∙ bare_variable q x

  module _ (first : List Pair) (vars : List Var) (meeting : Meeting first vars) (r : Reached table first vars σ (left ++ p ∷ [])) (u : TermTree) (is_u : bare u ≡ under (image σ) c) where
    says_u : Says σ p a u
    says_u τ h =
        let e : under τ u ≡ under τ c = sym (under_bare τ u) ∙ (ap (under τ) is_u ∙ after_under τ (image σ) h c) in
        ((λ s. ((meeting r).0 τ h).0 s ∙ sym e), (λ k. ((meeting r).0 τ h).1 (k ∙ e)))

    u_vars : term_vars u ≡ term_vars (under (image σ) c)
    u_vars = sym (term_vars_bare u) ∙ ap term_vars is_u

    fit_u : IsFitTerm table vars u
    fit_u = (sorted_along table u (under (image σ) c) (is_u ∙ sym bare_c) (image_under table σ r.keeps c (meeting r).2.0), λ v d. under_within table vars σ r.own c (meeting r).2.1 v (Contains-along (term_vars u) (term_vars (under (image σ) c)) v u_vars d))
      where
        bare_c : bare (under (image σ) c) ≡ under (image σ) c
        bare_c = bare_under (image σ) c

    free_u : IsFree σ u
    free_u v d = free_under σ r.closed c v (Contains-along (term_vars u) (term_vars (under (image σ) c)) v u_vars d)

    x_in : Contains vars x
    x_in = (meeting r).1.1 x (Contains-along (x ∷ []) (term_vars a) x (sym (ap term_vars is_x ∙ vars_variable q x)) (Contains-head x []))

    met_true : (σ' : Substitution) → Met table x u σ σ' true → Steps table σ left p σ' left first vars
    met_true σ' (inl h) = record {
      reached = subst (λ (z : Substitution). Reached table first vars z left) (sym h.1) (step_done table first vars σ left p r a u says_u (bare_x ∙ sym h.0));
      less = subst (λ (z : Substitution). ahead vars z left < ahead vars σ (left ++ p ∷ [])) (sym h.1) (less_done vars σ left p);
    }
    met_true σ' (inr h) = record {
      reached = step_bind table first vars σ left p r a u says_u x bare_x (meeting r).1 fit_u (meeting r).3 free_u h.0 h.1 σ' h.2;
      less = less_bound x u σ σ' h.2 (meeting r).3 vars left p x_in (most (ap nodes is_u) (nodes_bare u) (meeting r).4);
    }
      where
        most : nodes (bare u) ≡ nodes (under (image σ) c) → nodes (bare u) ≡ nodes u → nodes (under (image σ) c) ≤ nodes (under (image σ) p.left) + nodes (under (image σ) p.right) → nodes u ≤ nodes (under (image σ) p.left) + nodes (under (image σ) p.right)
        most e k h = omega arith

    met_false : (σ' : Substitution) → Met table x u σ σ' false → NoneSolves table first
    met_false σ' (inl h) = none_by_sort table first vars σ left p r a u says_u x bare_x h
    met_false σ' (inr h) = none_by_occurs table first vars σ left p r a u says_u x bare_x h.0 h.1

  -- the variable met the term
  pub met_step : ((first : List Pair) (vars : List Var) → Meeting first vars) → (σ' : Substitution) (b : Bool) → Meets table x c σ σ' b → Stepped table σ left p σ' left b
  met_step meeting σ' true h = λ first vars r. met_true first vars (meeting first vars) r h.0 h.1 σ' h.2
  met_step meeting σ' false h = λ first vars r. met_false first vars (meeting first vars) r h.0 h.1 σ' h.2

module _ (table : SymbolTable) (σ : Substitution) (left : List Pair) (p : Pair) (s t : TermTree) (is_s : s ≡ top_of σ p.left) (is_t : t ≡ top_of σ p.right) where
  left_stands : (τ : Var → TermTree) → IsAfter τ (image σ) → under τ s ≡ under τ p.left
  left_stands τ h = ap (under τ) is_s ∙ top_stands σ p.left τ h

  right_stands : (τ : Var → TermTree) → IsAfter τ (image σ) → under τ t ≡ under τ p.right
  right_stands τ h = ap (under τ) is_t ∙ top_stands σ p.right τ h

  -- the tops say what the pair says
  tops_say : Says σ p s t
  tops_say τ h = ((λ e. left_stands τ h ∙ (e ∙ sym (right_stands τ h))), (λ e. sym (left_stands τ h) ∙ (e ∙ right_stands τ h)))

  tops_turned : Says σ p t s
  tops_turned τ h = ((λ e. sym ((tops_say τ h).0 e)), (λ e. (tops_say τ h).1 (sym e)))

  module _ (first : List Pair) (vars : List Var) (r : Reached table first vars σ (left ++ p ∷ [])) where
    fit_s : IsFitTerm table vars s
    fit_s = subst (IsFitTerm table vars) (sym is_s) (top_fit σ table vars r.keeps r.own p.left (pair_fit table first vars σ left p r).0)

    fit_t : IsFitTerm table vars t
    fit_t = subst (IsFitTerm table vars) (sym is_t) (top_fit σ table vars r.keeps r.own p.right (pair_fit table first vars σ left p r).1)

    size_s : nodes (under (image σ) s) ≡ nodes (under (image σ) p.left)
    size_s = ap nodes (left_stands (image σ) (closed_after σ r.closed))

    size_t : nodes (under (image σ) t) ≡ nodes (under (image σ) p.right)
    size_t = ap nodes (right_stands (image σ) (closed_after σ r.closed))

  -- a variable on the left
  pub left_step : (q : Place) (x : Var) → s ≡ node.Var q x → (σ' : Substitution) (b : Bool) → Meets table x t σ σ' b → Stepped table σ left p σ' left b
  left_step q x is_x = met_step table σ left p s t q x is_x (λ first vars r. (tops_say, fit_s first vars r, fit_t first vars r, top_free σ r.closed q x p.left (sym is_s ∙ is_x), size first vars r))
    where
      size : (first : List Pair) (vars : List Var) → Reached table first vars σ (left ++ p ∷ []) → nodes (under (image σ) t) ≤ nodes (under (image σ) p.left) + nodes (under (image σ) p.right)
      size first vars r = let e = size_t first vars r in omega arith

  -- a variable on the right
  pub right_step : (q : Place) (x : Var) → t ≡ node.Var q x → (σ' : Substitution) (b : Bool) → Meets table x s σ σ' b → Stepped table σ left p σ' left b
  right_step q x is_x = met_step table σ left p t s q x is_x (λ first vars r. (tops_turned, fit_t first vars r, fit_s first vars r, top_free σ r.closed q x p.right (sym is_t ∙ is_x), size first vars r))
    where
      size : (first : List Pair) (vars : List Var) → Reached table first vars σ (left ++ p ∷ []) → nodes (under (image σ) s) ≤ nodes (under (image σ) p.left) + nodes (under (image σ) p.right)
      size first vars r = let e = size_s first vars r in omega arith

  -- two symbols
  pub split_step : (q w : Place) (f g : SymId) (xs ys : List Node) → s ≡ view.App q f xs → t ≡ view.App w g ys → (left' : List Pair) (b : Bool) → Parted f xs g ys left left' b → Stepped table σ left p σ left' b
  split_step q w f g xs ys is_f is_g left' true h = λ first vars r. record {
    reached = subst (Reached table first vars σ) (sym h.2) (step_split table first vars σ left p r s t tops_say q w f g xs ys is_f is_g (fit_s first vars r) (fit_t first vars r) h.0 h.1);
    less = subst (λ (z : List Pair). ahead vars σ z < ahead vars σ (left ++ p ∷ [])) (sym h.2) (less_split vars σ left p s t q w f g xs ys (left_stands (image σ) (closed_after σ r.closed)) (right_stands (image σ) (closed_after σ r.closed)) is_f is_g);
  }
  split_step q w f g xs ys is_f is_g left' false (inl h) = λ first vars r. none_by_clash table first vars σ left p r s t tops_say q w f g xs ys is_f is_g h
  split_step q w f g xs ys is_f is_g left' false (inr h) = λ first vars r. none_by_count table first vars σ left p r s t tops_say q w f g xs ys is_f is_g h
