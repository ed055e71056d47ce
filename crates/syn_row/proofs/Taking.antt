-- Substitutions that are given by a function, what a substitution makes of a variable, and what a term taken back tells.
use Rattle.std.proofs.Common.{◌≡◌, ◌⊎◌, inl, inr, Bool, true, false, cond, List, [], ◌∷◌, All, Contains, Some, map, refl, sym, ◌∙◌, ap, subst, rules}
use Rattle.std.specs.List.{flat_map}
use Rattle.std.proofs.lemmas.List.Elements.{All-nil, All-cons, All-head, All-tail, All-contains}
use Rattle.syn_term.specs.declared.sorts.SymId.{SymId}
use Rattle.syn_term.specs.declared.sorts.Var.{Var}
use Rattle.syn_term.specs.declared.term.Place.{Place}
use Rattle.syn_term.specs.declared.term.Node.{Node, out-Node}
use Rattle.syn_term.specs.declared.term.Node.TheOpen.{Node-F}
use Rattle.syn_term.specs.declared.term.Node.TheVariants as node
use Rattle.syn_term.specs.declared.term.Node.TheViews as view
use Rattle.syn_term.specs.declared.term.Node.TheViews.{the_lemmas}
use Rattle.syn_term.specs.Symbols.{SymbolTable, IsSort}
use Rattle.syn_term.specs.Terms.{TermTree, application, bare, bare_step, nowhere, sort_of, variable_tree}
use Rattle.syn_term.proofs.Trees.{bare_to_args, fold-App, fold-Var}
use Rattle.syn_form.specs.Plain.{IsSorted, SortedNode}
use Rattle.syn_form.specs.Substitutions.{Binding, KeepsSorts, Substitution, image, same_var, substituted}
use Rattle.syn_form.specs.Trees.{term_vars}
use Rattle.syn_form.proofs.Lists.{Contains-along, Contains-cons_cases, Contains-flat_map, Contains-head, Contains-tail, none_in_nil}
use Rattle.syn_form.proofs.Sorting.{sort_of-variable}
use Rattle.syn_form.proofs.TermNodes.{by_term_cases, every-Var}
use Rattle.syn_row.proofs.Changes.{map_after}
use Rattle.syn_row.proofs.Renaming.{renaming_by, substituted-App}
use Rattle.syn_row.proofs.SameVars.{same_var_not, same_var_to}
use Rattle.syn_row.proofs.Agreeing.{twice-Var, vars-App, vars-Var}

-- the substitution that gives each of these variables what a function gives
abbrev pub taking : (Var → TermTree) → List Var → Substitution
taking θ vars = map (λ v. record { var = v; term = θ v }) vars

pub image_taking : (θ : Var → TermTree) (vars : List Var) (v : Var) → Contains vars v → image (taking θ vars) v ≡ θ v
image_taking θ [] v c = absurd (none_in_nil v c)
image_taking θ (u ∷ us) v c = go (same_var u v) refl (Contains-cons_cases u us v c) (image_taking θ us v)
  where
    go : (b : Bool) → same_var u v ≡ b → (u ≡ v) ⊎ Contains us v → (Contains us v → image (taking θ us) v ≡ θ v) → cond b (θ u) (image (taking θ us) v) ≡ θ v
    go true e d h = ap θ (same_var_to u v e)
    go false e (inl k) h = absurd (same_var_not u v e k)
    go false e (inr k) h = h k

-- what a variable becomes by a renaming that is given so: a variable in any case
abbrev pub renamed_in : (Var → Var) → List Var → Var → Var
renamed_in to [] v = v
renamed_in to (u ∷ us) v = cond (same_var u v) (to u) (renamed_in to us v)

pub image_renamed : (to : Var → Var) (vars : List Var) (v : Var) → image (renaming_by to vars) v ≡ variable_tree (renamed_in to vars v)
image_renamed to [] v = refl
image_renamed to (u ∷ us) v = go (same_var u v) (image_renamed to us v)
  where
    go : (b : Bool) → image (renaming_by to us) v ≡ variable_tree (renamed_in to us v) → cond b (variable_tree (to u)) (image (renaming_by to us) v) ≡ variable_tree (cond b (to u) (renamed_in to us v))
    go true h = refl
    go false h = h

module _ (table : SymbolTable) where
  -- sorted, and of this variable's sort
  abbrev pub Fits : Var → TermTree → Type 0
  Fits v t = IsSorted table t × (sort_of table t ≡ Some v.sort)

  pub keeps_taking : (θ : Var → TermTree) (vars : List Var) → All (λ v. Fits v (θ v)) vars → KeepsSorts table (taking θ vars)
  keeps_taking θ [] h = All-nil (λ b. Fits b.var b.term)
  keeps_taking θ (v ∷ vs) h = All-cons (λ b. Fits b.var b.term) (record { var = v; term = θ v }) (taking θ vs) (All-head (λ w. Fits w (θ w)) v vs h) (keeps_taking θ vs (All-tail (λ w. Fits w (θ w)) v vs h))

  -- what a variable becomes has its sort
  pub image_sort : (σ : Substitution) (v : Var) → KeepsSorts table σ → sort_of table (image σ v) ≡ Some v.sort
  image_sort [] v h = sort_of-variable table nowhere v
  image_sort (b ∷ bs) v h = go (same_var b.var v) refl (image_sort bs v (All-tail (λ (c : Binding). Fits c.var c.term) b bs h))
    where
      go : (t : Bool) → same_var b.var v ≡ t → sort_of table (image bs v) ≡ Some v.sort → sort_of table (cond t b.term (image bs v)) ≡ Some v.sort
      go true e k = (All-head (λ (c : Binding). Fits c.var c.term) b bs h).1 ∙ ap (λ (w : Var). Some w.sort) (same_var_to b.var v e)
      go false e k = k

  pub image_sorted : (σ : Substitution) (v : Var) → KeepsSorts table σ → IsSort table v.sort → IsSorted table (image σ v)
  image_sorted [] v h s = every-Var (SortedNode table) nowhere v s
  image_sorted (b ∷ bs) v h s = go (same_var b.var v) (image_sorted bs v (All-tail (λ (c : Binding). Fits c.var c.term) b bs h) s)
    where
      go : (t : Bool) → IsSorted table (image bs v) → IsSorted table (cond t b.term (image bs v))
      go true k = (All-head (λ (c : Binding). Fits c.var c.term) b bs h).0
      go false k = k

-- a variable that has no binding stays
pub image_free : (σ : Substitution) (v : Var) → ((b : Binding) → Contains σ b → b.var ≡ v → ⊥) → image σ v ≡ variable_tree v
image_free [] v none = refl
image_free (b ∷ bs) v none = go (same_var b.var v) refl (image_free bs v (λ c d. none c (Contains-tail b bs c d)))
  where
    go : (t : Bool) → same_var b.var v ≡ t → image bs v ≡ variable_tree v → cond t b.term (image bs v) ≡ variable_tree v
    go true e k = absurd (none b (Contains-head b bs) (same_var_to b.var v e))
    go false e k = k

-- what one of these variables becomes has these variables alone, where all bindings' terms do
pub image_among : (vars : List Var) (σ : Substitution) → ((b : Binding) → Contains σ b → (v : Var) → Contains (term_vars b.term) v → Contains vars v) → (v : Var) → Contains vars v → (w : Var) → Contains (term_vars (image σ v)) w → Contains vars w
image_among vars [] own v c w d = at_one (Contains-cons_cases v [] w (Contains-along (term_vars (variable_tree v)) (v ∷ []) w (vars-Var nowhere v) d))
  where
    at_one : (v ≡ w) ⊎ Contains [] w → Contains vars w
    at_one (inl e) = subst (Contains vars) e c
    at_one (inr k) = absurd (none_in_nil w k)
image_among vars (b ∷ bs) own v c w e = go (same_var b.var v) (image_among vars bs (λ x d. own x (Contains-tail b bs x d)) v c w) e
  where
    go : (t : Bool) → (Contains (term_vars (image bs v)) w → Contains vars w) → Contains (term_vars (cond t b.term (image bs v))) w → Contains vars w
    go true h d = own b (Contains-head b bs) w d
    go false h d = h d

-- two functions that make one list of a list do the same to each item
pub each_of : {X Y : Type 0} (f g : X → Y) (xs : List X) → map f xs ≡ map g xs → (x : X) → Contains xs x → f x ≡ g x
each_of f g [] e x c = absurd (none_in_nil x c)
each_of {X} {Y} f g (y ∷ ys) e x c =
    let first : f y ≡ g y = cc in
    let rest : map f ys ≡ map g ys = cc in
    go first (Contains-cons_cases y ys x c) (each_of f g ys rest x)
  where
    go : f y ≡ g y → (y ≡ x) ⊎ Contains ys x → (Contains ys x → f x ≡ g x) → f x ≡ g x
    go first (inl k) h = subst (λ (z : X). f z ≡ g z) k first
    go first (inr k) h = h k

-- two substitutions that leave a term as it is leave each of its variables
pub vars_kept : (σ τ : Substitution) (t : TermTree) → bare (substituted τ (substituted σ t)) ≡ bare t → (w : Var) → Contains (term_vars t) w → bare (substituted τ (image σ w)) ≡ variable_tree w
vars_kept σ τ = by_term_cases (λ t. bare (substituted τ (substituted σ t)) ≡ bare t → (w : Var) → Contains (term_vars t) w → bare (substituted τ (image σ w)) ≡ variable_tree w)
    (λ p v e w c. at_var v w (sym (twice-Var σ τ p v) ∙ (e ∙ fold-Var bare_step p v)) (Contains-cons_cases v [] w (Contains-along (term_vars (node.Var p v)) (v ∷ []) w (vars-Var p v) c)))
    (λ p f args held e w c.
    let made : substituted τ (substituted σ (view.App p f args)) ≡ application f (map (substituted τ) (map (substituted σ) args)) = ap (substituted τ) (substituted-App σ p f args) ∙ substituted-App τ nowhere f (map (substituted σ) args) in
    let parts = (bare_to_args (substituted τ (substituted σ (view.App p f args))) (view.App p f args) nowhere p f f (map (substituted τ) (map (substituted σ) args)) args made refl e).1 in
    let at = Contains-flat_map term_vars args w (Contains-along (term_vars (view.App p f args)) (flat_map term_vars args) w (vars-App p f args) c) in
    All-contains (λ t. bare (substituted τ (substituted σ t)) ≡ bare t → (w : Var) → Contains (term_vars t) w → bare (substituted τ (image σ w)) ≡ variable_tree w) args at.0 held at.1
    (each_of (λ t. bare (substituted τ (substituted σ t))) bare args (sym (ap (map bare) (map_after (substituted σ) (substituted τ) args) ∙ map_after (λ t. substituted τ (substituted σ t)) bare args) ∙ parts) at.0 at.1)
    w at.2)
  where
    at_var : (v w : Var) → bare (substituted τ (image σ v)) ≡ variable_tree v → (v ≡ w) ⊎ Contains [] w → bare (substituted τ (image σ w)) ≡ variable_tree w
    at_var v w e (inl k) = subst (λ (z : Var). bare (substituted τ (image σ z)) ≡ variable_tree z) k e
    at_var v w e (inr k) = absurd (none_in_nil w k)

-- the variable that a term is, or the one that is given
abbrev named_layer : Var → Node-F Node → Var
named_layer w (Node-F.Var p v) = v
named_layer w (Node-F.App p f args) = w

abbrev pub named : TermTree → Var → Var
named t w = named_layer w (out-Node t)

out-Var : (p : Place) (v : Var) → out-Node (node.Var p v) ≡ Node-F.Var p v
out-Var p v = search (rules, the_lemmas)

out-App : (p : Place) (f : SymId) (args : List TermTree) → out-Node (view.App p f args) ≡ Node-F.App p f args
out-App p f args = search (rules, the_lemmas)

no_variable : (f : SymId) (args : List TermTree) (w : Var) → application f args ≡ variable_tree w → ⊥
no_variable f args w e = let k : Node-F.App nowhere f args ≡ Node-F.Var nowhere w = sym (out-App nowhere f args) ∙ (ap out-Node e ∙ out-Var nowhere w) in cc

-- a term that a substitution makes a variable is a variable
pub named_is : (τ : Substitution) (w : Var) (t : TermTree) → bare (substituted τ t) ≡ variable_tree w → bare t ≡ variable_tree (named t w)
named_is τ w = by_term_cases (λ t. bare (substituted τ t) ≡ variable_tree w → bare t ≡ variable_tree (named t w))
    (λ p v e. fold-Var bare_step p v ∙ ap variable_tree (sym (ap (named_layer w) (out-Var p v))))
    (λ p f args held e. absurd (no_variable f (map bare (map (substituted τ) args)) w (sym (ap bare (substituted-App τ p f args) ∙ fold-App bare_step nowhere f (map (substituted τ) args)) ∙ e)))
