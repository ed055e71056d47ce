-- The laws of putting terms in place of variables.
use Rattle.std.proofs.Common.{◌≡◌, ◌⊎◌, List, [], ◌∷◌, ◌++◌, map, refl, sym, ◌∙◌, ap, All, Contains}
use Rattle.std.specs.List.{flat_map}
use Rattle.std.proofs.lemmas.List.Elements.{All-head, All-tail, Contains-append_left, Contains-append_right, Contains-append_cases}
use mathlib.Core.Logic.{inl, inr}
use Rattle.syn_term.specs.declared.sorts.SymId.{SymId}
use Rattle.syn_term.specs.declared.sorts.Var.{Var}
use Rattle.syn_term.specs.declared.term.Place.{Place}
use Rattle.syn_term.specs.declared.term.Node.{Node}
use Rattle.syn_term.specs.declared.term.Node.TheVariants as node
use Rattle.syn_term.specs.declared.term.Node.TheViews as view
use Rattle.syn_term.specs.Terms.{TermTree, bare, bare_step, application, nowhere, variable_tree}
use Rattle.syn_term.proofs.Trees.{fold-App, fold-Var, fold-bare, bare-App}
use Rattle.syn_form.specs.Trees.{term_vars, term_vars_step}
use Rattle.syn_form.specs.Substitutions.{Substitution, image, substituted, substituted_step}
use Rattle.syn_form.proofs.BareVars.{term_vars_bare}
use Rattle.syn_form.proofs.Lists.{none_in_nil, Contains-head, Contains-along, all_of-map}
use Rattle.syn_form.proofs.TermNodes.{by_term_cases}
use Rattle.syn_unify.specs.inner.Changes.{under, under_step}
use Rattle.syn_unify.specs.inner.Solutions.{IsAfter}

-- two functions that do the same to each item do the same to the list
pub each_same : {A B : Type 0} (f g : A → B) (xs : List A) → All (λ x. f x ≡ g x) xs → map f xs ≡ map g xs
each_same f g [] h = refl
each_same {A} f g (x ∷ xs) h =
    let e = All-head (λ (y : A). f y ≡ g y) x xs h in
    let k = each_same f g xs (All-tail (λ (y : A). f y ≡ g y) x xs h) in cc

pub map_twice : {A B C : Type 0} (f : B → C) (g : A → B) (xs : List A) → map f (map g xs) ≡ map (λ x. f (g x)) xs
map_twice f g [] = refl
map_twice f g (x ∷ xs) = let k = map_twice f g xs in cc

pub bare_variable : (p : Place) (v : Var) → bare (node.Var p v) ≡ variable_tree v
bare_variable p v = fold-Var bare_step p v

pub bare_bare : (t : TermTree) → bare (bare t) ≡ bare t
bare_bare = fold-bare bare_step (λ p v. refl) (λ p f xs. refl)

pub vars_variable : (p : Place) (v : Var) → term_vars (node.Var p v) ≡ v ∷ []
vars_variable p v = fold-Var term_vars_step p v

pub vars_symbol : (p : Place) (f : SymId) (args : List Node) → term_vars (view.App p f args) ≡ flat_map term_vars args
vars_symbol p f args = fold-App term_vars_step p f args ∙ all_of-map term_vars args

module _ (θ : Var → TermTree) where
  pub under_variable : (p : Place) (v : Var) → under θ (node.Var p v) ≡ bare (θ v)
  under_variable p v = fold-Var (under_step θ) p v

  pub under_symbol : (p : Place) (f : SymId) (args : List Node) → under θ (view.App p f args) ≡ application f (map (under θ) args)
  under_symbol p f args = fold-App (under_step θ) p f args

  -- places make no difference
  pub under_bare : (t : TermTree) → under θ (bare t) ≡ under θ t
  under_bare = fold-bare (under_step θ) (λ p v. refl) (λ p f xs. refl)

  pub under_same : (s t : TermTree) → bare s ≡ bare t → under θ s ≡ under θ t
  under_same s t e = sym (under_bare s) ∙ (ap (under θ) e ∙ under_bare t)

  -- what comes of it has no places
  pub bare_under : (t : TermTree) → bare (under θ t) ≡ under θ t
  bare_under = by_term_cases (λ t. bare (under θ t) ≡ under θ t)
      (λ p v. ap bare (under_variable p v) ∙ (bare_bare (θ v) ∙ sym (under_variable p v)))
      (λ p f args h.
      let e : map bare (map (under θ) args) ≡ map (under θ) args = map_twice bare (under θ) args ∙ each_same (λ x. bare (under θ x)) (under θ) args h in
      ap bare (under_symbol p f args) ∙ (bare-App nowhere f (map (under θ) args) ∙ (ap (application f) e ∙ sym (under_symbol p f args))))

-- each variable left as it is
pub under_itself : (t : TermTree) → under variable_tree t ≡ bare t
under_itself = by_term_cases (λ t. under variable_tree t ≡ bare t)
    (λ p v. under_variable variable_tree p v ∙ (bare_variable nowhere v ∙ sym (bare_variable p v)))
    (λ p f args h. under_symbol variable_tree p f args ∙ (ap (application f) (each_same (under variable_tree) bare args h) ∙ sym (bare-App p f args)))

module _ (τ σ : Var → TermTree) where
  abbrev both : Var → TermTree
  both v = under τ (σ v)

  -- one after the other
  pub under_twice : (t : TermTree) → under τ (under σ t) ≡ under both t
  under_twice = by_term_cases (λ t. under τ (under σ t) ≡ under both t)
      (λ p v. ap (under τ) (under_variable σ p v) ∙ (under_bare τ (σ v) ∙ (sym (bare_under τ (σ v)) ∙ sym (under_variable both p v))))
      (λ p f args h.
      let e : map (under τ) (map (under σ) args) ≡ map (under both) args = map_twice (under τ) (under σ) args ∙ each_same (λ x. under τ (under σ x)) (under both) args h in
      ap (under τ) (under_symbol σ p f args) ∙ (under_symbol τ nowhere f (map (under σ) args) ∙ (ap (application f) e ∙ sym (under_symbol both p f args))))

-- the substitution of the definitions is this one
pub substituted_under : (σ : Substitution) (t : TermTree) → bare (substituted σ t) ≡ under (image σ) t
substituted_under σ = by_term_cases (λ t. bare (substituted σ t) ≡ under (image σ) t)
    (λ p v. ap bare (fold-Var (substituted_step σ) p v) ∙ sym (under_variable (image σ) p v))
    (λ p f args h.
    let e : map bare (map (substituted σ) args) ≡ map (under (image σ)) args = map_twice bare (substituted σ) args ∙ each_same (λ x. bare (substituted σ x)) (under (image σ)) args h in
    ap bare (fold-App (substituted_step σ) p f args) ∙ (bare-App nowhere f (map (substituted σ) args) ∙ (ap (application f) e ∙ sym (under_symbol (image σ) p f args))))

module _ (θ ρ : Var → TermTree) where
  abbrev AgreeOn : List Var → Type 0
  AgreeOn vars = (v : Var) → Contains vars v → bare (θ v) ≡ bare (ρ v)

  abbrev SameWhere : TermTree → Type 0
  SameWhere t = AgreeOn (term_vars t) → under θ t ≡ under ρ t

  args_agree : (args : List Node) → All SameWhere args → AgreeOn (flat_map term_vars args) → map (under θ) args ≡ map (under ρ) args
  args_agree [] h a = refl
  args_agree (x ∷ xs) h a =
      let e : under θ x ≡ under ρ x = All-head SameWhere x xs h (λ v c. a v (Contains-append_left (term_vars x) (flat_map term_vars xs) v c)) in
      let k = args_agree xs (All-tail SameWhere x xs h) (λ v c. a v (Contains-append_right (term_vars x) (flat_map term_vars xs) v c)) in cc

  -- what comes of a term is one tree where the functions agree on its variables
  pub under_agree : (t : TermTree) → SameWhere t
  under_agree = by_term_cases SameWhere
      (λ p v a. under_variable θ p v ∙ (a v (Contains-along (v ∷ []) (term_vars (node.Var p v)) v (sym (vars_variable p v)) (Contains-head v [])) ∙ sym (under_variable ρ p v)))
      (λ p f args h a.
      let e = args_agree args h (λ v c. a v (Contains-along (flat_map term_vars args) (term_vars (view.App p f args)) v (sym (vars_symbol p f args)) c)) in
      under_symbol θ p f args ∙ (ap (application f) e ∙ sym (under_symbol ρ p f args)))

-- where τ is σ and then τ, τ makes one tree of a term and of what σ makes of it
pub after_under : (τ σ : Var → TermTree) → IsAfter τ σ → (t : TermTree) → under τ (under σ t) ≡ under τ t
after_under τ σ h t = under_twice τ σ t ∙ sym (under_agree τ (λ v. under τ (σ v)) t (λ v c. h v ∙ sym (bare_under τ (σ v))))

module _ (θ : Var → TermTree) (w : Var) where
  -- the variable comes of one of these
  abbrev ComesOf : List Var → Type 0
  ComesOf vars = (v : Var) × Contains vars v × Contains (term_vars (θ v)) w

  abbrev Comes : TermTree → Type 0
  Comes t = Contains (term_vars (under θ t)) w → ComesOf (term_vars t)

  comes_along : (xs ys : List Var) → xs ≡ ys → ComesOf xs → ComesOf ys
  comes_along xs ys e h = (h.0, Contains-along xs ys h.0 e h.1, h.2)

  comes_left : (xs ys : List Var) → ComesOf xs → ComesOf (xs ++ ys)
  comes_left xs ys h = (h.0, Contains-append_left xs ys h.0 h.1, h.2)

  comes_right : (xs ys : List Var) → ComesOf ys → ComesOf (xs ++ ys)
  comes_right xs ys h = (h.0, Contains-append_right xs ys h.0 h.1, h.2)

  args_come : (args : List Node) → All Comes args → Contains (flat_map term_vars (map (under θ) args)) w → ComesOf (flat_map term_vars args)
  args_come [] h c = absurd (none_in_nil w c)
  args_come (x ∷ xs) h c = go (Contains-append_cases (term_vars (under θ x)) (flat_map term_vars (map (under θ) xs)) w c) (args_come xs (All-tail Comes x xs h))
    where
      go : Contains (term_vars (under θ x)) w ⊎ Contains (flat_map term_vars (map (under θ) xs)) w → (Contains (flat_map term_vars (map (under θ) xs)) w → ComesOf (flat_map term_vars xs)) → ComesOf (flat_map term_vars (x ∷ xs))
      go (inl d) later = comes_left (term_vars x) (flat_map term_vars xs) (All-head Comes x xs h d)
      go (inr d) later = comes_right (term_vars x) (flat_map term_vars xs) (later d)

  -- each variable of what comes of a term comes of one of the term's
  pub under_vars : (t : TermTree) → Comes t
  under_vars = by_term_cases Comes
      (λ p v c. (v, Contains-along (v ∷ []) (term_vars (node.Var p v)) v (sym (vars_variable p v)) (Contains-head v []), Contains-along (term_vars (under θ (node.Var p v))) (term_vars (θ v)) w (ap term_vars (under_variable θ p v) ∙ term_vars_bare (θ v)) c))
      (λ p f args h c.
      let d = Contains-along (term_vars (under θ (view.App p f args))) (flat_map term_vars (map (under θ) args)) w (ap term_vars (under_symbol θ p f args) ∙ vars_symbol nowhere f (map (under θ) args)) c in
      comes_along (flat_map term_vars args) (term_vars (view.App p f args)) (sym (vars_symbol p f args)) (args_come args h d))
