-- What holds of each variable of a tree, from its parts.
use Rattle.std.proofs.Common.{◌≡◌, ◌↔◌, ◌⊎◌, inl, inr, List, [], ◌∷◌, ◌++◌, All, map, get_or, append-nil, refl, sym, ◌∙◌, ap, subst}
use Rattle.std.specs.List.{flat_map}
use Rattle.std.proofs.lemmas.List.Concat.{flat_map-append}
use Rattle.std.proofs.lemmas.List.Elements.{All-append, All-cons, All-head, All-nil, Contains-append_left, Contains-append_right, Contains-get_or}
use Rattle.syn_term.specs.declared.sorts.SymId.{SymId}
use Rattle.syn_term.specs.declared.sorts.Var.{Var}
use Rattle.syn_term.specs.declared.term.Place.{Place}
use Rattle.syn_term.specs.declared.term.Node.TheVariants as node
use Rattle.syn_term.specs.declared.term.Node.TheViews as node_view
use Rattle.syn_term.specs.Terms.{TermTree}
use Rattle.syn_term.proofs.Trees.{fold-App, fold-Var}
use Rattle.syn_form.specs.declared.trees.Form.TheVariants as form
use Rattle.syn_form.specs.declared.trees.Form.TheViews as view
use Rattle.syn_form.specs.declared.trees.Out.TheVariants as out
use Rattle.syn_form.specs.declared.trees.Out.TheViews as out_view
use Rattle.syn_form.specs.Trees.{FormTree, OutTree, all_of, form_terms, form_vars, out_terms, out_vars, term_vars, term_vars_step}
use Rattle.syn_form.proofs.Chains.{IsChain, chain_terms}
use Rattle.syn_form.proofs.Equations.{form_terms-True, form_terms-False, form_terms-Atom, form_terms-Equal, form_terms-Not, form_terms-Implies, out_terms-Give, out_terms-If}
use Rattle.syn_form.proofs.Lists.{All-flat_map, All-within, Contains-flat_map_from, all_of-map}

module _ {Y : Type 0} (P : Y → Type 0) where
  -- a list that has the items that were asked of
  pub all_along : (X : Type 0) (xs ys : List Y) → xs ≡ ys → (X ↔ All P ys) → X ↔ All P xs
  all_along X xs ys is h = ((λ x. subst (All P) (sym is) (h.0 x)), (λ a. h.1 (subst (All P) is a)))

  pub all_of_none : (xs : List Y) → xs ≡ [] → All P xs
  all_of_none xs is = subst (All P) (sym is) (All-nil P)

  pub all_of_one : (y : Y) → P y ↔ All P (y ∷ [])
  all_of_one y = ((λ h. All-cons P y [] h (All-nil P)), (λ a. All-head P y [] a))

  pub all_of_two : (xs ys : List Y) → All P xs × All P ys ↔ All P (xs ++ ys)
  all_of_two xs ys = (
    (λ h. All-append P xs ys h.0 h.1),
    (λ a. (All-within P xs (xs ++ ys) (Contains-append_left xs ys) a, All-within P ys (xs ++ ys) (Contains-append_right xs ys) a)),
  )

  pub all_of_pieces : {X : Type 0} (f : X → List Y) (xs : List X) → All (λ x. All P (f x)) xs ↔ All P (flat_map f xs)
  all_of_pieces f xs = (
    (λ h. All-flat_map P f xs h),
    (λ a k d lt. All-within P (f (get_or xs k d)) (flat_map f xs) (λ y c. Contains-flat_map_from f xs (get_or xs k d) y (Contains-get_or xs k d lt) c) a),
  )

pub application_vars : (t : TermTree) (p : Place) (f : SymId) (args xs : List TermTree) → t ≡ node_view.App p f args → xs ≡ args → term_vars t ≡ flat_map term_vars xs
application_vars t p f args xs is same = ap term_vars is ∙ (fold-App term_vars_step p f args ∙ (all_of-map term_vars args ∙ ap (flat_map term_vars) (sym same)))

parts_vars : (all : List FormTree) → flat_map term_vars (all_of (map form_terms all)) ≡ flat_map form_vars all
parts_vars [] = refl
parts_vars (f ∷ fs) = flat_map-append term_vars (form_terms f) (all_of (map form_terms fs)) ∙ ap (λ (z : List Var). form_vars f ++ z) (parts_vars fs)

pub chain_vars : (f : FormTree) (all xs : List FormTree) → IsChain f all → xs ≡ all → form_vars f ≡ flat_map form_vars xs
chain_vars f all xs is same = ap (flat_map term_vars) (chain_terms f all is) ∙ (parts_vars all ∙ ap (flat_map form_vars) (sym same))

pub equal_vars : (f : FormTree) (s t : TermTree) → f ≡ form.Equal s t → form_vars f ≡ term_vars s ++ term_vars t
equal_vars f s t is = ap form_vars is ∙ (ap (flat_map term_vars) (form_terms-Equal s t) ∙ ap (λ (z : List Var). term_vars s ++ z) (append-nil (term_vars t)))

pub implies_vars : (f a b x y : FormTree) → f ≡ view.Implies a b → x ≡ a → y ≡ b → form_vars f ≡ form_vars x ++ form_vars y
implies_vars f a b x y is is_x is_y =
    let e : form_vars a ++ form_vars b ≡ form_vars x ++ form_vars y = cc in
    ap form_vars is ∙ (ap (flat_map term_vars) (form_terms-Implies a b) ∙ (flat_map-append term_vars (form_terms a) (form_terms b) ∙ e))

pub if_vars : (o : OutTree) (f : FormTree) (u v : OutTree) (g : FormTree) (x y : OutTree) → o ≡ out_view.If f u v → g ≡ f → x ≡ u → y ≡ v → out_vars o ≡ form_vars g ++ (out_vars x ++ out_vars y)
if_vars o f u v g x y is is_g is_x is_y =
    let e : form_vars f ++ (out_vars u ++ out_vars v) ≡ form_vars g ++ (out_vars x ++ out_vars y) = cc in
    ap out_vars is ∙ (ap (flat_map term_vars) (out_terms-If f u v) ∙ (flat_map-append term_vars (form_terms f) (out_terms u ++ out_terms v)
    ∙ (ap (λ (z : List Var). form_vars f ++ z) (flat_map-append term_vars (out_terms u) (out_terms v)) ∙ e)))

module _ (P : Var → Type 0) where
  pub over_var : (t : TermTree) (p : Place) (v : Var) → t ≡ node.Var p v → P v ↔ All P (term_vars t)
  over_var t p v is = all_along P (P v) (term_vars t) (v ∷ []) (ap term_vars is ∙ fold-Var term_vars_step p v) (all_of_one P v)

  pub over_app : (t : TermTree) (p : Place) (f : SymId) (args xs : List TermTree) → t ≡ node_view.App p f args → xs ≡ args → All (λ s. All P (term_vars s)) xs ↔ All P (term_vars t)
  over_app t p f args xs is is_xs = all_along P (All (λ s. All P (term_vars s)) xs) (term_vars t) (flat_map term_vars xs) (application_vars t p f args xs is is_xs) (all_of_pieces P term_vars xs)

  pub over_constant : (f : FormTree) → (f ≡ form.True) ⊎ (f ≡ form.False) → All P (form_vars f)
  over_constant f (inl is) = all_of_none P (form_vars f) (ap form_vars is ∙ ap (flat_map term_vars) form_terms-True)
  over_constant f (inr is) = all_of_none P (form_vars f) (ap form_vars is ∙ ap (flat_map term_vars) form_terms-False)

  pub over_atom : (f : FormTree) (r : SymId) (args xs : List TermTree) → f ≡ form.Atom r args → xs ≡ args → All (λ s. All P (term_vars s)) xs ↔ All P (form_vars f)
  over_atom f r args xs is is_xs = all_along P (All (λ s. All P (term_vars s)) xs) (form_vars f) (flat_map term_vars xs) (ap form_vars is ∙ ap (flat_map term_vars) (form_terms-Atom r args ∙ sym is_xs)) (all_of_pieces P term_vars xs)

  pub over_equal : (f : FormTree) (s t : TermTree) → f ≡ form.Equal s t → All P (term_vars s) × All P (term_vars t) ↔ All P (form_vars f)
  over_equal f s t is = all_along P (All P (term_vars s) × All P (term_vars t)) (form_vars f) (term_vars s ++ term_vars t) (equal_vars f s t is) (all_of_two P (term_vars s) (term_vars t))

  pub over_not : (f a x : FormTree) → f ≡ view.Not a → x ≡ a → All P (form_vars x) ↔ All P (form_vars f)
  over_not f a x is is_x = all_along P (All P (form_vars x)) (form_vars f) (form_vars x) (ap form_vars is ∙ (ap (flat_map term_vars) (form_terms-Not a) ∙ ap form_vars (sym is_x))) ((λ h. h), (λ h. h))

  pub over_chain : (f : FormTree) (all xs : List FormTree) → IsChain f all → xs ≡ all → All (λ g. All P (form_vars g)) xs ↔ All P (form_vars f)
  over_chain f all xs is is_xs = all_along P (All (λ g. All P (form_vars g)) xs) (form_vars f) (flat_map form_vars xs) (chain_vars f all xs is is_xs) (all_of_pieces P form_vars xs)

  pub over_implies : (f a b x y : FormTree) → f ≡ view.Implies a b → x ≡ a → y ≡ b → All P (form_vars x) × All P (form_vars y) ↔ All P (form_vars f)
  over_implies f a b x y is is_x is_y = all_along P (All P (form_vars x) × All P (form_vars y)) (form_vars f) (form_vars x ++ form_vars y) (implies_vars f a b x y is is_x is_y) (all_of_two P (form_vars x) (form_vars y))

  pub over_give : (o : OutTree) (t : TermTree) → o ≡ out.Give t → All P (term_vars t) ↔ All P (out_vars o)
  over_give o t is = all_along P (All P (term_vars t)) (out_vars o) (term_vars t) (ap out_vars is ∙ (ap (flat_map term_vars) (out_terms-Give t) ∙ append-nil (term_vars t))) ((λ h. h), (λ h. h))

  -- the test of a choice, and its arms
  pub over_if : (o : OutTree) (f : FormTree) (u v : OutTree) (g : FormTree) (x y : OutTree) → o ≡ out_view.If f u v → g ≡ f → x ≡ u → y ≡ v → All P (form_vars g) × (All P (out_vars x) × All P (out_vars y)) ↔ All P (out_vars o)
  over_if o f u v g x y is is_g is_x is_y =
      let h = all_of_two P (out_vars x) (out_vars y) in
      let k = all_of_two P (form_vars g) (out_vars x ++ out_vars y) in
      all_along P (All P (form_vars g) × (All P (out_vars x) × All P (out_vars y))) (out_vars o) (form_vars g ++ (out_vars x ++ out_vars y)) (if_vars o f u v g x y is is_g is_x is_y)
      ((λ a. k.0 (a.0, h.0 a.1)), (λ a. ((k.1 a).0, h.1 (k.1 a).1)))
