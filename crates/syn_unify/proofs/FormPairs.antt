-- The pairs of terms that make formulas one, put together by the cases of the formulas.
use Rattle.std.proofs.Common.{◌≡◌, List, [], ◌∷◌, ◌++◌, map, length, refl, sym, ◌∙◌, ap, subst, All, Contains, Bool, true, false, IsTrue}
use Rattle.std.specs.List.{flat_map}
use Rattle.std.proofs.lemmas.List.{append-nil, append_assoc, length-map}
use Rattle.std.proofs.lemmas.List.Elements.{All-append, All-cons, All-contains, All-head, All-nil, All-weaker, Contains-append_left, Contains-append_right}
use mathlib.Core.Logic.{inl, inr}
use Rattle.syn_term.specs.declared.sorts.SymId.{SymId}
use Rattle.syn_term.specs.declared.sorts.Var.{Var}
use Rattle.syn_term.specs.Terms.{TermTree}
use Rattle.syn_form.specs.declared.trees.Form.TheVariants as form
use Rattle.syn_form.specs.declared.trees.Form.TheViews as view
use Rattle.syn_form.specs.Inputs.{on_terms_step}
use Rattle.syn_form.specs.Trees.{FormTree, form_terms}
use Rattle.syn_form.proofs.Equations.{And-injective, Atom-injective, Equal-injective, Implies-injective, Not-injective, Or-injective, fold-And, fold-Atom, fold-Equal, fold-False, fold-Implies, fold-Not, fold-Or, fold-True, form_terms-And, form_terms-Atom, form_terms-Equal, form_terms-Implies, form_terms-Not, form_terms-Or}
use Rattle.syn_form.proofs.Lists.{Contains-along, Contains-head, Contains-tail, all_of-map}
use Rattle.syn_form.proofs.Owned.{All-left, All-right}
use Rattle.syn_unify.specs.declared.pairs.Pair.{Pair}
use Rattle.syn_unify.specs.inner.Changes.{under}
use Rattle.syn_unify.specs.inner.Forms.{AreAllOne, AreOne, IsOf, Opened, OpenedTo, form_under}
use Rattle.syn_unify.specs.inner.Solutions.{Parted, Solves, paired}
use Rattle.syn_unify.proofs.States.{pair_of, pairs_from, pairs_to}

abbrev pub Says : Type 1
Says = (Var → TermTree) → Type 0

abbrev pub Inside : List TermTree → List TermTree → Type 0
Inside xs ys = (x : TermTree) → Contains xs x → Contains ys x

module _ (One Two : Says) (xs ys vs ws : List TermTree) (left left' : List Pair) (to : (τ : Var → TermTree) → One τ → Two τ) (from : (τ : Var → TermTree) → Two τ → One τ) (first : Inside xs vs) (second : Inside ys ws) where
  -- the same said in another way, of more terms
  pub opened_along : (b : Bool) → OpenedTo One xs ys left left' b → OpenedTo Two vs ws left left' b
  opened_along true o = record {
    pairs = o.pairs;
    is = o.is;
    to = λ τ h. o.to τ (from τ h);
    from = λ τ h. to τ (o.from τ h);
    parts = All-weaker (IsOf xs ys) (IsOf vs ws) (λ p h. (first p.left h.0, second p.right h.1)) o.pairs o.parts;
  }
  opened_along false o = λ τ h. o τ (from τ h)

-- nothing has to be solved
pub opened_none : (One : Says) (xs ys : List TermTree) (left left' : List Pair) → left' ≡ left → ((τ : Var → TermTree) → One τ) → Opened One xs ys left left'
opened_none One xs ys left left' is h = record {
  pairs = [];
  is = is ∙ sym (append-nil left);
  to = λ τ k. All-nil (Solves τ);
  from = λ τ k. h τ;
  parts = All-nil (IsOf xs ys);
}

-- one pair
pub opened_pair : (xs ys : List TermTree) (s t : TermTree) (left left' : List Pair) → Contains xs s → Contains ys t → left' ≡ left ++ pair_of s t ∷ [] → Opened (λ τ. under τ s ≡ under τ t) xs ys left left'
opened_pair xs ys s t left left' c d is = record {
  pairs = pair_of s t ∷ [];
  is = is;
  to = λ τ h. All-cons (Solves τ) (pair_of s t) [] h (All-nil (Solves τ));
  from = λ τ h. All-head (Solves τ) (pair_of s t) [] h;
  parts = All-cons (IsOf xs ys) (pair_of s t) [] (c, d) (All-nil (IsOf xs ys));
}

-- one after the other, of the same terms
module _ (One Two : Says) (xs ys : List TermTree) (left mid left' : List Pair) where
  abbrev Both : Says
  Both τ = One τ × Two τ

  pub opened_both : Opened One xs ys left mid → (b : Bool) → OpenedTo Two xs ys mid left' b → OpenedTo Both xs ys left left' b
  opened_both o true k = record {
    pairs = o.pairs ++ k.pairs;
    is = k.is ∙ (ap (λ (zs : List Pair). zs ++ k.pairs) o.is ∙ append_assoc left o.pairs k.pairs);
    to = λ τ h. All-append (Solves τ) o.pairs k.pairs (o.to τ h.0) (k.to τ h.1);
    from = λ τ h. (o.from τ (All-left (Solves τ) o.pairs k.pairs h), k.from τ (All-right (Solves τ) o.pairs k.pairs h));
    parts = All-append (IsOf xs ys) o.pairs k.pairs o.parts k.parts;
  }
  opened_both o false k = λ τ h. k τ h.1

parts_of : (xs ys vs ws : List TermTree) → Inside xs vs → Inside ys ws → All (IsOf vs ws) (paired xs ys)
parts_of [] ys vs ws h k = All-nil (IsOf vs ws)
parts_of (x ∷ xs) [] vs ws h k = All-nil (IsOf vs ws)
parts_of (x ∷ xs) (y ∷ ys) vs ws h k = All-cons (IsOf vs ws) (pair_of x y) (paired xs ys) (h x (Contains-head x xs), k y (Contains-head y ys)) (parts_of xs ys vs ws (λ z c. h z (Contains-tail x xs z c)) (λ z c. k z (Contains-tail y ys z c)))

-- two atoms
pub opened_atoms : (r q : SymId) (xs ys : List TermTree) (left left' : List Pair) (b : Bool) → Parted r xs q ys left left' b → OpenedTo (λ τ. form.Atom r (map (under τ) xs) ≡ form.Atom q (map (under τ) ys)) xs ys left left' b
opened_atoms r q xs ys left left' true h = record {
  pairs = paired xs ys;
  is = h.2;
  to = λ τ e. pairs_to τ xs ys (Atom-injective r q (map (under τ) xs) (map (under τ) ys) e).1;
  from = λ τ k. ap (λ (z : SymId). form.Atom z (map (under τ) xs)) h.0 ∙ ap (form.Atom q) (pairs_from τ xs ys h.1 k);
  parts = parts_of xs ys xs ys (λ z c. c) (λ z c. c);
}
opened_atoms r q xs ys left left' false (inl n) = λ τ e. n (Atom-injective r q (map (under τ) xs) (map (under τ) ys) e).0
opened_atoms r q xs ys left left' false (inr n) = λ τ e. n (sym (length-map xs (under τ)) ∙ (ap length (Atom-injective r q (map (under τ) xs) (map (under τ) ys) e).1 ∙ length-map ys (under τ)))

module _ (τ : Var → TermTree) where
  pub under-Atom : (r : SymId) (args : List TermTree) → form_under τ (form.Atom r args) ≡ form.Atom r (map (under τ) args)
  under-Atom r args = fold-Atom (on_terms_step (under τ)) r args

  pub under-Equal : (s t : TermTree) → form_under τ (form.Equal s t) ≡ form.Equal (under τ s) (under τ t)
  under-Equal s t = fold-Equal (on_terms_step (under τ)) s t

  pub under-Not : (a : FormTree) → form_under τ (view.Not a) ≡ view.Not (form_under τ a)
  under-Not a = fold-Not (on_terms_step (under τ)) a

  pub under-And : (all : List FormTree) → form_under τ (view.And all) ≡ view.And (map (form_under τ) all)
  under-And all = fold-And (on_terms_step (under τ)) all

  pub under-Or : (all : List FormTree) → form_under τ (view.Or all) ≡ view.Or (map (form_under τ) all)
  under-Or all = fold-Or (on_terms_step (under τ)) all

  pub under-Implies : (a b : FormTree) → form_under τ (view.Implies a b) ≡ view.Implies (form_under τ a) (form_under τ b)
  under-Implies a b = fold-Implies (on_terms_step (under τ)) a b

-- a formula by what it is
pub opened_as : (f k g : FormTree) (left left' : List Pair) (b : Bool) → f ≡ k → OpenedTo (AreOne k g) (form_terms k) (form_terms g) left left' b → OpenedTo (AreOne f g) (form_terms f) (form_terms g) left left' b
opened_as f k g left left' b is o = subst (λ (z : FormTree). OpenedTo (AreOne z g) (form_terms z) (form_terms g) left left' b) (sym is) o

pub under-True : (τ : Var → TermTree) → form_under τ form.True ≡ form.True
under-True τ = fold-True (on_terms_step (under τ))

pub under-False : (τ : Var → TermTree) → form_under τ form.False ≡ form.False
under-False τ = fold-False (on_terms_step (under τ))

-- `true` and `false`, which nothing changes
pub opened_constant : (f g k : FormTree) (left : List Pair) (b : Bool) → f ≡ k → ((τ : Var → TermTree) → form_under τ k ≡ k) → (IsTrue b → g ≡ k) → ((τ : Var → TermTree) → k ≡ form_under τ g → IsTrue b) → OpenedTo (AreOne f g) (form_terms f) (form_terms g) left left b
opened_constant f g k left true is fixed stays only = opened_none (AreOne f g) (form_terms f) (form_terms g) left left refl (λ τ. ap (form_under τ) (is ∙ sym (stays refl)))
opened_constant f g k left false is fixed stays only = λ τ e. let q : false ≡ true = only τ (sym (fixed τ) ∙ (ap (form_under τ) (sym is) ∙ e)) in absurd (cc)

-- an atom and a formula that is one
pub opened_atom : (r q : SymId) (xs ys zs : List TermTree) (g : FormTree) (left left' : List Pair) (b : Bool) → g ≡ form.Atom q ys → zs ≡ ys → Parted r xs q zs left left' b → OpenedTo (AreOne (form.Atom r xs) g) (form_terms (form.Atom r xs)) (form_terms g) left left' b
opened_atom r q xs ys zs g left left' b is same h =
    opened_along (λ τ. form.Atom r (map (under τ) xs) ≡ form.Atom q (map (under τ) zs)) (AreOne (form.Atom r xs) g) xs zs (form_terms (form.Atom r xs)) (form_terms g) left left'
    (λ τ e. under-Atom τ r xs ∙ (e ∙ sym (at τ)))
    (λ τ e. sym (under-Atom τ r xs) ∙ (e ∙ at τ))
    (λ t c. Contains-along xs (form_terms (form.Atom r xs)) t (sym (form_terms-Atom r xs)) c)
    (λ t c. Contains-along zs (form_terms g) t (same ∙ sym (ap form_terms is ∙ form_terms-Atom q ys)) c)
    b (opened_atoms r q xs zs left left' b h)
  where
    at : (τ : Var → TermTree) → form_under τ g ≡ form.Atom q (map (under τ) zs)
    at τ = ap (form_under τ) is ∙ (under-Atom τ q ys ∙ ap (λ (vs : List TermTree). form.Atom q (map (under τ) vs)) (sym same))

-- two negations
pub opened_negations : (f g a c x z : FormTree) (left left' : List Pair) (b : Bool) → f ≡ view.Not a → g ≡ view.Not c → x ≡ a → z ≡ c → OpenedTo (AreOne x z) (form_terms x) (form_terms z) left left' b → OpenedTo (AreOne f g) (form_terms f) (form_terms g) left left' b
opened_negations f g a c x z left left' b is_f is_g is_x is_z o =
    opened_along (AreOne x z) (AreOne f g) (form_terms x) (form_terms z) (form_terms f) (form_terms g) left left'
    (λ τ e. at τ f a x is_f is_x ∙ (ap (λ (y : FormTree). view.Not y) e ∙ sym (at τ g c z is_g is_z)))
    (λ τ e. Not-injective (form_under τ x) (form_under τ z) (sym (at τ f a x is_f is_x) ∙ (e ∙ at τ g c z is_g is_z)))
    (λ t k. Contains-along (form_terms x) (form_terms f) t (terms f a x is_f is_x) k)
    (λ t k. Contains-along (form_terms z) (form_terms g) t (terms g c z is_g is_z) k)
    b o
  where
    at : (τ : Var → TermTree) (f a x : FormTree) → f ≡ view.Not a → x ≡ a → form_under τ f ≡ view.Not (form_under τ x)
    at τ f a x is same = ap (form_under τ) is ∙ (under-Not τ a ∙ ap (λ (y : FormTree). view.Not (form_under τ y)) (sym same))

    terms : (f a x : FormTree) → f ≡ view.Not a → x ≡ a → form_terms x ≡ form_terms f
    terms f a x is same = ap form_terms same ∙ (sym (form_terms-Not a) ∙ ap form_terms (sym is))

-- two equalities
pub opened_equalities : (f g : FormTree) (s t u v : TermTree) (left mid left' : List Pair) → f ≡ form.Equal s t → g ≡ form.Equal u v → mid ≡ left ++ pair_of s u ∷ [] → left' ≡ mid ++ pair_of t v ∷ [] → OpenedTo (AreOne f g) (form_terms f) (form_terms g) left left' true
opened_equalities f g s t u v left mid left' is_f is_g first second =
    opened_along (λ τ. (under τ s ≡ under τ u) × (under τ t ≡ under τ v)) (AreOne f g) (s ∷ t ∷ []) (u ∷ v ∷ []) (form_terms f) (form_terms g) left left'
    (λ τ h. at τ f s t is_f ∙ (ap (λ (z : TermTree). form.Equal z (under τ t)) h.0 ∙ (ap (form.Equal (under τ u)) h.1 ∙ sym (at τ g u v is_g))))
    (λ τ e. Equal-injective (under τ s) (under τ t) (under τ u) (under τ v) (sym (at τ f s t is_f) ∙ (e ∙ at τ g u v is_g)))
    (λ z c. Contains-along (s ∷ t ∷ []) (form_terms f) z (terms f s t is_f) c)
    (λ z c. Contains-along (u ∷ v ∷ []) (form_terms g) z (terms g u v is_g) c)
    true
    (opened_both (λ τ. under τ s ≡ under τ u) (λ τ. under τ t ≡ under τ v) (s ∷ t ∷ []) (u ∷ v ∷ []) left mid left'
    (opened_pair (s ∷ t ∷ []) (u ∷ v ∷ []) s u left mid (Contains-head s (t ∷ [])) (Contains-head u (v ∷ [])) first)
    true
    (opened_pair (s ∷ t ∷ []) (u ∷ v ∷ []) t v mid left' (Contains-tail s (t ∷ []) t (Contains-head t [])) (Contains-tail u (v ∷ []) v (Contains-head v [])) second))
  where
    at : (τ : Var → TermTree) (f : FormTree) (s t : TermTree) → f ≡ form.Equal s t → form_under τ f ≡ form.Equal (under τ s) (under τ t)
    at τ f s t is = ap (form_under τ) is ∙ under-Equal τ s t

    terms : (f : FormTree) (s t : TermTree) → f ≡ form.Equal s t → s ∷ t ∷ [] ≡ form_terms f
    terms f s t is = sym (ap form_terms is ∙ form_terms-Equal s t)

module _ (f g : FormTree) (all these xs ys : List FormTree) (left left' : List Pair) (is_xs : xs ≡ all) (is_ys : ys ≡ these) (b : Bool) (o : OpenedTo (AreAllOne xs ys) (flat_map form_terms xs) (flat_map form_terms ys) left left' b) where
  -- two chains by `and`
  pub opened_ands : f ≡ view.And all → g ≡ view.And these → OpenedTo (AreOne f g) (form_terms f) (form_terms g) left left' b
  opened_ands is_f is_g =
      opened_along (AreAllOne xs ys) (AreOne f g) (flat_map form_terms xs) (flat_map form_terms ys) (form_terms f) (form_terms g) left left'
      (λ τ e. at τ f all xs is_f is_xs ∙ (ap (λ (zs : List FormTree). view.And zs) e ∙ sym (at τ g these ys is_g is_ys)))
      (λ τ e. And-injective (map (form_under τ) xs) (map (form_under τ) ys) (sym (at τ f all xs is_f is_xs) ∙ (e ∙ at τ g these ys is_g is_ys)))
      (λ t k. Contains-along (flat_map form_terms xs) (form_terms f) t (terms f all xs is_f is_xs) k)
      (λ t k. Contains-along (flat_map form_terms ys) (form_terms g) t (terms g these ys is_g is_ys) k)
      b o
    where
      at : (τ : Var → TermTree) (f : FormTree) (all xs : List FormTree) → f ≡ view.And all → xs ≡ all → form_under τ f ≡ view.And (map (form_under τ) xs)
      at τ f all xs is same = ap (form_under τ) is ∙ (under-And τ all ∙ ap (λ (zs : List FormTree). view.And (map (form_under τ) zs)) (sym same))

      terms : (f : FormTree) (all xs : List FormTree) → f ≡ view.And all → xs ≡ all → flat_map form_terms xs ≡ form_terms f
      terms f all xs is same = ap (flat_map form_terms) same ∙ (sym (all_of-map form_terms all) ∙ (sym (form_terms-And all) ∙ ap form_terms (sym is)))

  -- and by `or`
  pub opened_ors : f ≡ view.Or all → g ≡ view.Or these → OpenedTo (AreOne f g) (form_terms f) (form_terms g) left left' b
  opened_ors is_f is_g =
      opened_along (AreAllOne xs ys) (AreOne f g) (flat_map form_terms xs) (flat_map form_terms ys) (form_terms f) (form_terms g) left left'
      (λ τ e. at τ f all xs is_f is_xs ∙ (ap (λ (zs : List FormTree). view.Or zs) e ∙ sym (at τ g these ys is_g is_ys)))
      (λ τ e. Or-injective (map (form_under τ) xs) (map (form_under τ) ys) (sym (at τ f all xs is_f is_xs) ∙ (e ∙ at τ g these ys is_g is_ys)))
      (λ t k. Contains-along (flat_map form_terms xs) (form_terms f) t (terms f all xs is_f is_xs) k)
      (λ t k. Contains-along (flat_map form_terms ys) (form_terms g) t (terms g these ys is_g is_ys) k)
      b o
    where
      at : (τ : Var → TermTree) (f : FormTree) (all xs : List FormTree) → f ≡ view.Or all → xs ≡ all → form_under τ f ≡ view.Or (map (form_under τ) xs)
      at τ f all xs is same = ap (form_under τ) is ∙ (under-Or τ all ∙ ap (λ (zs : List FormTree). view.Or (map (form_under τ) zs)) (sym same))

      terms : (f : FormTree) (all xs : List FormTree) → f ≡ view.Or all → xs ≡ all → flat_map form_terms xs ≡ form_terms f
      terms f all xs is same = ap (flat_map form_terms) same ∙ (sym (all_of-map form_terms all) ∙ (sym (form_terms-Or all) ∙ ap form_terms (sym is)))

-- two implications, whose left sides are open
pub opened_implications : (f g a c d e : FormTree) (left mid left' : List Pair) (b : Bool) → f ≡ view.Implies a c → g ≡ view.Implies d e → OpenedTo (AreOne a d) (form_terms a) (form_terms d) left mid true → OpenedTo (AreOne c e) (form_terms c) (form_terms e) mid left' b → OpenedTo (AreOne f g) (form_terms f) (form_terms g) left left' b
opened_implications f g a c d e left mid left' b is_f is_g first second =
    opened_along (λ τ. AreOne a d τ × AreOne c e τ) (AreOne f g) (form_terms a ++ form_terms c) (form_terms d ++ form_terms e) (form_terms f) (form_terms g) left left'
    (λ τ h. at τ f a c is_f ∙ (ap (λ (z : FormTree). view.Implies z (form_under τ c)) h.0 ∙ (ap (λ (z : FormTree). view.Implies (form_under τ d) z) h.1 ∙ sym (at τ g d e is_g))))
    (λ τ k. Implies-injective (form_under τ a) (form_under τ c) (form_under τ d) (form_under τ e) (sym (at τ f a c is_f) ∙ (k ∙ at τ g d e is_g)))
    (λ t k. Contains-along (form_terms a ++ form_terms c) (form_terms f) t (terms f a c is_f) k)
    (λ t k. Contains-along (form_terms d ++ form_terms e) (form_terms g) t (terms g d e is_g) k)
    b
    (opened_both (AreOne a d) (AreOne c e) (form_terms a ++ form_terms c) (form_terms d ++ form_terms e) left mid left'
    (opened_along (AreOne a d) (AreOne a d) (form_terms a) (form_terms d) (form_terms a ++ form_terms c) (form_terms d ++ form_terms e) left mid (λ τ h. h) (λ τ h. h) (λ t k. Contains-append_left (form_terms a) (form_terms c) t k) (λ t k. Contains-append_left (form_terms d) (form_terms e) t k) true first)
    b
    (opened_along (AreOne c e) (AreOne c e) (form_terms c) (form_terms e) (form_terms a ++ form_terms c) (form_terms d ++ form_terms e) mid left' (λ τ h. h) (λ τ h. h) (λ t k. Contains-append_right (form_terms a) (form_terms c) t k) (λ t k. Contains-append_right (form_terms d) (form_terms e) t k) b second))
  where
    at : (τ : Var → TermTree) (f a c : FormTree) → f ≡ view.Implies a c → form_under τ f ≡ view.Implies (form_under τ a) (form_under τ c)
    at τ f a c is = ap (form_under τ) is ∙ under-Implies τ a c

    terms : (f a c : FormTree) → f ≡ view.Implies a c → form_terms a ++ form_terms c ≡ form_terms f
    terms f a c is = sym (ap form_terms is ∙ form_terms-Implies a c)

-- an implication and a formula that is one, by their sides
pub opened_sides : (g a c d e x y : FormTree) (left mid left' : List Pair) (r b : Bool) → g ≡ view.Implies d e → x ≡ d → y ≡ e → OpenedTo (AreOne a x) (form_terms a) (form_terms x) left mid r → r ≡ true → OpenedTo (AreOne c y) (form_terms c) (form_terms y) mid left' b → OpenedTo (AreOne (view.Implies a c) g) (form_terms (view.Implies a c)) (form_terms g) left left' b
opened_sides g a c d e x y left mid left' r b is_g is_x is_y first opens second =
    opened_implications (view.Implies a c) g a c x y left mid left' b refl
    (is_g ∙ (ap (λ (z : FormTree). view.Implies z e) (sym is_x) ∙ ap (λ (z : FormTree). view.Implies x z) (sym is_y)))
    (subst (OpenedTo (AreOne a x) (form_terms a) (form_terms x) left mid) opens first) second

-- where the left sides are never one
pub sides_never : (g a c d e x : FormTree) (left mid : List Pair) (r : Bool) → g ≡ view.Implies d e → x ≡ d → OpenedTo (AreOne a x) (form_terms a) (form_terms x) left mid r → r ≡ false → (τ : Var → TermTree) → AreOne (view.Implies a c) g τ → ⊥
sides_never g a c d e x left mid r is_g is_x first shut τ k =
    let n : (ρ : Var → TermTree) → AreOne a x ρ → ⊥ = subst (OpenedTo (AreOne a x) (form_terms a) (form_terms x) left mid) shut first in
    let both : view.Implies (form_under τ a) (form_under τ c) ≡ view.Implies (form_under τ d) (form_under τ e) = sym (under-Implies τ a c) ∙ (k ∙ (ap (form_under τ) is_g ∙ under-Implies τ d e)) in
    n τ ((Implies-injective (form_under τ a) (form_under τ c) (form_under τ d) (form_under τ e) both).0 ∙ ap (form_under τ) (sym is_x))

-- the terms of the pairs are sorted, and belong, as those of the formulas do
pub opened_all : (P : TermTree → Type 0) (One : Says) (xs ys : List TermTree) (left left' : List Pair) → All P xs → All P ys → (o : Opened One xs ys left left') → All (λ p. P p.left × P p.right) o.pairs
opened_all P One xs ys left left' h k o = All-weaker (IsOf xs ys) (λ p. P p.left × P p.right) (λ p c. (All-contains P xs p.left h c.0, All-contains P ys p.right k c.1)) o.pairs o.parts
