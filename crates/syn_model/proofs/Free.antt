-- What holds of each free variable of a formula, from its parts.
use Rattle.std.proofs.Common.{◌≡◌, ◌↔◌, ◌⊎◌, inl, inr, ℕ, Bool, true, false, ◌&&◌, IsTrue, List, [], ◌∷◌, ◌++◌, All, Contains, get_or, if◌then◌else◌, nat_eq, refl, sym, ◌∙◌, ap, subst, arith}
use Rattle.std.specs.List.{flat_map}
use Rattle.std.proofs.lemmas.Bool.Decides.{nat_tests}
use Rattle.std.proofs.lemmas.List.Elements.{All-cons, All-head, All-nil, All-tail}
use Rattle.syn_term.specs.declared.sorts.Sort.{Sort}
use Rattle.syn_term.specs.declared.sorts.Sort.TheVariants as sort
use Rattle.syn_term.specs.declared.sorts.SymId.{SymId}
use Rattle.syn_term.specs.declared.sorts.Var.{Var}
use Rattle.syn_term.specs.Terms.{TermTree}
use Rattle.syn_form.specs.declared.trees.Binder.{Binder}
use Rattle.syn_form.specs.declared.trees.QForm.TheVariants as form
use Rattle.syn_form.specs.declared.trees.QForm.TheViews as view
use Rattle.syn_form.specs.Sorts.{same_sort}
use Rattle.syn_form.specs.Substitutions.{same_var}
use Rattle.syn_form.specs.Trees.{QFormTree, term_vars}
use Rattle.syn_form.proofs.Lists.{Contains-cons_cases, Contains-head, Contains-tail, all_of-map, none_in_nil}
use Rattle.syn_form.specs.Quantified.{free_vars, free_vars_step, without}
use Rattle.syn_model.specs.Declaring.{AreAmong}
use Rattle.syn_model.proofs.Over.{all_along, all_of_none, all_of_pieces, all_of_two}
use Rattle.syn_form.proofs.QForms.{qfold-True, qfold-False, qfold-Atom, qfold-Equal, qfold-Not, qfold-And, qfold-Or, qfold-Implies, qfold-All, qfold-Exists}

same_sort_to : (r s : Sort) → same_sort r s ≡ true → r ≡ s
same_sort_to sort.Nat sort.Nat h = refl
same_sort_to sort.Nat (sort.Named n) h = absurd (cc)
same_sort_to (sort.Named m) sort.Nat h = absurd (cc)
same_sort_to (sort.Named m) (sort.Named n) h = let e : m ≡ n = grind (arith, nat_tests) in ap sort.Named e

same_sort_refl : (s : Sort) → same_sort s s ≡ true
same_sort_refl sort.Nat = refl
same_sort_refl (sort.Named n) = grind (arith, nat_tests)

both_true : (a b : Bool) → (a && b) ≡ true → (a ≡ true) × (b ≡ true)
both_true true true e = (refl, refl)
both_true true false e = absurd (cc)
both_true false b e = absurd (cc)

abbrev the_var : ℕ → Sort → Var
the_var n s = record { number = n; sort = s }

-- two variables that are one by their numbers and sorts
same_var_to : (v w : Var) → same_var v w ≡ true → v ≡ w
same_var_to v w e =
    let p = both_true (nat_eq v.number w.number) (same_sort v.sort w.sort) e in
    let n : nat_eq v.number w.number ≡ true = p.0 in
    let m : v.number ≡ w.number = grind (arith, nat_tests) in
    let s : v.sort ≡ w.sort = same_sort_to v.sort w.sort p.1 in
    ap (λ k. the_var k v.sort) m ∙ ap (the_var w.number) s

same_var_refl : (v : Var) → same_var v v ≡ true
same_var_refl v =
    let n : nat_eq v.number v.number ≡ true = grind (arith, nat_tests) in
    ap (λ b. b && same_sort v.sort v.sort) n ∙ same_sort_refl v.sort

module _ (v : Var) (those : List Var) where
  -- what is left without a variable, and that variable beside what the rest is among
  among_beside : (ws : List Var) → AreAmong (without v ws) those → AreAmong ws (v ∷ those)
  among_beside [] h = All-nil (Contains (v ∷ those))
  among_beside (w ∷ ws) h = go (same_var v w) refl h (among_beside ws)
    where
      go : (b : Bool) → same_var v w ≡ b → AreAmong (if b then without v ws else w ∷ without v ws) those → (AreAmong (without v ws) those → AreAmong ws (v ∷ those)) → AreAmong (w ∷ ws) (v ∷ those)
      go true e h k = All-cons (Contains (v ∷ those)) w ws (subst (Contains (v ∷ those)) (same_var_to v w e) (Contains-head v those)) (k h)
      go false e h k = All-cons (Contains (v ∷ those)) w ws (Contains-tail v those w (All-head (Contains those) w (without v ws) h)) (k (All-tail (Contains those) w (without v ws) h))

  among_without : (ws : List Var) → AreAmong ws (v ∷ those) → AreAmong (without v ws) those
  among_without [] h = All-nil (Contains those)
  among_without (w ∷ ws) h = go (same_var v w) refl (among_without ws (All-tail (Contains (v ∷ those)) w ws h))
    where
      other : same_var v w ≡ false → (v ≡ w) ⊎ Contains those w → Contains those w
      other e (inl is) = let t : same_var v w ≡ true = ap (same_var v) (sym is) ∙ same_var_refl v in absurd (cc)
      other e (inr c) = c

      go : (b : Bool) → same_var v w ≡ b → AreAmong (without v ws) those → AreAmong (if b then without v ws else w ∷ without v ws) those
      go true e k = k
      go false e k = All-cons (Contains those) w (without v ws) (other e (Contains-cons_cases v those w (All-head (Contains (v ∷ those)) w ws h))) k

-- nothing is among no variables
pub among_none : (xs ys : List Var) → ys ≡ [] → AreAmong xs ys ↔ (xs ≡ [])
among_none xs ys is = ((λ h. nothing xs (subst (AreAmong xs) is h)), (λ e. all_of_none (Contains ys) xs e))
  where
    nothing : (zs : List Var) → AreAmong zs [] → zs ≡ []
    nothing [] h = refl
    nothing (z ∷ zs) h = absurd (none_in_nil z (All-head (Contains []) z zs h))

-- what is among one variable is that variable
pub among_one : (xs ys : List Var) (v : Var) → ys ≡ v ∷ [] → AreAmong xs ys ↔ All (λ w. w ≡ v) xs
among_one xs ys v is = (
  (λ h k d lt. one (get_or xs k d) (subst (λ (z : List Var). Contains z (get_or xs k d)) is (h k d lt))),
  (λ h k d lt. subst (λ (z : List Var). Contains z (get_or xs k d)) (sym is) (subst (Contains (v ∷ [])) (sym (h k d lt)) (Contains-head v []))),
)
  where
    one : (w : Var) → Contains (v ∷ []) w → w ≡ v
    one w c = at (Contains-cons_cases v [] w c)
      where
        at : (v ≡ w) ⊎ Contains [] w → w ≡ v
        at (inl e) = sym e
        at (inr k) = absurd (none_in_nil w k)

free_quantifier : (f : QFormTree) (b : Binder) (a : QFormTree) → (f ≡ view.All b a) ⊎ (f ≡ view.Exists b a) → free_vars f ≡ without b.var (free_vars a)
free_quantifier f b a (inl is) = ap free_vars is ∙ qfold-All free_vars_step b a
free_quantifier f b a (inr is) = ap free_vars is ∙ qfold-Exists free_vars_step b a

-- a quantifier: its variable is bound too in the formula inside
pub free_quantified : (f : QFormTree) (b : Binder) (a x : QFormTree) (outer inner : List Var) → (f ≡ view.All b a) ⊎ (f ≡ view.Exists b a) → x ≡ a → inner ≡ b.var ∷ outer → AreAmong (free_vars x) inner ↔ AreAmong (free_vars f) outer
free_quantified f b a x outer inner is is_x is_inner =
    let e : free_vars f ≡ without b.var (free_vars x) = free_quantifier f b a is ∙ ap (λ z. without b.var (free_vars z)) (sym is_x) in
    all_along (Contains outer) (AreAmong (free_vars x) inner) (free_vars f) (without b.var (free_vars x)) e
    ((λ h. among_without b.var outer (free_vars x) (subst (AreAmong (free_vars x)) is_inner h)), (λ h. subst (AreAmong (free_vars x)) (sym is_inner) (among_beside b.var outer (free_vars x) h)))

free_chain_vars : (f : QFormTree) (all : List QFormTree) → (f ≡ view.And all) ⊎ (f ≡ view.Or all) → free_vars f ≡ flat_map free_vars all
free_chain_vars f all (inl is) = ap free_vars is ∙ (qfold-And free_vars_step all ∙ all_of-map free_vars all)
free_chain_vars f all (inr is) = ap free_vars is ∙ (qfold-Or free_vars_step all ∙ all_of-map free_vars all)

module _ (P : Var → Type 0) where
  pub free_constant : (f : QFormTree) → (f ≡ form.True) ⊎ (f ≡ form.False) → All P (free_vars f)
  free_constant f (inl is) = all_of_none P (free_vars f) (ap free_vars is ∙ qfold-True free_vars_step)
  free_constant f (inr is) = all_of_none P (free_vars f) (ap free_vars is ∙ qfold-False free_vars_step)

  pub free_atom : (f : QFormTree) (r : SymId) (args xs : List TermTree) → f ≡ form.Atom r args → xs ≡ args → All (λ s. All P (term_vars s)) xs ↔ All P (free_vars f)
  free_atom f r args xs is is_xs = all_along P (All (λ s. All P (term_vars s)) xs) (free_vars f) (flat_map term_vars xs) (ap free_vars is ∙ (qfold-Atom free_vars_step r args ∙ ap (flat_map term_vars) (sym is_xs))) (all_of_pieces P term_vars xs)

  pub free_equal : (f : QFormTree) (s t : TermTree) → f ≡ form.Equal s t → All P (term_vars s) × All P (term_vars t) ↔ All P (free_vars f)
  free_equal f s t is = all_along P (All P (term_vars s) × All P (term_vars t)) (free_vars f) (term_vars s ++ term_vars t) (ap free_vars is ∙ qfold-Equal free_vars_step s t) (all_of_two P (term_vars s) (term_vars t))

  pub free_not : (f a x : QFormTree) → f ≡ view.Not a → x ≡ a → All P (free_vars x) ↔ All P (free_vars f)
  free_not f a x is is_x = all_along P (All P (free_vars x)) (free_vars f) (free_vars x) (ap free_vars is ∙ (qfold-Not free_vars_step a ∙ ap free_vars (sym is_x))) ((λ h. h), (λ h. h))

  pub free_chain : (f : QFormTree) (all xs : List QFormTree) → (f ≡ view.And all) ⊎ (f ≡ view.Or all) → xs ≡ all → All (λ g. All P (free_vars g)) xs ↔ All P (free_vars f)
  free_chain f all xs is is_xs = all_along P (All (λ g. All P (free_vars g)) xs) (free_vars f) (flat_map free_vars xs) (free_chain_vars f all is ∙ ap (flat_map free_vars) (sym is_xs)) (all_of_pieces P free_vars xs)

  pub free_implies : (f a b x y : QFormTree) → f ≡ view.Implies a b → x ≡ a → y ≡ b → All P (free_vars x) × All P (free_vars y) ↔ All P (free_vars f)
  free_implies f a b x y is is_x is_y =
      let e : free_vars a ++ free_vars b ≡ free_vars x ++ free_vars y = cc in
      all_along P (All P (free_vars x) × All P (free_vars y)) (free_vars f) (free_vars x ++ free_vars y) (ap free_vars is ∙ (qfold-Implies free_vars_step a b ∙ e)) (all_of_two P (free_vars x) (free_vars y))

-- a variable that another quantifier binds is bound where it is outside
pub bound_outside : (vars outer : List Var) (w v : Var) (one r : Bool) → vars ≡ w ∷ outer → (IsTrue one ↔ (w ≡ v)) → one ≡ false → (IsTrue r ↔ Contains outer v) → IsTrue r ↔ Contains vars v
bound_outside vars outer w v one r is same e h = (
  (λ t. subst (λ (z : List Var). Contains z v) (sym is) (Contains-tail w outer v (h.0 t))),
  (λ c. h.1 (apart (Contains-cons_cases w outer v (subst (λ (z : List Var). Contains z v) is c)))),
)
  where
    apart : (w ≡ v) ⊎ Contains outer v → Contains outer v
    apart (inl k) = let t = same.1 k in absurd (cc)
    apart (inr c) = c
