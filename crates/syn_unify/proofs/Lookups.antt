-- A substitution as a list of bindings: what is looked up in it, and what one binding more changes.
use Rattle.std.proofs.Common.{◌≡◌, ℕ, [], ◌∷◌, map, refl, sym, ◌∙◌, ap, subst, arith, All, Bool, true, false, ◌&&◌, nat_eq, None, Some}
use Rattle.std.specs.Prelude.{if◌then◌else◌}
use Rattle.std.specs.Option.{unwrap_or}
use Rattle.std.proofs.lemmas.Bool.Decides.{nat_tests}
use Rattle.std.proofs.lemmas.List.Elements.{All-head, All-tail}
use Rattle.syn_term.specs.declared.sorts.Sort.{Sort}
use Rattle.syn_term.specs.declared.sorts.Sort.TheVariants as sort
use Rattle.syn_term.specs.declared.sorts.Var.{Var}
use Rattle.syn_term.specs.Terms.{TermTree, bare, nowhere, variable_tree}
use Rattle.syn_form.specs.Sorts.{same_sort}
use Rattle.syn_form.specs.Substitutions.{Binding, Substitution, image, same_var}
use Rattle.syn_form.proofs.Sorting.{both_true}
use Rattle.syn_unify.specs.Bindings.{BindsOnce, bound_to}
use Rattle.syn_unify.specs.inner.Changes.{under}
use Rattle.syn_unify.specs.inner.Solutions.{IsAfter, IsBound, after_one, bare_binding, is_bound, one}
use Rattle.syn_unify.proofs.Under.{after_under, bare_under, bare_variable, under_agree, under_bare, under_same, under_twice, under_variable}

same_sort_to : (r s : Sort) → same_sort r s ≡ true → r ≡ s
same_sort_to sort.Nat sort.Nat h = refl
same_sort_to sort.Nat (sort.Named n) h = absurd (cc)
same_sort_to (sort.Named m) sort.Nat h = absurd (cc)
same_sort_to (sort.Named m) (sort.Named n) h = let e : m ≡ n = grind (arith, nat_tests) in ap sort.Named e

same_sort_refl : (s : Sort) → same_sort s s ≡ true
same_sort_refl sort.Nat = refl
same_sort_refl (sort.Named n) = grind (arith, nat_tests)

abbrev var_of : ℕ → Sort → Var
var_of n s = record { number = n; sort = s }

pub same_var_to : (v w : Var) → same_var v w ≡ true → v ≡ w
same_var_to v w h =
    let p = both_true (nat_eq v.number w.number) (same_sort v.sort w.sort) h in
    let e : v.number ≡ w.number = grind (arith, nat_tests, p.0) in
    let k : v.sort ≡ w.sort = same_sort_to v.sort w.sort p.1 in
    ap (λ n. var_of n v.sort) e ∙ ap (λ s. var_of w.number s) k

pub same_var_refl : (v : Var) → same_var v v ≡ true
same_var_refl v =
    let e : nat_eq v.number v.number ≡ true = grind (arith, nat_tests) in
    let k = same_sort_refl v.sort in ap (λ b. b && same_sort v.sort v.sort) e ∙ k

pub not_same_var : (v w : Var) → same_var v w ≡ false → v ≡ w → ⊥
not_same_var v w is e = let k : same_var v w ≡ true = ap (λ (z : Var). same_var v z) (sym e) ∙ same_var_refl v in absurd (cc)

-- what a variable becomes is what it is bound to, or itself
pub image_is : (σ : Substitution) (v : Var) → image σ v ≡ unwrap_or (bound_to σ v) (variable_tree v)
image_is [] v = refl
image_is (b ∷ bs) v = go (same_var b.var v) (image_is bs v)
  where
    go : (c : Bool) → image bs v ≡ unwrap_or (bound_to bs v) (variable_tree v) → (if c then b.term else image bs v) ≡ unwrap_or (if c then Some b.term else bound_to bs v) (variable_tree v)
    go true e = refl
    go false e = e

pub image_none : (σ : Substitution) (v : Var) → is_bound σ v ≡ false → image σ v ≡ variable_tree v
image_none [] v h = refl
image_none (b ∷ bs) v h = go (same_var b.var v) h (image_none bs v)
  where
    go : (c : Bool) → (if c then true else is_bound bs v) ≡ false → (is_bound bs v ≡ false → image bs v ≡ variable_tree v) → (if c then b.term else image bs v) ≡ variable_tree v
    go true e k = absurd (cc)
    go false e k = k e

pub bound_none : (σ : Substitution) (v : Var) → is_bound σ v ≡ false → bound_to σ v ≡ None
bound_none [] v h = refl
bound_none (b ∷ bs) v h = go (same_var b.var v) h (bound_none bs v)
  where
    go : (c : Bool) → (if c then true else is_bound bs v) ≡ false → (is_bound bs v ≡ false → bound_to bs v ≡ None) → (if c then Some b.term else bound_to bs v) ≡ None
    go true e k = absurd (cc)
    go false e k = k e

pub none_bound : (σ : Substitution) (v : Var) → bound_to σ v ≡ None → is_bound σ v ≡ false
none_bound [] v h = refl
none_bound (b ∷ bs) v h = go (same_var b.var v) h (none_bound bs v)
  where
    go : (c : Bool) → (if c then Some b.term else bound_to bs v) ≡ None → (bound_to bs v ≡ None → is_bound bs v ≡ false) → (if c then true else is_bound bs v) ≡ false
    go true e k = absurd (cc)
    go false e k = k e

-- what holds of each binding holds of the one that is looked up
module _ (P : Var → TermTree → Type 0) where
  abbrev OfBinding : Binding → Type 0
  OfBinding b = P b.var b.term

  pub bound_holds : (σ : Substitution) (v : Var) (t : TermTree) → All OfBinding σ → bound_to σ v ≡ Some t → P v t
  bound_holds [] v t h e = absurd (cc)
  bound_holds (b ∷ bs) v t h e = go (same_var b.var v) refl e (bound_holds bs v t (All-tail OfBinding b bs h))
    where
      go : (c : Bool) → same_var b.var v ≡ c → (if c then Some b.term else bound_to bs v) ≡ Some t → (bound_to bs v ≡ Some t → P v t) → P v t
      go true is k later = let m : b.term ≡ t = cc in subst (λ (w : Var). P w t) (same_var_to b.var v is) (subst (P b.var) m (All-head OfBinding b bs h))
      go false is k later = later k

pub image_bare : (σ : Substitution) (v : Var) → bare (image σ v) ≡ image (map bare_binding σ) v
image_bare [] v = bare_variable nowhere v
image_bare (b ∷ bs) v = go (same_var b.var v) (image_bare bs v)
  where
    go : (c : Bool) → bare (image bs v) ≡ image (map bare_binding bs) v → bare (if c then b.term else image bs v) ≡ (if c then bare b.term else image (map bare_binding bs) v)
    go true e = refl
    go false e = e

module _ (x : Var) (t : TermTree) where
  pub one_here : image (one x t) x ≡ t
  one_here = ap (λ b. if b then t else variable_tree x) (same_var_refl x)

  pub one_other : (v : Var) → (v ≡ x → ⊥) → image (one x t) v ≡ variable_tree v
  one_other v ne = go (same_var x v) refl
    where
      go : (b : Bool) → same_var x v ≡ b → (if b then t else variable_tree v) ≡ variable_tree v
      go true is = absurd (ne (sym (same_var_to x v is)))
      go false is = refl

  -- what makes the variable and the term one is the binding and then itself
  pub one_after : (τ : Var → TermTree) → bare (τ x) ≡ under τ t → IsAfter τ (image (one x t))
  one_after τ e v = go (same_var x v) refl
    where
      go : (b : Bool) → same_var x v ≡ b → bare (τ v) ≡ under τ (if b then t else variable_tree v)
      go true is = ap (λ (w : Var). bare (τ w)) (sym (same_var_to x v is)) ∙ e
      go false is = sym (under_variable τ nowhere v)

  image_after : (σ : Substitution) (v : Var) → (v ≡ x → ⊥) → image (map (after_one x t) σ) v ≡ under (image (one x t)) (image σ v)
  image_after [] v ne = sym (under_variable (image (one x t)) nowhere v ∙ (ap bare (one_other v ne) ∙ bare_variable nowhere v))
  image_after (b ∷ bs) v ne = go (same_var b.var v) (image_after bs v ne)
    where
      go : (c : Bool) → image (map (after_one x t) bs) v ≡ under (image (one x t)) (image bs v) → (if c then under (image (one x t)) b.term else image (map (after_one x t) bs) v) ≡ under (image (one x t)) (if c then b.term else image bs v)
      go true e = refl
      go false e = e

bound_bare : (σ : Substitution) (v : Var) → is_bound (map bare_binding σ) v ≡ is_bound σ v
bound_bare [] v = refl
bound_bare (b ∷ bs) v = ap (λ (c : Bool). if same_var b.var v then true else c) (bound_bare bs v)

bound_after : (x : Var) (t : TermTree) (σ : Substitution) (v : Var) → is_bound (map (after_one x t) σ) v ≡ is_bound σ v
bound_after x t [] v = refl
bound_after x t (b ∷ bs) v = ap (λ (c : Bool). if same_var b.var v then true else c) (bound_after x t bs v)

-- each variable once, by the other test
abbrev Once : Substitution → Type 0
Once [] = Unit {0}
Once (b ∷ bs) = (is_bound bs b.var ≡ false) × Once bs

once_to : (σ : Substitution) → BindsOnce σ → Once σ
once_to [] h = tt
once_to (b ∷ bs) h = (none_bound bs b.var h.0, once_to bs h.1)

once_from : (σ : Substitution) → Once σ → BindsOnce σ
once_from [] h = tt
once_from (b ∷ bs) h = (bound_none bs b.var h.0, once_from bs h.1)

once_before : (σ : Substitution) → Once (map bare_binding σ) → Once σ
once_before [] h = tt
once_before (b ∷ bs) h = (sym (bound_bare bs b.var) ∙ h.0, once_before bs h.1)

once_after : (x : Var) (t : TermTree) (σ : Substitution) → Once σ → Once (map (after_one x t) σ)
once_after x t [] h = tt
once_after x t (b ∷ bs) h = (bound_after x t bs b.var ∙ h.0, once_after x t bs h.1)

module _ (x : Var) (t : TermTree) (σ σ' : Substitution) (b : IsBound x t σ σ') where
  rest_bound : (v : Var) → is_bound b.rest v ≡ is_bound σ v
  rest_bound v = sym (bound_bare b.rest v) ∙ (ap (λ (z : Substitution). is_bound z v) b.same ∙ bound_after x t σ v)

  -- one variable more is bound
  pub bound_now : (v : Var) → is_bound σ' v ≡ (if same_var x v then true else is_bound σ v)
  bound_now v = ap (λ (z : Substitution). is_bound z v) b.is ∙ ap (λ (c : Bool). if same_var x v then true else c) (rest_bound v)

  module _ (free : is_bound σ x ≡ false) where
    pub once_now : BindsOnce σ → BindsOnce σ'
    once_now h = subst BindsOnce (sym b.is) (bound_none b.rest x (rest_bound x ∙ free), once_from b.rest (once_before b.rest (subst Once (sym b.same) (once_after x t σ (once_to σ h)))))

    -- what a variable becomes is what it became, and then x replaced
    pub image_now : (v : Var) → bare (image σ' v) ≡ under (image (one x t)) (image σ v)
    image_now v = ap (λ (z : Substitution). bare (image z v)) b.is ∙ go (same_var x v) refl
      where
        go : (c : Bool) → same_var x v ≡ c → bare (if c then t else image b.rest v) ≡ under (image (one x t)) (image σ v)
        go true is =
            let e = same_var_to x v is in
            let k : image σ v ≡ variable_tree x = ap (image σ) (sym e) ∙ image_none σ x free in
            sym (ap (under (image (one x t))) k ∙ (under_variable (image (one x t)) nowhere x ∙ ap bare (one_here x t)))
        go false is = image_bare b.rest v ∙ (ap (λ (z : Substitution). image z v) b.same ∙ image_after x t σ v (λ e. not_same_var x v is (sym e)))

    bound_here : bare (image σ' x) ≡ bare t
    bound_here = image_now x ∙ (ap (under (image (one x t))) (image_none σ x free) ∙ (under_variable (image (one x t)) nowhere x ∙ ap bare (one_here x t)))

    along : (τ : Var → TermTree) → IsAfter τ (image (one x t)) → (v : Var) → under τ (image σ' v) ≡ under τ (image σ v)
    along τ h v = sym (under_bare τ (image σ' v)) ∙ (ap (under τ) (image_now v) ∙ after_under τ (image (one x t)) h (image σ v))

    pub bind_after : (τ : Var → TermTree) → IsAfter τ (image σ) → bare (τ x) ≡ under τ t → IsAfter τ (image σ')
    bind_after τ h e v = h v ∙ sym (along τ (one_after x t τ e) v)

    pub after_bind : (τ : Var → TermTree) → IsAfter τ (image σ') → IsAfter τ (image σ) × (bare (τ x) ≡ under τ t)
    after_bind τ h =
        let e : bare (τ x) ≡ under τ t = h x ∙ under_same τ (image σ' x) t bound_here in
        ((λ v. h v ∙ along τ (one_after x t τ e) v), e)

    -- the new substitution is the old one and then the binding
    pub under_bound : (u : TermTree) → under (image σ') u ≡ under (image (one x t)) (under (image σ) u)
    under_bound u = under_agree (image σ') (λ v. under (image (one x t)) (image σ v)) u (λ v c. image_now v ∙ sym (bare_under (image (one x t)) (image σ v))) ∙ sym (under_twice (image (one x t)) (image σ) u)
