-- First occurrences: which variables they are, and those of renamed variables.
use Rattle.std.proofs.Common.{◌≡◌, ◌⊎◌, inl, inr, ℕ, ◌+◌, ◌≤◌, Bool, true, false, not, cond, List, [], ◌∷◌, Contains, filter, map, length, refl, sym, ◌∙◌, ap, subst, arith}
use Rattle.syn_term.specs.declared.sorts.Var.{Var}
use Rattle.syn_form.specs.Substitutions.{same_var}
use Rattle.syn_form.proofs.Lists.{Contains-cons_cases, Contains-filter, Contains-head, Contains-tail, none_in_nil}
use Rattle.syn_row.specs.Rows.{first_occurrences}
use Rattle.syn_row.proofs.Numbers.{numbered}
use Rattle.syn_row.proofs.SameVars.{same_var_differs, same_var_from, same_var_not, same_var_to, the_var}

abbrev Other : Var → Var → Bool
Other v w = not (same_var v w)

-- what passes the filter is left
filter_keeps : (p : Var → Bool) (xs : List Var) (x : Var) → p x ≡ true → Contains xs x → Contains (filter p xs) x
filter_keeps p [] x h c = absurd (none_in_nil x c)
filter_keeps p (y ∷ ys) x h c = go (p y) refl (Contains-cons_cases y ys x c) (filter_keeps p ys x h)
  where
    go : (b : Bool) → p y ≡ b → (y ≡ x) ⊎ Contains ys x → (Contains ys x → Contains (filter p ys) x) → Contains (cond b (y ∷ filter p ys) (filter p ys)) x
    go true e (inl k) h' = subst (λ (z : Var). Contains (y ∷ filter p ys) z) k (Contains-head y (filter p ys))
    go true e (inr k) h' = Contains-tail y (filter p ys) x (h' k)
    go false e (inl k) h' = absurd (let m = ap p k in let z : true ≡ false = sym h ∙ (sym m ∙ e) in cc)
    go false e (inr k) h' = h' k

-- each variable of a list occurs first somewhere, and those that do are of the list
pub occurs_first : (vs : List Var) (v : Var) → Contains vs v → Contains (first_occurrences vs) v
occurs_first [] v c = absurd (none_in_nil v c)
occurs_first (u ∷ us) v c = go (same_var u v) refl (Contains-cons_cases u us v c) (occurs_first us v)
  where
    go : (b : Bool) → same_var u v ≡ b → (u ≡ v) ⊎ Contains us v → (Contains us v → Contains (first_occurrences us) v) → Contains (u ∷ filter (Other u) (first_occurrences us)) v
    go true e d h = subst (λ (z : Var). Contains (u ∷ filter (Other u) (first_occurrences us)) z) (same_var_to u v e) (Contains-head u (filter (Other u) (first_occurrences us)))
    go false e (inl k) h = absurd (same_var_not u v e k)
    go false e (inr k) h = Contains-tail u (filter (Other u) (first_occurrences us)) v (filter_keeps (Other u) (first_occurrences us) v (ap not e) (h k))

pub occurs : (vs : List Var) (v : Var) → Contains (first_occurrences vs) v → Contains vs v
occurs [] v c = c
occurs (u ∷ us) v c = go (Contains-cons_cases u (filter (Other u) (first_occurrences us)) v c) (occurs us v)
  where
    go : (u ≡ v) ⊎ Contains (filter (Other u) (first_occurrences us)) v → (Contains (first_occurrences us) v → Contains us v) → Contains (u ∷ us) v
    go (inl e) h = subst (λ (z : Var). Contains (u ∷ us) z) e (Contains-head u us)
    go (inr k) h = Contains-tail u us v (h (Contains-filter (Other u) (first_occurrences us) v k))

filter_fewer : (p : Var → Bool) (xs : List Var) → length (filter p xs) ≤ length xs
filter_fewer p [] = omega arith
filter_fewer p (x ∷ xs) = go (p x) (filter_fewer p xs)
  where
    go : (b : Bool) → length (filter p xs) ≤ length xs → length (cond b (x ∷ filter p xs) (filter p xs)) ≤ length (x ∷ xs)
    go true h = omega arith
    go false h = omega arith

-- there are no more of them than variables
pub few_occurrences : (vs : List Var) → length (first_occurrences vs) ≤ length vs
few_occurrences [] = omega arith
few_occurrences (v ∷ vs) = let a = filter_fewer (Other v) (first_occurrences vs) in let b = few_occurrences vs in omega arith

-- a function that takes no two variables of a list to one
abbrev pub IsOneToOne : (Var → Var) → List Var → Type 0
IsOneToOne to vars = (v w : Var) → Contains vars v → Contains vars w → to v ≡ to w → v ≡ w

module _ (to : Var → Var) (vars : List Var) (one : IsOneToOne to vars) where
  same_renamed : (v w : Var) → Contains vars v → Contains vars w → same_var (to v) (to w) ≡ same_var v w
  same_renamed v w c d = go (same_var v w) refl
    where
      go : (b : Bool) → same_var v w ≡ b → same_var (to v) (to w) ≡ b
      go true e = same_var_from (to v) (to w) (ap to (same_var_to v w e))
      go false e = same_var_differs (to v) (to w) (λ k. same_var_not v w e (one v w c d k))

  filter_renamed : (v : Var) (ws : List Var) → Contains vars v → ((w : Var) → Contains ws w → Contains vars w) → filter (Other (to v)) (map to ws) ≡ map to (filter (Other v) ws)
  filter_renamed v [] c sub = refl
  filter_renamed v (w ∷ ws) c sub =
      ap (λ (b : Bool). cond (not b) (to w ∷ filter (Other (to v)) (map to ws)) (filter (Other (to v)) (map to ws))) (same_renamed v w c (sub w (Contains-head w ws)))
      ∙ go (not (same_var v w)) (filter_renamed v ws c (λ x d. sub x (Contains-tail w ws x d)))
    where
      go : (b : Bool) → filter (Other (to v)) (map to ws) ≡ map to (filter (Other v) ws) → cond b (to w ∷ filter (Other (to v)) (map to ws)) (filter (Other (to v)) (map to ws)) ≡ map to (cond b (w ∷ filter (Other v) ws) (filter (Other v) ws))
      go true e = ap (λ (z : List Var). to w ∷ z) e
      go false e = e

  -- the first occurrences of renamed variables are the first occurrences renamed
  pub occurrences_renamed : (ws : List Var) → ((w : Var) → Contains ws w → Contains vars w) → first_occurrences (map to ws) ≡ map to (first_occurrences ws)
  occurrences_renamed [] sub = refl
  occurrences_renamed (w ∷ ws) sub =
      let rest : (x : Var) → Contains ws x → Contains vars x = λ x d. sub x (Contains-tail w ws x d) in
      ap (λ (z : List Var). to w ∷ filter (Other (to w)) z) (occurrences_renamed ws rest)
      ∙ ap (λ (z : List Var). to w ∷ z) (filter_renamed w (first_occurrences ws) (sub w (Contains-head w ws)) (λ x d. rest x (occurs ws x d)))

  -- a renamed variable gets the number of the variable among the renamed ones
  pub numbered_renamed : (sorts : (v : Var) → Contains vars v → (to v).sort ≡ v.sort) (n : ℕ) (us : List Var) (v : Var) → ((w : Var) → Contains us w → Contains vars w) → Contains us v → numbered n (map to us) (to v) ≡ numbered n us v
  numbered_renamed sorts n [] v sub c = absurd (none_in_nil v c)
  numbered_renamed sorts n (u ∷ us) v sub c =
      ap (λ (b : Bool). cond b (the_var n (to u).sort) (numbered (n + 1) (map to us) (to v))) (same_renamed u v (sub u (Contains-head u us)) (sub v c))
      ∙ go (same_var u v) refl (Contains-cons_cases u us v c) (numbered_renamed sorts (n + 1) us v (λ x d. sub x (Contains-tail u us x d)))
    where
      go : (b : Bool) → same_var u v ≡ b → (u ≡ v) ⊎ Contains us v → (Contains us v → numbered (n + 1) (map to us) (to v) ≡ numbered (n + 1) us v) → cond b (the_var n (to u).sort) (numbered (n + 1) (map to us) (to v)) ≡ cond b (the_var n u.sort) (numbered (n + 1) us v)
      go true e d h = ap (the_var n) (sorts u (sub u (Contains-head u us)))
      go false e (inl k) h = absurd (same_var_not u v e k)
      go false e (inr k) h = h k
