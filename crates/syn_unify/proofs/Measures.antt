-- Each step leaves less ahead.
use Rattle.std.proofs.Common.{◌≡◌, ◌⊎◌, ◌+◌, ◌*◌, ◌≤◌, ◌<◌, sum, List, [], ◌∷◌, ◌++◌, map, sym, ◌∙◌, ap, arith, Contains, Bool, true, false}
use Rattle.std.specs.Prelude.{if◌then◌else◌}
use Rattle.std.proofs.lemmas.Nat.{mul-le}
use mathlib.Core.Logic.{inl, inr}
use Rattle.syn_term.specs.declared.sorts.SymId.{SymId}
use Rattle.syn_term.specs.declared.sorts.Var.{Var}
use Rattle.syn_term.specs.declared.term.Place.{Place}
use Rattle.syn_term.specs.declared.term.Node.{Node}
use Rattle.syn_term.specs.declared.term.Node.TheViews as view
use Rattle.syn_term.specs.Terms.{TermTree, nodes, nowhere, variable_tree}
use Rattle.syn_form.specs.Substitutions.{Substitution, image, same_var}
use Rattle.syn_form.proofs.Lists.{none_in_nil, Contains-cons_cases}
use Rattle.syn_unify.specs.declared.pairs.Pair.{Pair}
use Rattle.syn_unify.specs.inner.Changes.{under}
use Rattle.syn_unify.specs.inner.Solutions.{IsBound, ahead, is_bound, one, paired, unbound, work}
use Rattle.syn_unify.proofs.Lookups.{bound_now, same_var_refl, under_bound}
use Rattle.syn_unify.proofs.Sizes.{at_most, nodes_at_symbol, nodes_more, nodes_some, nodes_variable, rank_falls, rank_less}

work_append : (σ : Substitution) (ps qs : List Pair) → work σ (ps ++ qs) ≡ work σ ps + work σ qs
work_append σ [] qs = omega arith
work_append σ (p ∷ ps) qs = let e = work_append σ ps qs in omega arith

work_paired : (σ : Substitution) (xs ys : List TermTree) → work σ (paired xs ys) ≤ sum (map nodes (map (under (image σ)) xs)) + sum (map nodes (map (under (image σ)) ys))
work_paired σ [] ys = omega arith
work_paired σ (x ∷ xs) [] = omega arith
work_paired σ (x ∷ xs) (y ∷ ys) =
    let e = work_paired σ xs ys in
    let a = nodes_more (under (image σ) x) (map (under (image σ)) xs) in
    let b = nodes_more (under (image σ) y) (map (under (image σ)) ys) in omega arith

module _ (vars : List Var) (σ : Substitution) (left : List Pair) (p : Pair) where
  work_last : work σ (left ++ p ∷ []) ≡ work σ left + (nodes (under (image σ) p.left) + nodes (under (image σ) p.right))
  work_last = let e = work_append σ left (p ∷ []) in omega arith

  -- a pair fewer
  pub less_done : ahead vars σ left < ahead vars σ (left ++ p ∷ [])
  less_done = let e = work_last in let s = nodes_some (under (image σ) p.left) in rank_less (unbound σ vars) (work σ left) (work σ (left ++ p ∷ [])) (omega arith)

  -- the arguments in place of the symbols
  pub less_split : (s t : TermTree) (q w : Place) (f g : SymId) (xs ys : List Node) → under (image σ) s ≡ under (image σ) p.left → under (image σ) t ≡ under (image σ) p.right → s ≡ view.App q f xs → t ≡ view.App w g ys → ahead vars σ (left ++ paired xs ys) < ahead vars σ (left ++ p ∷ [])
  less_split s t q w f g xs ys is_s is_t is_f is_g =
      let e = work_last in
      let k = work_append σ left (paired xs ys) in
      let m = work_paired σ xs ys in
      let a : nodes (under (image σ) p.left) ≡ 1 + sum (map nodes (map (under (image σ)) xs)) = ap nodes (sym is_s ∙ ap (under (image σ)) is_f) ∙ nodes_at_symbol (image σ) q f xs in
      let b : nodes (under (image σ) p.right) ≡ 1 + sum (map nodes (map (under (image σ)) ys)) = ap nodes (sym is_t ∙ ap (under (image σ)) is_g) ∙ nodes_at_symbol (image σ) w g ys in
      rank_less (unbound σ vars) (work σ (left ++ paired xs ys)) (work σ (left ++ p ∷ [])) (omega arith)

module _ (x : Var) (t : TermTree) (σ σ' : Substitution) (b : IsBound x t σ σ') (free : is_bound σ x ≡ false) where
  unbound_most : (vars : List Var) → unbound σ' vars ≤ unbound σ vars
  unbound_most [] = omega arith
  unbound_most (v ∷ vs) = go (same_var x v) (is_bound σ v) (is_bound σ' v) (bound_now x t σ σ' b v) (unbound_most vs)
    where
      go : (c d i : Bool) → i ≡ (if c then true else d) → unbound σ' vs ≤ unbound σ vs → (if i then 0 else 1) + unbound σ' vs ≤ (if d then 0 else 1) + unbound σ vs
      go true d true e h = omega arith
      go true d false e h = absurd (cc)
      go false true true e h = omega arith
      go false true false e h = absurd (cc)
      go false false true e h = omega arith
      go false false false e h = omega arith

  unbound_falls : (vars : List Var) → Contains vars x → unbound σ' vars < unbound σ vars
  unbound_falls [] c = absurd (none_in_nil x c)
  unbound_falls (v ∷ vs) c = go (Contains-cons_cases v vs x c) (unbound_falls vs)
    where
      here : (i j : Bool) → i ≡ true → j ≡ false → (if i then 0 else 1) + unbound σ' vs < (if j then 0 else 1) + unbound σ vs
      here true false e n = let m = unbound_most vs in omega arith
      here true true e n = absurd (cc)
      here false j e n = absurd (cc)

      later : (c d i : Bool) → i ≡ (if c then true else d) → unbound σ' vs < unbound σ vs → (if i then 0 else 1) + unbound σ' vs < (if d then 0 else 1) + unbound σ vs
      later true d true e h = omega arith
      later true d false e h = absurd (cc)
      later false true true e h = omega arith
      later false true false e h = absurd (cc)
      later false false true e h = omega arith
      later false false false e h = omega arith

      go : (v ≡ x) ⊎ Contains vs x → (Contains vs x → unbound σ' vs < unbound σ vs) → unbound σ' (v ∷ vs) < unbound σ (v ∷ vs)
      go (inl e) h =
          let k : is_bound σ' v ≡ true = ap (is_bound σ') e ∙ (bound_now x t σ σ' b x ∙ ap (λ (c : Bool). if c then true else is_bound σ x) (same_var_refl x)) in
          here (is_bound σ' v) (is_bound σ v) k (ap (is_bound σ) e ∙ free)
      go (inr d) h = later (same_var x v) (is_bound σ v) (is_bound σ' v) (bound_now x t σ σ' b v) (h d)

  one_most : (v : Var) → nodes (image (one x t) v) ≤ nodes t
  one_most v = go (same_var x v)
    where
      go : (c : Bool) → nodes (if c then t else variable_tree v) ≤ nodes t
      go true = omega arith
      go false = let e = nodes_variable nowhere v in let s = nodes_some t in omega arith

  grown : (u : TermTree) → nodes (under (image σ') u) ≤ nodes (under (image σ) u) * nodes t
  grown u =
      let e : nodes (under (image σ') u) ≡ nodes (under (image (one x t)) (under (image σ) u)) = ap nodes (under_bound x t σ σ' b free u) in
      let k = at_most (image (one x t)) (nodes t) (nodes_some t) one_most (under (image σ) u) in omega arith

  work_grown : (ps : List Pair) → work σ' ps ≤ work σ ps * nodes t
  work_grown [] = omega arith
  work_grown (p ∷ ps) = let e = work_grown ps in let k = grown p.left in let m = grown p.right in omega arith

  -- a variable is bound to one side of the pair
  pub less_bound : (vars : List Var) (left : List Pair) (p : Pair) → Contains vars x → nodes t ≤ nodes (under (image σ) p.left) + nodes (under (image σ) p.right) → ahead vars σ' left < ahead vars σ (left ++ p ∷ [])
  less_bound vars left p c most =
      let a = unbound_falls vars c in
      let e = work_last vars σ left p in
      let k = work_grown left in
      let m = mul-le (work σ left) (nodes t) (work σ (left ++ p ∷ [])) (work σ (left ++ p ∷ [])) (omega arith) (omega arith) in
      rank_falls (unbound σ' vars) (unbound σ vars) (work σ' left) (work σ (left ++ p ∷ [])) a (omega arith)
