-- The steps of unification: each leaves the same solutions, or there are none.
use Rattle.std.proofs.Common.{◌≡◌, ◌⊎◌, List, [], ◌∷◌, ◌++◌, length, map, refl, sym, ◌∙◌, ap, subst, arith, All, Contains, Bool, true, false, Some}
use Rattle.std.specs.Prelude.{if◌then◌else◌}
use Rattle.std.proofs.lemmas.List.Elements.{All-nil, All-head, All-tail, All-cons, All-append, Contains-append_left, Contains-append_right}
use Rattle.std.proofs.lemmas.List.{length-map}
use Rattle.std.specs.List.{flat_map}
use mathlib.Core.Logic.{inl, inr}
use Rattle.syn_term.specs.declared.sorts.SymId.{SymId}
use Rattle.syn_term.specs.declared.sorts.Var.{Var}
use Rattle.syn_term.specs.declared.term.Place.{Place}
use Rattle.syn_term.specs.declared.term.Node.{Node, out-Node}
use Rattle.syn_term.specs.declared.term.Node.TheOpen.{Node-F}
use Rattle.syn_term.specs.declared.term.Node.TheViews as view
use Rattle.syn_term.specs.Symbols.{SymbolTable}
use Rattle.syn_term.specs.Terms.{TermTree, bare, nowhere, variable_tree, application, sort_of}
use Rattle.syn_form.specs.Trees.{term_vars}
use Rattle.syn_form.specs.Plain.{IsSorted}
use Rattle.syn_form.specs.Substitutions.{Binding, Substitution, KeepsSorts, image, same_var}
use Rattle.syn_form.proofs.BareFacts.{sorted_bare}
use Rattle.syn_form.proofs.BareVars.{term_vars_bare}
use Rattle.syn_form.proofs.Lists.{Contains-head, Contains-along, Contains-cons_cases, none_in_nil}
use Rattle.syn_form.proofs.Owned.{All-left, All-right}
use Rattle.syn_form.proofs.SortedTerms.{application_sorted}
use Rattle.syn_form.proofs.Sorting.{sort_bare}
use Rattle.syn_form.proofs.TermNodes.{out-App}
use Rattle.syn_unify.specs.declared.pairs.Pair.{Pair}
use Rattle.syn_unify.specs.inner.Changes.{under}
use Rattle.syn_unify.specs.inner.Solutions.{IsAfter, IsBound, IsFit, IsFitTerm, IsFree, NoneSolves, OwnBinding, Reached, Solves, Within, after_one, bare_binding, is_bound, one, paired}
use Rattle.syn_unify.proofs.Lookups.{after_bind, bind_after, bound_now, image_none, not_same_var, once_now, same_var_to}
use Rattle.syn_unify.proofs.Sizes.{occurs}
use Rattle.syn_unify.proofs.Sorts.{KeepsSort, all_along, all_map, image_holds, image_under, map_all, one_sort, sort_under}
use Rattle.syn_unify.proofs.Under.{bare_variable, under_agree, under_itself, under_same, under_symbol, under_variable, under_vars, vars_symbol, vars_variable}

abbrev pub pair_of : TermTree → TermTree → Pair
pair_of s t = record { left = s; right = t }

pub pairs_to : (τ : Var → TermTree) (xs ys : List TermTree) → map (under τ) xs ≡ map (under τ) ys → All (Solves τ) (paired xs ys)
pairs_to τ [] ys e = All-nil (Solves τ)
pairs_to τ (x ∷ xs) [] e = All-nil (Solves τ)
pairs_to τ (x ∷ xs) (y ∷ ys) e =
    let h : under τ x ≡ under τ y = cc in
    let k : map (under τ) xs ≡ map (under τ) ys = cc in All-cons (Solves τ) (pair_of x y) (paired xs ys) h (pairs_to τ xs ys k)

pub pairs_from : (τ : Var → TermTree) (xs ys : List TermTree) → length xs ≡ length ys → All (Solves τ) (paired xs ys) → map (under τ) xs ≡ map (under τ) ys
pairs_from τ [] [] e a = refl
pairs_from τ [] (y ∷ ys) e a = absurd (omega (arith, e))
pairs_from τ (x ∷ xs) [] e a = absurd (omega (arith, e))
pairs_from τ (x ∷ xs) (y ∷ ys) e a =
    let h : under τ x ≡ under τ y = All-head (Solves τ) (pair_of x y) (paired xs ys) a in
    let n : length xs ≡ length ys = omega (arith, e) in
    let k = pairs_from τ xs ys n (All-tail (Solves τ) (pair_of x y) (paired xs ys) a) in cc

module _ (table : SymbolTable) (vars : List Var) where
  abbrev Fit : TermTree → Type 0
  Fit = IsFitTerm table vars

  pairs_fit : (xs ys : List TermTree) → All Fit xs → All Fit ys → All (IsFit table vars) (paired xs ys)
  pairs_fit [] ys h k = All-nil (IsFit table vars)
  pairs_fit (x ∷ xs) [] h k = All-nil (IsFit table vars)
  pairs_fit (x ∷ xs) (y ∷ ys) h k =
      All-cons (IsFit table vars) (pair_of x y) (paired xs ys) (All-head Fit x xs h, All-head Fit y ys k) (pairs_fit xs ys (All-tail Fit x xs h) (All-tail Fit y ys k))

  args_fit : (xs : List TermTree) → All (IsSorted table) xs → ((v : Var) → Contains (flat_map term_vars xs) v → Contains vars v) → All Fit xs
  args_fit [] h w = All-nil Fit
  args_fit (x ∷ xs) h w =
      All-cons Fit x xs
      (All-head (IsSorted table) x xs h, λ v c. w v (Contains-append_left (term_vars x) (flat_map term_vars xs) v c))
      (args_fit xs (All-tail (IsSorted table) x xs h) (λ v c. w v (Contains-append_right (term_vars x) (flat_map term_vars xs) v c)))

  symbol_fit : (q : Place) (f : SymId) (xs : List TermTree) (s : TermTree) → s ≡ view.App q f xs → Fit s → All Fit xs
  symbol_fit q f xs s e h = args_fit xs ((application_sorted table s q f xs xs xs e refl refl).0 h.0).1 (λ v c. h.1 v (Contains-along (flat_map term_vars xs) (term_vars s) v (sym (ap term_vars e ∙ vars_symbol q f xs)) c))

  -- what a variable becomes is over the given variables
  pub image_within : (σ : Substitution) → All (OwnBinding vars) σ → (v : Var) → Contains vars v → Within vars (image σ v)
  image_within [] h v c = λ u d. go u (Contains-cons_cases v [] u (Contains-along (term_vars (variable_tree v)) (v ∷ []) u (vars_variable nowhere v) d))
    where
      go : (u : Var) → (v ≡ u) ⊎ Contains [] u → Contains vars u
      go u (inl e) = subst (Contains vars) e c
      go u (inr k) = absurd (none_in_nil u k)
  image_within (b ∷ bs) h v c = go (same_var b.var v) (image_within bs (All-tail (OwnBinding vars) b bs h) v c)
    where
      go : (d : Bool) → Within vars (image bs v) → Within vars (if d then b.term else image bs v)
      go true k = (All-head (OwnBinding vars) b bs h).1
      go false k = k

  pub under_within : (σ : Substitution) → All (OwnBinding vars) σ → (t : TermTree) → Within vars t → Within vars (under (image σ) t)
  under_within σ h t w v c = let k = under_vars (image σ) v t c in image_within σ h k.0 (w k.0 k.1) v k.2

-- what σ makes of a variable has no variable that σ binds
image_free : (ρ σ : Substitution) → All (λ b. IsFree σ b.term) ρ → (v : Var) → (is_bound ρ v ≡ false → is_bound σ v ≡ false) → IsFree σ (image ρ v)
image_free [] σ h v un = λ u d. go u (Contains-cons_cases v [] u (Contains-along (term_vars (variable_tree v)) (v ∷ []) u (vars_variable nowhere v) d))
  where
    go : (u : Var) → (v ≡ u) ⊎ Contains [] u → is_bound σ u ≡ false
    go u (inl e) = subst (λ (w : Var). is_bound σ w ≡ false) e (un refl)
    go u (inr k) = absurd (none_in_nil u k)
image_free (b ∷ bs) σ h v un = go (same_var b.var v) un (image_free bs σ (All-tail (λ (c : Binding). IsFree σ c.term) b bs h) v)
  where
    go : (c : Bool) → ((if c then true else is_bound bs v) ≡ false → is_bound σ v ≡ false) → ((is_bound bs v ≡ false → is_bound σ v ≡ false) → IsFree σ (image bs v)) → IsFree σ (if c then b.term else image bs v)
    go true k later = All-head (λ (c : Binding). IsFree σ c.term) b bs h
    go false k later = later k

pub free_under : (σ : Substitution) → All (λ b. IsFree σ b.term) σ → (t : TermTree) → IsFree σ (under (image σ) t)
free_under σ h t v c = let k = under_vars (image σ) v t c in image_free σ σ h k.0 (λ e. e) v k.2

-- a term without bound variables stays
pub free_stays : (σ : Substitution) (t : TermTree) → IsFree σ t → under (image σ) t ≡ bare t
free_stays σ t h = under_agree (image σ) variable_tree t (λ v c. ap bare (image_none σ v (h v c))) ∙ under_itself t

-- so σ is σ and then σ once more
pub closed_after : (σ : Substitution) → All (λ b. IsFree σ b.term) σ → IsAfter (image σ) (image σ)
closed_after σ h v = sym (free_stays σ (image σ v) (image_free σ σ h v (λ e. e)))

node_kind : Node-F Node → Bool
node_kind (Node-F.Var p v) = true
node_kind (Node-F.App p f args) = false

args_injective : (p q : Place) (f g : SymId) (xs ys : List Node) → view.App p f xs ≡ view.App q g ys → (f ≡ g) × (xs ≡ ys)
args_injective p q f g xs ys e = let h : Node-F.App p f xs ≡ Node-F.App q g ys = sym (out-App p f xs) ∙ (ap out-Node e ∙ out-App q g ys) in (cc, cc)

-- the pair is solved just where the two terms become one
abbrev pub Says : Substitution → Pair → TermTree → TermTree → Type 0
Says σ p a b = (τ : Var → TermTree) → IsAfter τ (image σ) → (Solves τ p → under τ a ≡ under τ b) × (under τ a ≡ under τ b → Solves τ p)

module _ (table : SymbolTable) (first : List Pair) (vars : List Var) (σ : Substitution) (left : List Pair) (p : Pair) (r : Reached table first vars σ (left ++ p ∷ [])) where
  pub rest_fit : All (IsFit table vars) left
  rest_fit = All-left (IsFit table vars) left (p ∷ []) r.fit

  pub pair_fit : IsFit table vars p
  pair_fit = All-head (IsFit table vars) p [] (All-right (IsFit table vars) left (p ∷ []) r.fit)

  rest_to : (τ : Var → TermTree) → All (Solves τ) first → IsAfter τ (image σ) × All (Solves τ) left
  rest_to τ a = let h = r.to τ a in (h.0, All-left (Solves τ) left (p ∷ []) h.1)

  module _ (s t : TermTree) (says : Says σ p s t) where
    pair_to : (τ : Var → TermTree) → All (Solves τ) first → under τ s ≡ under τ t
    pair_to τ a = let h = r.to τ a in (says τ h.0).0 (All-head (Solves τ) p [] (All-right (Solves τ) left (p ∷ []) h.1))

    pair_from : (τ : Var → TermTree) → IsAfter τ (image σ) → All (Solves τ) left → under τ s ≡ under τ t → All (Solves τ) first
    pair_from τ h a e = r.from τ h (All-append (Solves τ) left (p ∷ []) a (All-cons (Solves τ) p [] ((says τ h).1 e) (All-nil (Solves τ))))

    -- both are one tree: the pair goes
    pub step_done : bare s ≡ bare t → Reached table first vars σ left
    step_done e = record { to = rest_to; from = λ τ h a. pair_from τ h a (under_same τ s t e); closed = r.closed; keeps = r.keeps; own = r.own; once = r.once; fit = rest_fit }

    module _ (x : Var) (is_x : bare s ≡ variable_tree x) where
      at_x : (τ : Var → TermTree) → under τ s ≡ bare (τ x)
      at_x τ = under_same τ s (variable_tree x) (is_x ∙ sym (bare_variable nowhere x)) ∙ under_variable τ nowhere x

      -- no solution that keeps sorts where the other term has another sort
      pub none_by_sort : (sort_of table t ≡ Some x.sort → ⊥) → NoneSolves table first
      none_by_sort ne τ k a = ne (one_sort table (image τ) (image_holds table τ k) x t (sym (at_x (image τ)) ∙ pair_to (image τ) a))

      -- nor where the other term has the variable below its top
      pub none_by_occurs : (bare t ≡ variable_tree x → ⊥) → Contains (term_vars t) x → NoneSolves table first
      none_by_occurs ne c τ k a = occurs (image τ) x t ne c (sym (at_x (image τ)) ∙ pair_to (image τ) a)

      module _ (fit_s : IsFitTerm table vars s) (fit_t : IsFitTerm table vars t) (free_x : is_bound σ x ≡ false) (free_t : IsFree σ t) (sort : sort_of table t ≡ Some x.sort) (fresh : Contains (term_vars t) x → ⊥) (σ' : Substitution) (b : IsBound x t σ σ') where
        abbrev binding : Binding
        binding = record { var = x; term = t }

        -- what holds of the new binding, and of the others with x replaced, holds of all
        on_all : (P : Binding → Type 0) → ((c : Binding) → P (bare_binding c) → P c) → P binding → All (λ c. P (after_one x t c)) σ → All P σ'
        on_all P before here others =
            let k : All P (map bare_binding b.rest) = subst (All P) (sym b.same) (all_map P (after_one x t) σ others) in
            let m : All P b.rest = all_along (λ c. P (bare_binding c)) P b.rest (λ i d lt. before _) (map_all P bare_binding b.rest k) in
            subst (All P) (sym b.is) (All-cons P binding b.rest here m)

        one_keeps : KeepsSorts table (one x t)
        one_keeps = All-cons (KeepsSort table) binding [] (fit_t.0, sort) (All-nil (KeepsSort table))

        keeps_now : KeepsSorts table σ'
        keeps_now = on_all (KeepsSort table)
            (λ c h. ((sorted_bare table c.term).0 h.0, sym (sort_bare table c.term) ∙ h.1))
            (fit_t.0, sort)
            (all_along (KeepsSort table) (λ c. KeepsSort table (after_one x t c)) σ (λ i d lt h. (image_under table (one x t) one_keeps _ h.0, sort_under table (image (one x t)) (image_holds table (one x t) one_keeps) _ ∙ h.1)) r.keeps)

        x_within : Contains vars x
        x_within = fit_s.1 x (Contains-along (x ∷ []) (term_vars s) x (sym (sym (term_vars_bare s) ∙ (ap term_vars is_x ∙ vars_variable nowhere x))) (Contains-head x []))

        own_now : All (OwnBinding vars) σ'
        own_now = on_all (OwnBinding vars)
            (λ c h. (h.0, λ v d. h.1 v (Contains-along (term_vars c.term) (term_vars (bare c.term)) v (sym (term_vars_bare c.term)) d)))
            (x_within, fit_t.1)
            (all_along (OwnBinding vars) (λ c. OwnBinding vars (after_one x t c)) σ (λ i d lt h. (h.0, under_within table vars (one x t) (All-cons (OwnBinding vars) binding [] (x_within, fit_t.1) (All-nil (OwnBinding vars))) _ h.1)) r.own)

        -- a variable other than x that wasn't bound still isn't
        still_free : (v : Var) → (x ≡ v → ⊥) → is_bound σ v ≡ false → is_bound σ' v ≡ false
        still_free v ne h = bound_now x t σ σ' b v ∙ go (same_var x v) refl
          where
            go : (c : Bool) → same_var x v ≡ c → (if c then true else is_bound σ v) ≡ false
            go true is = absurd (ne (same_var_to x v is))
            go false is = h

        t_free : IsFree σ' t
        t_free v c = still_free v (λ e. fresh (subst (Contains (term_vars t)) (sym e) c)) (free_t v c)

        -- a variable of what x and the others become is none of σ', x being gone
        part_free : (v : Var) → is_bound σ v ≡ false → IsFree σ' (image (one x t) v)
        part_free v h = go (same_var x v) refl
          where
            at_itself : (u : Var) → (x ≡ v → ⊥) → (v ≡ u) ⊎ Contains [] u → is_bound σ' u ≡ false
            at_itself u ne (inl e) = subst (λ (w : Var). is_bound σ' w ≡ false) e (still_free v ne h)
            at_itself u ne (inr k) = absurd (none_in_nil u k)

            go : (c : Bool) → same_var x v ≡ c → IsFree σ' (if c then t else variable_tree v)
            go true is = t_free
            go false is = λ u d. at_itself u (not_same_var x v is) (Contains-cons_cases v [] u (Contains-along (term_vars (variable_tree v)) (v ∷ []) u (vars_variable nowhere v) d))

        closed_now : All (λ c. IsFree σ' c.term) σ'
        closed_now = on_all (λ c. IsFree σ' c.term)
            (λ c h v d. h v (Contains-along (term_vars c.term) (term_vars (bare c.term)) v (sym (term_vars_bare c.term)) d))
            t_free
            (all_along (λ c. IsFree σ c.term) (λ c. IsFree σ' (under (image (one x t)) c.term)) σ (λ i d lt h v c. let k = under_vars (image (one x t)) v _ c in part_free k.0 (h k.0 k.1) v k.2) r.closed)

        -- the variable is bound
        pub step_bind : Reached table first vars σ' left
        step_bind = record {
          to = λ τ a. let h = rest_to τ a in (bind_after x t σ σ' b free_x τ h.0 (sym (at_x τ) ∙ pair_to τ a), h.1);
          from = λ τ h a. let k = after_bind x t σ σ' b free_x τ h in pair_from τ k.0 a (at_x τ ∙ k.1);
          closed = closed_now;
          keeps = keeps_now;
          own = own_now;
          once = once_now x t σ σ' b free_x r.once;
          fit = rest_fit;
        }

    module _ (q w : Place) (f g : SymId) (xs ys : List Node) (is_f : s ≡ view.App q f xs) (is_g : t ≡ view.App w g ys) where
      parts : (τ : Var → TermTree) → under τ s ≡ under τ t → (f ≡ g) × (map (under τ) xs ≡ map (under τ) ys)
      parts τ e = args_injective nowhere nowhere f g (map (under τ) xs) (map (under τ) ys) (sym (under_symbol τ q f xs) ∙ (sym (ap (under τ) is_f) ∙ (e ∙ (ap (under τ) is_g ∙ under_symbol τ w g ys))))

      -- two symbols
      pub none_by_clash : (f ≡ g → ⊥) → NoneSolves table first
      none_by_clash ne τ k a = ne (parts (image τ) (pair_to (image τ) a)).0

      -- two numbers of arguments
      pub none_by_count : (length xs ≡ length ys → ⊥) → NoneSolves table first
      none_by_count ne τ k a = ne (sym (length-map xs (under (image τ))) ∙ (ap length (parts (image τ) (pair_to (image τ) a)).1 ∙ length-map ys (under (image τ))))

      -- one symbol: the arguments in pairs
      pub step_split : IsFitTerm table vars s → IsFitTerm table vars t → f ≡ g → length xs ≡ length ys → Reached table first vars σ (left ++ paired xs ys)
      step_split fit_s fit_t same count = record {
        to = λ τ a. let h = rest_to τ a in (h.0, All-append (Solves τ) left (paired xs ys) h.1 (pairs_to τ xs ys (parts τ (pair_to τ a)).1));
        from = λ τ h a. pair_from τ h (All-left (Solves τ) left (paired xs ys) a)
            (ap (under τ) is_f ∙ (under_symbol τ q f xs ∙ (ap (λ (z : SymId). application z (map (under τ) xs)) same ∙ (ap (application g) (pairs_from τ xs ys count (All-right (Solves τ) left (paired xs ys) a)) ∙ sym (ap (under τ) is_g ∙ under_symbol τ w g ys)))));
        closed = r.closed;
        keeps = r.keeps;
        own = r.own;
        once = r.once;
        fit = All-append (IsFit table vars) left (paired xs ys) rest_fit (pairs_fit table vars xs ys (symbol_fit table vars q f xs s is_f fit_s) (symbol_fit table vars w g ys t is_g fit_t));
      }
