-- Where unification begins and ends.
use Rattle.std.proofs.Common.{◌≡◌, List, [], ◌∷◌, ◌++◌, Option, None, Some, sym, ◌∙◌, ap, subst, All, Contains}
use Rattle.std.specs.List.{flat_map}
use Rattle.std.specs.Prelude.{◌⊎◌, IfSome, MatchOption}
use Rattle.std.proofs.lemmas.List.Elements.{All-nil, All-head, All-cons, All-contains, Contains-append_cases, Contains-append_left, Contains-append_right}
use mathlib.Core.Logic.{inl, inr}
use Rattle.syn_term.specs.declared.sorts.Var.{Var}
use Rattle.syn_term.specs.Symbols.{SymbolTable}
use Rattle.syn_term.specs.Terms.{TermTree, nowhere}
use Rattle.syn_form.specs.Trees.{term_vars}
use Rattle.syn_form.specs.Substitutions.{Binding, Substitution, KeepsSorts, IsMostGeneral, IsUnifierOfTerms, UnifiesTerms, image}
use Rattle.syn_form.proofs.Lists.{none_in_nil, Contains-head, Contains-tail, Contains-cons_cases}
use Rattle.syn_unify.specs.declared.pairs.Pair.{Pair}
use Rattle.syn_unify.specs.Bindings.{BindsOnce, HasNoUnifier}
use Rattle.syn_unify.specs.inner.Changes.{under}
use Rattle.syn_unify.specs.inner.Solutions.{IsFit, IsFree, NoneSolves, OwnBinding, Reached, Solves, vars_of}
use Rattle.syn_unify.proofs.Sorts.{KeepsSort}
use Rattle.syn_unify.proofs.States.{closed_after, pair_of}
use Rattle.syn_unify.proofs.Under.{substituted_under, under_variable}

-- nothing is bound at the start
pub start : (table : SymbolTable) (first : List Pair) (vars : List Var) → All (IsFit table vars) first → Reached table first vars [] first
start table first vars fit = record {
  to = λ τ a. ((λ v. sym (under_variable τ nowhere v)), a);
  from = λ τ h a. a;
  closed = All-nil (λ (b : Binding). IsFree [] b.term);
  keeps = All-nil (KeepsSort table);
  own = All-nil (OwnBinding vars);
  once = tt;
  fit = fit;
}

-- the substitutions that solve the pairs are the unifiers
abbrev pub SolvedBy : List Pair → (Substitution → Type 0) → Type 0
SolvedBy first Unifies = (τ : Substitution) → (Unifies τ → All (Solves (image τ)) first) × (All (Solves (image τ)) first → Unifies τ)

module _ (table : SymbolTable) (first : List Pair) (Unifies : Substitution → Type 0) (by : SolvedBy first Unifies) (vars named : List Var) (among : (v : Var) → Contains vars v → Contains named v) where
  -- nothing is left: the substitution is most general
  pub finish : (σ : Substitution) → Reached table first vars σ [] → IsMostGeneral table Unifies named σ
  finish σ r = record {
    unifies = (by σ).1 (r.from (image σ) (closed_after σ r.closed) (All-nil (Solves (image σ))));
    sorts = r.keeps;
    general = λ τ k u. (τ, k, λ v c. (r.to (image τ) ((by τ).0 u)).0 v ∙ sym (substituted_under τ (image σ v)));
    own = λ b c. let h = All-contains (OwnBinding vars) σ b r.own c in (among b.var h.0, λ v d. among v (h.1 v d));
  }

  -- nothing solves the pairs: there is no unifier
  pub no_unifier : NoneSolves table first → (τ : Substitution) → KeepsSorts table τ → Unifies τ → ⊥
  no_unifier n τ k u = n τ k ((by τ).0 u)

-- the pair of two terms
pub two_solved : (a b : TermTree) → SolvedBy (pair_of a b ∷ []) (UnifiesTerms (a ∷ b ∷ []))
two_solved a b τ = (
  (λ u. All-cons (Solves (image τ)) (pair_of a b) [] (sym (substituted_under τ a) ∙ (u a b (Contains-head a (b ∷ [])) (Contains-tail a (b ∷ []) b (Contains-head b [])) ∙ substituted_under τ b)) (All-nil (Solves (image τ)))),
  (λ h s t c d. substituted_under τ s ∙ (sym (as_first h s c) ∙ (as_first h t d ∙ sym (substituted_under τ t)))),
)
  where
    as_first : All (Solves (image τ)) (pair_of a b ∷ []) → (w : TermTree) → Contains (a ∷ b ∷ []) w → under (image τ) a ≡ under (image τ) w
    as_first h w c = go (Contains-cons_cases a (b ∷ []) w c)
      where
        second : (b ≡ w) ⊎ Contains [] w → under (image τ) a ≡ under (image τ) w
        second (inl e) = All-head (Solves (image τ)) (pair_of a b) [] h ∙ ap (under (image τ)) e
        second (inr k) = absurd (none_in_nil w k)

        go : (a ≡ w) ⊎ Contains (b ∷ []) w → under (image τ) a ≡ under (image τ) w
        go (inl e) = ap (under (image τ)) e
        go (inr k) = second (Contains-cons_cases b [] w k)

-- the variables of the pair are those of the terms
pub two_vars : (a b : TermTree) (v : Var) → Contains (vars_of (pair_of a b ∷ [])) v → Contains (flat_map term_vars (a ∷ b ∷ [])) v
two_vars a b v c = go (Contains-append_cases (term_vars a ++ term_vars b) [] v c)
  where
    rest : Contains (term_vars b) v → Contains (flat_map term_vars (a ∷ b ∷ [])) v
    rest k = Contains-append_right (term_vars a) (flat_map term_vars (b ∷ [])) v (Contains-append_left (term_vars b) [] v k)

    both : Contains (term_vars a) v ⊎ Contains (term_vars b) v → Contains (flat_map term_vars (a ∷ b ∷ [])) v
    both (inl k) = Contains-append_left (term_vars a) (flat_map term_vars (b ∷ [])) v k
    both (inr k) = rest k

    go : Contains (term_vars a ++ term_vars b) v ⊎ Contains [] v → Contains (flat_map term_vars (a ∷ b ∷ [])) v
    go (inl k) = both (Contains-append_cases (term_vars a) (term_vars b) v k)
    go (inr k) = absurd (none_in_nil v k)

module _ (table : SymbolTable) (a b : TermTree) (pairs : List Pair) (is : pairs ≡ [] ++ pair_of a b ∷ []) where
  abbrev TwoEnd : Option Substitution → Type 0
  TwoEnd o = MatchOption o (HasNoUnifier table (UnifiesTerms (a ∷ b ∷ []))) (IsUnifierOfTerms table (a ∷ b ∷ []))

  two_end : (o : Option Substitution) → MatchOption o (NoneSolves table (pair_of a b ∷ [])) (λ s. Reached table (pair_of a b ∷ []) (vars_of (pair_of a b ∷ [])) s []) → TwoEnd o
  two_end None h = no_unifier table (pair_of a b ∷ []) (UnifiesTerms (a ∷ b ∷ [])) (two_solved a b) (vars_of (pair_of a b ∷ [])) (flat_map term_vars (a ∷ b ∷ [])) (two_vars a b) h
  two_end (Some σ) h = finish table (pair_of a b ∷ []) (UnifiesTerms (a ∷ b ∷ [])) (two_solved a b) (vars_of (pair_of a b ∷ [])) (flat_map term_vars (a ∷ b ∷ [])) (two_vars a b) σ h

  -- what the solutions of the pair say of the two terms
  pub terms_end : (o : Option Substitution) → MatchOption o (NoneSolves table pairs) (λ s. Reached table pairs (vars_of pairs) s []) → TwoEnd o
  terms_end o h = two_end o (subst (λ (z : List Pair). MatchOption o (NoneSolves table z) (λ s. Reached table z (vars_of z) s [])) is h)

module _ {X : Type 0} (P : X → Type 0) (xs ys : List X) (x : X) where
  -- one alone
  pub only_one : xs ≡ [] → ys ≡ xs ++ x ∷ [] → P x → All P ys
  only_one none is h = subst (All P) (sym (is ∙ ap (λ (zs : List X). zs ++ x ∷ []) none)) (All-cons P x [] h (All-nil P))

pub reached_once : (table : SymbolTable) (pairs : List Pair) (vars : List Var) (o : Option Substitution) → MatchOption o (NoneSolves table pairs) (λ s. Reached table pairs vars s []) → IfSome o BindsOnce
reached_once table pairs vars None h = tt
reached_once table pairs vars (Some σ) h = h.once
