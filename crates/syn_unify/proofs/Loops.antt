-- The loop over the pairs: its start, one turn, and what the pairs of a step belong to.
use Rattle.std.proofs.Common.{◌≡◌, ◌<◌, List, [], ◌∷◌, ◌++◌, sym, ◌∙◌, subst, All, Contains, Bool, true, false, IsTrue}
use Rattle.std.proofs.lemmas.List.Elements.{All-append, All-cons, All-head, All-nil, All-tail, Contains-append_left, Contains-append_right}
use Rattle.syn_term.specs.Bank.{Kept, Belongs}
use Rattle.syn_term.specs.declared.sorts.SymId.{SymId}
use Rattle.syn_term.specs.declared.sorts.Var.{Var}
use Rattle.syn_term.specs.Symbols.{SymbolTable}
use Rattle.syn_term.specs.Terms.{TermTree, bare}
use Rattle.syn_form.specs.Plain.{IsSorted}
use Rattle.syn_form.specs.Substitutions.{Binding, Substitution, KeepsSorts, image}
use Rattle.syn_form.specs.Trees.{term_vars}
use Rattle.syn_form.proofs.Owned.{All-left, All-right}
use Rattle.syn_unify.specs.declared.bindings.Bound.{Bound}
use Rattle.syn_unify.specs.declared.pairs.Pair.{Pair}
use Rattle.syn_unify.specs.Bindings.{BindsOwn}
use Rattle.syn_unify.specs.inner.Changes.{seen, under}
use Rattle.syn_unify.specs.inner.Solutions.{IsFit, NoneSolves, PairBelongs, Parted, Reached, SortedPair, Steps, Stepped, ahead, vars_of}
use Rattle.syn_unify.proofs.Ends.{start}
use Rattle.syn_unify.proofs.PairLists.{paired_belong}
use Rattle.syn_unify.proofs.Sorts.{image_under, sorted_along}
use Rattle.syn_unify.proofs.States.{pair_fit}
use Rattle.syn_unify.proofs.Under.{bare_under}

abbrev pair_vars : Pair → List Var
pair_vars p = term_vars p.left ++ term_vars p.right

fits : (table : SymbolTable) (vars : List Var) (ps : List Pair) → All (SortedPair table) ps → ((v : Var) → Contains (vars_of ps) v → Contains vars v) → All (IsFit table vars) ps
fits table vars [] h w = All-nil (IsFit table vars)
fits table vars (p ∷ ps) h w =
    let s = All-head (SortedPair table) p ps h in
    All-cons (IsFit table vars) p ps
    ((s.0, λ v c. w v (Contains-append_left (pair_vars p) (vars_of ps) v (Contains-append_left (term_vars p.left) (term_vars p.right) v c))), (s.1, λ v c. w v (Contains-append_left (pair_vars p) (vars_of ps) v (Contains-append_right (term_vars p.left) (term_vars p.right) v c))))
    (fits table vars ps (All-tail (SortedPair table) p ps h) (λ v c. w v (Contains-append_right (pair_vars p) (vars_of ps) v c)))

-- nothing is bound at the start
pub begins : (table : SymbolTable) (ps : List Pair) (bound : List Bound) → bound ≡ [] → All (SortedPair table) ps → Reached table ps (vars_of ps) (seen bound) ps
begins table ps bound none h = subst (λ (z : List Bound). Reached table ps (vars_of ps) (seen z) ps) (sym none) (start table ps (vars_of ps) (fits table (vars_of ps) ps h (λ v c. c)))

pub binds_none : (b : Kept) (bound : List Bound) → bound ≡ [] → BindsOwn b (seen bound)
binds_none b bound none = subst (λ (z : List Bound). BindsOwn b (seen z)) (sym none) (All-nil (λ (c : Binding). Belongs b c.term))

-- what comes of a sorted term is sorted
pub changed_sorted : (table : SymbolTable) (bound slice : List Bound) (u t : TermTree) → slice ≡ bound → KeepsSorts table (seen bound) → bare u ≡ under (image (seen slice)) t → IsSorted table t → IsSorted table u
changed_sorted table bound slice u t same keeps e h =
    let k : KeepsSorts table (seen slice) = subst (λ (z : List Bound). KeepsSorts table (seen z)) (sym same) keeps in
    sorted_along table u (under (image (seen slice)) t) (e ∙ sym (bare_under (image (seen slice)) t)) (image_under table (seen slice) k t h)

-- the pairs after a step that took symbols apart
pub parted_belong : (b : Kept) (f g : SymId) (xs ys : List TermTree) (left left' : List Pair) (on : Bool) → All (PairBelongs b) left → All (Belongs b) xs → All (Belongs b) ys → Parted f xs g ys left left' on → IsTrue on → All (PairBelongs b) left'
parted_belong b f g xs ys left left' true h k l m is = subst (All (PairBelongs b)) (sym m.2) (All-append (PairBelongs b) left _ h (paired_belong b xs ys k l))
parted_belong b f g xs ys left left' false h k l m is = absurd (cc)

module _ (table : SymbolTable) (first : List Pair) (vars : List Var) (σ : Substitution) (left now : List Pair) (p : Pair) (is : left ≡ now ++ p ∷ []) (r : Reached table first vars σ left) where
  taken : Reached table first vars σ (now ++ p ∷ [])
  taken = subst (Reached table first vars σ) is r

  pub taken_sorted : SortedPair table p
  taken_sorted = let h = pair_fit table first vars σ now p taken in (h.0.0, h.1.0)

  module _ (σ' : Substitution) (after : List Pair) (b : Bool) (s : Stepped table σ now p σ' after b) where
    stepped : b ≡ true → Steps table σ now p σ' after first vars
    stepped e = subst (Stepped table σ now p σ' after) e s first vars taken

    pub next_reached : b ≡ true → Reached table first vars σ' after
    next_reached e = (stepped e).reached

    pub next_less : b ≡ true → ahead vars σ' after < ahead vars σ left
    next_less e = subst (λ (z : List Pair). ahead vars σ' after < ahead vars σ z) (sym is) (stepped e).less

    pub next_none : b ≡ false → NoneSolves table first
    next_none e = subst (Stepped table σ now p σ' after) e s first vars taken

pub rest_belong : (b : Kept) (left now : List Pair) (p : Pair) → left ≡ now ++ p ∷ [] → All (PairBelongs b) left → All (PairBelongs b) now
rest_belong b left now p is h = All-left (PairBelongs b) now (p ∷ []) (subst (All (PairBelongs b)) is h)

pub last_belongs : (b : Kept) (left now : List Pair) (p : Pair) → left ≡ now ++ p ∷ [] → All (PairBelongs b) left → PairBelongs b p
last_belongs b left now p is h = All-head (PairBelongs b) p [] (All-right (PairBelongs b) now (p ∷ []) (subst (All (PairBelongs b)) is h))
