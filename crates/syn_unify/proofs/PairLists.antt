-- Pairs of terms, and the variables of terms, as the code goes through them.
use Rattle.std.proofs.Common.{◌≡◌, ◌⊎◌, ℕ, zero, suc, ◌+◌, ◌≤◌, ◌<◌, List, [], ◌∷◌, ◌++◌, map, length, take, get_or, refl, sym, ◌∙◌, ap, subst, arith, All, Contains, IsTrue, Bool, true, false}
use Rattle.std.specs.List.{flat_map}
use Rattle.std.proofs.lemmas.Grind.{flat_map-append}
use Rattle.std.proofs.lemmas.List.{append_assoc, map-append, take_all, take_more}
use Rattle.std.proofs.lemmas.List.Elements.{All-cons, All-head, All-nil, All-push, All-tail, Contains-append_cases}
use mathlib.Core.Logic.{inl, inr}
use Rattle.syn_term.specs.Bank.{Kept, Belongs, Belongs-extends, Extends}
use Rattle.syn_term.specs.declared.sorts.SymId.{SymId}
use Rattle.syn_term.specs.declared.sorts.Var.{Var}
use Rattle.syn_term.specs.declared.term.Place.{Place}
use Rattle.syn_term.specs.declared.term.Node.TheViews as view
use Rattle.syn_term.specs.Terms.{TermTree, bare}
use Rattle.syn_form.specs.Substitutions.{Binding, Substitution, image}
use Rattle.syn_form.specs.Trees.{term_vars}
use Rattle.syn_form.proofs.Lists.{none_in_nil, Contains-along, Contains-flat_map_from}
use Rattle.syn_form.proofs.MadeTerms.{item_of}
use Rattle.syn_unify.specs.declared.bindings.Bound.{Bound}
use Rattle.syn_unify.specs.declared.pairs.Pair.{Pair}
use Rattle.syn_unify.specs.Bindings.{BindsOwn}
use Rattle.syn_unify.specs.inner.Changes.{seen, under}
use Rattle.syn_unify.specs.inner.Solutions.{PairBelongs, bare_binding, paired, replaced}
use Rattle.syn_unify.proofs.Sorts.{map_all}
use Rattle.syn_unify.proofs.States.{pair_of}
use Rattle.syn_unify.proofs.Under.{vars_symbol}

module _ (x : Var) where
  abbrev pub NotIn : List TermTree → Type 0
  NotIn ts = Contains (flat_map term_vars ts) x → ⊥

  -- the variable isn't in one term more
  pub not_more : (ts : List TermTree) (i : ℕ) (d t : TermTree) (b : Bool) → i < length ts → t ≡ get_or ts i d → NotIn (take i ts) → (Contains (term_vars t) x → IsTrue b) → b ≡ false → NotIn (take (i + 1) ts)
  not_more ts i d t b within is h l off c = go (Contains-append_cases (flat_map term_vars (take i ts)) (flat_map term_vars (t ∷ [])) x (Contains-along (flat_map term_vars (take (i + 1) ts)) (flat_map term_vars (take i ts) ++ flat_map term_vars (t ∷ [])) x e c))
    where
      m : take (i + 1) ts ≡ take i ts ++ t ∷ []
      m = take_more ts i d within ∙ ap (λ (z : TermTree). take i ts ++ z ∷ []) (sym is)

      e : flat_map term_vars (take (i + 1) ts) ≡ flat_map term_vars (take i ts) ++ flat_map term_vars (t ∷ [])
      e = ap (flat_map term_vars) m ∙ flat_map-append term_vars (take i ts) (t ∷ [])

      last : Contains (term_vars t) x ⊎ Contains [] x → ⊥
      last (inl k) = let q : b ≡ true = l k in absurd (cc)
      last (inr k) = none_in_nil x k

      go : Contains (flat_map term_vars (take i ts)) x ⊎ Contains (flat_map term_vars (t ∷ [])) x → ⊥
      go (inl k) = h k
      go (inr k) = last (Contains-append_cases (term_vars t) [] x k)

  -- a variable of an argument is one of the term
  pub found_in : (t : TermTree) (p : Place) (f : SymId) (args xs : List TermTree) (i : ℕ) (d a : TermTree) → t ≡ view.App p f args → xs ≡ args → i < length xs → a ≡ get_or xs i d → Contains (term_vars a) x → Contains (term_vars t) x
  found_in t p f args xs i d a is same within at c =
      let e : term_vars t ≡ flat_map term_vars xs = ap term_vars is ∙ (vars_symbol p f args ∙ ap (flat_map term_vars) (sym same)) in
      Contains-along (flat_map term_vars xs) (term_vars t) x (sym e) (Contains-flat_map_from term_vars xs a x (i, within, sym (item_is xs i d a within at)) c)
    where
      item_is : (xs : List TermTree) (i : ℕ) (d a : TermTree) → i < length xs → a ≡ get_or xs i d → a ≡ get_or xs i a
      item_is [] i d a lt h = absurd (omega arith)
      item_is (y ∷ ys) zero d a lt h = h
      item_is (y ∷ ys) (suc i) d a lt h = item_is ys i d a (omega arith) h

  -- what isn't in any argument isn't in the term
  pub not_whole : (t : TermTree) (p : Place) (f : SymId) (args xs : List TermTree) (i : ℕ) → t ≡ view.App p f args → xs ≡ args → length xs ≤ i → NotIn (take i xs) → Contains (term_vars t) x → ⊥
  not_whole t p f args xs i is same all h c =
      let e : term_vars t ≡ flat_map term_vars (take i xs) = ap term_vars is ∙ (vars_symbol p f args ∙ ap (flat_map term_vars) (sym same ∙ sym (take_all i xs all))) in
      h (Contains-along (term_vars t) (flat_map term_vars (take i xs)) x e c)

paired_push : (xs ys : List TermTree) (i : ℕ) (d e : TermTree) → i < length xs → i < length ys → paired (take (i + 1) xs) (take (i + 1) ys) ≡ paired (take i xs) (take i ys) ++ pair_of (get_or xs i d) (get_or ys i e) ∷ []
paired_push [] ys i d e lt le = absurd (omega arith)
paired_push (x ∷ xs) [] i d e lt le = absurd (omega arith)
paired_push (x ∷ xs) (y ∷ ys) zero d e lt le = refl
paired_push (x ∷ xs) (y ∷ ys) (suc i) d e lt le =
    let n : suc i + 1 ≡ suc (i + 1) = omega arith in
    let h : paired (take (i + 1) xs) (take (i + 1) ys) ≡ paired (take i xs) (take i ys) ++ pair_of (get_or xs i d) (get_or ys i e) ∷ [] = paired_push xs ys i d e (omega arith) (omega arith) in
    ap (λ (k : ℕ). paired (take k (x ∷ xs)) (take k (y ∷ ys))) n ∙ ap (λ (zs : List Pair). pair_of x y ∷ zs) h

-- one pair of arguments more
pub pairs_more : (first left new : List Pair) (xs ys : List TermTree) (i : ℕ) (d e x y : TermTree) → i < length xs → i < length ys → x ≡ get_or xs i d → y ≡ get_or ys i e → left ≡ first ++ paired (take i xs) (take i ys) → new ≡ left ++ pair_of x y ∷ [] → new ≡ first ++ paired (take (i + 1) xs) (take (i + 1) ys)
pairs_more first left new xs ys i d e x y lt le is_x is_y before more =
    let a : pair_of x y ≡ pair_of (get_or xs i d) (get_or ys i e) = ap (λ (z : TermTree). pair_of z y) is_x ∙ ap (λ (z : TermTree). pair_of (get_or xs i d) z) is_y in
    more ∙ (ap (λ (zs : List Pair). zs ++ pair_of x y ∷ []) before
    ∙ (ap (λ (z : Pair). (first ++ paired (take i xs) (take i ys)) ++ z ∷ []) a
    ∙ (append_assoc first (paired (take i xs) (take i ys)) (pair_of (get_or xs i d) (get_or ys i e) ∷ [])
    ∙ ap (λ (zs : List Pair). first ++ zs) (sym (paired_push xs ys i d e lt le)))))

abbrev binding_of : Bound → Binding
binding_of b = record { var = b.var; term = b.term }

-- what holds of each binding that is seen holds of one of them
pub bound_item : (P : Binding → Type 0) (bs : List Bound) (i : ℕ) (d b : Bound) → i < length bs → b ≡ get_or bs i d → All P (seen bs) → P (binding_of b)
bound_item P bs i d b within is h = item_of (λ (c : Bound). P (binding_of c)) bs i d b within is (map_all P binding_of bs h)

-- one binding more, replaced
pub bound_more : (ρ : Substitution) (done new bs : List Bound) (i : ℕ) (d b r : Bound) → i < length bs → b ≡ get_or bs i d → map bare_binding (seen done) ≡ map (replaced ρ) (seen (take i bs)) → r.var ≡ b.var → bare r.term ≡ under (image ρ) b.term → new ≡ done ++ r ∷ [] → map bare_binding (seen new) ≡ map (replaced ρ) (seen (take (i + 1) bs))
bound_more ρ done new bs i d b r within is h var term n =
    let a : map bare_binding (seen new) ≡ map bare_binding (seen done) ++ bare_binding (binding_of r) ∷ [] = ap (λ (zs : List Bound). map bare_binding (seen zs)) n ∙ (ap (map bare_binding) (map-append binding_of done (r ∷ [])) ∙ map-append bare_binding (seen done) (binding_of r ∷ [])) in
    let m : take (i + 1) bs ≡ take i bs ++ b ∷ [] = take_more bs i d within ∙ ap (λ (z : Bound). take i bs ++ z ∷ []) (sym is) in
    let k : map (replaced ρ) (seen (take (i + 1) bs)) ≡ map (replaced ρ) (seen (take i bs)) ++ replaced ρ (binding_of b) ∷ [] = ap (λ (zs : List Bound). map (replaced ρ) (seen zs)) m ∙ (ap (map (replaced ρ)) (map-append binding_of (take i bs) (b ∷ [])) ∙ map-append (replaced ρ) (seen (take i bs)) (binding_of b ∷ [])) in
    let e : bare_binding (binding_of r) ≡ replaced ρ (binding_of b) = ap (λ (v : Var). with v (bare r.term)) var ∙ ap (with b.var) term in
    a ∙ (ap (λ (zs : List Binding). zs ++ bare_binding (binding_of r) ∷ []) h ∙ (ap (λ (z : Binding). map (replaced ρ) (seen (take i bs)) ++ z ∷ []) e ∙ sym k))
  where
    with : Var → TermTree → Binding
    with v t = record { var = v; term = t }

pub binds_still : (a b : Kept) (σ : Substitution) → Extends a b → BindsOwn a σ → BindsOwn b σ
binds_still a b σ e h = λ k d lt. Belongs-extends a b (get_or σ k d).term e (h k d lt)

pub binds_more : (a b : Kept) (done new : List Bound) (r : Bound) → Extends a b → BindsOwn a (seen done) → Belongs b r.term → new ≡ done ++ r ∷ [] → BindsOwn b (seen new)
binds_more a b done new r e h k n =
    subst (BindsOwn b) (sym (ap seen n ∙ map-append binding_of done (r ∷ []))) (All-push (λ (c : Binding). Belongs b c.term) (seen done) (binding_of r) (binds_still a b (seen done) e h) k)

pub pairs_still : (a b : Kept) (ps : List Pair) → Extends a b → All (PairBelongs a) ps → All (PairBelongs b) ps
pairs_still a b ps e h = λ k d lt. (Belongs-extends a b (get_or ps k d).left e (h k d lt).0, Belongs-extends a b (get_or ps k d).right e (h k d lt).1)

pub paired_belong : (b : Kept) (xs ys : List TermTree) → All (Belongs b) xs → All (Belongs b) ys → All (PairBelongs b) (paired xs ys)
paired_belong b [] ys h k = All-nil (PairBelongs b)
paired_belong b (x ∷ xs) [] h k = All-nil (PairBelongs b)
paired_belong b (x ∷ xs) (y ∷ ys) h k = All-cons (PairBelongs b) (pair_of x y) (paired xs ys) (All-head (Belongs b) x xs h, All-head (Belongs b) y ys k) (paired_belong b xs ys (All-tail (Belongs b) x xs h) (All-tail (Belongs b) y ys k))

pub binds_item : (a b : Kept) (bs : List Bound) (i : ℕ) (d c : Bound) → Extends a b → i < length bs → c ≡ get_or bs i d → BindsOwn a (seen bs) → Belongs b c.term
binds_item a b bs i d c e within is h = Belongs-extends a b c.term e (bound_item (λ (z : Binding). Belongs a z.term) bs i d c within is h)

-- the new binding before the others
pub binds_all : (a b : Kept) (first mid rest all : List Bound) (r : Bound) → Extends a b → Belongs a r.term → first ≡ [] → mid ≡ first ++ r ∷ [] → all ≡ mid ++ rest → BindsOwn b (seen rest) → BindsOwn b (seen all)
binds_all a b first mid rest all r e h none start end k =
    let m : mid ≡ r ∷ [] = start ∙ ap (λ (zs : List Bound). zs ++ r ∷ []) none in
    let n : all ≡ r ∷ rest = end ∙ ap (λ (zs : List Bound). zs ++ rest) m in
    subst (BindsOwn b) (sym (ap seen n)) (All-cons (λ (c : Binding). Belongs b c.term) (binding_of r) (seen rest) (Belongs-extends a b r.term e h) k)
