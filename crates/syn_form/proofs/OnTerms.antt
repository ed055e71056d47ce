-- Formulas with their terms changed: what each kind of formula becomes, and how many nodes its terms have.
use Rattle.std.proofs.Common.{◌≡◌, ℕ, ◌+◌, ◌<◌, ◌≤◌, List, [], ◌∷◌, ◌++◌, All, map, sum, get_or, refl, sym, ◌∙◌, ap, subst, arith}
use Rattle.std.specs.List.{flat_map}
use Rattle.std.proofs.lemmas.Grind.{flat_map-append}
use Rattle.std.proofs.lemmas.List.Sums.{sum-map, sum_by-append, sum_by-cons}
use Rattle.std.proofs.lemmas.List.Elements.{All-nil, All-cons, All-append}
use Rattle.syn_term.specs.Bank.{Kept, Belongs, Belongs-extends, Extends}
use Rattle.syn_term.specs.declared.sorts.SymId.{SymId}
use Rattle.syn_term.specs.Terms.{TermTree, bare, nodes}
use Rattle.syn_form.specs.declared.trees.Form.TheVariants as form
use Rattle.syn_form.specs.declared.trees.Form.TheViews as view
use Rattle.syn_form.specs.Inputs.{on_terms, on_terms_step, terms_size}
use Rattle.syn_form.specs.inner.Joining.{terms_of}
use Rattle.syn_form.specs.Simplification.{Junction, conjunction, disjunction, chain}
use Rattle.syn_form.specs.Trees.{FormTree, form_nodes, bare_form, bare_form_step, form_terms}
use Rattle.syn_form.proofs.Equations.{fold-Atom, fold-Equal, fold-Not, fold-And, fold-Or, fold-Implies, bare_form-Atom, bare_form-Equal, bare_form-Not, bare_form-Implies, form_nodes-Not, form_terms-Atom, form_terms-Equal, form_terms-Not, form_terms-Implies}
use Rattle.syn_form.proofs.SimplifiedTerms.{form_terms-chain}

chain_bare : (j : Junction) (all : List FormTree) → bare_form (chain j all) ≡ chain j (map bare_form all)
chain_bare conjunction all = fold-And bare_form_step all
chain_bare disjunction all = fold-Or bare_form_step all

-- chains whose members are one but for their places
pub chain_same : (j : Junction) (xs ys : List FormTree) → map bare_form xs ≡ map bare_form ys → bare_form (chain j xs) ≡ bare_form (chain j ys)
chain_same j xs ys e = chain_bare j xs ∙ (ap (chain j) e ∙ sym (chain_bare j ys))

module _ (g : TermTree → TermTree) where
  pub on_terms-chain : (j : Junction) (all : List FormTree) → on_terms g (chain j all) ≡ chain j (map (on_terms g) all)
  on_terms-chain conjunction all = fold-And (on_terms_step g) all
  on_terms-chain disjunction all = fold-Or (on_terms_step g) all

  module _ (f : FormTree) where
    pub atom_end : (r : SymId) (args xs ys : List TermTree) → f ≡ form.Atom r args → xs ≡ args → map bare ys ≡ map bare (map g xs) → bare_form (form.Atom r ys) ≡ bare_form (on_terms g f)
    atom_end r args xs ys is same e =
        bare_form-Atom r ys ∙ (ap (form.Atom r) (e ∙ ap (λ (z : List TermTree). map bare (map g z)) same) ∙ (sym (bare_form-Atom r (map g args)) ∙ ap bare_form (sym (ap (on_terms g) is ∙ fold-Atom (on_terms_step g) r args))))

    pub equal_end : (s t u v : TermTree) → f ≡ form.Equal s t → bare u ≡ bare (g s) → bare v ≡ bare (g t) → bare_form (form.Equal u v) ≡ bare_form (on_terms g f)
    equal_end s t u v is e k =
        bare_form-Equal u v ∙ (ap (λ (z : TermTree). form.Equal z (bare v)) e ∙ (ap (λ (z : TermTree). form.Equal (bare (g s)) z) k ∙ (sym (bare_form-Equal (g s) (g t)) ∙ ap bare_form (sym (ap (on_terms g) is ∙ fold-Equal (on_terms_step g) s t)))))

    pub not_end : (a x y : FormTree) → f ≡ view.Not a → x ≡ a → bare_form y ≡ bare_form (on_terms g x) → bare_form (view.Not y) ≡ bare_form (on_terms g f)
    not_end a x y is same e =
        bare_form-Not y ∙ (ap (λ (z : FormTree). view.Not z) (e ∙ ap (λ (z : FormTree). bare_form (on_terms g z)) same) ∙ (sym (bare_form-Not (on_terms g a)) ∙ ap bare_form (sym (ap (on_terms g) is ∙ fold-Not (on_terms_step g) a))))

    pub chain_end : (j : Junction) (all xs ys : List FormTree) → f ≡ chain j all → xs ≡ all → map bare_form ys ≡ map bare_form (map (on_terms g) xs) → bare_form (chain j ys) ≡ bare_form (on_terms g f)
    chain_end j all xs ys is same e =
        chain_bare j ys ∙ (ap (chain j) (e ∙ ap (λ (z : List FormTree). map bare_form (map (on_terms g) z)) same) ∙ (sym (chain_bare j (map (on_terms g) all)) ∙ ap bare_form (sym (ap (on_terms g) is ∙ on_terms-chain j all))))

    pub implies_end : (a b x y v w : FormTree) → f ≡ view.Implies a b → x ≡ a → y ≡ b → bare_form v ≡ bare_form (on_terms g x) → bare_form w ≡ bare_form (on_terms g y) → bare_form (view.Implies v w) ≡ bare_form (on_terms g f)
    implies_end a b x y v w is k l e h =
        bare_form-Implies v w ∙ (ap (λ (z : FormTree). view.Implies z (bare_form w)) (e ∙ ap (λ (z : FormTree). bare_form (on_terms g z)) k)
        ∙ (ap (λ (z : FormTree). view.Implies (bare_form (on_terms g a)) z) (h ∙ ap (λ (z : FormTree). bare_form (on_terms g z)) l)
        ∙ (sym (bare_form-Implies (on_terms g a) (on_terms g b)) ∙ ap bare_form (sym (ap (on_terms g) is ∙ fold-Implies (on_terms_step g) a b)))))

-- the number of nodes of the terms
size_append : (xs ys : List TermTree) → sum (map nodes (xs ++ ys)) ≡ sum (map nodes xs) + sum (map nodes ys)
size_append xs ys = let a = sum-map nodes (xs ++ ys) in let b = sum_by-append nodes xs ys in let c = sum-map nodes xs in let d = sum-map nodes ys in omega arith

size_members : (fs : List FormTree) → sum (map nodes (flat_map form_terms fs)) ≡ sum (map terms_size fs)
size_members [] = refl
size_members (f ∷ fs) =
    let a = size_append (form_terms f) (flat_map form_terms fs) in
    let e = size_members fs in
    let h = sum-map terms_size (f ∷ fs) in
    let k = sum_by-cons terms_size f fs in
    let m = sum-map terms_size fs in omega arith

module _ (f : FormTree) where
  pub size-Atom : (r : SymId) (args xs : List TermTree) → f ≡ form.Atom r args → xs ≡ args → terms_size f ≡ sum (map nodes xs)
  size-Atom r args xs is same = ap (λ (ts : List TermTree). sum (map nodes ts)) (ap form_terms is ∙ (form_terms-Atom r args ∙ sym same))

  pub size-Equal : (s t : TermTree) → f ≡ form.Equal s t → terms_size f ≡ nodes s + nodes t
  size-Equal s t is =
      let e : terms_size f ≡ sum (map nodes (s ∷ t ∷ [])) = ap (λ (ts : List TermTree). sum (map nodes ts)) (ap form_terms is ∙ form_terms-Equal s t) in
      let a = sum-map nodes (s ∷ t ∷ []) in
      let b = sum_by-cons nodes s (t ∷ []) in
      let c = sum_by-cons nodes t [] in omega arith

  pub size-Not : (a x : FormTree) → f ≡ view.Not a → x ≡ a → terms_size f ≡ terms_size x
  size-Not a x is same = ap (λ (ts : List TermTree). sum (map nodes ts)) (ap form_terms is ∙ (form_terms-Not a ∙ sym (ap form_terms same)))

  pub size-chain : (j : Junction) (all xs : List FormTree) → f ≡ chain j all → xs ≡ all → terms_size f ≡ sum (map terms_size xs)
  size-chain j all xs is same = ap (λ (ts : List TermTree). sum (map nodes ts)) (ap form_terms is ∙ (form_terms-chain j all ∙ sym (ap (flat_map form_terms) same))) ∙ size_members xs

  pub size-Implies : (a b x y : FormTree) → f ≡ view.Implies a b → x ≡ a → y ≡ b → terms_size f ≡ terms_size x + terms_size y
  size-Implies a b x y is k l =
      let e : terms_size f ≡ sum (map nodes (form_terms a ++ form_terms b)) = ap (λ (ts : List TermTree). sum (map nodes ts)) (ap form_terms is ∙ form_terms-Implies a b) in
      let h = size_append (form_terms a) (form_terms b) in
      let m : terms_size x ≡ terms_size a = ap terms_size k in
      let n : terms_size y ≡ terms_size b = ap terms_size l in omega arith

module _ (f : FormTree) (m n : ℕ) where
  -- no more nodes are made than the terms have
  pub made_chain : (j : Junction) (all xs : List FormTree) → f ≡ chain j all → xs ≡ all → n ≤ m + sum (map terms_size xs) → n ≤ m + terms_size f
  made_chain j all xs is same h = let e = size-chain f j all xs is same in omega arith

  pub made_both : (a b x y : FormTree) → f ≡ view.Implies a b → x ≡ a → y ≡ b → n ≤ m + (terms_size x + terms_size y) → n ≤ m + terms_size f
  made_both a b x y is k l h = let e = size-Implies f a b x y is k l in omega arith

module _ (P : TermTree → Type 0) where
  -- what holds of the terms of the parts holds of those of the whole
  pub all-Atom : (r : SymId) (args : List TermTree) → All P args → All P (form_terms (form.Atom r args))
  all-Atom r args h = subst (All P) (sym (form_terms-Atom r args)) h

  pub all-Equal : (s t : TermTree) → P s → P t → All P (form_terms (form.Equal s t))
  all-Equal s t h k = subst (All P) (sym (form_terms-Equal s t)) (All-cons P s (t ∷ []) h (All-cons P t [] k (All-nil P)))

  pub all-Not : (a : FormTree) → All P (form_terms a) → All P (form_terms (view.Not a))
  all-Not a h = subst (All P) (sym (form_terms-Not a)) h

  pub all-chain : (j : Junction) (all xs : List FormTree) → all ≡ xs → All P (terms_of xs) → All P (form_terms (chain j all))
  all-chain j all xs same h = subst (All P) (sym (form_terms-chain j all)) (subst (λ (z : List FormTree). All P (terms_of z)) (sym same) h)

  pub all-Implies : (a b x y : FormTree) → a ≡ x → b ≡ y → All P (form_terms x) → All P (form_terms y) → All P (form_terms (view.Implies a b))
  all-Implies a b x y is_x is_y h k =
      subst (All P) (sym (form_terms-Implies a b)) (All-append P (form_terms a) (form_terms b) (subst (λ (z : FormTree). All P (form_terms z)) (sym is_x) h) (subst (λ (z : FormTree). All P (form_terms z)) (sym is_y) k))

pub fewer_negated : (f a x : FormTree) → f ≡ view.Not a → x ≡ a → form_nodes x < form_nodes f
fewer_negated f a x is same =
    let n : form_nodes f ≡ 1 + form_nodes a = ap form_nodes is ∙ form_nodes-Not a in
    let m : form_nodes x ≡ form_nodes a = ap form_nodes same in omega arith

-- the terms of the formulas made so far belong to the bank, after one call more
pub terms_more : (a b : Kept) (done new : List FormTree) (g : FormTree) → Extends a b → All (Belongs a) (terms_of done) → All (Belongs b) (form_terms g) → new ≡ done ++ g ∷ [] → All (Belongs b) (terms_of new)
terms_more a b done new g e h k n =
    let still : All (Belongs b) (terms_of done) = λ j d lt. Belongs-extends a b (get_or (terms_of done) j d) e (h j d lt) in
    let whole : terms_of new ≡ terms_of done ++ terms_of (g ∷ []) = ap terms_of n ∙ flat_map-append form_terms done (g ∷ []) in
    subst (All (Belongs b)) (sym whole) (All-append (Belongs b) (terms_of done) (terms_of (g ∷ [])) still (All-append (Belongs b) (form_terms g) [] k (All-nil (Belongs b))))
