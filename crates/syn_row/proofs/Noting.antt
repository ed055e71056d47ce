-- Variables noted one after another: from the parts of a tree, and that what is noted is each variable once, in order.
use Rattle.std.proofs.Common.{◌≡◌, ℕ, ◌+◌, ◌<◌, Bool, true, false, not, ◌||◌, ◌&&◌, cond, List, [], ◌∷◌, ◌++◌, filter, length, take, get_or, refl, sym, ◌∙◌, ap, append_assoc, append-nil, subst, Contains}
use Rattle.std.specs.List.{flat_map}
use Rattle.std.proofs.lemmas.List.{take_more}
use Rattle.std.proofs.lemmas.List.Concat.{flat_map-append}
use Rattle.syn_term.specs.declared.sorts.Var.{Var}
use Rattle.syn_term.specs.Terms.{TermTree}
use Rattle.syn_form.specs.Substitutions.{same_var}
use Rattle.syn_form.specs.Trees.{FormTree, OutTree, form_terms, form_vars, out_terms, out_vars, term_vars}
use Rattle.syn_form.specs.declared.trees.Form.TheVariants as form
use Rattle.syn_form.specs.declared.trees.Form.TheViews as view
use Rattle.syn_form.specs.declared.trees.Out.TheViews as out_view
use Rattle.syn_form.proofs.Equations.{form_terms-Equal, form_terms-Implies, out_terms-If}
use Rattle.syn_row.specs.Rows.{first_occurrences}
use Rattle.syn_row.specs.inner.Noting.{has_var, noted}
use Rattle.syn_row.proofs.SameVars.{has_var-from, has_var-to, same_var_to}

pub noted-append : (done xs ys : List Var) → noted done (xs ++ ys) ≡ noted (noted done xs) ys
noted-append done [] ys = refl
noted-append done (x ∷ xs) ys = noted-append (cond (has_var done x) done (done ++ x ∷ [])) xs ys

-- the variables of the next part are noted behind those of the first parts
pub noted_next : {X : Type 0} (f : X → List Var) (xs : List X) (i : ℕ) (d x : X) (old now new : List Var) → i < length xs → x ≡ get_or xs i d → now ≡ noted old (flat_map f (take i xs)) → new ≡ noted now (f x) → new ≡ noted old (flat_map f (take (i + 1) xs))
noted_next {X} f xs i d x old now new lt is e h =
    let more : flat_map f (take (i + 1) xs) ≡ flat_map f (take i xs) ++ f x =
    ap (flat_map f) (take_more xs i d lt) ∙ (flat_map-append f (take i xs) (get_or xs i d ∷ []) ∙ (ap (λ (z : List Var). flat_map f (take i xs) ++ z) (append-nil (f (get_or xs i d))) ∙ ap (λ (z : X). flat_map f (take i xs) ++ f z) (sym is))) in
    h ∙ (ap (λ (z : List Var). noted z (f x)) e ∙ (sym (noted-append old (flat_map f (take i xs)) (f x)) ∙ ap (noted old) (sym more)))

pub noted_whole : (part whole old new : List Var) → whole ≡ part → new ≡ noted old part → new ≡ noted old whole
noted_whole part whole old new is h = h ∙ ap (noted old) (sym is)

pub noted_equality : (f : FormTree) (s t : TermTree) (old new : List Var) → f ≡ form.Equal s t → new ≡ noted (noted old (term_vars s)) (term_vars t) → new ≡ noted old (form_vars f)
noted_equality f s t old new is h =
    let whole : form_vars f ≡ term_vars s ++ term_vars t = ap (flat_map term_vars) (ap form_terms is ∙ form_terms-Equal s t) ∙ ap (λ (z : List Var). term_vars s ++ z) (append-nil (term_vars t)) in
    h ∙ (sym (noted-append old (term_vars s) (term_vars t)) ∙ ap (noted old) (sym whole))

pub noted_implication : (f a b x y : FormTree) (old now new : List Var) → f ≡ view.Implies a b → x ≡ a → y ≡ b → now ≡ noted old (form_vars x) → new ≡ noted now (form_vars y) → new ≡ noted old (form_vars f)
noted_implication f a b x y old now new is is_x is_y e h =
    let whole : form_vars f ≡ form_vars x ++ form_vars y =
    ap (flat_map term_vars) (ap form_terms is ∙ form_terms-Implies a b) ∙ (flat_map-append term_vars (form_terms a) (form_terms b)
    ∙ (ap (λ (z : FormTree). form_vars z ++ form_vars b) (sym is_x) ∙ ap (λ (z : FormTree). form_vars x ++ form_vars z) (sym is_y))) in
    h ∙ (ap (λ (z : List Var). noted z (form_vars y)) e ∙ (sym (noted-append old (form_vars x) (form_vars y)) ∙ ap (noted old) (sym whole)))

pub out_vars-If : (f : FormTree) (u v : OutTree) → out_vars (out_view.If f u v) ≡ form_vars f ++ (out_vars u ++ out_vars v)
out_vars-If f u v =
    ap (flat_map term_vars) (out_terms-If f u v) ∙ (flat_map-append term_vars (form_terms f) (out_terms u ++ out_terms v)
    ∙ ap (λ (z : List Var). form_vars f ++ z) (flat_map-append term_vars (out_terms u) (out_terms v)))

pub noted_choice : (o : OutTree) (f g : FormTree) (u v x y : OutTree) (old now then new : List Var) → o ≡ out_view.If f u v → g ≡ f → x ≡ u → y ≡ v → now ≡ noted old (form_vars g) → then ≡ noted now (out_vars x) → new ≡ noted then (out_vars y) → new ≡ noted old (out_vars o)
noted_choice o f g u v x y old now then new is is_g is_x is_y a b h =
    let whole : out_vars o ≡ form_vars g ++ (out_vars x ++ out_vars y) =
    ap out_vars is ∙ (out_vars-If f u v ∙ (ap (λ (z : FormTree). form_vars z ++ (out_vars u ++ out_vars v)) (sym is_g)
    ∙ (ap (λ (z : OutTree). form_vars g ++ (out_vars z ++ out_vars v)) (sym is_x) ∙ ap (λ (z : OutTree). form_vars g ++ (out_vars x ++ out_vars z)) (sym is_y)))) in
    h ∙ (ap (λ (z : List Var). noted z (out_vars y)) b ∙ (ap (λ (z : List Var). noted (noted z (out_vars x)) (out_vars y)) a
    ∙ (sym (noted-append (noted old (form_vars g)) (out_vars x) (out_vars y)) ∙ (sym (noted-append old (form_vars g) (out_vars x ++ out_vars y)) ∙ ap (noted old) (sym whole)))))

-- two filters, one after the other
filter_twice : {X : Type 0} (p q : X → Bool) (xs : List X) → filter p (filter q xs) ≡ filter (λ x. q x && p x) xs
filter_twice p q [] = refl
filter_twice {X} p q (x ∷ xs) = go (q x) (filter_twice p q xs)
  where
    go : (b : Bool) → filter p (filter q xs) ≡ filter (λ y. q y && p y) xs → filter p (cond b (x ∷ filter q xs) (filter q xs)) ≡ cond (b && p x) (x ∷ filter (λ y. q y && p y) xs) (filter (λ y. q y && p y) xs)
    go true e = ap (λ (z : List X). cond (p x) (x ∷ z) z) e
    go false e = e

filter_alike : {X : Type 0} (p q : X → Bool) (xs : List X) → ((x : X) → p x ≡ q x) → filter p xs ≡ filter q xs
filter_alike p q [] h = refl
filter_alike {X} p q (x ∷ xs) h = ap (λ (b : Bool). cond b (x ∷ filter p xs) (filter p xs)) (h x) ∙ ap (λ (z : List X). cond (q x) (x ∷ z) z) (filter_alike p q xs h)

filter_none : {X : Type 0} (xs : List X) → filter (λ x. true) xs ≡ xs
filter_none [] = refl
filter_none {X} (x ∷ xs) = ap (λ (z : List X). x ∷ z) (filter_none xs)

-- a variable that isn't among those noted is another than one of them
not_either : (a b : Bool) → (not a && not b) ≡ not (b || a)
not_either true true = refl
not_either true false = refl
not_either false true = refl
not_either false false = refl

has_more : (done : List Var) (v w : Var) → has_var (done ++ v ∷ []) w ≡ (has_var done w || same_var v w)
has_more [] v w = or_none (same_var v w)
  where
    or_none : (b : Bool) → (b || false) ≡ b
    or_none true = refl
    or_none false = refl
has_more (x ∷ xs) v w = ap (λ (b : Bool). same_var x w || b) (has_more xs v w) ∙ or_assoc (same_var x w) (has_var xs w) (same_var v w)
  where
    or_assoc : (a b c : Bool) → (a || (b || c)) ≡ ((a || b) || c)
    or_assoc true b c = refl
    or_assoc false b c = refl

outside : (done : List Var) (v w : Var) → has_var done v ≡ true → (not (same_var v w) && not (has_var done w)) ≡ not (has_var done w)
outside done v w h = go (same_var v w) refl
  where
    go : (b : Bool) → same_var v w ≡ b → (not b && not (has_var done w)) ≡ not (has_var done w)
    go true e = sym (ap not (ap (has_var done) (sym (same_var_to v w e)) ∙ h))
    go false e = refl

-- those of the list that are not noted yet, behind those that are
noted_is : (done vs : List Var) → noted done vs ≡ done ++ filter (λ w. not (has_var done w)) (first_occurrences vs)
noted_is done [] = sym (append-nil done)
noted_is done (v ∷ vs) = go (has_var done v) refl (noted_is done vs) (noted_is (done ++ v ∷ []) vs)
  where
    go : (b : Bool) → has_var done v ≡ b
        → noted done vs ≡ done ++ filter (λ w. not (has_var done w)) (first_occurrences vs)
        → noted (done ++ v ∷ []) vs ≡ (done ++ v ∷ []) ++ filter (λ w. not (has_var (done ++ v ∷ []) w)) (first_occurrences vs)
        → noted (cond b done (done ++ v ∷ [])) vs ≡ done ++ cond (not b) (v ∷ filter (λ w. not (has_var done w)) (filter (λ w. not (same_var v w)) (first_occurrences vs))) (filter (λ w. not (has_var done w)) (filter (λ w. not (same_var v w)) (first_occurrences vs)))
    go true e h k =
        h ∙ ap (λ (z : List Var). done ++ z) (sym (filter_twice (λ w. not (has_var done w)) (λ w. not (same_var v w)) (first_occurrences vs)
        ∙ filter_alike (λ w. not (same_var v w) && not (has_var done w)) (λ w. not (has_var done w)) (first_occurrences vs) (λ w. outside done v w e)))
    go false e h k =
        k ∙ (append_assoc done (v ∷ []) (filter (λ w. not (has_var (done ++ v ∷ []) w)) (first_occurrences vs))
        ∙ ap (λ (z : List Var). done ++ v ∷ z)
        (filter_alike (λ w. not (has_var (done ++ v ∷ []) w)) (λ w. not (same_var v w) && not (has_var done w)) (first_occurrences vs) (λ w. ap not (has_more done v w) ∙ sym (not_either (same_var v w) (has_var done w)))
        ∙ sym (filter_twice (λ w. not (has_var done w)) (λ w. not (same_var v w)) (first_occurrences vs))))

pub noted_first : (vs : List Var) → noted [] vs ≡ first_occurrences vs
noted_first vs = noted_is [] vs ∙ filter_none (first_occurrences vs)

-- a variable that is noted already, and one that isn't
pub noted_again : (vars seen : List Var) (v : Var) → seen ≡ vars → Contains seen v → vars ≡ noted vars (v ∷ [])
noted_again vars seen v same c = sym (ap (λ (b : Bool). cond b vars (vars ++ v ∷ [])) (has_var-from vars v (subst (λ (z : List Var). Contains z v) same c)))

pub noted_new : (vars seen new : List Var) (v : Var) → seen ≡ vars → (Contains seen v → ⊥) → new ≡ vars ++ v ∷ [] → new ≡ noted vars (v ∷ [])
noted_new vars seen new v same none is = is ∙ sym (go (has_var vars v) refl)
  where
    go : (b : Bool) → has_var vars v ≡ b → cond b vars (vars ++ v ∷ []) ≡ vars ++ v ∷ []
    go true e = absurd (none (subst (λ (z : List Var). Contains z v) (sym same) (has_var-to vars v e)))
    go false e = refl

pub noted_row : (xs ys start now new : List Var) → start ≡ [] → now ≡ noted start xs → new ≡ noted now ys → new ≡ first_occurrences (xs ++ ys)
noted_row xs ys start now new none first second =
    second ∙ (ap (λ (z : List Var). noted z ys) (first ∙ ap (λ (z : List Var). noted z xs) none) ∙ (sym (noted-append [] xs ys) ∙ noted_first (xs ++ ys)))
