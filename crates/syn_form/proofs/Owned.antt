-- Where the terms of two formulas are of one bank, those of their parts are too, and any two of them can be compared.
use Rattle.std.proofs.Common.{◌≡◌, ℕ, zero, suc, ◌<◌, List, [], ◌∷◌, map, length, get_or, ◌++◌, All, sym, ◌∙◌, ap, subst, refl, arith}
use Rattle.std.proofs.lemmas.List.Elements.{All-nil, All-cons, All-head, All-tail, All-append, All-get_or}
use Rattle.syn_term.specs.Bank.{Kept, Belongs, Agree, Agree-belongs}
use Rattle.syn_term.specs.declared.sorts.SymId.{SymId}
use Rattle.syn_term.specs.Terms.{TermTree}
use Rattle.syn_form.specs.declared.trees.Form.TheVariants as form
use Rattle.syn_form.specs.declared.trees.Form.TheViews as view
use Rattle.syn_form.specs.declared.trees.Out.TheVariants as out
use Rattle.syn_form.specs.declared.trees.Out.TheViews as out_view
use Rattle.syn_form.specs.Same.{OfOneBank, OfOneBank-from, OfOneBank-to}
use Rattle.syn_form.specs.Trees.{FormTree, OutTree, form_terms, out_terms, all_of}
use Rattle.syn_form.proofs.Equations.{form_terms-Atom, form_terms-Equal, form_terms-Not, form_terms-And, form_terms-Or, form_terms-Implies, out_terms-Give, out_terms-If}

module _ {A : Type 0} (P : A → Type 0) where
  pub All-left : (xs ys : List A) → All P (xs ++ ys) → All P xs
  All-left [] ys h = All-nil P
  All-left (x ∷ xs) ys h = All-cons P x xs (All-head P x (xs ++ ys) h) (All-left xs ys (All-tail P x (xs ++ ys) h))

  pub All-right : (xs ys : List A) → All P (xs ++ ys) → All P ys
  All-right [] ys h = h
  All-right (x ∷ xs) ys h = All-right xs ys (All-tail P x (xs ++ ys) h)

  -- what holds of all items of several lists holds of all items of each
  pub All-member : {B : Type 0} → (f : B → List A) → (all : List B) (i : ℕ) (d : B) → i < length all → All P (all_of (map f all)) → All P (f (get_or all i d))
  All-member f [] i d lt h = absurd (omega (arith, lt))
  All-member f (x ∷ xs) zero d lt h = All-left (f x) (all_of (map f xs)) h
  All-member f (x ∷ xs) (suc i) d lt h = All-member f xs i d (omega (arith, lt)) (All-right (f x) (all_of (map f xs)) h)

-- from lists to lists whose items are among those of the first
abbrev Among : List TermTree → List TermTree → Type 1
Among part whole = (P : TermTree → Type 0) → All P whole → All P part

one_bank_of : (xs ys vs ws : List TermTree) → Among xs vs → Among ys ws → OfOneBank (vs ++ ws) → OfOneBank (xs ++ ys)
one_bank_of xs ys vs ws f g one = both (OfOneBank-to (vs ++ ws) one)
  where
    both : (b : Kept) × All (Belongs b) (vs ++ ws) → OfOneBank (xs ++ ys)
    both h = OfOneBank-from h.0 (xs ++ ys) (All-append (Belongs h.0) xs ys (f (Belongs h.0) (All-left (Belongs h.0) vs ws h.1)) (g (Belongs h.0) (All-right (Belongs h.0) vs ws h.1)))

-- any two terms of one bank agree
pub agree_at : (xs ys : List TermTree) (i j : ℕ) (d e x y : TermTree) → OfOneBank (xs ++ ys) → i < length xs → j < length ys → x ≡ get_or xs i d → y ≡ get_or ys j e → Agree x y
agree_at xs ys i j d e x y one lt lu is_x is_y =
    let h = OfOneBank-to (xs ++ ys) one in
    let a : Belongs h.0 x = subst (Belongs h.0) (sym is_x) (All-get_or (Belongs h.0) xs i d lt (All-left (Belongs h.0) xs ys h.1)) in
    let b : Belongs h.0 y = subst (Belongs h.0) (sym is_y) (All-get_or (Belongs h.0) ys j e lu (All-right (Belongs h.0) xs ys h.1)) in
    Agree-belongs h.0 x y a b

module _ (f g : FormTree) (one : OfOneBank (form_terms f ++ form_terms g)) where
  by_terms : (vs ws xs ys : List TermTree) → form_terms f ≡ vs → form_terms g ≡ ws → Among xs vs → Among ys ws → OfOneBank (xs ++ ys)
  by_terms vs ws xs ys e k a b = one_bank_of xs ys (form_terms f) (form_terms g) (λ P h. a P (subst (All P) e h)) (λ P h. b P (subst (All P) k h)) one

  -- the arguments of two atoms
  pub bank_args : (r q : SymId) (xs ys : List TermTree) → f ≡ form.Atom r xs → g ≡ form.Atom q ys → OfOneBank (xs ++ ys)
  bank_args r q xs ys e k = by_terms xs ys xs ys (ap form_terms e ∙ form_terms-Atom r xs) (ap form_terms k ∙ form_terms-Atom q ys) (λ P h. h) (λ P h. h)

  -- the sides of two equalities
  bank_sides : (s t u v : TermTree) → f ≡ form.Equal s t → g ≡ form.Equal u v → OfOneBank ((s ∷ t ∷ []) ++ (u ∷ v ∷ []))
  bank_sides s t u v e k = by_terms (s ∷ t ∷ []) (u ∷ v ∷ []) (s ∷ t ∷ []) (u ∷ v ∷ []) (ap form_terms e ∙ form_terms-Equal s t) (ap form_terms k ∙ form_terms-Equal u v) (λ P h. h) (λ P h. h)

  pub agree_left : (s t u v : TermTree) → f ≡ form.Equal s t → g ≡ form.Equal u v → Agree s u
  agree_left s t u v e k = agree_at (s ∷ t ∷ []) (u ∷ v ∷ []) 0 0 s u s u (bank_sides s t u v e k) (omega arith) (omega arith) refl refl

  pub agree_right : (s t u v : TermTree) → f ≡ form.Equal s t → g ≡ form.Equal u v → Agree t v
  agree_right s t u v e k = agree_at (s ∷ t ∷ []) (u ∷ v ∷ []) 1 1 t v t v (bank_sides s t u v e k) (omega arith) (omega arith) refl refl

  -- the parts of two negations, and of two implications
  pub bank_negated : (a b : FormTree) → f ≡ view.Not a → g ≡ view.Not b → OfOneBank (form_terms a ++ form_terms b)
  bank_negated a b e k = by_terms (form_terms a) (form_terms b) (form_terms a) (form_terms b) (ap form_terms e ∙ form_terms-Not a) (ap form_terms k ∙ form_terms-Not b) (λ P h. h) (λ P h. h)

  pub bank_left : (a b c d x z : FormTree) → f ≡ view.Implies a b → g ≡ view.Implies c d → x ≡ a → z ≡ c → OfOneBank (form_terms x ++ form_terms z)
  bank_left a b c d x z e k is_x is_z =
      by_terms (form_terms a ++ form_terms b) (form_terms c ++ form_terms d) (form_terms x) (form_terms z) (ap form_terms e ∙ form_terms-Implies a b) (ap form_terms k ∙ form_terms-Implies c d)
      (λ P h. subst (λ (y : FormTree). All P (form_terms y)) (sym is_x) (All-left P (form_terms a) (form_terms b) h))
      (λ P h. subst (λ (y : FormTree). All P (form_terms y)) (sym is_z) (All-left P (form_terms c) (form_terms d) h))

  pub bank_right : (a b c d x z : FormTree) → f ≡ view.Implies a b → g ≡ view.Implies c d → x ≡ b → z ≡ d → OfOneBank (form_terms x ++ form_terms z)
  bank_right a b c d x z e k is_x is_z =
      by_terms (form_terms a ++ form_terms b) (form_terms c ++ form_terms d) (form_terms x) (form_terms z) (ap form_terms e ∙ form_terms-Implies a b) (ap form_terms k ∙ form_terms-Implies c d)
      (λ P h. subst (λ (y : FormTree). All P (form_terms y)) (sym is_x) (All-right P (form_terms a) (form_terms b) h))
      (λ P h. subst (λ (y : FormTree). All P (form_terms y)) (sym is_z) (All-right P (form_terms c) (form_terms d) h))

  -- the members of two chains
  pub bank_and : (xs ys : List FormTree) → f ≡ view.And xs → g ≡ view.And ys → OfOneBank (all_of (map form_terms xs) ++ all_of (map form_terms ys))
  bank_and xs ys e k = by_terms (all_of (map form_terms xs)) (all_of (map form_terms ys)) (all_of (map form_terms xs)) (all_of (map form_terms ys)) (ap form_terms e ∙ form_terms-And xs) (ap form_terms k ∙ form_terms-And ys) (λ P h. h) (λ P h. h)

  pub bank_or : (xs ys : List FormTree) → f ≡ view.Or xs → g ≡ view.Or ys → OfOneBank (all_of (map form_terms xs) ++ all_of (map form_terms ys))
  bank_or xs ys e k = by_terms (all_of (map form_terms xs)) (all_of (map form_terms ys)) (all_of (map form_terms xs)) (all_of (map form_terms ys)) (ap form_terms e ∙ form_terms-Or xs) (ap form_terms k ∙ form_terms-Or ys) (λ P h. h) (λ P h. h)

-- one formula of each of two lists
pub bank_member : (xs ys : List FormTree) (i j : ℕ) (d e x y : FormTree) → OfOneBank (all_of (map form_terms xs) ++ all_of (map form_terms ys)) → i < length xs → j < length ys → x ≡ get_or xs i d → y ≡ get_or ys j e → OfOneBank (form_terms x ++ form_terms y)
bank_member xs ys i j d e x y one lt lu is_x is_y =
    one_bank_of (form_terms x) (form_terms y) (all_of (map form_terms xs)) (all_of (map form_terms ys))
    (λ P h. subst (λ (z : FormTree). All P (form_terms z)) (sym is_x) (All-member P form_terms xs i d lt h))
    (λ P h. subst (λ (z : FormTree). All P (form_terms z)) (sym is_y) (All-member P form_terms ys j e lu h)) one

module _ (o p : OutTree) (one : OfOneBank (out_terms o ++ out_terms p)) where
  by_out_terms : (vs ws xs ys : List TermTree) → out_terms o ≡ vs → out_terms p ≡ ws → Among xs vs → Among ys ws → OfOneBank (xs ++ ys)
  by_out_terms vs ws xs ys e k a b = one_bank_of xs ys (out_terms o) (out_terms p) (λ P h. a P (subst (All P) e h)) (λ P h. b P (subst (All P) k h)) one

  -- two given terms
  pub agree_given : (s t : TermTree) → o ≡ out.Give s → p ≡ out.Give t → Agree s t
  agree_given s t e k = agree_at (s ∷ []) (t ∷ []) 0 0 s t s t (by_out_terms (s ∷ []) (t ∷ []) (s ∷ []) (t ∷ []) (ap out_terms e ∙ out_terms-Give s) (ap out_terms k ∙ out_terms-Give t) (λ P h. h) (λ P h. h)) (omega arith) (omega arith) refl refl

  module _ (f g : FormTree) (u v x y : OutTree) (is_o : o ≡ out_view.If f u v) (is_p : p ≡ out_view.If g x y) where
    parts_of_choices : (xs ys : List TermTree) → Among xs (form_terms f ++ (out_terms u ++ out_terms v)) → Among ys (form_terms g ++ (out_terms x ++ out_terms y)) → OfOneBank (xs ++ ys)
    parts_of_choices xs ys = by_out_terms (form_terms f ++ (out_terms u ++ out_terms v)) (form_terms g ++ (out_terms x ++ out_terms y)) xs ys (ap out_terms is_o ∙ out_terms-If f u v) (ap out_terms is_p ∙ out_terms-If g x y)

    -- the tests, and the arms, of two choices
    pub bank_tests : (a b : FormTree) → a ≡ f → b ≡ g → OfOneBank (form_terms a ++ form_terms b)
    bank_tests a b is_a is_b =
        parts_of_choices (form_terms a) (form_terms b)
        (λ P h. subst (λ (z : FormTree). All P (form_terms z)) (sym is_a) (All-left P (form_terms f) (out_terms u ++ out_terms v) h))
        (λ P h. subst (λ (z : FormTree). All P (form_terms z)) (sym is_b) (All-left P (form_terms g) (out_terms x ++ out_terms y) h))

    pub bank_firsts : (a b : OutTree) → a ≡ u → b ≡ x → OfOneBank (out_terms a ++ out_terms b)
    bank_firsts a b is_a is_b =
        parts_of_choices (out_terms a) (out_terms b)
        (λ P h. subst (λ (z : OutTree). All P (out_terms z)) (sym is_a) (All-left P (out_terms u) (out_terms v) (All-right P (form_terms f) (out_terms u ++ out_terms v) h)))
        (λ P h. subst (λ (z : OutTree). All P (out_terms z)) (sym is_b) (All-left P (out_terms x) (out_terms y) (All-right P (form_terms g) (out_terms x ++ out_terms y) h)))

    pub bank_seconds : (a b : OutTree) → a ≡ v → b ≡ y → OfOneBank (out_terms a ++ out_terms b)
    bank_seconds a b is_a is_b =
        parts_of_choices (out_terms a) (out_terms b)
        (λ P h. subst (λ (z : OutTree). All P (out_terms z)) (sym is_a) (All-right P (out_terms u) (out_terms v) (All-right P (form_terms f) (out_terms u ++ out_terms v) h)))
        (λ P h. subst (λ (z : OutTree). All P (out_terms z)) (sym is_b) (All-right P (out_terms x) (out_terms y) (All-right P (form_terms g) (out_terms x ++ out_terms y) h)))
