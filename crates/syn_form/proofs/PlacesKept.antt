-- What stands at a position of a formula with a new term at a position: there the new term, elsewhere what stood there.
use Rattle.std.proofs.Common.{◌≡◌, ◌≢◌, ◌⊎◌, ℕ, zero, suc, List, [], ◌∷◌, Option, None, Some, map, set, slice_get, refl, sym, ◌∙◌, ap, subst, inl, inr}
use Rattle.std.specs.Option.{option_and_then, option_map}
use Rattle.std.proofs.lemmas.Bool.{cases_eq}
use Rattle.syn_term.specs.Positions.{AreApart, replaced_at}
use Rattle.syn_term.specs.Terms.{TermTree}
use Rattle.syn_term.proofs.Positions.{subterm_at-other, subterm_at-replaced}
use Rattle.syn_form.specs.declared.trees.Form.{out-Form}
use Rattle.syn_form.specs.declared.trees.Form.TheOpen.{Form-F}
use Rattle.syn_form.specs.Positions.{TreePart, formula, term, form_parts_layer, part_at, at_position}
use Rattle.syn_form.specs.Replacing.{with_part, with_part_layer, form_replaced_at}
use Rattle.syn_form.specs.Trees.{FormTree}
use Rattle.syn_form.proofs.Equations.{out-Atom, out-Equal, out-Not, out-And, out-Or, out-Implies}
use Rattle.syn_form.proofs.TreeParts.{at_position-term, form_item, get_map, no_form, no_term, replaced_below, replaced_nowhere, subterm_there, term_item, there_below}

get_set : {X : Type 0} (xs : List X) (i : ℕ) (x y : X) → slice_get xs i ≡ Some x → slice_get (set xs i y) i ≡ Some y
get_set [] i x y e = absurd (cc)
get_set (z ∷ xs) zero x y e = refl
get_set (z ∷ xs) (suc i) x y e = get_set xs i x y e

get_set_other : {X : Type 0} (xs : List X) (i j : ℕ) (y : X) → i ≢ j → slice_get (set xs i y) j ≡ slice_get xs j
get_set_other [] i j y ne = refl
get_set_other (z ∷ xs) zero zero y ne = absurd (ne refl)
get_set_other (z ∷ xs) zero (suc j) y ne = refl
get_set_other (z ∷ xs) (suc i) zero y ne = refl
get_set_other (z ∷ xs) (suc i) (suc j) y ne = get_set_other xs i j y (λ e. ne (ap suc e))

-- the same of a list of parts of one kind
parts_set : {X : Type 0} (g : X → TreePart) (xs : List X) (i : ℕ) (x y : X) → slice_get xs i ≡ Some x → slice_get (map g (set xs i y)) i ≡ Some (g y)
parts_set g xs i x y e = get_map g (set xs i y) i ∙ ap (option_map g) (get_set xs i x y e)

parts_set_other : {X : Type 0} (g : X → TreePart) (xs : List X) (i j : ℕ) (y : X) → i ≢ j → slice_get (map g (set xs i y)) j ≡ slice_get (map g xs) j
parts_set_other g xs i j y ne = get_map g (set xs i y) j ∙ (ap (option_map g) (get_set_other xs i j y ne) ∙ sym (get_map g xs j))

form_there : (x : Form-F FormTree) (k : ℕ) (a b : FormTree) → slice_get (form_parts_layer x) k ≡ Some (formula a) → slice_get (form_parts_layer (out-Form (with_part_layer x (formula b) (suc k)))) k ≡ Some (formula b)
form_there Form-F.True k a b e = absurd (cc)
form_there Form-F.False k a b e = absurd (cc)
form_there (Form-F.Atom r args) k a b e = absurd (no_form args k a e)
form_there (Form-F.Equal s t) k a b e = absurd (no_form (s ∷ t ∷ []) k a e)
form_there (Form-F.Not f) zero a b e = ap (λ z. slice_get (form_parts_layer z) zero) (out-Not b)
form_there (Form-F.Not f) (suc k) a b e = absurd (cc)
form_there (Form-F.And all) k a b e = ap (λ z. slice_get (form_parts_layer z) k) (out-And (set all k b)) ∙ parts_set formula all k a b (form_item all k a e)
form_there (Form-F.Or all) k a b e = ap (λ z. slice_get (form_parts_layer z) k) (out-Or (set all k b)) ∙ parts_set formula all k a b (form_item all k a e)
form_there (Form-F.Implies f g) zero a b e = ap (λ z. slice_get (form_parts_layer z) zero) (out-Implies b g)
form_there (Form-F.Implies f g) (suc zero) a b e = ap (λ z. slice_get (form_parts_layer z) 1) (out-Implies f b)
form_there (Form-F.Implies f g) (suc (suc k)) a b e = absurd (cc)

term_there : (x : Form-F FormTree) (k : ℕ) (t u : TermTree) → slice_get (form_parts_layer x) k ≡ Some (term t) → slice_get (form_parts_layer (out-Form (with_part_layer x (term u) (suc k)))) k ≡ Some (term u)
term_there Form-F.True k t u e = absurd (cc)
term_there Form-F.False k t u e = absurd (cc)
term_there (Form-F.Atom r args) k t u e = ap (λ z. slice_get (form_parts_layer z) k) (out-Atom r (set args k u)) ∙ parts_set term args k t u (term_item args k t e)
term_there (Form-F.Equal v w) zero t u e = ap (λ z. slice_get (form_parts_layer z) zero) (out-Equal u w)
term_there (Form-F.Equal v w) (suc zero) t u e = ap (λ z. slice_get (form_parts_layer z) 1) (out-Equal v u)
term_there (Form-F.Equal v w) (suc (suc k)) t u e = absurd (cc)
term_there (Form-F.Not f) k t u e = absurd (no_term (f ∷ []) k t e)
term_there (Form-F.And all) k t u e = absurd (no_term all k t e)
term_there (Form-F.Or all) k t u e = absurd (no_term all k t e)
term_there (Form-F.Implies f g) k t u e = absurd (no_term (f ∷ g ∷ []) k t e)

form_other : (x : Form-F FormTree) (k j : ℕ) (a b : FormTree) → slice_get (form_parts_layer x) k ≡ Some (formula a) → k ≢ j → slice_get (form_parts_layer (out-Form (with_part_layer x (formula b) (suc k)))) j ≡ slice_get (form_parts_layer x) j
form_other Form-F.True k j a b e ne = absurd (cc)
form_other Form-F.False k j a b e ne = absurd (cc)
form_other (Form-F.Atom r args) k j a b e ne = absurd (no_form args k a e)
form_other (Form-F.Equal s t) k j a b e ne = absurd (no_form (s ∷ t ∷ []) k a e)
form_other (Form-F.Not f) zero zero a b e ne = absurd (ne refl)
form_other (Form-F.Not f) zero (suc j) a b e ne = ap (λ z. slice_get (form_parts_layer z) (suc j)) (out-Not b)
form_other (Form-F.Not f) (suc k) j a b e ne = absurd (cc)
form_other (Form-F.And all) k j a b e ne = ap (λ z. slice_get (form_parts_layer z) j) (out-And (set all k b)) ∙ parts_set_other formula all k j b ne
form_other (Form-F.Or all) k j a b e ne = ap (λ z. slice_get (form_parts_layer z) j) (out-Or (set all k b)) ∙ parts_set_other formula all k j b ne
form_other (Form-F.Implies f g) zero zero a b e ne = absurd (ne refl)
form_other (Form-F.Implies f g) zero (suc j) a b e ne = ap (λ z. slice_get (form_parts_layer z) (suc j)) (out-Implies b g)
form_other (Form-F.Implies f g) (suc zero) zero a b e ne = ap (λ z. slice_get (form_parts_layer z) zero) (out-Implies f b)
form_other (Form-F.Implies f g) (suc zero) (suc zero) a b e ne = absurd (ne refl)
form_other (Form-F.Implies f g) (suc zero) (suc (suc j)) a b e ne = ap (λ z. slice_get (form_parts_layer z) (suc (suc j))) (out-Implies f b)
form_other (Form-F.Implies f g) (suc (suc k)) j a b e ne = absurd (cc)

term_other : (x : Form-F FormTree) (k j : ℕ) (t u : TermTree) → slice_get (form_parts_layer x) k ≡ Some (term t) → k ≢ j → slice_get (form_parts_layer (out-Form (with_part_layer x (term u) (suc k)))) j ≡ slice_get (form_parts_layer x) j
term_other Form-F.True k j t u e ne = absurd (cc)
term_other Form-F.False k j t u e ne = absurd (cc)
term_other (Form-F.Atom r args) k j t u e ne = ap (λ z. slice_get (form_parts_layer z) j) (out-Atom r (set args k u)) ∙ parts_set_other term args k j u ne
term_other (Form-F.Equal v w) zero zero t u e ne = absurd (ne refl)
term_other (Form-F.Equal v w) zero (suc j) t u e ne = ap (λ z. slice_get (form_parts_layer z) (suc j)) (out-Equal u w)
term_other (Form-F.Equal v w) (suc zero) zero t u e ne = ap (λ z. slice_get (form_parts_layer z) zero) (out-Equal v u)
term_other (Form-F.Equal v w) (suc zero) (suc zero) t u e ne = absurd (ne refl)
term_other (Form-F.Equal v w) (suc zero) (suc (suc j)) t u e ne = ap (λ z. slice_get (form_parts_layer z) (suc (suc j))) (out-Equal v u)
term_other (Form-F.Equal v w) (suc (suc k)) j t u e ne = absurd (cc)
term_other (Form-F.Not f) k j t u e ne = absurd (no_term (f ∷ []) k t e)
term_other (Form-F.And all) k j t u e ne = absurd (no_term all k t e)
term_other (Form-F.Or all) k j t u e ne = absurd (no_term all k t e)
term_other (Form-F.Implies f g) k j t u e ne = absurd (no_term (f ∷ g ∷ []) k t e)

-- the same counted from 1
form_child : (f : FormTree) (k : ℕ) (a b : FormTree) → part_at (formula f) k ≡ Some (formula a) → part_at (formula (with_part f (formula b) k)) k ≡ Some (formula b)
form_child f zero a b e = absurd (cc)
form_child f (suc k) a b e = form_there (out-Form f) k a b e

term_child : (f : FormTree) (k : ℕ) (t u : TermTree) → part_at (formula f) k ≡ Some (term t) → part_at (formula (with_part f (term u) k)) k ≡ Some (term u)
term_child f zero t u e = absurd (cc)
term_child f (suc k) t u e = term_there (out-Form f) k t u e

form_child_other : (f : FormTree) (k j : ℕ) (a b : FormTree) → part_at (formula f) k ≡ Some (formula a) → k ≢ j → part_at (formula (with_part f (formula b) k)) j ≡ part_at (formula f) j
form_child_other f zero j a b e ne = absurd (cc)
form_child_other f (suc k) zero a b e ne = refl
form_child_other f (suc k) (suc j) a b e ne = form_other (out-Form f) k j a b e (λ m. ne (ap suc m))

term_child_other : (f : FormTree) (k j : ℕ) (t u : TermTree) → part_at (formula f) k ≡ Some (term t) → k ≢ j → part_at (formula (with_part f (term u) k)) j ≡ part_at (formula f) j
term_child_other f zero j t u e ne = absurd (cc)
term_child_other f (suc k) zero t u e ne = refl
term_child_other f (suc k) (suc j) t u e ne = term_other (out-Form f) k j t u e (λ m. ne (ap suc m))

-- at the position stands the new term
pub replaced-there : (p : List ℕ) (new old : TermTree) (f : FormTree) → at_position p (formula f) ≡ Some (term old) → at_position p (formula (form_replaced_at p new f)) ≡ Some (term new)
replaced-there [] new old f e = absurd (cc)
replaced-there (k ∷ ks) new old f e = go (part_at (formula f) k) refl (λ g. replaced-there ks new old g)
  where
    go : (o : Option TreePart) → part_at (formula f) k ≡ o → ((g : FormTree) → at_position ks (formula g) ≡ Some (term old) → at_position ks (formula (form_replaced_at ks new g)) ≡ Some (term new)) → at_position (k ∷ ks) (formula (form_replaced_at (k ∷ ks) new f)) ≡ Some (term new)
    go None is h = absurd (let m = sym (ap (option_and_then (at_position ks)) is) ∙ e in cc)
    go (Some (formula g)) is h =
        ap (λ (z : FormTree). at_position (k ∷ ks) (formula z)) (replaced_below k ks new f (formula g) is)
        ∙ (ap (option_and_then (at_position ks)) (form_child f k g (form_replaced_at ks new g) is) ∙ h g (there_below k ks f (formula g) (term old) is e))
    go (Some (term t)) is h =
        ap (λ (z : FormTree). at_position (k ∷ ks) (formula z)) (replaced_below k ks new f (term t) is)
        ∙ (ap (option_and_then (at_position ks)) (term_child f k t (replaced_at ks new t) is)
        ∙ (at_position-term ks (replaced_at ks new t) ∙ ap (option_map term) (subterm_at-replaced ks new t old (subterm_there ks t old (there_below k ks f (term t) (term old) is e)))))

apart_below : (k : ℕ) (p q : List ℕ) → AreApart (k ∷ p) (k ∷ q) → AreApart p q
apart_below k p q h = (
  (λ f. h.0 (record { rest = f.rest; is = ap (λ (r : List ℕ). k ∷ r) f.is })),
  (λ f. h.1 (record { rest = f.rest; is = ap (λ (r : List ℕ). k ∷ r) f.is })),
)

module _ (k j : ℕ) (ks js : List ℕ) (new : TermTree) (f : FormTree) (apart : AreApart (k ∷ ks) (j ∷ js)) where
  abbrev Same : Type 0
  Same = at_position (j ∷ js) (formula (form_replaced_at (k ∷ ks) new f)) ≡ at_position (j ∷ js) (formula f)

  below : k ≡ j → AreApart ks js
  below same = apart_below k ks js (subst (λ (n : ℕ). AreApart (k ∷ ks) (n ∷ js)) (sym same) apart)

  -- a part on the way, and another one
  by_part : (p c : TreePart) → part_at (formula f) k ≡ Some p → form_replaced_at (k ∷ ks) new f ≡ with_part f c k → part_at (formula (with_part f c k)) k ≡ Some c → (k ≢ j → part_at (formula (with_part f c k)) j ≡ part_at (formula f) j) → (AreApart ks js → at_position js c ≡ at_position js p) → (k ≡ j) ⊎ (k ≢ j) → Same
  by_part p c is whole here other rest (inl same) =
      ap (λ (z : FormTree). at_position (j ∷ js) (formula z)) whole
      ∙ (ap (λ (n : ℕ). option_and_then (at_position js) (part_at (formula (with_part f c k)) n)) (sym same)
      ∙ (ap (option_and_then (at_position js)) here
      ∙ (rest (below same) ∙ (sym (ap (option_and_then (at_position js)) is) ∙ ap (λ (n : ℕ). option_and_then (at_position js) (part_at (formula f) n)) same))))
  by_part p c is whole here other rest (inr ne) = ap (λ (z : FormTree). at_position (j ∷ js) (formula z)) whole ∙ ap (option_and_then (at_position js)) (other ne)

  step : (o : Option TreePart) → part_at (formula f) k ≡ o → ((g : FormTree) → AreApart ks js → at_position js (formula (form_replaced_at ks new g)) ≡ at_position js (formula g)) → Same
  step None is h = ap (λ (z : FormTree). at_position (j ∷ js) (formula z)) (replaced_nowhere k ks new f is)
  step (Some (formula g)) is h =
      by_part (formula g) (formula (form_replaced_at ks new g)) is (replaced_below k ks new f (formula g) is) (form_child f k g (form_replaced_at ks new g) is) (form_child_other f k j g (form_replaced_at ks new g) is) (h g) (cases_eq k j)
  step (Some (term t)) is h =
      by_part (term t) (term (replaced_at ks new t)) is (replaced_below k ks new f (term t) is) (term_child f k t (replaced_at ks new t) is) (term_child_other f k j t (replaced_at ks new t) is)
      (λ a. at_position-term js (replaced_at ks new t) ∙ (ap (option_map term) (subterm_at-other ks js new t a) ∙ sym (at_position-term js t))) (cases_eq k j)

-- elsewhere all stays
pub replaced-other : (p q : List ℕ) (new : TermTree) (f : FormTree) → AreApart p q → at_position q (formula (form_replaced_at p new f)) ≡ at_position q (formula f)
replaced-other [] q new f h = absurd (h.0 (record { rest = q; is = refl }))
replaced-other (k ∷ ks) [] new f h = absurd (h.1 (record { rest = k ∷ ks; is = refl }))
replaced-other (k ∷ ks) (j ∷ js) new f h = step k j ks js new f h (part_at (formula f) k) refl (λ g. replaced-other ks js new g)
