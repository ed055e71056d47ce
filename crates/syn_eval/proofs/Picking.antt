-- The clauses of a heading, found in one walk over the declarations, and the first measure.
use Rattle.std.proofs.Common.{◌≡◌, ℕ, zero, suc, ◌+◌, ◌<◌, Bool, List, [], ◌∷◌, ◌++◌, Option, None, Some, length, drop, get_or, if◌then◌else◌, refl, sym, ap, ◌∙◌, arith}
use Rattle.std.specs.Str.{bytes_eq}
use Rattle.std.proofs.lemmas.List.{append_assoc, append-nil}
use Rattle.syn_term.specs.Terms.{TermTree}
use Rattle.syn_model.specs.declared.decl.Decl.{Decl}
use Rattle.syn_model.specs.declared.decl.Decl.TheVariants as decl
use Rattle.syn_model.specs.Calls.{first_of}
use Rattle.syn_model.specs.Clausal.{heading_after_decl, measure_in, measures_of, picked_under}
use Rattle.syn_eval.specs.inner.Rules.{under_after}

-- what is picked of the declarations, where it is known whether the first of them stands under the heading
abbrev pub picked_from : {B : Type 0} → (Decl → List B) → List ℕ → Bool → List Decl → List B
picked_from pick name under [] = []
picked_from pick name under (d ∷ ds) = (if under then pick d else []) ++ picked_from pick name (under_after name under d) ds

next_under : (name own : List ℕ) (d : Decl) → bytes_eq (heading_after_decl own d) name ≡ under_after name (bytes_eq own name) d
next_under name own (decl.FunClause args body) = refl
next_under name own (decl.RelClause args body) = refl
next_under name own (decl.Fun other args result) = refl
next_under name own (decl.Rel other args) = refl
next_under name own (decl.ListSort n nil cons item) = refl
next_under name own (decl.TupleSort n make parts) = refl
next_under name own (decl.Order n args measure) = refl
next_under name own (decl.Axiom n form) = refl
next_under name own (decl.Monotone n mono) = refl

-- it is what the definition picks
pub picked_is : {B : Type 0} (pick : Decl → List B) (name own : List ℕ) (ds : List Decl) → picked_from pick name (bytes_eq own name) ds ≡ picked_under pick name own ds
picked_is pick name own [] = refl
picked_is pick name own (d ∷ ds) =
    let here = if bytes_eq own name then pick d else [] in
    ap (λ b. here ++ picked_from pick name b ds) (sym (next_under name own d)) ∙ ap (λ z. here ++ z) (picked_is pick name (heading_after_decl own d) ds)

-- the declarations from a place on begin with the one at the place
pub opened : {X : Type 0} (xs : List X) (i : ℕ) (x : X) → i < length xs → x ≡ get_or xs i x → drop i xs ≡ x ∷ drop (i + 1) xs
opened [] i x lt e = absurd (omega (arith, lt))
opened (y ∷ xs) zero x lt e = ap (λ z. z ∷ xs) (sym e)
opened (y ∷ xs) (suc i) x lt e =
    let next : suc (i + 1) ≡ suc i + 1 = omega arith in
    opened xs i x (omega (arith, lt)) e ∙ ap (λ z. x ∷ drop z (y ∷ xs)) next

-- one declaration further
pub picked_step : {B : Type 0} (pick : Decl → List B) (name : List ℕ) (whole done more : List B) (under : Bool) (ds : List Decl) (i : ℕ) (d : Decl) → i < length ds → d ≡ get_or ds i d
    → done ++ picked_from pick name under (drop i ds) ≡ whole → more ≡ done ++ (if under then pick d else []) → more ++ picked_from pick name (under_after name under d) (drop (i + 1) ds) ≡ whole
picked_step pick name whole done more under ds i d lt e h m =
    ap (λ z. z ++ picked_from pick name (under_after name under d) (drop (i + 1) ds)) m
    ∙ (append_assoc done (if under then pick d else []) (picked_from pick name (under_after name under d) (drop (i + 1) ds))
    ∙ (ap (λ z. done ++ picked_from pick name under z) (sym (opened ds i d lt e)) ∙ h))

-- nothing is left
pub drop_end : {X : Type 0} (xs : List X) (i : ℕ) → length xs ≡ i → drop i xs ≡ []
drop_end [] zero e = refl
drop_end [] (suc i) e = refl
drop_end (x ∷ xs) zero e = absurd (omega (arith, e))
drop_end (x ∷ xs) (suc i) e = drop_end xs i (omega (arith, e))

pub picked_end : {B : Type 0} (pick : Decl → List B) (name : List ℕ) (whole done : List B) (under : Bool) (ds : List Decl) (i : ℕ) → length ds ≡ i → done ++ picked_from pick name under (drop i ds) ≡ whole → done ≡ whole
picked_end pick name whole done under ds i e h = sym (append-nil done) ∙ (ap (λ z. done ++ picked_from pick name under z) (sym (drop_end ds i e)) ∙ h)

-- the first of two lists one after the other
none_first : {X : Type 0} (xs ys : List X) → first_of xs ≡ None → first_of (xs ++ ys) ≡ first_of ys
none_first [] ys e = refl
none_first (x ∷ xs) ys e = absurd (cc)

some_first : {X : Type 0} (xs ys : List X) (x : X) → first_of xs ≡ Some x → first_of (xs ++ ys) ≡ Some x
some_first [] ys x e = absurd (cc)
some_first (y ∷ xs) ys x e = e

pub measure_later : (name : List ℕ) (whole : Option TermTree) (ds : List Decl) (i : ℕ) (d : Decl) → i < length ds → d ≡ get_or ds i d → first_of (measure_in name d) ≡ None → first_of (measures_of (drop i ds) name) ≡ whole → first_of (measures_of (drop (i + 1) ds) name) ≡ whole
measure_later name whole ds i d lt e none h = sym (none_first (measure_in name d) (measures_of (drop (i + 1) ds) name) none) ∙ (ap (λ z. first_of (measures_of z name)) (sym (opened ds i d lt e)) ∙ h)

pub measure_here : (name : List ℕ) (whole : Option TermTree) (ds : List Decl) (i : ℕ) (d : Decl) (t : TermTree) → i < length ds → d ≡ get_or ds i d → first_of (measure_in name d) ≡ Some t → first_of (measures_of (drop i ds) name) ≡ whole → Some t ≡ whole
measure_here name whole ds i d t lt e some h = sym (some_first (measure_in name d) (measures_of (drop (i + 1) ds) name) t some) ∙ (ap (λ z. first_of (measures_of z name)) (sym (opened ds i d lt e)) ∙ h)

-- nothing is picked yet
pub picked_none : {B : Type 0} (pick : Decl → List B) (name : List ℕ) (done : List B) (under : Bool) (ds : List Decl) → done ≡ [] → under ≡ bytes_eq [] name → done ++ picked_from pick name under (drop 0 ds) ≡ picked_under pick name [] ds
picked_none pick name done under ds e u =
    ap (λ z. z ++ picked_from pick name under (drop 0 ds)) e ∙ (ap (λ z. picked_from pick name z (drop 0 ds)) u ∙ picked_is pick name [] ds)

pub measure_end : (name : List ℕ) (whole : Option TermTree) (ds : List Decl) (i : ℕ) → length ds ≡ i → first_of (measures_of (drop i ds) name) ≡ whole → None ≡ whole
measure_end name whole ds i e h = ap (λ z. first_of (measures_of z name)) (sym (drop_end ds i e)) ∙ h

-- and so with what is known behind the declaration
pub picked_next : {B : Type 0} (pick : Decl → List B) (name : List ℕ) (whole done more : List B) (under next : Bool) (ds : List Decl) (i : ℕ) (d : Decl) → i < length ds → d ≡ get_or ds i d
    → done ++ picked_from pick name under (drop i ds) ≡ whole → more ≡ done ++ (if under then pick d else []) → next ≡ under_after name under d → more ++ picked_from pick name next (drop (i + 1) ds) ≡ whole
picked_next pick name whole done more under next ds i d lt e h m n = ap (λ z. more ++ picked_from pick name z (drop (i + 1) ds)) n ∙ picked_step pick name whole done more under ds i d lt e h m
