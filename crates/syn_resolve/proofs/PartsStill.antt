-- The formulas at positions of a formula stand there in its instances too, and in what is one with these.
use Rattle.std.proofs.Common.{◌≡◌, ℕ, zero, suc, List, [], ◌∷◌, Option, None, Some, map, slice_get, refl, sym, ◌∙◌, ap}
use Rattle.std.specs.Option.{option_and_then, option_map}
use Rattle.syn_term.specs.Terms.{TermTree, bare}
use Rattle.syn_term.specs.Positions.{subterm_at}
use Rattle.syn_form.specs.declared.trees.Form.{out-Form}
use Rattle.syn_form.specs.declared.trees.Form.TheOpen.{Form-F}
use Rattle.syn_form.specs.Positions.{TreePart, at_position, form_parts_layer, formula, part_at, parts_of, term}
use Rattle.syn_form.specs.Replacing.{changed_part}
use Rattle.syn_form.specs.Simplification.{Junction, chain, conjunction, disjunction}
use Rattle.syn_form.specs.Trees.{FormTree, bare_form}
use Rattle.syn_form.proofs.Equations.{out-And, out-Atom, out-Equal, out-False, out-Implies, out-Not, out-Or, out-True}
use Rattle.syn_form.proofs.Inductions.{by_form_cases}
use Rattle.syn_form.proofs.TreeParts.{at_position-term, formula_is, get_map}
use Rattle.syn_row.proofs.Changes.{Changes, changes_bare}
use Rattle.syn_row.proofs.PartsChanged.{at_changed}
use Rattle.syn_row.proofs.Shape.{shape_bare}
use Rattle.syn_resolve.specs.Resolution.{AreAt}
use Rattle.syn_resolve.specs.inner.Standing.{Stand}

-- no formula stands in a term
pub no_form_in_term : (ks : List ℕ) (t : TermTree) (h : FormTree) → at_position ks (term t) ≡ Some (formula h) → ⊥
no_form_in_term ks t h e = go (subterm_at ks t) (sym (at_position-term ks t) ∙ e)
  where
    go : (o : Option TermTree) → option_map term o ≡ Some (formula h) → ⊥
    go None k = absurd (cc)
    go (Some u) k = absurd (cc)

module _ (F : FormTree → FormTree) (g : TermTree → TermTree) (c : Changes F g) where
  abbrev layer : Form-F FormTree → Form-F FormTree
  layer Form-F.True = Form-F.True
  layer Form-F.False = Form-F.False
  layer (Form-F.Atom r args) = Form-F.Atom r (map g args)
  layer (Form-F.Equal t u) = Form-F.Equal (g t) (g u)
  layer (Form-F.Not a) = Form-F.Not (F a)
  layer (Form-F.And all) = Form-F.And (map F all)
  layer (Form-F.Or all) = Form-F.Or (map F all)
  layer (Form-F.Implies a b) = Form-F.Implies (F a) (F b)

  chain_out : (j : Junction) (all : List FormTree) → out-Form (F (chain j all)) ≡ layer (out-Form (chain j all))
  chain_out conjunction all = ap out-Form (c.at_chain conjunction all) ∙ (out-And (map F all) ∙ sym (ap layer (out-And all)))
  chain_out disjunction all = ap out-Form (c.at_chain disjunction all) ∙ (out-Or (map F all) ∙ sym (ap layer (out-Or all)))

  out_changed : (f : FormTree) → out-Form (F f) ≡ layer (out-Form f)
  out_changed = by_form_cases (λ f. out-Form (F f) ≡ layer (out-Form f)) record {
    at_true = ap out-Form c.at_true ∙ (out-True ∙ sym (ap layer out-True));
    at_false = ap out-Form c.at_false ∙ (out-False ∙ sym (ap layer out-False));
    at_atom = λ r args. ap out-Form (c.at_atom r args) ∙ (out-Atom r (map g args) ∙ sym (ap layer (out-Atom r args)));
    at_equal = λ t u. ap out-Form (c.at_equal t u) ∙ (out-Equal (g t) (g u) ∙ sym (ap layer (out-Equal t u)));
    at_not = λ a h. ap out-Form (c.at_not a) ∙ (out-Not (F a) ∙ sym (ap layer (out-Not a)));
    at_chain = λ j all h. chain_out j all;
    at_implies = λ a b h k. ap out-Form (c.at_implies a b) ∙ (out-Implies (F a) (F b) ∙ sym (ap layer (out-Implies a b)));
  }

  abbrev pub changed : TreePart → TreePart
  changed p = changed_part F g p

  terms_each : (ts : List TermTree) → map term (map g ts) ≡ map changed (map term ts)
  terms_each [] = refl
  terms_each (t ∷ ts) = ap (λ (z : List TreePart). term (g t) ∷ z) (terms_each ts)

  forms_each : (fs : List FormTree) → map formula (map F fs) ≡ map changed (map formula fs)
  forms_each [] = refl
  forms_each (f ∷ fs) = ap (λ (z : List TreePart). formula (F f) ∷ z) (forms_each fs)

  layer_parts : (x : Form-F FormTree) → form_parts_layer (layer x) ≡ map changed (form_parts_layer x)
  layer_parts Form-F.True = refl
  layer_parts Form-F.False = refl
  layer_parts (Form-F.Atom r args) = terms_each args
  layer_parts (Form-F.Equal t u) = refl
  layer_parts (Form-F.Not a) = refl
  layer_parts (Form-F.And all) = forms_each all
  layer_parts (Form-F.Or all) = forms_each all
  layer_parts (Form-F.Implies a b) = refl

  pub part_changed : (f : FormTree) (k : ℕ) → part_at (formula (F f)) k ≡ option_map changed (part_at (formula f) k)
  part_changed f zero = refl
  part_changed f (suc k) = ap (λ (z : List TreePart). slice_get z k) (ap form_parts_layer (out_changed f) ∙ layer_parts (out-Form f)) ∙ get_map changed (parts_of (formula f)) k

  -- the formula at a position is changed like the whole
  pub form_at_changed : (ks : List ℕ) (f h : FormTree) → at_position ks (formula f) ≡ Some (formula h) → at_position ks (formula (F f)) ≡ Some (formula (F h))
  form_at_changed [] f h e = ap (λ (z : FormTree). Some (formula (F z))) (formula_is f h e)
  form_at_changed (k ∷ ks) f h e = ap (option_and_then (at_position ks)) (part_changed f k) ∙ go (part_at (formula f) k) (form_at_changed ks) e
    where
      go : (o : Option TreePart) → ((x y : FormTree) → at_position ks (formula x) ≡ Some (formula y) → at_position ks (formula (F x)) ≡ Some (formula (F y))) → option_and_then (at_position ks) o ≡ Some (formula h) → option_and_then (at_position ks) (option_map changed o) ≡ Some (formula (F h))
      go None rest k = absurd (cc)
      go (Some (formula x)) rest k = rest x h k
      go (Some (term t)) rest k = absurd (no_form_in_term ks t h k)

  module _ (f f' : FormTree) (same : bare_form f' ≡ bare_form (F f)) where
    abbrev Partner : List ℕ → FormTree → Type 0
    Partner ks h = (h' : FormTree) × (at_position ks (formula f') ≡ Some (formula h')) × (bare_form h' ≡ bare_form (F h))

    pub form_at_along : (ks : List ℕ) (h : FormTree) → at_position ks (formula f) ≡ Some (formula h) → Partner ks h
    form_at_along ks h e = go (at_position ks (formula f')) refl (sym (at_changed bare shape_bare bare_form changes_bare ks (formula f')) ∙ (ap (λ (z : FormTree). at_position ks (formula z)) same ∙ (at_changed bare shape_bare bare_form changes_bare ks (formula (F f)) ∙ ap (option_map (changed_part bare_form bare)) (form_at_changed ks f h e))))
      where
        go : (o : Option TreePart) → at_position ks (formula f') ≡ o → option_map (changed_part bare_form bare) o ≡ Some (formula (bare_form (F h))) → Partner ks h
        go None is k = absurd (cc)
        go (Some (formula x)) is k = (x, is, formula_is (bare_form x) (bare_form (F h)) k)
        go (Some (term t)) is k = absurd (cc)

    pub stand_along : (ps : List (List ℕ)) (hs : List FormTree) → Stand f ps hs → (hs' : List FormTree) × Stand f' ps hs'
    stand_along [] hs e = ([], refl)
    stand_along (p ∷ ps) [] e = absurd (cc)
    stand_along (p ∷ ps) (h ∷ hs) e =
        let a : at_position p (formula f) ≡ Some (formula h) = cc in
        let b : Stand f ps hs = cc in
        let x = form_at_along p h a in
        let y = stand_along ps hs b in (x.0 ∷ y.0, both p ps x.0 y.0 x.1 y.1)
      where
        both : (k : List ℕ) (ks : List (List ℕ)) (z : FormTree) (zs : List FormTree) → at_position k (formula f') ≡ Some (formula z) → Stand f' ks zs → Stand f' (k ∷ ks) (z ∷ zs)
        both k ks z zs i j = cc

    -- where parts stand, they stand in what is one with the changed formula
    pub at_along : (ps : List (List ℕ)) (hs : List FormTree) → AreAt ps f hs → (hs' : List FormTree) × AreAt ps f' hs'
    at_along ps hs h = let p = stand_along ps hs h.there in (p.0, record { some = h.some; once = h.once; there = p.1 })

-- one list of formulas stands there
pub stand_one : (f : FormTree) (ps : List (List ℕ)) (hs is : List FormTree) → Stand f ps hs → Stand f ps is → hs ≡ is
stand_one f [] [] [] a b = refl
stand_one f [] [] (i ∷ is) a b = absurd (cc)
stand_one f [] (h ∷ hs) is a b = absurd (cc)
stand_one f (p ∷ ps) [] is a b = absurd (cc)
stand_one f (p ∷ ps) (h ∷ hs) [] a b = absurd (cc)
stand_one f (p ∷ ps) (h ∷ hs) (i ∷ is) a b =
    let c : at_position p (formula f) ≡ Some (formula h) = cc in
    let d : at_position p (formula f) ≡ Some (formula i) = cc in
    let j : Stand f ps hs = cc in
    let k : Stand f ps is = cc in
    ap (λ (z : FormTree). z ∷ hs) (formula_is h i (sym c ∙ d)) ∙ ap (λ (z : List FormTree). i ∷ z) (stand_one f ps hs is j k)
