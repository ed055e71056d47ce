-- What stands at a position, and a formula with another term at a position, once all terms are changed.
use Rattle.std.proofs.Common.{◌≡◌, ℕ, zero, suc, List, [], ◌∷◌, Option, None, Some, map, slice_get, refl, sym, ◌∙◌, ap}
use Rattle.std.specs.Option.{option_and_then, option_map, unwrap_or}
use Rattle.std.proofs.lemmas.List.{map-set}
use denote.Hole.Carrier.{roll}
use Rattle.syn_term.specs.Positions.{replaced_at, with_child, with_child_layer, with_nth}
use Rattle.syn_term.specs.Terms.{TermTree, application, args_of, child, nowhere}
use Rattle.syn_form.specs.declared.trees.Form.{out-Form, roll-Form}
use Rattle.syn_form.specs.declared.trees.Form.TheOpen.{Form-F}
use Rattle.syn_form.specs.declared.trees.Form.TheVariants as form
use Rattle.syn_form.specs.Positions.{TreePart, formula, term, form_parts_layer, parts_of, part_at, at_position}
use Rattle.syn_form.specs.Replacing.{changed_part, form_replaced_at, with_kth, with_part, with_part_layer}
use Rattle.syn_form.specs.Simplification.{Junction, conjunction, disjunction, chain}
use Rattle.syn_form.specs.Trees.{FormTree}
use Rattle.syn_form.proofs.Equations.{out-And, out-Atom, out-Equal, out-False, out-Implies, out-Not, out-Or, out-True}
use Rattle.syn_form.proofs.Inductions.{by_form_cases}
use Rattle.syn_form.proofs.TermNodes.{by_term_cases}
use Rattle.syn_form.proofs.TreeParts.{get_map}
use Rattle.syn_row.proofs.Changes.{Changes}
use Rattle.syn_row.proofs.Shape.{KeepsShape, out-App, out-Var, shape-args}

map_nth : (g : TermTree → TermTree) (xs : List TermTree) (k : ℕ) (x : TermTree) → map g (with_nth xs k x) ≡ with_nth (map g xs) k (g x)
map_nth g xs zero x = refl
map_nth g xs (suc k) x = map-set g xs k x

map_kth : {X : Type 0} (g : X → X) (xs : List X) (k : ℕ) (x : X) → map g (with_kth xs k x) ≡ with_kth (map g xs) k (g x)
map_kth g xs zero x = refl
map_kth g xs (suc k) x = map-set g xs k x

module _ (g : TermTree → TermTree) (s : KeepsShape g) where
  child_changed : (t : TermTree) (k : ℕ) → child (g t) k ≡ option_map g (child t k)
  child_changed t zero = refl
  child_changed t (suc k) = ap (λ (z : List TermTree). slice_get z k) (shape-args g s t) ∙ get_map g (args_of t) k

  with_changed : (k : ℕ) (u t : TermTree) → g (with_child t k u) ≡ with_child (g t) k (g u)
  with_changed k u = by_term_cases (λ t. g (with_child t k u) ≡ with_child (g t) k (g u))
      (λ p v.
      ap g (ap (with_child_layer k u) (out-Var p v)) ∙ (s.at_var p v
      ∙ (sym (ap (with_child_layer k (g u)) (out-Var nowhere (s.variable v))) ∙ ap (λ (z : TermTree). with_child z k (g u)) (sym (s.at_var p v)))))
      (λ p f args held.
      ap g (ap (with_child_layer k u) (out-App p f args)) ∙ (s.at_app p f (with_nth args k u) ∙ (ap (application f) (map_nth g args k u)
      ∙ (sym (ap (with_child_layer k (g u)) (out-App nowhere f (map g args))) ∙ ap (λ (z : TermTree). with_child z k (g u)) (sym (s.at_app p f args))))))

  -- a term with another subterm, changed
  pub replaced_changed : (ks : List ℕ) (new t : TermTree) → g (replaced_at ks new t) ≡ replaced_at ks (g new) (g t)
  replaced_changed [] new t = refl
  replaced_changed (k ∷ ks) new t =
      go (child t k) (replaced_changed ks new)
      ∙ ap (λ (o : Option TermTree). unwrap_or (option_map (λ c. with_child (g t) k (replaced_at ks (g new) c)) o) (g t)) (sym (child_changed t k))
    where
      go : (o : Option TermTree) → ((c : TermTree) → g (replaced_at ks new c) ≡ replaced_at ks (g new) (g c)) → g (unwrap_or (option_map (λ c. with_child t k (replaced_at ks new c)) o) t) ≡ unwrap_or (option_map (λ c. with_child (g t) k (replaced_at ks (g new) c)) (option_map g o)) (g t)
      go None h = refl
      go (Some c) h = with_changed k (replaced_at ks new c) t ∙ ap (with_child (g t) k) (h c)

  module _ (F : FormTree → FormTree) (c : Changes F g) where
    abbrev pub changed : TreePart → TreePart
    changed p = changed_part F g p

    abbrev layer : Form-F FormTree → Form-F FormTree
    layer Form-F.True = Form-F.True
    layer Form-F.False = Form-F.False
    layer (Form-F.Atom r args) = Form-F.Atom r (map g args)
    layer (Form-F.Equal t u) = Form-F.Equal (g t) (g u)
    layer (Form-F.Not a) = Form-F.Not (F a)
    layer (Form-F.And all) = Form-F.And (map F all)
    layer (Form-F.Or all) = Form-F.Or (map F all)
    layer (Form-F.Implies a b) = Form-F.Implies (F a) (F b)

    chain_out : (j : Junction) (all : List FormTree) → out-Form (F (chain j all)) ≡ layer (out-Form (chain j all))
    chain_out conjunction all = ap out-Form (c.at_chain conjunction all) ∙ (out-And (map F all) ∙ sym (ap layer (out-And all)))
    chain_out disjunction all = ap out-Form (c.at_chain disjunction all) ∙ (out-Or (map F all) ∙ sym (ap layer (out-Or all)))

    out_changed : (f : FormTree) → out-Form (F f) ≡ layer (out-Form f)
    out_changed = by_form_cases (λ f. out-Form (F f) ≡ layer (out-Form f)) record {
      at_true = ap out-Form c.at_true ∙ (out-True ∙ sym (ap layer out-True));
      at_false = ap out-Form c.at_false ∙ (out-False ∙ sym (ap layer out-False));
      at_atom = λ r args. ap out-Form (c.at_atom r args) ∙ (out-Atom r (map g args) ∙ sym (ap layer (out-Atom r args)));
      at_equal = λ t u. ap out-Form (c.at_equal t u) ∙ (out-Equal (g t) (g u) ∙ sym (ap layer (out-Equal t u)));
      at_not = λ a h. ap out-Form (c.at_not a) ∙ (out-Not (F a) ∙ sym (ap layer (out-Not a)));
      at_chain = λ j all h. chain_out j all;
      at_implies = λ a b h k. ap out-Form (c.at_implies a b) ∙ (out-Implies (F a) (F b) ∙ sym (ap layer (out-Implies a b)));
    }

    terms_each : (ts : List TermTree) → map term (map g ts) ≡ map changed (map term ts)
    terms_each [] = refl
    terms_each (t ∷ ts) = ap (λ (z : List TreePart). term (g t) ∷ z) (terms_each ts)

    forms_each : (fs : List FormTree) → map formula (map F fs) ≡ map changed (map formula fs)
    forms_each [] = refl
    forms_each (f ∷ fs) = ap (λ (z : List TreePart). formula (F f) ∷ z) (forms_each fs)

    layer_parts : (x : Form-F FormTree) → form_parts_layer (layer x) ≡ map changed (form_parts_layer x)
    layer_parts Form-F.True = refl
    layer_parts Form-F.False = refl
    layer_parts (Form-F.Atom r args) = terms_each args
    layer_parts (Form-F.Equal t u) = refl
    layer_parts (Form-F.Not a) = refl
    layer_parts (Form-F.And all) = forms_each all
    layer_parts (Form-F.Or all) = forms_each all
    layer_parts (Form-F.Implies a b) = refl

    parts_changed : (p : TreePart) → parts_of (changed p) ≡ map changed (parts_of p)
    parts_changed (formula f) = ap form_parts_layer (out_changed f) ∙ layer_parts (out-Form f)
    parts_changed (term t) = ap (map term) (shape-args g s t) ∙ terms_each (args_of t)

    part_changed : (p : TreePart) (k : ℕ) → part_at (changed p) k ≡ option_map changed (part_at p k)
    part_changed p zero = refl
    part_changed p (suc k) = ap (λ (z : List TreePart). slice_get z k) (parts_changed p) ∙ get_map changed (parts_of p) k

    -- what stands at a position is changed like the whole
    pub at_changed : (ks : List ℕ) (p : TreePart) → at_position ks (changed p) ≡ option_map changed (at_position ks p)
    at_changed [] p = refl
    at_changed (k ∷ ks) p = ap (option_and_then (at_position ks)) (part_changed p k) ∙ go (part_at p k) (at_changed ks)
      where
        go : (o : Option TreePart) → ((q : TreePart) → at_position ks (changed q) ≡ option_map changed (at_position ks q)) → option_and_then (at_position ks) (option_map changed o) ≡ option_map changed (option_and_then (at_position ks) o)
        go None h = refl
        go (Some q) h = h q

    layer_with : (x : Form-F FormTree) (p : TreePart) (k : ℕ) → F (with_part_layer x p k) ≡ with_part_layer (layer x) (changed p) k
    unfolding roll-Form roll
    layer_with Form-F.True p k = c.at_true
    layer_with Form-F.False p k = c.at_false
    layer_with (Form-F.Atom r args) (term t) k = c.at_atom r (with_kth args k t) ∙ ap (form.Atom r) (map_kth g args k t)
    layer_with (Form-F.Atom r args) (formula h) k = c.at_atom r args
    layer_with (Form-F.Equal t u) (term v) zero = c.at_equal t u
    layer_with (Form-F.Equal t u) (term v) (suc zero) = c.at_equal v u
    layer_with (Form-F.Equal t u) (term v) (suc (suc zero)) = c.at_equal t v
    layer_with (Form-F.Equal t u) (term v) (suc (suc (suc k))) = c.at_equal t u
    layer_with (Form-F.Equal t u) (formula h) k = c.at_equal t u
    layer_with (Form-F.Not a) (formula h) zero = c.at_not a
    layer_with (Form-F.Not a) (formula h) (suc zero) = c.at_not h
    layer_with (Form-F.Not a) (formula h) (suc (suc k)) = c.at_not a
    layer_with (Form-F.Not a) (term t) k = c.at_not a
    layer_with (Form-F.And all) (formula h) k = c.at_chain conjunction (with_kth all k h) ∙ ap (chain conjunction) (map_kth F all k h)
    layer_with (Form-F.And all) (term t) k = c.at_chain conjunction all
    layer_with (Form-F.Or all) (formula h) k = c.at_chain disjunction (with_kth all k h) ∙ ap (chain disjunction) (map_kth F all k h)
    layer_with (Form-F.Or all) (term t) k = c.at_chain disjunction all
    layer_with (Form-F.Implies a b) (formula h) zero = c.at_implies a b
    layer_with (Form-F.Implies a b) (formula h) (suc zero) = c.at_implies h b
    layer_with (Form-F.Implies a b) (formula h) (suc (suc zero)) = c.at_implies a h
    layer_with (Form-F.Implies a b) (formula h) (suc (suc (suc k))) = c.at_implies a b
    layer_with (Form-F.Implies a b) (term t) k = c.at_implies a b

    part_with : (f : FormTree) (p : TreePart) (k : ℕ) → F (with_part f p k) ≡ with_part (F f) (changed p) k
    part_with f p k = layer_with (out-Form f) p k ∙ ap (λ (x : Form-F FormTree). with_part_layer x (changed p) k) (sym (out_changed f))

    -- a formula with another term at a position, changed
    pub form_changed : (ks : List ℕ) (new : TermTree) (f : FormTree) → F (form_replaced_at ks new f) ≡ form_replaced_at ks (g new) (F f)
    form_changed [] new f = refl
    form_changed (k ∷ ks) new f =
        go (part_at (formula f) k) (form_changed ks new)
        ∙ ap (λ (o : Option TreePart). unwrap_or (option_map (λ p. with_part (F f) (changed_part (form_replaced_at ks (g new)) (replaced_at ks (g new)) p) k) o) (F f)) (sym (part_changed (formula f) k))
      where
        inside : (p : TreePart) → ((h : FormTree) → F (form_replaced_at ks new h) ≡ form_replaced_at ks (g new) (F h)) → changed (changed_part (form_replaced_at ks new) (replaced_at ks new) p) ≡ changed_part (form_replaced_at ks (g new)) (replaced_at ks (g new)) (changed p)
        inside (formula h) k = ap formula (k h)
        inside (term t) k = ap term (replaced_changed ks new t)

        go : (o : Option TreePart) → ((h : FormTree) → F (form_replaced_at ks new h) ≡ form_replaced_at ks (g new) (F h)) → F (unwrap_or (option_map (λ p. with_part f (changed_part (form_replaced_at ks new) (replaced_at ks new) p) k) o) f) ≡ unwrap_or (option_map (λ p. with_part (F f) (changed_part (form_replaced_at ks (g new)) (replaced_at ks (g new)) p) k) (option_map changed o)) (F f)
        go None h = refl
        go (Some p) h = part_with f (changed_part (form_replaced_at ks new) (replaced_at ks new) p) k ∙ ap (λ (q : TreePart). with_part (F f) q k) (inside p h)
