-- Two formulas of one case, or two outputs, are one tree exactly where their parts are.
use Rattle.std.proofs.Common.{◌≡◌, ◌↔◌, List, map, IsTrue, Bool, sym, ◌∙◌, ap}
use Rattle.syn_form.specs.declared.trees.Form.TheViews as view
use Rattle.syn_form.specs.declared.trees.Out.TheViews as out_view
use Rattle.syn_form.specs.Trees.{FormTree, OutTree, bare_form, bare_out}
use Rattle.syn_form.proofs.Equations.{bare_form-Not, bare_form-And, bare_form-Or, bare_form-Implies, Not-injective, And-injective, Or-injective, Implies-injective, bare_out-If, If-injective}

module _ (f g : FormTree) (r : Bool) where
  pub negations_same : (a b x y : FormTree) → f ≡ view.Not a → g ≡ view.Not b → x ≡ a → y ≡ b → IsTrue r ↔ (bare_form x ≡ bare_form y) → IsTrue r ↔ (bare_form f ≡ bare_form g)
  negations_same a b x y is_f is_g is_x is_y h =
      let e : bare_form f ≡ view.Not (bare_form x) = ap bare_form is_f ∙ (bare_form-Not a ∙ ap (λ z. view.Not (bare_form z)) (sym is_x)) in
      let k : bare_form g ≡ view.Not (bare_form y) = ap bare_form is_g ∙ (bare_form-Not b ∙ ap (λ z. view.Not (bare_form z)) (sym is_y)) in
      ((λ t. e ∙ (ap (λ z. view.Not z) (h.0 t) ∙ sym k)), (λ q. h.1 (Not-injective (bare_form x) (bare_form y) (sym e ∙ (q ∙ k)))))

  pub ands_same : (all these xs ys : List FormTree) → f ≡ view.And all → g ≡ view.And these → xs ≡ all → ys ≡ these → IsTrue r ↔ (map bare_form xs ≡ map bare_form ys) → IsTrue r ↔ (bare_form f ≡ bare_form g)
  ands_same all these xs ys is_f is_g is_xs is_ys h =
      let e : bare_form f ≡ view.And (map bare_form xs) = ap bare_form is_f ∙ (bare_form-And all ∙ ap (λ z. view.And (map bare_form z)) (sym is_xs)) in
      let k : bare_form g ≡ view.And (map bare_form ys) = ap bare_form is_g ∙ (bare_form-And these ∙ ap (λ z. view.And (map bare_form z)) (sym is_ys)) in
      ((λ t. e ∙ (ap (λ z. view.And z) (h.0 t) ∙ sym k)), (λ q. h.1 (And-injective (map bare_form xs) (map bare_form ys) (sym e ∙ (q ∙ k)))))

  pub ors_same : (all these xs ys : List FormTree) → f ≡ view.Or all → g ≡ view.Or these → xs ≡ all → ys ≡ these → IsTrue r ↔ (map bare_form xs ≡ map bare_form ys) → IsTrue r ↔ (bare_form f ≡ bare_form g)
  ors_same all these xs ys is_f is_g is_xs is_ys h =
      let e : bare_form f ≡ view.Or (map bare_form xs) = ap bare_form is_f ∙ (bare_form-Or all ∙ ap (λ z. view.Or (map bare_form z)) (sym is_xs)) in
      let k : bare_form g ≡ view.Or (map bare_form ys) = ap bare_form is_g ∙ (bare_form-Or these ∙ ap (λ z. view.Or (map bare_form z)) (sym is_ys)) in
      ((λ t. e ∙ (ap (λ z. view.Or z) (h.0 t) ∙ sym k)), (λ q. h.1 (Or-injective (map bare_form xs) (map bare_form ys) (sym e ∙ (q ∙ k)))))

  module _ (a b c d x z : FormTree) (left : Bool) (is_f : f ≡ view.Implies a b) (is_g : g ≡ view.Implies c d) (is_x : x ≡ a) (is_z : z ≡ c) (h : IsTrue left ↔ (bare_form x ≡ bare_form z)) where
    whole_f : bare_form f ≡ view.Implies (bare_form x) (bare_form b)
    whole_f = ap bare_form is_f ∙ (bare_form-Implies a b ∙ ap (λ y. view.Implies (bare_form y) (bare_form b)) (sym is_x))

    whole_g : bare_form g ≡ view.Implies (bare_form z) (bare_form d)
    whole_g = ap bare_form is_g ∙ (bare_form-Implies c d ∙ ap (λ y. view.Implies (bare_form y) (bare_form d)) (sym is_z))

    -- where the left sides are one tree, the right sides decide
    pub implications_same : (y w : FormTree) → y ≡ b → w ≡ d → IsTrue left → IsTrue r ↔ (bare_form y ≡ bare_form w) → IsTrue r ↔ (bare_form f ≡ bare_form g)
    implications_same y w is_y is_w t k = (
      (λ s. let l = h.0 t in let m = k.0 s in let e = whole_f in let n = whole_g in let p = is_y in let q = is_w in cc),
      (λ s. k.1 (ap bare_form is_y ∙ ((Implies-injective (bare_form x) (bare_form b) (bare_form z) (bare_form d) (sym whole_f ∙ (s ∙ whole_g))).1 ∙ ap bare_form (sym is_w)))),
    )

    -- where they are not, neither are the wholes
    pub implications_differ : r ≡ left → (IsTrue left → ⊥) → IsTrue r ↔ (bare_form f ≡ bare_form g)
    implications_differ same unlike = (
      (λ s. absurd (unlike (sym same ∙ s))),
      (λ s. same ∙ h.1 (Implies-injective (bare_form x) (bare_form b) (bare_form z) (bare_form d) (sym whole_f ∙ (s ∙ whole_g))).0),
    )

module _ (o p : OutTree) (r : Bool) (f g a b : FormTree) (u v x y c d : OutTree) (is_o : o ≡ out_view.If f u v) (is_p : p ≡ out_view.If g x y) (is_a : a ≡ f) (is_b : b ≡ g) (is_c : c ≡ u) (is_d : d ≡ x) where
  choice_o : bare_out o ≡ out_view.If (bare_form a) (bare_out c) (bare_out v)
  choice_o = let e : bare_out o ≡ out_view.If (bare_form f) (bare_out u) (bare_out v) = ap bare_out is_o ∙ bare_out-If f u v in let h = is_a in let k = is_c in cc

  choice_p : bare_out p ≡ out_view.If (bare_form b) (bare_out d) (bare_out y)
  choice_p = let e : bare_out p ≡ out_view.If (bare_form g) (bare_out x) (bare_out y) = ap bare_out is_p ∙ bare_out-If g x y in let h = is_b in let k = is_d in cc

  -- where the tests and the first arms are one tree, the second arms decide
  pub choices_same : (e h : OutTree) → e ≡ v → h ≡ y → bare_form a ≡ bare_form b → bare_out c ≡ bare_out d → IsTrue r ↔ (bare_out e ≡ bare_out h) → IsTrue r ↔ (bare_out o ≡ bare_out p)
  choices_same e h is_e is_h test first k = (
    (λ s. let m = k.0 s in let n = choice_o in let q = choice_p in let i = is_e in let j = is_h in cc),
    (λ s. k.1 (ap bare_out is_e ∙ ((If-injective (bare_form a) (bare_form b) (bare_out c) (bare_out v) (bare_out d) (bare_out y) (sym choice_o ∙ (s ∙ choice_p))).2 ∙ ap bare_out (sym is_h)))),
  )

  -- where the first arms are not, neither are the wholes
  pub choices_differ : (bare_out c ≡ bare_out d → ⊥) → bare_out o ≡ bare_out p → ⊥
  choices_differ unlike s = unlike (If-injective (bare_form a) (bare_form b) (bare_out c) (bare_out v) (bare_out d) (bare_out y) (sym choice_o ∙ (s ∙ choice_p))).1
