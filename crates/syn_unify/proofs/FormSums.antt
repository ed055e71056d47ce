-- The sum of a number of each term over the terms of a formula and of an output, by the parts of these.
use Rattle.std.proofs.Common.{◌≡◌, ℕ, ◌+◌, ◌*◌, ◌≤◌, ◌<◌, sum, List, [], ◌∷◌, ◌++◌, map, refl, sym, ◌∙◌, ap, arith}
use Rattle.std.specs.List.{flat_map}
use Rattle.syn_term.specs.declared.sorts.SymId.{SymId}
use Rattle.syn_term.specs.Terms.{TermTree}
use Rattle.syn_form.specs.declared.trees.Form.TheVariants as form
use Rattle.syn_form.specs.declared.trees.Form.TheViews as view
use Rattle.syn_form.specs.declared.trees.Out.TheVariants as out
use Rattle.syn_form.specs.declared.trees.Out.TheViews as out_view
use Rattle.syn_form.specs.Simplification.{Junction, chain}
use Rattle.syn_form.specs.Trees.{FormTree, OutTree, form_nodes, form_terms, out_nodes, out_terms}
use Rattle.syn_form.proofs.Equations.{form_terms-Atom, form_terms-Equal, form_terms-Implies, form_terms-Not, out_nodes-If, out_terms-Give, out_terms-If}
use Rattle.syn_form.proofs.SimplifiedTerms.{form_terms-chain}
use Rattle.syn_unify.proofs.Changed.{sum_append, sum_cons}

module _ (n : TermTree → ℕ) where
  abbrev over : List TermTree → ℕ
  over ts = sum (map n ts)

  abbrev in_form : FormTree → ℕ
  in_form f = sum (map n (form_terms f))

  abbrev in_out : OutTree → ℕ
  in_out o = sum (map n (out_terms o))

  sum_members : (fs : List FormTree) → sum (map n (flat_map form_terms fs)) ≡ sum (map (λ f. sum (map n (form_terms f))) fs)
  sum_members [] = refl
  sum_members (f ∷ fs) =
      let a = sum_append n (form_terms f) (flat_map form_terms fs) in
      let e = sum_members fs in
      let s = sum_cons in_form f fs in omega arith

  module _ (f : FormTree) (a b : ℕ) where
    pub sum_atom : (r : SymId) (args xs : List TermTree) → f ≡ form.Atom r args → xs ≡ args → b ≤ a + sum (map n xs) → b ≤ a + sum (map n (form_terms f))
    sum_atom r args xs is same h =
        let e : in_form f ≡ over xs = ap over (ap form_terms is ∙ (form_terms-Atom r args ∙ sym same)) in omega arith

    pub sum_equality : (s t : TermTree) → f ≡ form.Equal s t → b ≤ a + (n s + n t) → b ≤ a + sum (map n (form_terms f))
    sum_equality s t is h =
        let e : in_form f ≡ over (s ∷ t ∷ []) = ap over (ap form_terms is ∙ form_terms-Equal s t) in
        let c = sum_cons n s (t ∷ []) in
        let d = sum_cons n t [] in omega arith

    pub sum_negation : (g x : FormTree) → f ≡ view.Not g → x ≡ g → b ≤ a + sum (map n (form_terms x)) → b ≤ a + sum (map n (form_terms f))
    sum_negation g x is same h =
        let e : in_form f ≡ in_form x = ap over (ap form_terms is ∙ (form_terms-Not g ∙ sym (ap form_terms same))) in omega arith

    pub sum_chain : (j : Junction) (all xs : List FormTree) → f ≡ chain j all → xs ≡ all → b ≤ a + sum (map (λ g. sum (map n (form_terms g))) xs) → b ≤ a + sum (map n (form_terms f))
    sum_chain j all xs is same h =
        let e : in_form f ≡ over (flat_map form_terms xs) = ap over (ap form_terms is ∙ (form_terms-chain j all ∙ sym (ap (flat_map form_terms) same))) in
        let k = sum_members xs in omega arith

    pub sum_sides : (g h x y : FormTree) → f ≡ view.Implies g h → x ≡ g → y ≡ h → b ≤ a + (sum (map n (form_terms x)) + sum (map n (form_terms y))) → b ≤ a + sum (map n (form_terms f))
    sum_sides g h x y is is_x is_y k =
        let e : in_form f ≡ over (form_terms g ++ form_terms h) = ap over (ap form_terms is ∙ form_terms-Implies g h) in
        let s = sum_append n (form_terms g) (form_terms h) in
        let c : in_form x ≡ in_form g = ap in_form is_x in
        let d : in_form y ≡ in_form h = ap in_form is_y in omega arith

  module _ (o : OutTree) (a b : ℕ) where
    pub sum_given : (t : TermTree) → o ≡ out.Give t → b ≤ a + n t → b ≤ a + sum (map n (out_terms o))
    sum_given t is h =
        let e : in_out o ≡ over (t ∷ []) = ap over (ap out_terms is ∙ out_terms-Give t) in
        let c = sum_cons n t [] in omega arith

    pub sum_choice : (f g : FormTree) (u v x y : OutTree) → o ≡ out_view.If f u v → g ≡ f → x ≡ u → y ≡ v → b ≤ a + (sum (map n (form_terms g)) + (sum (map n (out_terms x)) + sum (map n (out_terms y)))) → b ≤ a + sum (map n (out_terms o))
    sum_choice f g u v x y is is_g is_x is_y h =
        let e : in_out o ≡ over (form_terms f ++ (out_terms u ++ out_terms v)) = ap over (ap out_terms is ∙ out_terms-If f u v) in
        let s = sum_append n (form_terms f) (out_terms u ++ out_terms v) in
        let t = sum_append n (out_terms u) (out_terms v) in
        let c : in_form g ≡ in_form f = ap in_form is_g in
        let d : in_out x ≡ in_out u = ap in_out is_x in
        let k : in_out y ≡ in_out v = ap in_out is_y in omega arith

-- the arms of a choice have fewer nodes
pub choice_fewer : (o : OutTree) (f g : FormTree) (u v x y : OutTree) → o ≡ out_view.If f u v → g ≡ f → x ≡ u → y ≡ v → 3 * (out_nodes x + out_nodes y) + 2 < 3 * out_nodes o
choice_fewer o f g u v x y is is_g is_x is_y =
    let n : out_nodes o ≡ 1 + (form_nodes f + (out_nodes u + out_nodes v)) = ap out_nodes is ∙ out_nodes-If f u v in
    let b : out_nodes x ≡ out_nodes u = ap out_nodes is_x in
    let c : out_nodes y ≡ out_nodes v = ap out_nodes is_y in omega arith
