-- Whether what comes of a formula or an output fits: two parts, and each case.
use Rattle.std.proofs.Common.{◌≡◌, ℕ, ◌+◌, ◌≤◌, max, sum, List, map, sym, ◌∙◌, ap, arith, Option, None, Some}
use Rattle.syn_term.specs.declared.sorts.SymId.{SymId}
use Rattle.syn_term.specs.declared.sorts.Var.{Var}
use Rattle.syn_term.specs.Terms.{TermTree, depth_of, greatest, nodes}
use Rattle.syn_form.specs.declared.trees.Form.TheVariants as form
use Rattle.syn_form.specs.declared.trees.Form.TheViews as view
use Rattle.syn_form.specs.declared.trees.Out.TheVariants as out
use Rattle.syn_form.specs.declared.trees.Out.TheViews as out_view
use Rattle.syn_form.specs.Trees.{FormTree, OutTree, form_depth, form_nodes, out_depth, out_nodes}
use Rattle.syn_form.proofs.Equations.{fold-Give, fold-If, form_depth-And, form_depth-Atom, form_depth-Equal, form_depth-False, form_depth-Implies, form_depth-Not, form_depth-Or, form_depth-True, form_nodes-And, form_nodes-Atom, form_nodes-Equal, form_nodes-False, form_nodes-Implies, form_nodes-Not, form_nodes-Or, form_nodes-True, out_depth-Give, out_depth-If, out_nodes-Give, out_nodes-If}
use Rattle.syn_unify.specs.OutTerms.{out_on_terms_step}
use Rattle.syn_unify.specs.inner.Changes.{under}
use Rattle.syn_unify.specs.inner.Forms.{form_under, out_under}
use Rattle.syn_unify.specs.inner.Rooms.{HasRoom}
use Rattle.syn_unify.proofs.FormPairs.{under-And, under-Atom, under-Equal, under-False, under-Implies, under-Not, under-Or, under-True}
use Rattle.syn_unify.proofs.Rooms.{room_along}

-- the second fits into what the first leaves
pub room_two : (size height n d m e left : ℕ) (first o : Option ℕ) → first ≡ Some left → HasRoom size height n d first → HasRoom left height m e o → HasRoom size height (n + m) (max d e) o
room_two size height n d m e left None o is h k = absurd (cc)
room_two size height n d m e left (Some l) None is h k = λ q. let same : l ≡ left = cc in k (omega (arith, h.0, q.0), omega (arith, q.1))
room_two size height n d m e left (Some l) (Some rest) is h k = let same : l ≡ left = cc in (omega (arith, h.0, k.0), omega (arith, h.1, k.1))

-- the first doesn't fit
pub room_not_first : (size height n d m e : ℕ) (first : Option ℕ) → first ≡ None → HasRoom size height n d first → (n + m ≤ size) × (max d e ≤ height) → ⊥
room_not_first size height n d m e None is h q = h (omega (arith, q.0), omega (arith, q.1))
room_not_first size height n d m e (Some l) is h q = absurd (cc)

module _ (θ : Var → TermTree) (size height : ℕ) (o : Option ℕ) where
  abbrev Room : ℕ → ℕ → Type 0
  Room n d = HasRoom size height n d o

  module _ (f : FormTree) where
    abbrev Comes : Type 0
    Comes = HasRoom size height (form_nodes (form_under θ f)) (form_depth (form_under θ f)) o

    -- what comes of it is this
    by_form : (g : FormTree) (n d : ℕ) → form_under θ f ≡ g → form_nodes g ≡ n → form_depth g ≡ d → Room n d → Comes
    by_form g n d is count deep h = room_along size height (form_nodes (form_under θ f)) n (form_depth (form_under θ f)) d o (ap form_nodes is ∙ count) (ap form_depth is ∙ deep) h

    pub room_at_true : f ≡ form.True → HasRoom size height 1 1 o → Comes
    room_at_true is = by_form form.True 1 1 (ap (form_under θ) is ∙ under-True θ) form_nodes-True form_depth-True

    pub room_at_false : f ≡ form.False → HasRoom size height 1 1 o → Comes
    room_at_false is = by_form form.False 1 1 (ap (form_under θ) is ∙ under-False θ) form_nodes-False form_depth-False

    pub room_at_atom : (r : SymId) (args xs : List TermTree) → f ≡ form.Atom r args → xs ≡ args → HasRoom size height (1 + sum (map nodes (map (under θ) xs))) (1 + greatest (map depth_of (map (under θ) xs))) o → Comes
    room_at_atom r args xs is same =
        by_form (form.Atom r (map (under θ) xs)) (1 + sum (map nodes (map (under θ) xs))) (1 + greatest (map depth_of (map (under θ) xs)))
        (ap (form_under θ) is ∙ (under-Atom θ r args ∙ ap (λ (zs : List TermTree). form.Atom r (map (under θ) zs)) (sym same))) (form_nodes-Atom r (map (under θ) xs)) (form_depth-Atom r (map (under θ) xs))

    pub room_at_equality : (s t : TermTree) → f ≡ form.Equal s t → HasRoom size height (1 + (nodes (under θ s) + nodes (under θ t))) (1 + max (depth_of (under θ s)) (depth_of (under θ t))) o → Comes
    room_at_equality s t is =
        by_form (form.Equal (under θ s) (under θ t)) (1 + (nodes (under θ s) + nodes (under θ t))) (1 + max (depth_of (under θ s)) (depth_of (under θ t)))
        (ap (form_under θ) is ∙ under-Equal θ s t) (form_nodes-Equal (under θ s) (under θ t)) (form_depth-Equal (under θ s) (under θ t))

    pub room_at_negation : (a x : FormTree) → f ≡ view.Not a → x ≡ a → HasRoom size height (1 + form_nodes (form_under θ x)) (1 + form_depth (form_under θ x)) o → Comes
    room_at_negation a x is same =
        by_form (view.Not (form_under θ x)) (1 + form_nodes (form_under θ x)) (1 + form_depth (form_under θ x))
        (ap (form_under θ) is ∙ (under-Not θ a ∙ ap (λ (z : FormTree). view.Not (form_under θ z)) (sym same))) (form_nodes-Not (form_under θ x)) (form_depth-Not (form_under θ x))

    pub room_at_implication : (a b x y : FormTree) → f ≡ view.Implies a b → x ≡ a → y ≡ b → HasRoom size height (1 + (form_nodes (form_under θ x) + form_nodes (form_under θ y))) (1 + max (form_depth (form_under θ x)) (form_depth (form_under θ y))) o → Comes
    room_at_implication a b x y is is_x is_y =
        by_form (view.Implies (form_under θ x) (form_under θ y)) (1 + (form_nodes (form_under θ x) + form_nodes (form_under θ y))) (1 + max (form_depth (form_under θ x)) (form_depth (form_under θ y)))
        (ap (form_under θ) is ∙ (under-Implies θ a b ∙ (ap (λ (z : FormTree). view.Implies (form_under θ z) (form_under θ b)) (sym is_x) ∙ ap (λ (z : FormTree). view.Implies (form_under θ x) (form_under θ z)) (sym is_y))))
        (form_nodes-Implies (form_under θ x) (form_under θ y)) (form_depth-Implies (form_under θ x) (form_under θ y))

    pub room_at_conjunction : (all xs : List FormTree) → f ≡ view.And all → xs ≡ all → HasRoom size height (1 + sum (map form_nodes (map (form_under θ) xs))) (1 + greatest (map form_depth (map (form_under θ) xs))) o → Comes
    room_at_conjunction all xs is same =
        by_form (view.And (map (form_under θ) xs)) (1 + sum (map form_nodes (map (form_under θ) xs))) (1 + greatest (map form_depth (map (form_under θ) xs)))
        (ap (form_under θ) is ∙ (under-And θ all ∙ ap (λ (zs : List FormTree). view.And (map (form_under θ) zs)) (sym same))) (form_nodes-And (map (form_under θ) xs)) (form_depth-And (map (form_under θ) xs))

    pub room_at_disjunction : (all xs : List FormTree) → f ≡ view.Or all → xs ≡ all → HasRoom size height (1 + sum (map form_nodes (map (form_under θ) xs))) (1 + greatest (map form_depth (map (form_under θ) xs))) o → Comes
    room_at_disjunction all xs is same =
        by_form (view.Or (map (form_under θ) xs)) (1 + sum (map form_nodes (map (form_under θ) xs))) (1 + greatest (map form_depth (map (form_under θ) xs)))
        (ap (form_under θ) is ∙ (under-Or θ all ∙ ap (λ (zs : List FormTree). view.Or (map (form_under θ) zs)) (sym same))) (form_nodes-Or (map (form_under θ) xs)) (form_depth-Or (map (form_under θ) xs))

  module _ (p : OutTree) where
    abbrev ComesOut : Type 0
    ComesOut = HasRoom size height (out_nodes (out_under θ p)) (out_depth (out_under θ p)) o

    by_out : (q : OutTree) (n d : ℕ) → out_under θ p ≡ q → out_nodes q ≡ n → out_depth q ≡ d → Room n d → ComesOut
    by_out q n d is count deep h = room_along size height (out_nodes (out_under θ p)) n (out_depth (out_under θ p)) d o (ap out_nodes is ∙ count) (ap out_depth is ∙ deep) h

    pub room_at_given : (t : TermTree) → p ≡ out.Give t → HasRoom size height (nodes (under θ t)) (depth_of (under θ t)) o → ComesOut
    room_at_given t is =
        by_out (out.Give (under θ t)) (nodes (under θ t)) (depth_of (under θ t))
        (ap (out_under θ) is ∙ fold-Give (out_on_terms_step (under θ)) t) (out_nodes-Give (under θ t)) (out_depth-Give (under θ t))

    pub room_at_choice : (f g : FormTree) (u v x y : OutTree) → p ≡ out_view.If f u v → g ≡ f → x ≡ u → y ≡ v → HasRoom size height (1 + (form_nodes (form_under θ g) + (out_nodes (out_under θ x) + out_nodes (out_under θ y)))) (1 + max (form_depth (form_under θ g)) (max (out_depth (out_under θ x)) (out_depth (out_under θ y)))) o → ComesOut
    room_at_choice f g u v x y is is_g is_x is_y =
        by_out (out_view.If (form_under θ g) (out_under θ x) (out_under θ y)) (1 + (form_nodes (form_under θ g) + (out_nodes (out_under θ x) + out_nodes (out_under θ y)))) (1 + max (form_depth (form_under θ g)) (max (out_depth (out_under θ x)) (out_depth (out_under θ y))))
        (ap (out_under θ) is ∙ (fold-If (out_on_terms_step (under θ)) f u v ∙ (ap (λ (z : FormTree). out_view.If (form_under θ z) (out_under θ u) (out_under θ v)) (sym is_g) ∙ (ap (λ (z : OutTree). out_view.If (form_under θ g) (out_under θ z) (out_under θ v)) (sym is_x) ∙ ap (λ (z : OutTree). out_view.If (form_under θ g) (out_under θ x) (out_under θ z)) (sym is_y)))))
        (out_nodes-If (form_under θ g) (out_under θ x) (out_under θ y)) (out_depth-If (form_under θ g) (out_under θ x) (out_under θ y))
