-- A formula or an output without its places has as many nodes, and is as deep.
use Rattle.std.proofs.Common.{◌≡◌, ℕ, ◌+◌, max, sum, List, [], ◌∷◌, All, map, refl, sym, ◌∙◌, ap}
use Rattle.std.proofs.lemmas.List.Elements.{All-head, All-tail}
use Rattle.syn_term.specs.declared.sorts.SymId.{SymId}
use Rattle.syn_term.specs.Terms.{TermTree, bare, depth_of, greatest, nodes}
use Rattle.syn_form.specs.declared.trees.Form.{fold-Form}
use Rattle.syn_form.specs.declared.trees.Form.TheOpen.{Form-F}
use Rattle.syn_form.specs.declared.trees.Out.{fold-Out}
use Rattle.syn_form.specs.declared.trees.Out.TheOpen.{Out-F}
use Rattle.syn_form.specs.Trees.{FormTree, OutTree, bare_form, bare_out, form_depth, form_depth_step, form_nodes, form_nodes_step, out_depth, out_depth_step, out_nodes, out_nodes_step}
use Rattle.syn_form.proofs.Equations.{bare_form-True, bare_form-False, bare_form-Atom, bare_form-Equal, bare_form-Not, bare_form-And, bare_form-Or, bare_form-Implies, bare_out-Give, bare_out-If, fold-Atom, fold-Equal, fold-Not, fold-And, fold-Or, fold-Implies, fold-Give, fold-If}
use Rattle.syn_form.proofs.Induction.{by_forms, by_outs}
use Rattle.syn_unify.proofs.Rooms.{depth_bare}
use Rattle.syn_unify.proofs.Sizes.{nodes_bare}

-- a number of each of the terms
numbers : (of : TermTree → ℕ) → ((t : TermTree) → of (bare t) ≡ of t) → (ts : List TermTree) → map of (map bare ts) ≡ map of ts
numbers of e [] = refl
numbers of e (t ∷ ts) = ap (λ (n : ℕ). n ∷ map of (map bare ts)) (e t) ∙ ap (λ (ns : List ℕ). of t ∷ ns) (numbers of e ts)

-- and of two parts
of_two : {A B : Type 0} (f : A → A → B) (m n k l : A) → m ≡ k → n ≡ l → f m n ≡ f k l
of_two {A} f m n k l e h = ap (λ (z : A). f z n) e ∙ ap (f k) h

module _ {A : Type 0} (step : Form-F A → A) (atom : (r : SymId) (args : List TermTree) → step (Form-F.Atom r (map bare args)) ≡ step (Form-F.Atom r args)) (equal : (s t : TermTree) → step (Form-F.Equal (bare s) (bare t)) ≡ step (Form-F.Equal s t)) where
  abbrev SameFold : FormTree → Type 0
  SameFold f = fold-Form A step (bare_form f) ≡ fold-Form A step f

  members_bare : (all : List FormTree) → All SameFold all → map (fold-Form A step) (map bare_form all) ≡ map (fold-Form A step) all
  members_bare [] h = refl
  members_bare (f ∷ fs) h = ap (λ (z : A). z ∷ map (fold-Form A step) (map bare_form fs)) (All-head SameFold f fs h) ∙ ap (λ (zs : List A). fold-Form A step f ∷ zs) (members_bare fs (All-tail SameFold f fs h))

  -- a fold that doesn't look at places gives the same for the formula without them
  fold-bare_form : (f : FormTree) → SameFold f
  fold-bare_form = by_forms SameFold
      (ap (fold-Form A step) bare_form-True)
      (ap (fold-Form A step) bare_form-False)
      (λ r args. ap (fold-Form A step) (bare_form-Atom r args) ∙ (fold-Atom step r (map bare args) ∙ (atom r args ∙ sym (fold-Atom step r args))))
      (λ s t. ap (fold-Form A step) (bare_form-Equal s t) ∙ (fold-Equal step (bare s) (bare t) ∙ (equal s t ∙ sym (fold-Equal step s t))))
      (λ a h. ap (fold-Form A step) (bare_form-Not a) ∙ (fold-Not step (bare_form a) ∙ (ap (λ (z : A). step (Form-F.Not z)) h ∙ sym (fold-Not step a))))
      (λ all h. ap (fold-Form A step) (bare_form-And all) ∙ (fold-And step (map bare_form all) ∙ (ap (λ (zs : List A). step (Form-F.And zs)) (members_bare all h) ∙ sym (fold-And step all))))
      (λ all h. ap (fold-Form A step) (bare_form-Or all) ∙ (fold-Or step (map bare_form all) ∙ (ap (λ (zs : List A). step (Form-F.Or zs)) (members_bare all h) ∙ sym (fold-Or step all))))
      (λ a b h k. ap (fold-Form A step) (bare_form-Implies a b) ∙ (fold-Implies step (bare_form a) (bare_form b) ∙ (of_two (λ x y. step (Form-F.Implies x y)) (fold-Form A step (bare_form a)) (fold-Form A step (bare_form b)) (fold-Form A step a) (fold-Form A step b) h k ∙ sym (fold-Implies step a b))))

module _ {A : Type 0} (step : Out-F A → A) (give : (t : TermTree) → step (Out-F.Give (bare t)) ≡ step (Out-F.Give t)) (choice : (f : FormTree) (u v : A) → step (Out-F.If (bare_form f) u v) ≡ step (Out-F.If f u v)) where
  abbrev SameOutFold : OutTree → Type 0
  SameOutFold o = fold-Out A step (bare_out o) ≡ fold-Out A step o

  -- and for an output
  fold-bare_out : (o : OutTree) → SameOutFold o
  fold-bare_out = by_outs SameOutFold
      (λ t. ap (fold-Out A step) (bare_out-Give t) ∙ (fold-Give step (bare t) ∙ (give t ∙ sym (fold-Give step t))))
      (λ f u v h k. ap (fold-Out A step) (bare_out-If f u v) ∙ (fold-If step (bare_form f) (bare_out u) (bare_out v) ∙ (choice f (fold-Out A step (bare_out u)) (fold-Out A step (bare_out v)) ∙ (of_two (λ x y. step (Out-F.If f x y)) (fold-Out A step (bare_out u)) (fold-Out A step (bare_out v)) (fold-Out A step u) (fold-Out A step v) h k ∙ sym (fold-If step f u v)))))

-- a formula
pub form_nodes_bare : (f : FormTree) → form_nodes (bare_form f) ≡ form_nodes f
form_nodes_bare =
    fold-bare_form form_nodes_step (λ r args. ap (λ (ns : List ℕ). 1 + sum ns) (numbers nodes nodes_bare args)) (λ s t. of_two (λ m n. 1 + (m + n)) (nodes (bare s)) (nodes (bare t)) (nodes s) (nodes t) (nodes_bare s) (nodes_bare t))

pub form_depth_bare : (f : FormTree) → form_depth (bare_form f) ≡ form_depth f
form_depth_bare =
    fold-bare_form form_depth_step (λ r args. ap (λ (ns : List ℕ). 1 + greatest ns) (numbers depth_of depth_bare args)) (λ s t. of_two (λ m n. 1 + max m n) (depth_of (bare s)) (depth_of (bare t)) (depth_of s) (depth_of t) (depth_bare s) (depth_bare t))

-- an output
pub out_nodes_bare : (o : OutTree) → out_nodes (bare_out o) ≡ out_nodes o
out_nodes_bare = fold-bare_out out_nodes_step nodes_bare (λ f u v. ap (λ (n : ℕ). 1 + (n + (u + v))) (form_nodes_bare f))

pub out_depth_bare : (o : OutTree) → out_depth (bare_out o) ≡ out_depth o
out_depth_bare = fold-bare_out out_depth_step depth_bare (λ f u v. ap (λ (n : ℕ). 1 + max n (max u v)) (form_depth_bare f))
