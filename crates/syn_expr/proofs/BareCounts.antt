-- A tree without its places has as many nodes, and is as deep.
use Rattle.std.proofs.Common.{◌≡◌, ℕ, ◌+◌, max, sum, List, [], ◌∷◌, All, map, refl, sym, ◌∙◌, ap}
use Rattle.std.proofs.lemmas.List.Elements.{All-head, All-tail}
use Rattle.syn_term.specs.declared.sorts.SymId.{SymId}
use Rattle.syn_term.specs.Terms.{TermTree, bare, depth_of, depth_step, greatest, nodes, nodes_step}
use Rattle.syn_term.proofs.Trees.{fold-bare}
use Rattle.syn_form.specs.declared.trees.Form.{fold-Form}
use Rattle.syn_form.specs.declared.trees.Form.TheOpen.{Form-F}
use Rattle.syn_form.specs.declared.trees.Out.{fold-Out}
use Rattle.syn_form.specs.declared.trees.Out.TheOpen.{Out-F}
use Rattle.syn_form.specs.declared.trees.QForm.{fold-QForm}
use Rattle.syn_form.specs.declared.trees.QForm.TheOpen.{QForm-F}
use Rattle.syn_form.specs.Trees.{FormTree, OutTree, QFormTree, bare_form, bare_out, form_depth, form_depth_step, form_nodes, form_nodes_step, out_depth, out_depth_step, out_nodes, out_nodes_step}
use Rattle.syn_form.specs.Quantified.{bare_qform, bare_qform_step, qform_depth, qform_depth_step, qform_nodes, qform_nodes_step}
use Rattle.syn_form.proofs.Equations.{bare_form-True, bare_form-False, bare_form-Atom, bare_form-Equal, bare_form-Not, bare_form-And, bare_form-Or, bare_form-Implies, bare_out-Give, bare_out-If, fold-Atom, fold-Equal, fold-Not, fold-And, fold-Or, fold-Implies, fold-Give, fold-If}
use Rattle.syn_form.proofs.Induction.{by_forms, by_outs}
use Rattle.syn_form.proofs.QForms.{qfold-True, qfold-False, qfold-Atom, qfold-Equal, qfold-Not, qfold-And, qfold-Or, qfold-Implies, qfold-All, qfold-Exists, by_qform_cases}

-- a term
pub nodes_bare : (t : TermTree) → nodes (bare t) ≡ nodes t
nodes_bare = fold-bare nodes_step (λ p v. refl) (λ p f xs. refl)

pub depth_bare : (t : TermTree) → depth_of (bare t) ≡ depth_of t
depth_bare = fold-bare depth_step (λ p v. refl) (λ p f xs. refl)

-- a number of each of the terms
numbers : (of : TermTree → ℕ) → ((t : TermTree) → of (bare t) ≡ of t) → (ts : List TermTree) → map of (map bare ts) ≡ map of ts
numbers of e [] = refl
numbers of e (t ∷ ts) = ap (λ (n : ℕ). n ∷ map of (map bare ts)) (e t) ∙ ap (λ (ns : List ℕ). of t ∷ ns) (numbers of e ts)

-- and of two parts
of_two : {A B : Type 0} (f : A → A → B) (m n k l : A) → m ≡ k → n ≡ l → f m n ≡ f k l
of_two {A} f m n k l e h = ap (λ (z : A). f z n) e ∙ ap (f k) h

module _ {A : Type 0} (step : Form-F A → A) (atom : (r : SymId) (args : List TermTree) → step (Form-F.Atom r (map bare args)) ≡ step (Form-F.Atom r args)) (equal : (s t : TermTree) → step (Form-F.Equal (bare s) (bare t)) ≡ step (Form-F.Equal s t)) where
  abbrev SameFold : FormTree → Type 0
  SameFold f = fold-Form A step (bare_form f) ≡ fold-Form A step f

  members_bare : (all : List FormTree) → All SameFold all → map (fold-Form A step) (map bare_form all) ≡ map (fold-Form A step) all
  members_bare [] h = refl
  members_bare (f ∷ fs) h = ap (λ (z : A). z ∷ map (fold-Form A step) (map bare_form fs)) (All-head SameFold f fs h) ∙ ap (λ (zs : List A). fold-Form A step f ∷ zs) (members_bare fs (All-tail SameFold f fs h))

  -- a fold that doesn't look at places gives the same for the formula without them
  fold-bare_form : (f : FormTree) → SameFold f
  fold-bare_form = by_forms SameFold
      (ap (fold-Form A step) bare_form-True)
      (ap (fold-Form A step) bare_form-False)
      (λ r args. ap (fold-Form A step) (bare_form-Atom r args) ∙ (fold-Atom step r (map bare args) ∙ (atom r args ∙ sym (fold-Atom step r args))))
      (λ s t. ap (fold-Form A step) (bare_form-Equal s t) ∙ (fold-Equal step (bare s) (bare t) ∙ (equal s t ∙ sym (fold-Equal step s t))))
      (λ a h. ap (fold-Form A step) (bare_form-Not a) ∙ (fold-Not step (bare_form a) ∙ (ap (λ (z : A). step (Form-F.Not z)) h ∙ sym (fold-Not step a))))
      (λ all h. ap (fold-Form A step) (bare_form-And all) ∙ (fold-And step (map bare_form all) ∙ (ap (λ (zs : List A). step (Form-F.And zs)) (members_bare all h) ∙ sym (fold-And step all))))
      (λ all h. ap (fold-Form A step) (bare_form-Or all) ∙ (fold-Or step (map bare_form all) ∙ (ap (λ (zs : List A). step (Form-F.Or zs)) (members_bare all h) ∙ sym (fold-Or step all))))
      (λ a b h k. ap (fold-Form A step) (bare_form-Implies a b) ∙ (fold-Implies step (bare_form a) (bare_form b) ∙ (of_two (λ x y. step (Form-F.Implies x y)) (fold-Form A step (bare_form a)) (fold-Form A step (bare_form b)) (fold-Form A step a) (fold-Form A step b) h k ∙ sym (fold-Implies step a b))))

module _ {A : Type 0} (step : QForm-F A → A) (atom : (r : SymId) (args : List TermTree) → step (QForm-F.Atom r (map bare args)) ≡ step (QForm-F.Atom r args)) (equal : (s t : TermTree) → step (QForm-F.Equal (bare s) (bare t)) ≡ step (QForm-F.Equal s t)) where
  abbrev SameQFold : QFormTree → Type 0
  SameQFold f = fold-QForm A step (bare_qform f) ≡ fold-QForm A step f

  qmembers_bare : (all : List QFormTree) → All SameQFold all → map (fold-QForm A step) (map bare_qform all) ≡ map (fold-QForm A step) all
  qmembers_bare [] h = refl
  qmembers_bare (f ∷ fs) h = ap (λ (z : A). z ∷ map (fold-QForm A step) (map bare_qform fs)) (All-head SameQFold f fs h) ∙ ap (λ (zs : List A). fold-QForm A step f ∷ zs) (qmembers_bare fs (All-tail SameQFold f fs h))

  -- and for a formula with quantifiers
  fold-bare_qform : (f : QFormTree) → SameQFold f
  fold-bare_qform = by_qform_cases SameQFold record {
    at_true = ap (fold-QForm A step) (qfold-True bare_qform_step);
    at_false = ap (fold-QForm A step) (qfold-False bare_qform_step);
    at_atom = λ r args. ap (fold-QForm A step) (qfold-Atom bare_qform_step r args) ∙ (qfold-Atom step r (map bare args) ∙ (atom r args ∙ sym (qfold-Atom step r args)));
    at_equal = λ s t. ap (fold-QForm A step) (qfold-Equal bare_qform_step s t) ∙ (qfold-Equal step (bare s) (bare t) ∙ (equal s t ∙ sym (qfold-Equal step s t)));
    at_not = λ a h. ap (fold-QForm A step) (qfold-Not bare_qform_step a) ∙ (qfold-Not step (bare_qform a) ∙ (ap (λ (z : A). step (QForm-F.Not z)) h ∙ sym (qfold-Not step a)));
    at_and = λ all h. ap (fold-QForm A step) (qfold-And bare_qform_step all) ∙ (qfold-And step (map bare_qform all) ∙ (ap (λ (zs : List A). step (QForm-F.And zs)) (qmembers_bare all h) ∙ sym (qfold-And step all)));
    at_or = λ all h. ap (fold-QForm A step) (qfold-Or bare_qform_step all) ∙ (qfold-Or step (map bare_qform all) ∙ (ap (λ (zs : List A). step (QForm-F.Or zs)) (qmembers_bare all h) ∙ sym (qfold-Or step all)));
    at_implies = λ a b h k. ap (fold-QForm A step) (qfold-Implies bare_qform_step a b) ∙ (qfold-Implies step (bare_qform a) (bare_qform b) ∙ (of_two (λ x y. step (QForm-F.Implies x y)) (fold-QForm A step (bare_qform a)) (fold-QForm A step (bare_qform b)) (fold-QForm A step a) (fold-QForm A step b) h k ∙ sym (qfold-Implies step a b)));
    at_all = λ b a h. ap (fold-QForm A step) (qfold-All bare_qform_step b a) ∙ (qfold-All step b (bare_qform a) ∙ (ap (λ (z : A). step (QForm-F.All b z)) h ∙ sym (qfold-All step b a)));
    at_exists = λ b a h. ap (fold-QForm A step) (qfold-Exists bare_qform_step b a) ∙ (qfold-Exists step b (bare_qform a) ∙ (ap (λ (z : A). step (QForm-F.Exists b z)) h ∙ sym (qfold-Exists step b a)));
  }

module _ {A : Type 0} (step : Out-F A → A) (give : (t : TermTree) → step (Out-F.Give (bare t)) ≡ step (Out-F.Give t)) (choice : (f : FormTree) (u v : A) → step (Out-F.If (bare_form f) u v) ≡ step (Out-F.If f u v)) where
  abbrev SameOutFold : OutTree → Type 0
  SameOutFold o = fold-Out A step (bare_out o) ≡ fold-Out A step o

  -- and for an output
  fold-bare_out : (o : OutTree) → SameOutFold o
  fold-bare_out = by_outs SameOutFold
      (λ t. ap (fold-Out A step) (bare_out-Give t) ∙ (fold-Give step (bare t) ∙ (give t ∙ sym (fold-Give step t))))
      (λ f u v h k. ap (fold-Out A step) (bare_out-If f u v) ∙ (fold-If step (bare_form f) (bare_out u) (bare_out v) ∙ (choice f (fold-Out A step (bare_out u)) (fold-Out A step (bare_out v)) ∙ (of_two (λ x y. step (Out-F.If f x y)) (fold-Out A step (bare_out u)) (fold-Out A step (bare_out v)) (fold-Out A step u) (fold-Out A step v) h k ∙ sym (fold-If step f u v)))))

-- a formula
pub form_nodes_bare : (f : FormTree) → form_nodes (bare_form f) ≡ form_nodes f
form_nodes_bare =
    fold-bare_form form_nodes_step (λ r args. ap (λ (ns : List ℕ). 1 + sum ns) (numbers nodes nodes_bare args)) (λ s t. of_two (λ m n. 1 + (m + n)) (nodes (bare s)) (nodes (bare t)) (nodes s) (nodes t) (nodes_bare s) (nodes_bare t))

pub form_depth_bare : (f : FormTree) → form_depth (bare_form f) ≡ form_depth f
form_depth_bare =
    fold-bare_form form_depth_step (λ r args. ap (λ (ns : List ℕ). 1 + greatest ns) (numbers depth_of depth_bare args)) (λ s t. of_two (λ m n. 1 + max m n) (depth_of (bare s)) (depth_of (bare t)) (depth_of s) (depth_of t) (depth_bare s) (depth_bare t))

-- a formula with quantifiers
pub qform_nodes_bare : (f : QFormTree) → qform_nodes (bare_qform f) ≡ qform_nodes f
qform_nodes_bare =
    fold-bare_qform qform_nodes_step (λ r args. ap (λ (ns : List ℕ). 1 + sum ns) (numbers nodes nodes_bare args)) (λ s t. of_two (λ m n. 1 + (m + n)) (nodes (bare s)) (nodes (bare t)) (nodes s) (nodes t) (nodes_bare s) (nodes_bare t))

pub qform_depth_bare : (f : QFormTree) → qform_depth (bare_qform f) ≡ qform_depth f
qform_depth_bare =
    fold-bare_qform qform_depth_step (λ r args. ap (λ (ns : List ℕ). 1 + greatest ns) (numbers depth_of depth_bare args)) (λ s t. of_two (λ m n. 1 + max m n) (depth_of (bare s)) (depth_of (bare t)) (depth_of s) (depth_of t) (depth_bare s) (depth_bare t))

-- an output
pub out_nodes_bare : (o : OutTree) → out_nodes (bare_out o) ≡ out_nodes o
out_nodes_bare = fold-bare_out out_nodes_step nodes_bare (λ f u v. ap (λ (n : ℕ). 1 + (n + (u + v))) (form_nodes_bare f))

pub out_depth_bare : (o : OutTree) → out_depth (bare_out o) ≡ out_depth o
out_depth_bare = fold-bare_out out_depth_step depth_bare (λ f u v. ap (λ (n : ℕ). 1 + max n (max u v)) (form_depth_bare f))
