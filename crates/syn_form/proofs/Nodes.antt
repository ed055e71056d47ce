-- A fact of each node of a formula or an output: what it says at each case, and how it is put together.
use Rattle.std.proofs.Common.{◌≡◌, List, [], ◌∷◌, All, map, refl, ◌∙◌, ap, subst, get_or}
use Rattle.std.proofs.lemmas.List.Elements.{All-head, All-tail, All-map}
use denote.Hole.Carrier.{roll}
use Rattle.syn_term.specs.declared.sorts.SymId.{SymId}
use Rattle.syn_term.specs.Terms.{TermTree}
use Rattle.syn_form.specs.declared.trees.Form.{Form, out-Form, roll-Form, map-Form, every-Form, every_here-Form, every_held-Form, every_made-Form}
use Rattle.syn_form.specs.declared.trees.Form.TheOpen.{Form-F}
use Rattle.syn_form.specs.declared.trees.Form.TheVariants as form
use Rattle.syn_form.specs.declared.trees.Form.TheViews as view
use Rattle.syn_form.specs.declared.trees.Out.{Out, roll-Out, map-Out, every-Out, every_here-Out, every_held-Out, every_made-Out}
use Rattle.syn_form.specs.declared.trees.Out.TheOpen.{Out-F}
use Rattle.syn_form.specs.declared.trees.Out.TheVariants as out
use Rattle.syn_form.specs.declared.trees.Out.TheViews as out_view
use Rattle.syn_form.specs.Trees.{FormTree, OutTree}
use Rattle.syn_form.specs.Simplification.{Junction, conjunction, disjunction, chain}
use Rattle.syn_form.proofs.Equations.{out-Equal, out-Not, out-And, out-Or, out-Implies, out-If}

-- a formula with what holds of it
abbrev With : (FormTree → Type 0) → Type 0
With P = (f : FormTree) × P f

abbrev tree_of : (P : FormTree → Type 0) → With P → FormTree
tree_of P e = e.0

abbrev pub chain_layer : Junction → List FormTree → Form-F FormTree
chain_layer conjunction all = Form-F.And all
chain_layer disjunction all = Form-F.Or all

out-chain : (j : Junction) (all : List FormTree) → out-Form (chain j all) ≡ chain_layer j all
out-chain conjunction all = out-And all
out-chain disjunction all = out-Or all

all_with : (P : FormTree → Type 0) (xs : List (With P)) → All P (map (tree_of P) xs)
all_with P xs = All-map P (tree_of P) xs (λ k d lt. (get_or xs k d).1)

held_not : (P : FormTree → Type 0) (a : FormTree) (y : Form-F (With P)) → map-Form (With P) Form (tree_of P) y ≡ Form-F.Not a → P a
held_not P a Form-F.True e = absurd (cc)
held_not P a Form-F.False e = absurd (cc)
held_not P a (Form-F.Atom r args) e = absurd (cc)
held_not P a (Form-F.Equal s t) e = absurd (cc)
held_not P a (Form-F.Not z) e = let k : z.0 ≡ a = cc in subst P k z.1
held_not P a (Form-F.And all) e = absurd (cc)
held_not P a (Form-F.Or all) e = absurd (cc)
held_not P a (Form-F.Implies x z) e = absurd (cc)

held_implies : (P : FormTree → Type 0) (a b : FormTree) (y : Form-F (With P)) → map-Form (With P) Form (tree_of P) y ≡ Form-F.Implies a b → P a × P b
held_implies P a b Form-F.True e = absurd (cc)
held_implies P a b Form-F.False e = absurd (cc)
held_implies P a b (Form-F.Atom r args) e = absurd (cc)
held_implies P a b (Form-F.Equal s t) e = absurd (cc)
held_implies P a b (Form-F.Not z) e = absurd (cc)
held_implies P a b (Form-F.And all) e = absurd (cc)
held_implies P a b (Form-F.Or all) e = absurd (cc)
held_implies P a b (Form-F.Implies x z) e = let k : x.0 ≡ a = cc in let l : z.0 ≡ b = cc in (subst P k x.1, subst P l z.1)

held_chain : (P : FormTree → Type 0) (j : Junction) (all : List FormTree) (y : Form-F (With P)) → map-Form (With P) Form (tree_of P) y ≡ chain_layer j all → All P all
held_chain P conjunction all Form-F.True e = absurd (cc)
held_chain P conjunction all Form-F.False e = absurd (cc)
held_chain P conjunction all (Form-F.Atom r args) e = absurd (cc)
held_chain P conjunction all (Form-F.Equal s t) e = absurd (cc)
held_chain P conjunction all (Form-F.Not z) e = absurd (cc)
held_chain P conjunction all (Form-F.And zs) e = let k : map (tree_of P) zs ≡ all = cc in subst (All P) k (all_with P zs)
held_chain P conjunction all (Form-F.Or zs) e = absurd (cc)
held_chain P conjunction all (Form-F.Implies x z) e = absurd (cc)
held_chain P disjunction all Form-F.True e = absurd (cc)
held_chain P disjunction all Form-F.False e = absurd (cc)
held_chain P disjunction all (Form-F.Atom r args) e = absurd (cc)
held_chain P disjunction all (Form-F.Equal s t) e = absurd (cc)
held_chain P disjunction all (Form-F.Not z) e = absurd (cc)
held_chain P disjunction all (Form-F.And zs) e = absurd (cc)
held_chain P disjunction all (Form-F.Or zs) e = let k : map (tree_of P) zs ≡ all = cc in subst (All P) k (all_with P zs)
held_chain P disjunction all (Form-F.Implies x z) e = absurd (cc)

-- the members as pairs
pairs : (P : FormTree → Type 0) (all : List FormTree) → All P all → List (With P)
pairs P [] h = []
pairs P (f ∷ fs) h = (f, All-head P f fs h) ∷ pairs P fs (All-tail P f fs h)

pairs_are : (P : FormTree → Type 0) (all : List FormTree) (h : All P all) → map (tree_of P) (pairs P all h) ≡ all
unfolding pairs
pairs_are P [] h = refl
pairs_are P (f ∷ fs) h = ap (λ (zs : List FormTree). f ∷ zs) (pairs_are P fs (All-tail P f fs h))

module _ (Q : Form-F FormTree → Type 0) where
  pub node-Equal : (s t : TermTree) → every-Form Q (form.Equal s t) → Q (Form-F.Equal s t)
  node-Equal s t h = subst Q (out-Equal s t) (every_here-Form Q (form.Equal s t) h)

  pub node-Not : (a : FormTree) → every-Form Q (view.Not a) → Q (Form-F.Not a)
  node-Not a h = subst Q (out-Not a) (every_here-Form Q (view.Not a) h)

  pub node-chain : (j : Junction) (all : List FormTree) → every-Form Q (chain j all) → Q (chain_layer j all)
  node-chain j all h = subst Q (out-chain j all) (every_here-Form Q (chain j all) h)

  pub node-Implies : (a b : FormTree) → every-Form Q (view.Implies a b) → Q (Form-F.Implies a b)
  node-Implies a b h = subst Q (out-Implies a b) (every_here-Form Q (view.Implies a b) h)

  pub part-Not : (a : FormTree) → every-Form Q (view.Not a) → every-Form Q a
  part-Not a h = let p = every_held-Form Q (view.Not a) h in held_not (every-Form Q) a p.0 (p.1 ∙ out-Not a)

  pub parts-chain : (j : Junction) (all : List FormTree) → every-Form Q (chain j all) → All (every-Form Q) all
  parts-chain j all h = let p = every_held-Form Q (chain j all) h in held_chain (every-Form Q) j all p.0 (p.1 ∙ out-chain j all)

  pub parts-Implies : (a b : FormTree) → every-Form Q (view.Implies a b) → every-Form Q a × every-Form Q b
  parts-Implies a b h = let p = every_held-Form Q (view.Implies a b) h in held_implies (every-Form Q) a b p.0 (p.1 ∙ out-Implies a b)

  pub every-True : Q Form-F.True → every-Form Q form.True
  unfolding roll-Form roll
  every-True q = every_made-Form Q Form-F.True Form-F.True refl q

  pub every-False : Q Form-F.False → every-Form Q form.False
  unfolding roll-Form roll
  every-False q = every_made-Form Q Form-F.False Form-F.False refl q

  pub every-Atom : (r : SymId) (args : List TermTree) → Q (Form-F.Atom r args) → every-Form Q (form.Atom r args)
  unfolding roll-Form roll
  every-Atom r args q = every_made-Form Q (Form-F.Atom r args) (Form-F.Atom r args) refl q

  pub every-Equal : (s t : TermTree) → Q (Form-F.Equal s t) → every-Form Q (form.Equal s t)
  unfolding roll-Form roll
  every-Equal s t q = every_made-Form Q (Form-F.Equal s t) (Form-F.Equal s t) refl q

  pub every-Not : (a : FormTree) → Q (Form-F.Not a) → every-Form Q a → every-Form Q (view.Not a)
  unfolding roll-Form roll
  every-Not a q h = every_made-Form Q (Form-F.Not a) (Form-F.Not (a, h)) refl q

  pub every-Implies : (a b : FormTree) → Q (Form-F.Implies a b) → every-Form Q a → every-Form Q b → every-Form Q (view.Implies a b)
  unfolding roll-Form roll
  every-Implies a b q h k = every_made-Form Q (Form-F.Implies a b) (Form-F.Implies (a, h) (b, k)) refl q

  pub every-chain : (j : Junction) (all : List FormTree) → Q (chain_layer j all) → All (every-Form Q) all → every-Form Q (chain j all)
  unfolding roll-Form roll
  every-chain conjunction all q h = every_made-Form Q (Form-F.And all) (Form-F.And (pairs (every-Form Q) all h)) (ap (λ (zs : List FormTree). Form-F.And zs) (pairs_are (every-Form Q) all h)) q
  every-chain disjunction all q h = every_made-Form Q (Form-F.Or all) (Form-F.Or (pairs (every-Form Q) all h)) (ap (λ (zs : List FormTree). Form-F.Or zs) (pairs_are (every-Form Q) all h)) q

abbrev WithOut : (OutTree → Type 0) → Type 0
WithOut P = (o : OutTree) × P o

abbrev arm_of : (P : OutTree → Type 0) → WithOut P → OutTree
arm_of P e = e.0

held_if : (P : OutTree → Type 0) (f : FormTree) (u v : OutTree) (y : Out-F (WithOut P)) → map-Out (WithOut P) Out (arm_of P) y ≡ Out-F.If f u v → P u × P v
held_if P f u v (Out-F.Give t) e = absurd (cc)
held_if P f u v (Out-F.If g x z) e = let k : x.0 ≡ u = cc in let l : z.0 ≡ v = cc in (subst P k x.1, subst P l z.1)

module _ (Q : Out-F OutTree → Type 0) where
  pub node-If : (f : FormTree) (u v : OutTree) → every-Out Q (out_view.If f u v) → Q (Out-F.If f u v)
  node-If f u v h = subst Q (out-If f u v) (every_here-Out Q (out_view.If f u v) h)

  pub parts-If : (f : FormTree) (u v : OutTree) → every-Out Q (out_view.If f u v) → every-Out Q u × every-Out Q v
  parts-If f u v h = let p = every_held-Out Q (out_view.If f u v) h in held_if (every-Out Q) f u v p.0 (p.1 ∙ out-If f u v)

  pub every-Give : (t : TermTree) → Q (Out-F.Give t) → every-Out Q (out.Give t)
  unfolding roll-Out roll
  every-Give t q = every_made-Out Q (Out-F.Give t) (Out-F.Give t) refl q

  pub every-If : (f : FormTree) (u v : OutTree) → Q (Out-F.If f u v) → every-Out Q u → every-Out Q v → every-Out Q (out_view.If f u v)
  unfolding roll-Out roll
  every-If f u v q h k = every_made-Out Q (Out-F.If f u v) (Out-F.If f (u, h) (v, k)) refl q
