-- A fact of each node of a formula with quantifiers: what it says at each case and of its parts, and how it is put together.
use Rattle.std.proofs.Common.{◌≡◌, List, [], ◌∷◌, All, map, refl, ◌∙◌, ap, subst, get_or, rules}
use Rattle.std.proofs.lemmas.List.Elements.{All-head, All-tail, All-map}
use denote.Hole.Carrier.{roll}
use Rattle.syn_term.specs.declared.sorts.SymId.{SymId}
use Rattle.syn_term.specs.Terms.{TermTree}
use Rattle.syn_form.specs.declared.trees.Binder.{Binder}
use Rattle.syn_form.specs.declared.trees.QForm.{QForm, out-QForm, roll-QForm, map-QForm, every-QForm, every_here-QForm, every_held-QForm, every_made-QForm}
use Rattle.syn_form.specs.declared.trees.QForm.TheOpen.{QForm-F}
use Rattle.syn_form.specs.declared.trees.QForm.TheVariants as form
use Rattle.syn_form.specs.declared.trees.QForm.TheViews as view
use Rattle.syn_form.specs.declared.trees.QForm.TheViews.{the_lemmas}
use Rattle.syn_form.specs.Trees.{QFormTree}

-- a formula with what holds of it
abbrev With : (QFormTree → Type 0) → Type 0
With P = (f : QFormTree) × P f

abbrev tree_of : (P : QFormTree → Type 0) → With P → QFormTree
tree_of P e = e.0

all_with : (P : QFormTree → Type 0) (xs : List (With P)) → All P (map (tree_of P) xs)
all_with P xs = All-map P (tree_of P) xs (λ k d lt. (get_or xs k d).1)

out-Atom : (r : SymId) (args : List TermTree) → out-QForm (form.Atom r args) ≡ QForm-F.Atom r args
out-Atom r args = search (rules, the_lemmas)

out-Equal : (s t : TermTree) → out-QForm (form.Equal s t) ≡ QForm-F.Equal s t
out-Equal s t = search (rules, the_lemmas)

out-Not : (a : QFormTree) → out-QForm (view.Not a) ≡ QForm-F.Not a
out-Not a = search (rules, the_lemmas)

out-And : (all : List QFormTree) → out-QForm (view.And all) ≡ QForm-F.And all
out-And all = search (rules, the_lemmas)

out-Or : (all : List QFormTree) → out-QForm (view.Or all) ≡ QForm-F.Or all
out-Or all = search (rules, the_lemmas)

out-Implies : (a b : QFormTree) → out-QForm (view.Implies a b) ≡ QForm-F.Implies a b
out-Implies a b = search (rules, the_lemmas)

out-All : (b : Binder) (a : QFormTree) → out-QForm (view.All b a) ≡ QForm-F.All b a
out-All b a = search (rules, the_lemmas)

out-Exists : (b : Binder) (a : QFormTree) → out-QForm (view.Exists b a) ≡ QForm-F.Exists b a
out-Exists b a = search (rules, the_lemmas)

-- the members as pairs
pairs : (P : QFormTree → Type 0) (all : List QFormTree) → All P all → List (With P)
pairs P [] h = []
pairs P (f ∷ fs) h = (f, All-head P f fs h) ∷ pairs P fs (All-tail P f fs h)

pairs_are : (P : QFormTree → Type 0) (all : List QFormTree) (h : All P all) → map (tree_of P) (pairs P all h) ≡ all
unfolding pairs
pairs_are P [] h = refl
pairs_are P (f ∷ fs) h = ap (λ (zs : List QFormTree). f ∷ zs) (pairs_are P fs (All-tail P f fs h))

module _ (P : QFormTree → Type 0) where
  held_not : (a : QFormTree) (y : QForm-F (With P)) → map-QForm (With P) QForm (tree_of P) y ≡ QForm-F.Not a → P a
  held_not a (QForm-F.Not z) e = let k : z.0 ≡ a = cc in subst P k z.1
  held_not a _ e = absurd (cc)

  held_and : (all : List QFormTree) (y : QForm-F (With P)) → map-QForm (With P) QForm (tree_of P) y ≡ QForm-F.And all → All P all
  held_and all (QForm-F.And zs) e = let k : map (tree_of P) zs ≡ all = cc in subst (All P) k (all_with P zs)
  held_and all _ e = absurd (cc)

  held_or : (all : List QFormTree) (y : QForm-F (With P)) → map-QForm (With P) QForm (tree_of P) y ≡ QForm-F.Or all → All P all
  held_or all (QForm-F.Or zs) e = let k : map (tree_of P) zs ≡ all = cc in subst (All P) k (all_with P zs)
  held_or all _ e = absurd (cc)

  held_implies : (a b : QFormTree) (y : QForm-F (With P)) → map-QForm (With P) QForm (tree_of P) y ≡ QForm-F.Implies a b → P a × P b
  held_implies a b (QForm-F.Implies x z) e = let k : x.0 ≡ a = cc in let l : z.0 ≡ b = cc in (subst P k x.1, subst P l z.1)
  held_implies a b _ e = absurd (cc)

  held_all : (b : Binder) (a : QFormTree) (y : QForm-F (With P)) → map-QForm (With P) QForm (tree_of P) y ≡ QForm-F.All b a → P a
  held_all b a (QForm-F.All c z) e = let k : z.0 ≡ a = cc in subst P k z.1
  held_all b a _ e = absurd (cc)

  held_exists : (b : Binder) (a : QFormTree) (y : QForm-F (With P)) → map-QForm (With P) QForm (tree_of P) y ≡ QForm-F.Exists b a → P a
  held_exists b a (QForm-F.Exists c z) e = let k : z.0 ≡ a = cc in subst P k z.1
  held_exists b a _ e = absurd (cc)

module _ (Q : QForm-F QForm → Type 0) where
  pub node-Atom : (r : SymId) (args : List TermTree) → every-QForm Q (form.Atom r args) → Q (QForm-F.Atom r args)
  node-Atom r args h = subst Q (out-Atom r args) (every_here-QForm Q (form.Atom r args) h)

  pub node-Equal : (s t : TermTree) → every-QForm Q (form.Equal s t) → Q (QForm-F.Equal s t)
  node-Equal s t h = subst Q (out-Equal s t) (every_here-QForm Q (form.Equal s t) h)

  pub node-And : (all : List QFormTree) → every-QForm Q (view.And all) → Q (QForm-F.And all)
  node-And all h = subst Q (out-And all) (every_here-QForm Q (view.And all) h)

  pub node-Or : (all : List QFormTree) → every-QForm Q (view.Or all) → Q (QForm-F.Or all)
  node-Or all h = subst Q (out-Or all) (every_here-QForm Q (view.Or all) h)

  pub part-Not : (a : QFormTree) → every-QForm Q (view.Not a) → every-QForm Q a
  part-Not a h = let p = every_held-QForm Q (view.Not a) h in held_not (every-QForm Q) a p.0 (p.1 ∙ out-Not a)

  pub parts-And : (all : List QFormTree) → every-QForm Q (view.And all) → All (every-QForm Q) all
  parts-And all h = let p = every_held-QForm Q (view.And all) h in held_and (every-QForm Q) all p.0 (p.1 ∙ out-And all)

  pub parts-Or : (all : List QFormTree) → every-QForm Q (view.Or all) → All (every-QForm Q) all
  parts-Or all h = let p = every_held-QForm Q (view.Or all) h in held_or (every-QForm Q) all p.0 (p.1 ∙ out-Or all)

  pub parts-Implies : (a b : QFormTree) → every-QForm Q (view.Implies a b) → every-QForm Q a × every-QForm Q b
  parts-Implies a b h = let p = every_held-QForm Q (view.Implies a b) h in held_implies (every-QForm Q) a b p.0 (p.1 ∙ out-Implies a b)

  pub part-All : (b : Binder) (a : QFormTree) → every-QForm Q (view.All b a) → every-QForm Q a
  part-All b a h = let p = every_held-QForm Q (view.All b a) h in held_all (every-QForm Q) b a p.0 (p.1 ∙ out-All b a)

  pub part-Exists : (b : Binder) (a : QFormTree) → every-QForm Q (view.Exists b a) → every-QForm Q a
  part-Exists b a h = let p = every_held-QForm Q (view.Exists b a) h in held_exists (every-QForm Q) b a p.0 (p.1 ∙ out-Exists b a)

  pub node-All : (b : Binder) (a : QFormTree) → every-QForm Q (view.All b a) → Q (QForm-F.All b a)
  node-All b a h = subst Q (out-All b a) (every_here-QForm Q (view.All b a) h)

  pub node-Exists : (b : Binder) (a : QFormTree) → every-QForm Q (view.Exists b a) → Q (QForm-F.Exists b a)
  node-Exists b a h = subst Q (out-Exists b a) (every_here-QForm Q (view.Exists b a) h)

  pub every-True : Q QForm-F.True → every-QForm Q form.True
  unfolding roll-QForm roll
  every-True q = every_made-QForm Q QForm-F.True QForm-F.True refl q

  pub every-False : Q QForm-F.False → every-QForm Q form.False
  unfolding roll-QForm roll
  every-False q = every_made-QForm Q QForm-F.False QForm-F.False refl q

  pub every-Atom : (r : SymId) (args : List TermTree) → Q (QForm-F.Atom r args) → every-QForm Q (form.Atom r args)
  unfolding roll-QForm roll
  every-Atom r args q = every_made-QForm Q (QForm-F.Atom r args) (QForm-F.Atom r args) refl q

  pub every-Equal : (s t : TermTree) → Q (QForm-F.Equal s t) → every-QForm Q (form.Equal s t)
  unfolding roll-QForm roll
  every-Equal s t q = every_made-QForm Q (QForm-F.Equal s t) (QForm-F.Equal s t) refl q

  pub every-Not : (a : QFormTree) → Q (QForm-F.Not a) → every-QForm Q a → every-QForm Q (view.Not a)
  unfolding roll-QForm roll
  every-Not a q h = every_made-QForm Q (QForm-F.Not a) (QForm-F.Not (a, h)) refl q

  pub every-Implies : (a b : QFormTree) → Q (QForm-F.Implies a b) → every-QForm Q a → every-QForm Q b → every-QForm Q (view.Implies a b)
  unfolding roll-QForm roll
  every-Implies a b q h k = every_made-QForm Q (QForm-F.Implies a b) (QForm-F.Implies (a, h) (b, k)) refl q

  pub every-And : (all : List QFormTree) → Q (QForm-F.And all) → All (every-QForm Q) all → every-QForm Q (view.And all)
  unfolding roll-QForm roll
  every-And all q h = every_made-QForm Q (QForm-F.And all) (QForm-F.And (pairs (every-QForm Q) all h)) (ap (λ (zs : List QFormTree). QForm-F.And zs) (pairs_are (every-QForm Q) all h)) q

  pub every-Or : (all : List QFormTree) → Q (QForm-F.Or all) → All (every-QForm Q) all → every-QForm Q (view.Or all)
  unfolding roll-QForm roll
  every-Or all q h = every_made-QForm Q (QForm-F.Or all) (QForm-F.Or (pairs (every-QForm Q) all h)) (ap (λ (zs : List QFormTree). QForm-F.Or zs) (pairs_are (every-QForm Q) all h)) q

  pub every-All : (b : Binder) (a : QFormTree) → Q (QForm-F.All b a) → every-QForm Q a → every-QForm Q (view.All b a)
  unfolding roll-QForm roll
  every-All b a q h = every_made-QForm Q (QForm-F.All b a) (QForm-F.All b (a, h)) refl q

  pub every-Exists : (b : Binder) (a : QFormTree) → Q (QForm-F.Exists b a) → every-QForm Q a → every-QForm Q (view.Exists b a)
  unfolding roll-QForm roll
  every-Exists b a q h = every_made-QForm Q (QForm-F.Exists b a) (QForm-F.Exists b (a, h)) refl q
