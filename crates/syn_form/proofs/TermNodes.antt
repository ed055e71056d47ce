-- A fact of each node of a term: what it says at a variable and at a symbol with arguments, and how it is put together; and
-- induction by these cases.
use Rattle.std.proofs.Common.{◌≡◌, List, [], ◌∷◌, All, map, refl, ◌∙◌, ap, subst, get_or, rules}
use Rattle.std.proofs.lemmas.List.Elements.{All-head, All-tail, All-map}
use denote.Hole.Carrier.{roll}
use Rattle.syn_term.specs.declared.sorts.SymId.{SymId}
use Rattle.syn_term.specs.declared.sorts.Var.{Var}
use Rattle.syn_term.specs.declared.term.Place.{Place}
use Rattle.syn_term.specs.declared.term.Node.{Node, out-Node, roll-Node, map-Node, every-Node, every_here-Node, every_held-Node, every_made-Node}
use Rattle.syn_term.specs.declared.term.Node.TheOpen.{Node-F}
use Rattle.syn_term.specs.declared.term.Node.TheVariants as node
use Rattle.syn_term.specs.declared.term.Node.TheViews as view
use Rattle.syn_term.specs.declared.term.Node.TheViews.{the_lemmas}
use Rattle.syn_term.proofs.Trees.{by_terms}

-- a term with what holds of it
abbrev With : (Node → Type 0) → Type 0
With P = (t : Node) × P t

abbrev tree_of : (P : Node → Type 0) → With P → Node
tree_of P e = e.0

all_with : (P : Node → Type 0) (xs : List (With P)) → All P (map (tree_of P) xs)
all_with P xs = All-map P (tree_of P) xs (λ k d lt. (get_or xs k d).1)

out-Var : (p : Place) (v : Var) → out-Node (node.Var p v) ≡ Node-F.Var p v
out-Var p v = search (rules, the_lemmas)

pub out-App : (p : Place) (f : SymId) (args : List Node) → out-Node (view.App p f args) ≡ Node-F.App p f args
out-App p f args = search (rules, the_lemmas)

-- the arguments as pairs
pairs : (P : Node → Type 0) (all : List Node) → All P all → List (With P)
pairs P [] h = []
pairs P (t ∷ ts) h = (t, All-head P t ts h) ∷ pairs P ts (All-tail P t ts h)

pairs_are : (P : Node → Type 0) (all : List Node) (h : All P all) → map (tree_of P) (pairs P all h) ≡ all
unfolding pairs
pairs_are P [] h = refl
pairs_are P (t ∷ ts) h = ap (λ (zs : List Node). t ∷ zs) (pairs_are P ts (All-tail P t ts h))

held_args : (P : Node → Type 0) (p : Place) (f : SymId) (args : List Node) (y : Node-F (With P)) → map-Node (With P) Node (tree_of P) y ≡ Node-F.App p f args → All P args
held_args P p f args (Node-F.Var q v) e = absurd (cc)
held_args P p f args (Node-F.App q g xs) e = let k : map (tree_of P) xs ≡ args = cc in subst (All P) k (all_with P xs)

module _ (Q : Node-F Node → Type 0) where
  pub node-Var : (p : Place) (v : Var) → every-Node Q (node.Var p v) → Q (Node-F.Var p v)
  node-Var p v h = subst Q (out-Var p v) (every_here-Node Q (node.Var p v) h)

  pub node-App : (p : Place) (f : SymId) (args : List Node) → every-Node Q (view.App p f args) → Q (Node-F.App p f args)
  node-App p f args h = subst Q (out-App p f args) (every_here-Node Q (view.App p f args) h)

  pub parts-App : (p : Place) (f : SymId) (args : List Node) → every-Node Q (view.App p f args) → All (every-Node Q) args
  parts-App p f args h = let k = every_held-Node Q (view.App p f args) h in held_args (every-Node Q) p f args k.0 (k.1 ∙ out-App p f args)

  pub every-Var : (p : Place) (v : Var) → Q (Node-F.Var p v) → every-Node Q (node.Var p v)
  unfolding roll-Node roll
  every-Var p v q = every_made-Node Q (Node-F.Var p v) (Node-F.Var p v) refl q

  pub every-App : (p : Place) (f : SymId) (args : List Node) → Q (Node-F.App p f args) → All (every-Node Q) args → every-Node Q (view.App p f args)
  unfolding roll-Node roll
  every-App p f args q h = every_made-Node Q (Node-F.App p f args) (Node-F.App p f (pairs (every-Node Q) args h)) (ap (λ (zs : List Node). Node-F.App p f zs) (pairs_are (every-Node Q) args h)) q

module _ (P : Node → Type 0) (var : (p : Place) (v : Var) → P (node.Var p v)) (app : (p : Place) (f : SymId) (args : List Node) → All P args → P (view.App p f args)) where
  term_step : (y : Node-F (With P)) → P (roll-Node (map-Node (With P) Node (tree_of P) y))
  unfolding roll-Node roll
  term_step (Node-F.Var p v) = var p v
  term_step (Node-F.App p f args) = app p f (map (tree_of P) args) (all_with P args)

  -- what holds of each term whose arguments it holds of, holds of all
  pub by_term_cases : (t : Node) → P t
  by_term_cases = by_terms P term_step
