-- The equations of the functions of trees at a variable and at a symbol with arguments.
use Rattle.std.proofs.Common.{◌≡◌, ℕ, ◌+◌, ◌-◌, ◌≤◌, ◌<◌, min, max, sum, List, [], ◌∷◌, map, length, ◌++◌, take, get_or, refl, sym, ◌∙◌, ap, subst, arith, rules, IsTrue, Bool, true, false, not, nat_eq}
use Rattle.std.specs.Ordering.{nat_cmp, ord_max}
use Rattle.std.proofs.lemmas.Bool.Decides.{nat_tests}
use Rattle.syn_term.specs.declared.sorts.SymId.{SymId}
use Rattle.syn_term.specs.declared.sorts.Var.{Var}
use Rattle.syn_term.specs.declared.term.Place.{Place}
use Rattle.syn_term.specs.declared.term.Node.{Node, out-Node, roll-Node, map-Node, fold-Node, fold-roll-Node, ind-Node}
use Rattle.syn_term.specs.declared.term.Node.TheOpen.{Node-F}
use Rattle.syn_term.specs.declared.term.Node.TheVariants as node
use Rattle.syn_term.specs.declared.term.Node.TheViews as view
use Rattle.syn_term.specs.declared.term.Node.TheViews.{the_lemmas}
use Rattle.std.proofs.lemmas.List.{take_more, take_all, map-append}
use denote.Hole.Carrier.{roll}
use Rattle.syn_term.specs.Terms.{nodes, nodes_step, depth_of, depth_step, greatest, bare, bare_step, application, nowhere}

pub nodes-App : (p : Place) (f : SymId) (args : List Node) → nodes (view.App p f args) ≡ 1 + sum (map nodes args)
unfolding roll-Node roll
nodes-App p f args = fold-roll-Node ℕ nodes_step (Node-F.App p f args)

pub depth_of-App : (p : Place) (f : SymId) (args : List Node) → depth_of (view.App p f args) ≡ 1 + greatest (map depth_of args)
unfolding roll-Node roll
depth_of-App p f args = fold-roll-Node ℕ depth_step (Node-F.App p f args)

pub bare-App : (p : Place) (f : SymId) (args : List Node) → bare (view.App p f args) ≡ application f (map bare args)
unfolding roll-Node roll
bare-App p f args = fold-roll-Node Node bare_step (Node-F.App p f args)

-- the greatest of two lists of numbers in a row
pub greatest-append : (xs ys : List ℕ) → greatest (xs ++ ys) ≡ max (greatest xs) (greatest ys)
greatest-append [] ys = omega arith
greatest-append (x ∷ xs) ys = let e = greatest-append xs ys in omega arith

-- the greater of two numbers, as the code asks for it
greater_is : (a b : ℕ) → ord_max nat_cmp a b ≡ max a b
greater_is a b = grind (arith, nat_tests)

-- one argument more in the search for the deepest
pub depth_more : (xs : List Node) (i : ℕ) (d x : Node) (most deepest depth found : ℕ) → i < length xs → x ≡ get_or xs i d → deepest ≡ min (greatest (map depth_of (take i xs))) most → depth ≡ min (depth_of x) most → found ≡ ord_max nat_cmp deepest depth → found ≡ min (greatest (map depth_of (take (i + 1) xs))) most
depth_more xs i d x most deepest depth found lt is a b larger =
    let e : found ≡ max deepest depth = larger ∙ greater_is deepest depth in
    let more : map depth_of (take (i + 1) xs) ≡ map depth_of (take i xs) ++ depth_of x ∷ [] = ap (map depth_of) (take_more xs i d lt) ∙ (map-append depth_of (take i xs) (get_or xs i d ∷ []) ∙ ap (λ (z : Node). map depth_of (take i xs) ++ depth_of z ∷ []) (sym is)) in
    let m : greatest (map depth_of (take (i + 1) xs)) ≡ max (greatest (map depth_of (take i xs))) (max (depth_of x) 0) = ap greatest more ∙ greatest-append (map depth_of (take i xs)) (depth_of x ∷ []) in omega arith

-- the depth of a symbol with arguments, from what was found in all of them
pub depth_end : (t : Node) (p : Place) (f : SymId) (args xs : List Node) (i most deepest : ℕ) → t ≡ view.App p f args → xs ≡ args → i ≡ length xs → 1 ≤ most → deepest ≡ min (greatest (map depth_of (take i xs))) (most - 1) → deepest + 1 ≡ min (depth_of t) most
depth_end t p f args xs i most deepest is same end some found =
    let whole : take i xs ≡ args = take_all i xs (omega arith) ∙ same in
    let e : depth_of t ≡ 1 + greatest (map depth_of args) = ap depth_of is ∙ depth_of-App p f args in
    let g : deepest ≡ min (greatest (map depth_of args)) (most - 1) = rw whole at found in omega arith

-- two symbols with arguments are one tree where the symbols are one and the arguments are the same trees
pub bare_from_args : (t u : Node) (p q : Place) (f g : SymId) (xs ys : List Node) → t ≡ view.App p f xs → u ≡ view.App q g ys → f ≡ g → map bare xs ≡ map bare ys → bare t ≡ bare u
bare_from_args t u p q f g xs ys is_t is_u same args =
    let a : bare t ≡ application f (map bare xs) = ap bare is_t ∙ bare-App p f xs in
    let b : bare u ≡ application g (map bare ys) = ap bare is_u ∙ bare-App q g ys in cc

pub application-out : (f : SymId) (xs : List Node) → out-Node (application f xs) ≡ Node-F.App nowhere f xs
application-out f xs = search (rules, the_lemmas)

layer_args : Node-F Node → List Node
layer_args (Node-F.Var p v) = []
layer_args (Node-F.App p f xs) = xs

pub bare_to_args : (t u : Node) (p q : Place) (f g : SymId) (xs ys : List Node) → t ≡ view.App p f xs → u ≡ view.App q g ys → bare t ≡ bare u → (f ≡ g) × (map bare xs ≡ map bare ys)
bare_to_args t u p q f g xs ys is_t is_u e =
    let a : bare t ≡ application f (map bare xs) = ap bare is_t ∙ bare-App p f xs in
    let b : bare u ≡ application g (map bare ys) = ap bare is_u ∙ bare-App q g ys in
    let h : Node-F.App nowhere f (map bare xs) ≡ Node-F.App nowhere g (map bare ys) = sym (application-out f (map bare xs)) ∙ (ap out-Node (sym a ∙ (e ∙ b)) ∙ application-out g (map bare ys)) in (cc, cc)

abbrev sym_id : ℕ → SymId
sym_id n = record { 0 = n }

-- two symbols are one where the test that they differ is false
pub same_symbol : (f g : SymId) (b : Bool) → b ≡ not (nat_eq f.0 g.0) → b ≡ false → f ≡ g
same_symbol f g b is e = let h : f.0 ≡ g.0 = grind (arith, nat_tests) in ap sym_id h

module _ (t u t' u' : Node) (p q : Place) (f g : SymId) (xs ys vs ws : List Node) (same_t : t' ≡ t) (same_u : u' ≡ u) (is_t : t' ≡ view.App p f xs) (is_u : u' ≡ view.App q g ys) (is_vs : vs ≡ xs) (is_ws : ws ≡ ys) where
  -- the answer 'not one tree', where some arguments differ
  pub differ : (map bare vs ≡ map bare ws → ⊥) → (IsTrue false → bare t ≡ bare u) × (bare t ≡ bare u → IsTrue false)
  differ ne = (
    (λ e. absurd (cc)),
    (λ e. absurd (ne (ap (map bare) is_vs ∙ ((bare_to_args t u p q f g xs ys (sym same_t ∙ is_t) (sym same_u ∙ is_u) e).1 ∙ ap (map bare) (sym is_ws))))),
  )

  -- the answer 'one tree', where the symbols are one and all arguments the same trees
  pub agree : f ≡ g → map bare vs ≡ map bare ws → (IsTrue true → bare t ≡ bare u) × (bare t ≡ bare u → IsTrue true)
  agree same args = (
    (λ e. bare_from_args t u p q f g xs ys (sym same_t ∙ is_t) (sym same_u ∙ is_u) same (ap (map bare) (sym is_vs) ∙ (args ∙ ap (map bare) is_ws))),
    (λ e. refl),
  )

module _ {A : Type 0} (step : Node-F A → A) where
  -- what a fold gives at a symbol with arguments, and at a variable
  pub fold-App : (p : Place) (f : SymId) (args : List Node) → fold-Node A step (view.App p f args) ≡ step (Node-F.App p f (map (fold-Node A step) args))
  unfolding roll-Node roll
  fold-App p f args = fold-roll-Node A step (Node-F.App p f args)

  pub fold-Var : (p : Place) (v : Var) → fold-Node A step (node.Var p v) ≡ step (Node-F.Var p v)
  unfolding roll-Node roll
  fold-Var p v = fold-roll-Node A step (Node-F.Var p v)

-- a tree with what holds of it
abbrev With : (Node → Type 0) → Type 0
With P = (t : Node) × P t

abbrev tree_of : (P : Node → Type 0) → With P → Node
tree_of P e = e.0

-- what holds of each node whose arguments it holds of, holds of all trees
pub by_terms : (P : Node → Type 0) → ((y : Node-F (With P)) → P (roll-Node (map-Node (With P) Node (tree_of P) y))) → (t : Node) → P t
by_terms P step = ind-Node P (λ x y is. subst (λ (z : Node-F Node). P (roll-Node z)) is (step y))

module _ {A : Type 0} (step : Node-F A → A) (var : (p : Place) (v : Var) → step (Node-F.Var p v) ≡ step (Node-F.Var nowhere v)) (app : (p : Place) (f : SymId) (xs : List A) → step (Node-F.App p f xs) ≡ step (Node-F.App nowhere f xs)) where
  abbrev SameBare : Node → Type 0
  SameBare t = fold-Node A step (bare t) ≡ fold-Node A step t

  args_bare : (xs : List (With SameBare)) → map (fold-Node A step) (map bare (map (tree_of SameBare) xs)) ≡ map (fold-Node A step) (map (tree_of SameBare) xs)
  args_bare [] = refl
  args_bare (x ∷ xs) = let e = x.1 in let h = args_bare xs in cc

  node_bare : (y : Node-F (With SameBare)) → SameBare (roll-Node (map-Node (With SameBare) Node (tree_of SameBare) y))
  unfolding roll-Node roll
  node_bare (Node-F.Var p v) =
      ap (fold-Node A step) (fold-roll-Node Node bare_step (Node-F.Var p v)) ∙ (fold-roll-Node A step (Node-F.Var nowhere v) ∙ (sym (var p v) ∙ sym (fold-roll-Node A step (Node-F.Var p v))))
  node_bare (Node-F.App p f args) =
      let xs = map (tree_of SameBare) args in
      ap (fold-Node A step) (fold-roll-Node Node bare_step (Node-F.App p f xs)) ∙ (fold-roll-Node A step (Node-F.App nowhere f (map bare xs)) ∙ (ap (λ (z : List A). step (Node-F.App nowhere f z)) (args_bare args) ∙ (sym (app p f (map (fold-Node A step) xs)) ∙ sym (fold-roll-Node A step (Node-F.App p f xs)))))

  -- a fold that doesn't look at places gives the same for the tree without them
  pub fold-bare : (t : Node) → fold-Node A step (bare t) ≡ fold-Node A step t
  fold-bare = by_terms SameBare node_bare
