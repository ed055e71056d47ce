-- Whether what comes of a term fits: the sums and depths of a node, of all terms, and of one more.
use Rattle.std.proofs.Common.{◌≡◌, ℕ, ◌+◌, ◌-◌, ◌≤◌, ◌<◌, max, sum, List, [], ◌∷◌, ◌++◌, map, length, take, get_or, refl, sym, ◌∙◌, ap, subst, arith, Option, None, Some}
use Rattle.std.specs.Option.{unwrap_or}
use Rattle.std.specs.Prelude.{drop}
use Rattle.std.proofs.lemmas.List.{map-append, take_more}
use Rattle.syn_term.specs.declared.sorts.SymId.{SymId}
use Rattle.syn_term.specs.declared.sorts.Var.{Var}
use Rattle.syn_term.specs.declared.term.Place.{Place}
use Rattle.syn_term.specs.declared.term.Node.TheVariants as node
use Rattle.syn_term.specs.declared.term.Node.TheViews as view
use Rattle.syn_term.specs.Terms.{TermTree, bare, depth_of, depth_step, greatest, nodes, nowhere, variable_tree}
use Rattle.syn_term.proofs.Trees.{depth_of-App, fold-Var, fold-bare, greatest-append}
use Rattle.syn_form.specs.Substitutions.{Substitution, image, substituted}
use Rattle.syn_unify.specs.Bindings.{bound_to}
use Rattle.syn_unify.specs.inner.Changes.{under}
use Rattle.syn_unify.specs.inner.Rooms.{HasRoom}
use Rattle.syn_unify.proofs.Changed.{map_around, sum_append, sum_around, sum_cons}
use Rattle.syn_unify.proofs.Lookups.{image_is}
use Rattle.syn_unify.proofs.Sizes.{nodes_at_symbol, nodes_bare, nodes_variable}
use Rattle.syn_unify.proofs.Under.{map_twice, substituted_under, under_symbol, under_variable}

pub depth_bare : (t : TermTree) → depth_of (bare t) ≡ depth_of t
depth_bare = fold-bare depth_step (λ p v. refl) (λ p f xs. refl)

depth_variable : (p : Place) (v : Var) → depth_of (node.Var p v) ≡ 1
depth_variable p v = fold-Var depth_step p v

-- a room for one number of nodes and one depth is a room for equal ones
pub room_along : (size height n m d e : ℕ) (o : Option ℕ) → n ≡ m → d ≡ e → HasRoom size height m e o → HasRoom size height n d o
room_along size height n m d e o is_n is_d h = subst (λ (z : ℕ). HasRoom size height z d o) (sym is_n) (subst (λ (z : ℕ). HasRoom size height m z o) (sym is_d) h)

-- the tree as the definitions give it
pub whole_nodes : (σ : Substitution) (t : TermTree) → nodes (substituted σ t) ≡ nodes (under (image σ) t)
whole_nodes σ t = sym (nodes_bare (substituted σ t)) ∙ ap nodes (substituted_under σ t)

pub whole_depth : (σ : Substitution) (t : TermTree) → depth_of (substituted σ t) ≡ depth_of (under (image σ) t)
whole_depth σ t = sym (depth_bare (substituted σ t)) ∙ ap depth_of (substituted_under σ t)

module _ (σ : Substitution) where
  -- a bound variable
  pub room_at_image : (size height : ℕ) (t u : TermTree) (p : Place) (v : Var) (o : Option ℕ) → t ≡ node.Var p v → bound_to σ v ≡ Some u → HasRoom size height (nodes u) (depth_of u) o → HasRoom size height (nodes (under (image σ) t)) (depth_of (under (image σ) t)) o
  room_at_image size height t u p v o is e h =
      let k : image σ v ≡ u = image_is σ v ∙ ap (λ (z : Option TermTree). unwrap_or z (variable_tree v)) e in
      let m : under (image σ) t ≡ bare u = ap (under (image σ)) is ∙ (under_variable (image σ) p v ∙ ap bare k) in
      room_along size height (nodes (under (image σ) t)) (nodes u) (depth_of (under (image σ) t)) (depth_of u) o (ap nodes m ∙ nodes_bare u) (ap depth_of m ∙ depth_bare u) h

  -- another one
  pub room_at_leaf : (size height : ℕ) (t : TermTree) (p : Place) (v : Var) (o : Option ℕ) → t ≡ node.Var p v → bound_to σ v ≡ None → HasRoom size height 1 1 o → HasRoom size height (nodes (under (image σ) t)) (depth_of (under (image σ) t)) o
  room_at_leaf size height t p v o is e h =
      let k : image σ v ≡ variable_tree v = image_is σ v ∙ ap (λ (z : Option TermTree). unwrap_or z (variable_tree v)) e in
      let m : under (image σ) t ≡ bare (variable_tree v) = ap (under (image σ)) is ∙ (under_variable (image σ) p v ∙ ap bare k) in
      room_along size height (nodes (under (image σ) t)) 1 (depth_of (under (image σ) t)) 1 o (ap nodes m ∙ (nodes_bare (variable_tree v) ∙ nodes_variable nowhere v)) (ap depth_of m ∙ (depth_bare (variable_tree v) ∙ depth_variable nowhere v)) h

  -- a symbol
  pub room_at_symbol : (size height : ℕ) (t : TermTree) (p : Place) (f : SymId) (args xs : List TermTree) (o : Option ℕ) → t ≡ view.App p f args → xs ≡ args → HasRoom size height (1 + sum (map nodes (map (under (image σ)) xs))) (1 + greatest (map depth_of (map (under (image σ)) xs))) o → HasRoom size height (nodes (under (image σ) t)) (depth_of (under (image σ) t)) o
  room_at_symbol size height t p f args xs o is same h =
      let n : nodes (under (image σ) t) ≡ 1 + sum (map nodes (map (under (image σ)) xs)) = ap (λ (z : TermTree). nodes (under (image σ) z)) is ∙ (nodes_at_symbol (image σ) p f args ∙ ap (λ (zs : List TermTree). 1 + sum (map nodes (map (under (image σ)) zs))) (sym same)) in
      let d : depth_of (under (image σ) t) ≡ 1 + greatest (map depth_of (map (under (image σ)) xs)) = ap (λ (z : TermTree). depth_of (under (image σ) z)) is ∙ (ap depth_of (under_symbol (image σ) p f args) ∙ (depth_of-App nowhere f (map (under (image σ)) args) ∙ ap (λ (zs : List TermTree). 1 + greatest (map depth_of (map (under (image σ)) zs))) (sym same))) in
      room_along size height (nodes (under (image σ) t)) (1 + sum (map nodes (map (under (image σ)) xs))) (depth_of (under (image σ) t)) (1 + greatest (map depth_of (map (under (image σ)) xs))) o n d h

-- a level less, and a node less
pub room_below : (size height n d : ℕ) (o : Option ℕ) → 1 ≤ size → 1 ≤ height → HasRoom (size - 1) (height - 1) n d o → HasRoom size height (1 + n) (1 + d) o
room_below size height n d None a b h = λ k. h (omega (arith, k.0), omega (arith, k.1))
room_below size height n d (Some left) a b h = (omega (arith, h.0), omega (arith, h.1))

module _ {X : Type 0} (n d : X → ℕ) (ts : List X) (i : ℕ) (e x : X) (within : i < length ts) (is : x ≡ get_or ts i e) (size height left : ℕ) where
  depth_around : greatest (map d ts) ≡ max (max (greatest (map d (take i ts))) (d x)) (greatest (map d (drop (i + 1) ts)))
  depth_around =
      let a = ap greatest (map_around ts i e x within is d) in
      let b = greatest-append (map d (take i ts) ++ d x ∷ []) (map d (drop (i + 1) ts)) in
      let c = greatest-append (map d (take i ts)) (d x ∷ []) in omega arith

  -- no room for one of them
  pub no_room : sum (map n (take i ts)) + left ≡ size → (¬ ((n x ≤ left) × (d x ≤ height))) → (sum (map n ts) ≤ size) × (greatest (map d ts) ≤ height) → ⊥
  no_room have h k =
      let a = sum_around ts i e x within is n in
      let b = depth_around in
      let s : n x ≤ left = omega (arith, k.0) in
      let t : d x ≤ height = omega (arith, k.1) in h (s, t)

-- what comes of several trees by a change: terms by `nodes` and `depth_of`, or formulas by theirs
module _ {X : Type 0} (g : X → X) (n d : X → ℕ) (ts : List X) (i : ℕ) (e x : X) (within : i < length ts) (is : x ≡ get_or ts i e) (size height left : ℕ) where
  abbrev come : List X → List X
  come = map g

  more : come (take (i + 1) ts) ≡ come (take i ts) ++ g x ∷ []
  more = ap come (take_more ts i e within ∙ ap (λ (z : X). take i ts ++ z ∷ []) (sym is)) ∙ map-append g (take i ts) (x ∷ [])

  sum_of_more : sum (map n (come (take (i + 1) ts))) ≡ sum (map n (come (take i ts))) + n (g x)
  sum_of_more =
      let a = ap (λ (zs : List X). sum (map n zs)) more in
      let b = sum_append n (come (take i ts)) (g x ∷ []) in
      let c = sum_cons n (g x) [] in omega arith

  greatest_of_more : greatest (map d (come (take (i + 1) ts))) ≡ max (greatest (map d (come (take i ts)))) (d (g x))
  greatest_of_more =
      let a : greatest (map d (come (take (i + 1) ts))) ≡ greatest (map d (come (take i ts)) ++ d (g x) ∷ []) = ap greatest (ap (map d) more ∙ map-append d (come (take i ts)) (g x ∷ [])) in
      let b = greatest-append (map d (come (take i ts))) (d (g x) ∷ []) in omega arith

  -- one term more fits
  pub room_more : (rest : ℕ) (o : Option ℕ) → o ≡ Some rest → sum (map n (come (take i ts))) + left ≡ size → greatest (map d (come (take i ts))) ≤ height → HasRoom left height (n (g x)) (d (g x)) o → (sum (map n (come (take (i + 1) ts))) + rest ≡ size) × (greatest (map d (come (take (i + 1) ts))) ≤ height)
  room_more rest o has have deep h =
      let k : (n (g x) + rest ≡ left) × (d (g x) ≤ height) = subst (λ (z : Option ℕ). HasRoom left height (n (g x)) (d (g x)) z) has h in
      let a = sum_of_more in
      let b = greatest_of_more in (omega (arith, k.0), omega (arith, k.1))

  -- one that doesn't
  pub room_none : (o : Option ℕ) → o ≡ None → sum (map n (come (take i ts))) + left ≡ size → HasRoom left height (n (g x)) (d (g x)) o → (sum (map n (come ts)) ≤ size) × (greatest (map d (come ts)) ≤ height) → ⊥
  room_none o has have h k =
      let none : ¬ ((n (g x) ≤ left) × (d (g x) ≤ height)) = subst (λ (z : Option ℕ). HasRoom left height (n (g x)) (d (g x)) z) has h in
      let a : map n (come ts) ≡ map (λ z. n (g z)) ts = map_twice n g ts in
      let b : map d (come ts) ≡ map (λ z. d (g z)) ts = map_twice d g ts in
      let c : map n (come (take i ts)) ≡ map (λ z. n (g z)) (take i ts) = map_twice n g (take i ts) in
      no_room (λ z. n (g z)) (λ z. d (g z)) ts i e x within is size height left
      (sym (ap (λ (zs : List ℕ). sum zs + left) c) ∙ have) none (subst (λ (zs : List ℕ). sum zs ≤ size) a k.0, subst (λ (zs : List ℕ). greatest zs ≤ height) b k.1)
