-- The number of nodes of what comes of a term, and the measure of the loop.
use Rattle.std.proofs.Common.{◌≡◌, ◌⊎◌, ℕ, zero, suc, ◌+◌, ◌-◌, ◌*◌, ◌≤◌, ◌<◌, sum, List, [], ◌∷◌, map, refl, sym, ◌∙◌, ap, arith, All, Contains}
use Rattle.std.specs.List.{flat_map}
use Rattle.std.proofs.lemmas.List.Elements.{All-head, All-tail, Contains-append_cases}
use Rattle.std.proofs.lemmas.Nat.{mul-le}
use Rattle.std.proofs.lemmas.List.Sums.{sum_by-cons, sum-map}
use mathlib.Core.Logic.{inl, inr}
use Rattle.syn_term.specs.declared.sorts.SymId.{SymId}
use Rattle.syn_term.specs.declared.sorts.Var.{Var}
use Rattle.syn_term.specs.declared.term.Place.{Place}
use Rattle.syn_term.specs.declared.term.Node.{Node}
use Rattle.syn_term.specs.declared.term.Node.TheVariants as node
use Rattle.syn_term.specs.declared.term.Node.TheViews as view
use Rattle.syn_term.specs.Terms.{TermTree, bare, nodes, nodes_step, nowhere, variable_tree}
use Rattle.syn_term.proofs.Trees.{fold-Var, fold-bare, nodes-App}
use Rattle.syn_form.specs.Trees.{term_vars}
use Rattle.syn_form.proofs.Lists.{none_in_nil, Contains-along, Contains-cons_cases}
use Rattle.syn_form.proofs.TermNodes.{by_term_cases}
use Rattle.syn_unify.specs.inner.Changes.{under}
use Rattle.syn_unify.specs.inner.Solutions.{rank}
use Rattle.syn_unify.proofs.Under.{bare_variable, under_variable, under_symbol, vars_variable, vars_symbol}

pub nodes_more : (t : TermTree) (ts : List TermTree) → sum (map nodes (t ∷ ts)) ≡ nodes t + sum (map nodes ts)
nodes_more t ts = sum-map nodes (t ∷ ts) ∙ (sum_by-cons nodes t ts ∙ ap (λ (n : ℕ). nodes t + n) (sym (sum-map nodes ts)))

pub nodes_bare : (t : TermTree) → nodes (bare t) ≡ nodes t
nodes_bare = fold-bare nodes_step (λ p v. refl) (λ p f xs. refl)

pub nodes_variable : (p : Place) (v : Var) → nodes (node.Var p v) ≡ 1
nodes_variable p v = fold-Var nodes_step p v

pub nodes_some : (t : TermTree) → 1 ≤ nodes t
nodes_some = by_term_cases (λ t. 1 ≤ nodes t) (λ p v. let e = nodes_variable p v in omega arith) (λ p f args h. let e = nodes-App p f args in omega arith)

module _ (θ : Var → TermTree) where
  pub nodes_at_variable : (p : Place) (v : Var) → nodes (under θ (node.Var p v)) ≡ nodes (θ v)
  nodes_at_variable p v = ap nodes (under_variable θ p v) ∙ nodes_bare (θ v)

  pub nodes_at_symbol : (p : Place) (f : SymId) (args : List Node) → nodes (under θ (view.App p f args)) ≡ 1 + sum (map nodes (map (under θ) args))
  nodes_at_symbol p f args = ap nodes (under_symbol θ p f args) ∙ nodes-App nowhere f (map (under θ) args)

  module _ (x : Var) where
    abbrev AtLeast : TermTree → Type 0
    AtLeast t = Contains (term_vars t) x → nodes (θ x) ≤ nodes (under θ t)

    args_at_least : (args : List Node) → All AtLeast args → Contains (flat_map term_vars args) x → nodes (θ x) ≤ sum (map nodes (map (under θ) args))
    args_at_least [] h c = absurd (none_in_nil x c)
    args_at_least (a ∷ others) h c = go (Contains-append_cases (term_vars a) (flat_map term_vars others) x c) (args_at_least others (All-tail AtLeast a others h))
      where
        go : Contains (term_vars a) x ⊎ Contains (flat_map term_vars others) x → (Contains (flat_map term_vars others) x → nodes (θ x) ≤ sum (map nodes (map (under θ) others))) → nodes (θ x) ≤ sum (map nodes (map (under θ) (a ∷ others)))
        go (inl k) later = let e : nodes (θ x) ≤ nodes (under θ a) = All-head AtLeast a others h k in let s = nodes_more (under θ a) (map (under θ) others) in omega arith
        go (inr k) later = let e = later k in let s = nodes_more (under θ a) (map (under θ) others) in omega arith

    -- a term with the variable has no fewer nodes than what the variable becomes
    pub at_least : (t : TermTree) → AtLeast t
    at_least = by_term_cases AtLeast
        (λ p v c. go p v (Contains-cons_cases v [] x (Contains-along (term_vars (node.Var p v)) (v ∷ []) x (vars_variable p v) c)))
        (λ p f args h c. let e = nodes_at_symbol p f args in let k = args_at_least args h (Contains-along (term_vars (view.App p f args)) (flat_map term_vars args) x (vars_symbol p f args) c) in omega arith)
      where
        go : (p : Place) (v : Var) → (v ≡ x) ⊎ Contains [] x → nodes (θ x) ≤ nodes (under θ (node.Var p v))
        go p v (inl e) = let k = nodes_at_variable p v in let m : nodes (θ v) ≡ nodes (θ x) = ap (λ (w : Var). nodes (θ w)) e in omega arith
        go p v (inr c) = absurd (none_in_nil x c)

    abbrev NeverOne : TermTree → Type 0
    NeverOne t = (bare t ≡ variable_tree x → ⊥) → Contains (term_vars t) x → bare (θ x) ≡ under θ t → ⊥

    -- a variable and another term that has it never become one
    pub occurs : (t : TermTree) → NeverOne t
    occurs = by_term_cases NeverOne
        (λ p v ne c e. at_variable p v (Contains-cons_cases v [] x (Contains-along (term_vars (node.Var p v)) (v ∷ []) x (vars_variable p v) c)) ne)
        (λ p f args h ne c e. at_symbol p f args c e)
      where
        at_variable : (p : Place) (v : Var) → (v ≡ x) ⊎ Contains [] x → (bare (node.Var p v) ≡ variable_tree x → ⊥) → ⊥
        at_variable p v (inl e) ne = ne (bare_variable p v ∙ ap variable_tree e)
        at_variable p v (inr c) ne = absurd (none_in_nil x c)

        at_symbol : (p : Place) (f : SymId) (args : List Node) → Contains (term_vars (view.App p f args)) x → bare (θ x) ≡ under θ (view.App p f args) → ⊥
        at_symbol p f args c e =
            let a = nodes_at_symbol p f args in
            let k = args_at_least args (λ i d lt. at_least _) (Contains-along (term_vars (view.App p f args)) (flat_map term_vars args) x (vars_symbol p f args) c) in
            let b : nodes (θ x) ≡ nodes (under θ (view.App p f args)) = sym (nodes_bare (θ x)) ∙ ap nodes e in absurd (omega arith)

  module _ (k : ℕ) (some : 1 ≤ k) (most : (v : Var) → nodes (θ v) ≤ k) where
    abbrev AtMost : TermTree → Type 0
    AtMost t = nodes (under θ t) ≤ nodes t * k

    args_at_most : (args : List Node) → All AtMost args → sum (map nodes (map (under θ) args)) ≤ sum (map nodes args) * k
    args_at_most [] h = omega arith
    args_at_most (a ∷ others) h =
        let e : nodes (under θ a) ≤ nodes a * k = All-head AtMost a others h in
        let m = args_at_most others (All-tail AtMost a others h) in
        let s = nodes_more (under θ a) (map (under θ) others) in
        let n : sum (map nodes (a ∷ others)) * k ≡ (nodes a + sum (map nodes others)) * k = ap (λ (i : ℕ). i * k) (nodes_more a others) in omega arith

    -- each node grows to so many at most
    pub at_most : (t : TermTree) → AtMost t
    at_most = by_term_cases AtMost
        (λ p v. let e = nodes_at_variable p v in let m = most v in let n : nodes (node.Var p v) * k ≡ 1 * k = ap (λ (i : ℕ). i * k) (nodes_variable p v) in omega arith)
        (λ p f args h. let e = nodes_at_symbol p f args in let m = args_at_most args h in let n : nodes (view.App p f args) * k ≡ (1 + sum (map nodes args)) * k = ap (λ (i : ℕ). i * k) (nodes-App p f args) in omega arith)

self_square : (n : ℕ) → n ≤ n * n
self_square zero = omega arith
self_square (suc n) = let e = mul-le 1 (suc n) (suc n) (suc n) (omega arith) (omega arith) in omega arith

rank_up : (v m n : ℕ) → m ≤ n → rank v m ≤ rank v n
rank_up zero m n h = h
rank_up (suc v) m n h = let e = rank_up v (m * m) (n * n) (mul-le m m n n h h) in omega arith

-- fewer nodes
pub rank_less : (v m n : ℕ) → m < n → rank v m < rank v n
rank_less zero m n h = h
rank_less (suc v) m n h = let e = rank_up v (m * m) (n * n) (mul-le m m n n (omega arith) (omega arith)) in omega arith

rank_vars : (d v n : ℕ) → rank v n ≤ rank (v + d) n
rank_vars zero v n = let j : v + 0 ≡ v = omega arith in let s : rank (v + 0) n ≡ rank v n = ap (λ (i : ℕ). rank i n) j in omega arith
rank_vars (suc d) v n =
    let e = rank_vars d v n in
    let k = rank_up (v + d) n (n * n) (self_square n) in
    let j : v + suc d ≡ suc (v + d) = omega arith in
    let s : rank (v + suc d) n ≡ rank (suc (v + d)) n = ap (λ (i : ℕ). rank i n) j in omega arith

-- with a variable fewer, the terms may grow to the square
pub rank_falls : (v w m n : ℕ) → v < w → m ≤ n * n → rank v m < rank w n
rank_falls v zero m n lt h = absurd (omega arith)
rank_falls v (suc w) m n lt h =
    let a = rank_up v m (n * n) h in
    let b = rank_vars (w - v) v (n * n) in
    let j : v + (w - v) ≡ w = omega arith in
    let s : rank (v + (w - v)) (n * n) ≡ rank w (n * n) = ap (λ (i : ℕ). rank i (n * n)) j in omega arith
