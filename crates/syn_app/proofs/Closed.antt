-- Terms without variables: what leaves symbols as they are leaves these terms whole.
use Rattle.std.proofs.Common.{◌≡◌, ℕ, zero, suc, ◌+◌, Bool, false, List, [], ◌∷◌, refl, ◌∙◌, ap, arith}
use Rattle.syn_term.specs.declared.sorts.SymId.{SymId}
use Rattle.syn_term.specs.declared.term.Node.{Node, fold-Node}
use Rattle.syn_term.specs.declared.term.Node.TheOpen.{Node-F}
use Rattle.syn_term.specs.Terms.{TermTree, application, nowhere, bare, bare_step, nodes, nodes_step, depth_of, depth_step}
use Rattle.syn_term.proofs.Trees.{fold-App, fold-Var}
use Rattle.syn_app.specs.declared.flat.Base.{Base}
use Rattle.syn_app.specs.declared.flat.Base.TheVariants as base
use Rattle.syn_app.specs.declared.flat.FlatTerm.{FlatTerm}
use Rattle.syn_app.specs.Terms.{successors_of, base_tree, term_tree, base_size, term_size, IsClosed, zero_id, succ_id, input_id}
use Rattle.syn_app.specs.Rows.{Substitution, substituted, substituted_step, renamed, renamed_step, HasVariable, has_variable_step}
use Rattle.syn_app.specs.Replay.{closed_term, closed_step}

-- a fold that leaves each symbol with its arguments as it is
abbrev KeepsSymbols : (Node-F Node → Node) → Type 0
KeepsSymbols step = (f : SymId) (args : List Node) → step (Node-F.App nowhere f args) ≡ application f args

successors-kept : (step : Node-F Node → Node) → KeepsSymbols step → (n : ℕ) (t : TermTree) → fold-Node Node step (successors_of n t) ≡ successors_of n (fold-Node Node step t)
successors-kept step keeps zero t = refl
successors-kept step keeps (suc n) t =
    fold-App step nowhere succ_id (successors_of n t ∷ []) ∙ (keeps succ_id (fold-Node Node step (successors_of n t) ∷ []) ∙ ap (λ (z : TermTree). application succ_id (z ∷ [])) (successors-kept step keeps n t))

leaf-kept : (step : Node-F Node → Node) → KeepsSymbols step → (f : SymId) → fold-Node Node step (application f []) ≡ application f []
leaf-kept step keeps f = fold-App step nowhere f [] ∙ keeps f []

base-kept : (step : Node-F Node → Node) → KeepsSymbols step → (b : Base) → IsClosed b → fold-Node Node step (base_tree b) ≡ base_tree b
base-kept step keeps base.Input h = leaf-kept step keeps input_id
base-kept step keeps (base.Number n) h = successors-kept step keeps n (application zero_id []) ∙ ap (successors_of n) (leaf-kept step keeps zero_id)
base-kept step keeps (base.RowVariable n) h = absurd h

closed-kept : (step : Node-F Node → Node) → KeepsSymbols step → (r : FlatTerm) → IsClosed r.base → fold-Node Node step (term_tree r) ≡ term_tree r
closed-kept step keeps r h = successors-kept step keeps r.successors (base_tree r.base) ∙ ap (successors_of r.successors) (base-kept step keeps r.base h)

pub substituted-closed : (σ : Substitution) (r : FlatTerm) → IsClosed r.base → substituted σ (term_tree r) ≡ term_tree r
substituted-closed σ = closed-kept (substituted_step σ) (λ f args. refl)

pub renamed-closed : (to : ℕ → ℕ) (r : FlatTerm) → IsClosed r.base → renamed to (term_tree r) ≡ term_tree r
renamed-closed to = closed-kept (renamed_step to) (λ f args. refl)

pub closed_term-closed : (r : FlatTerm) → IsClosed r.base → closed_term (term_tree r) ≡ term_tree r
closed_term-closed = closed-kept closed_step (λ f args. refl)

bare-base : (b : Base) → bare (base_tree b) ≡ base_tree b
bare-base base.Input = leaf-kept bare_step (λ f args. refl) input_id
bare-base (base.Number n) = base-kept bare_step (λ f args. refl) (base.Number n) tt
bare-base (base.RowVariable n) = fold-Var bare_step nowhere _

-- the tree of a flat term has no places
pub bare-term_tree : (r : FlatTerm) → bare (term_tree r) ≡ term_tree r
bare-term_tree r = successors-kept bare_step (λ f args. refl) r.successors (base_tree r.base) ∙ ap (successors_of r.successors) (bare-base r.base)

-- no variable occurs
successors-has : (k n : ℕ) (t : TermTree) → fold-Node Bool (has_variable_step k) t ≡ false → fold-Node Bool (has_variable_step k) (successors_of n t) ≡ false
successors-has k zero t h = h
successors-has k (suc n) t h = fold-App (has_variable_step k) nowhere succ_id (successors_of n t ∷ []) ∙ ap (λ (b : Bool). has_variable_step k (Node-F.App nowhere succ_id (b ∷ []))) (successors-has k n t h)

base-has : (k : ℕ) (b : Base) → IsClosed b → fold-Node Bool (has_variable_step k) (base_tree b) ≡ false
base-has k base.Input h = fold-App (has_variable_step k) nowhere input_id []
base-has k (base.Number n) h = successors-has k n (application zero_id []) (fold-App (has_variable_step k) nowhere zero_id [])
base-has k (base.RowVariable n) h = absurd h

pub closed-has : (k : ℕ) (r : FlatTerm) → IsClosed r.base → HasVariable k (term_tree r) → ⊥
closed-has k r h e = let f = successors-has k r.successors (base_tree r.base) (base-has k r.base h) in absurd (cc)

-- as many nodes as it is deep
successors-nodes : (n : ℕ) (t : TermTree) → nodes (successors_of n t) ≡ n + nodes t
successors-nodes zero t = omega arith
successors-nodes (suc n) t = let e = fold-App nodes_step nowhere succ_id (successors_of n t ∷ []) in let h = successors-nodes n t in omega arith

successors-depth : (n : ℕ) (t : TermTree) → depth_of (successors_of n t) ≡ n + depth_of t
successors-depth zero t = omega arith
successors-depth (suc n) t = let e = fold-App depth_step nowhere succ_id (successors_of n t ∷ []) in let h = successors-depth n t in omega arith

base-nodes : (b : Base) → nodes (base_tree b) ≡ base_size b
base-nodes base.Input = fold-App nodes_step nowhere input_id []
base-nodes (base.Number n) = let e = fold-App nodes_step nowhere zero_id [] in successors-nodes n (application zero_id []) ∙ ap (λ k. n + k) e
base-nodes (base.RowVariable n) = fold-Var nodes_step nowhere _

base-depth : (b : Base) → depth_of (base_tree b) ≡ base_size b
base-depth base.Input = fold-App depth_step nowhere input_id []
base-depth (base.Number n) = let e = fold-App depth_step nowhere zero_id [] in successors-depth n (application zero_id []) ∙ ap (λ k. n + k) e
base-depth (base.RowVariable n) = fold-Var depth_step nowhere _

pub nodes-term_tree : (r : FlatTerm) → nodes (term_tree r) ≡ term_size r
nodes-term_tree r = successors-nodes r.successors (base_tree r.base) ∙ ap (λ k. r.successors + k) (base-nodes r.base)

pub depth_of-term_tree : (r : FlatTerm) → depth_of (term_tree r) ≡ term_size r
depth_of-term_tree r = successors-depth r.successors (base_tree r.base) ∙ ap (λ k. r.successors + k) (base-depth r.base)
