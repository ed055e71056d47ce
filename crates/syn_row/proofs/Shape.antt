-- Changes of terms that keep each symbol and make each variable a variable: what they keep, and the calls in a term changed.
use Rattle.std.proofs.Common.{◌≡◌, ℕ, ◌+◌, Bool, true, false, cond, nat_eq, List, [], ◌∷◌, ◌++◌, All, map, sum, get_or, refl, sym, ◌∙◌, ap, rules}
use Rattle.std.specs.List.{flat_map}
use Rattle.std.proofs.lemmas.List.{map-append}
use Rattle.std.proofs.lemmas.List.Elements.{All-head, All-tail}
use Rattle.syn_term.specs.declared.sorts.SymId.{SymId}
use Rattle.syn_term.specs.declared.sorts.Var.{Var}
use Rattle.syn_term.specs.declared.term.Place.{Place}
use Rattle.syn_term.specs.declared.term.Node.{Node, out-Node, fold-Node}
use Rattle.syn_term.specs.declared.term.Node.TheOpen.{Node-F}
use Rattle.syn_term.specs.declared.term.Node.TheVariants as node
use Rattle.syn_term.specs.declared.term.Node.TheViews as view
use Rattle.syn_term.specs.declared.term.Node.TheViews.{the_lemmas}
use Rattle.syn_term.specs.Terms.{TermTree, application, args_of, bare, bare_step, depth_of, depth_step, greatest, nodes, nodes_step, nowhere, variable_tree}
use Rattle.syn_term.proofs.Trees.{fold-App, fold-Var}
use Rattle.syn_form.specs.Inputs.{on_terms}
use Rattle.syn_form.specs.Substitutions.{Substitution, image, substituted, substituted_form}
use Rattle.syn_form.specs.Trees.{FormTree, all_of, bare_form, form_terms}
use Rattle.syn_form.proofs.Lists.{none_in_nil}
use Rattle.syn_form.proofs.PutInputs.{on_terms-terms}
use Rattle.syn_form.proofs.TermNodes.{by_term_cases}
use Rattle.syn_row.specs.Guards.{WithCalls, calls_in, calls_in_form, calls_step}
use Rattle.syn_row.proofs.Changes.{Changes, changes_after, changes_alike, changes_bare, changes_on, changes_substituted, map_after, map_same}
use Rattle.syn_row.proofs.Numbers.{bare-variable}
use Rattle.syn_row.proofs.Renaming.{Within, substituted-App, substituted-Var}
use Rattle.syn_row.proofs.Agreeing.{within_args, within_var}

pub record KeepsShape (g : TermTree → TermTree) : Type 0 where
  pub variable : Var → Var
  pub at_var : (p : Place) (v : Var) → g (node.Var p v) ≡ variable_tree (variable v)
  pub at_app : (p : Place) (f : SymId) (args : List TermTree) → g (view.App p f args) ≡ application f (map g args)

-- leaving out places is one, and so is a renaming without places
pub shape_bare : KeepsShape bare
shape_bare = record { variable = λ v. v; at_var = λ p v. fold-Var bare_step p v; at_app = λ p f args. fold-App bare_step p f args }

pub shape_renamed : (ρ : Substitution) (to : Var → Var) → ((v : Var) → image ρ v ≡ variable_tree (to v)) → KeepsShape (λ t. bare (substituted ρ t))
shape_renamed ρ to is = record {
  variable = to;
  at_var = λ p v. ap bare (substituted-Var ρ p v ∙ is v) ∙ bare-variable (to v);
  at_app = λ p f args. ap bare (substituted-App ρ p f args) ∙ (fold-App bare_step nowhere f (map (substituted ρ) args) ∙ ap (application f) (map_after (substituted ρ) bare args));
}

-- formulas whose terms are renamed and without places
pub changes_renamed : (ρ : Substitution) → Changes (λ f. bare_form (substituted_form ρ f)) (λ t. bare (substituted ρ t))
changes_renamed ρ = changes_after (substituted_form ρ) bare_form (substituted ρ) bare (changes_substituted ρ) changes_bare

pub out-Var : (p : Place) (v : Var) → out-Node (node.Var p v) ≡ Node-F.Var p v
out-Var p v = search (rules, the_lemmas)

pub out-App : (p : Place) (f : SymId) (args : List TermTree) → out-Node (view.App p f args) ≡ Node-F.App p f args
out-App p f args = search (rules, the_lemmas)

abbrev layer_args : Node-F Node → List Node
layer_args (Node-F.Var place v) = []
layer_args (Node-F.App place f args) = args

args_layered : (t : TermTree) → args_of t ≡ layer_args (out-Node t)
args_layered t = go (out-Node t) refl
  where
    go : (x : Node-F Node) → out-Node t ≡ x → args_of t ≡ layer_args (out-Node t)
    go (Node-F.Var p v) e = rw e refl
    go (Node-F.App p f args) e = rw e refl

pub args-Var : (p : Place) (v : Var) → args_of (node.Var p v) ≡ []
args-Var p v = args_layered (node.Var p v) ∙ ap layer_args (out-Var p v)

pub args-App : (p : Place) (f : SymId) (args : List TermTree) → args_of (view.App p f args) ≡ args
args-App p f args = args_layered (view.App p f args) ∙ ap layer_args (out-App p f args)

-- the calls of one symbol at the top
abbrev own_calls : SymId → SymId → List TermTree → List TermTree
own_calls f h args = cond (nat_eq f.0 h.0) (application h (map bare args) ∷ []) []

module _ (f : SymId) where
  abbrev whole : TermTree → WithCalls
  whole = fold-Node WithCalls (calls_step f)

  trees_are : (args : List TermTree) → All (λ t. (whole t).tree ≡ bare t) args → map (λ a. a.tree) (map whole args) ≡ map bare args
  trees_are [] h = refl
  trees_are (t ∷ ts) h = ap (λ (z : TermTree). z ∷ map (λ a. a.tree) (map whole ts)) (All-head (λ u. (whole u).tree ≡ bare u) t ts h) ∙ ap (λ (z : List TermTree). bare t ∷ z) (trees_are ts (All-tail (λ u. (whole u).tree ≡ bare u) t ts h))

  tree_is : (t : TermTree) → (whole t).tree ≡ bare t
  tree_is = by_term_cases (λ t. (whole t).tree ≡ bare t)
      (λ p v. ap (λ (z : WithCalls). z.tree) (fold-Var (calls_step f) p v) ∙ sym (fold-Var bare_step p v))
      (λ p h args held. ap (λ (z : WithCalls). z.tree) (fold-App (calls_step f) p h args) ∙ (ap (application h) (trees_are args held) ∙ sym (fold-App bare_step p h args)))

  calls_each : (args : List TermTree) → all_of (map (λ a. a.calls) (map whole args)) ≡ flat_map (calls_in f) args
  calls_each [] = refl
  calls_each (t ∷ ts) = ap (λ (z : List TermTree). calls_in f t ++ z) (calls_each ts)

  pub calls-Var : (p : Place) (v : Var) → calls_in f (node.Var p v) ≡ []
  calls-Var p v = ap (λ (z : WithCalls). z.calls) (fold-Var (calls_step f) p v)

  pub calls-App : (p : Place) (h : SymId) (args : List TermTree) → calls_in f (view.App p h args) ≡ own_calls f h args ++ flat_map (calls_in f) args
  calls-App p h args =
      ap (λ (z : WithCalls). z.calls) (fold-App (calls_step f) p h args)
      ∙ (ap (λ (z : List TermTree). cond (nat_eq f.0 h.0) (application h z ∷ []) [] ++ all_of (map (λ a. a.calls) (map whole args))) (trees_are args (λ k d lt. tree_is (get_or args k d)))
      ∙ ap (λ (z : List TermTree). own_calls f h args ++ z) (calls_each args))

pub flat_map_changed : {X : Type 0} (F : X → X) (p : X → List X) (xs : List X) → All (λ x. p (F x) ≡ map F (p x)) xs → flat_map p (map F xs) ≡ map F (flat_map p xs)
flat_map_changed F p [] h = refl
flat_map_changed {X} F p (x ∷ xs) h =
    ap (λ (z : List X). z ++ flat_map p (map F xs)) (All-head (λ (y : X). p (F y) ≡ map F (p y)) x xs h)
    ∙ (ap (λ (z : List X). map F (p x) ++ z) (flat_map_changed F p xs (All-tail (λ (y : X). p (F y) ≡ map F (p y)) x xs h)) ∙ sym (map-append F (p x) (flat_map p xs)))

-- the terms of a formula whose terms are changed
pub form_terms-changed : (F : FormTree → FormTree) (g : TermTree → TermTree) → Changes F g → (h : FormTree) → form_terms (F h) ≡ map g (form_terms h)
form_terms-changed F g c h = ap form_terms (changes_alike F (on_terms g) g g c (changes_on g) (λ t. refl) h) ∙ on_terms-terms g h

module _ (g : TermTree → TermTree) (s : KeepsShape g) where
  -- places make no difference, and what comes of it has none
  pub shape-blind : (t : TermTree) → g (bare t) ≡ g t
  shape-blind = by_term_cases (λ t. g (bare t) ≡ g t)
      (λ p v. ap g (fold-Var bare_step p v) ∙ (s.at_var nowhere v ∙ sym (s.at_var p v)))
      (λ p f args held. ap g (fold-App bare_step p f args) ∙ (s.at_app nowhere f (map bare args) ∙ (ap (application f) (map_after bare g args ∙ map_same (λ t. g (bare t)) g args held) ∙ sym (s.at_app p f args))))

  pub shape-bare : (t : TermTree) → bare (g t) ≡ g t
  shape-bare = by_term_cases (λ t. bare (g t) ≡ g t)
      (λ p v. ap bare (s.at_var p v) ∙ (bare-variable (s.variable v) ∙ sym (s.at_var p v)))
      (λ p f args held. ap bare (s.at_app p f args) ∙ (fold-App bare_step nowhere f (map g args) ∙ (ap (application f) (map_after g bare args ∙ map_same (λ t. bare (g t)) g args held) ∙ sym (s.at_app p f args))))

  -- a term without variables stays
  pub shape-closed : (t : TermTree) → Within [] t → g t ≡ bare t
  shape-closed = by_term_cases (λ t. Within [] t → g t ≡ bare t)
      (λ p v h. absurd (none_in_nil v (within_var [] p v h)))
      (λ p f args held h. let parts = within_args [] p f args h in s.at_app p f args ∙ (ap (application f) (map_same g bare args (λ k d lt. held k d lt (parts k d lt))) ∙ sym (fold-App bare_step p f args)))

  pub shape-args : (t : TermTree) → args_of (g t) ≡ map g (args_of t)
  shape-args = by_term_cases (λ t. args_of (g t) ≡ map g (args_of t))
      (λ p v. ap args_of (s.at_var p v) ∙ (args-Var nowhere (s.variable v) ∙ ap (map g) (sym (args-Var p v))))
      (λ p f args held. ap args_of (s.at_app p f args) ∙ (args-App nowhere f (map g args) ∙ ap (map g) (sym (args-App p f args))))

  nodes_each : (args : List TermTree) → All (λ t. nodes (g t) ≡ nodes t) args → map nodes (map g args) ≡ map nodes args
  nodes_each [] h = refl
  nodes_each (t ∷ ts) h = ap (λ (m : ℕ). m ∷ map nodes (map g ts)) (All-head (λ u. nodes (g u) ≡ nodes u) t ts h) ∙ ap (λ (z : List ℕ). nodes t ∷ z) (nodes_each ts (All-tail (λ u. nodes (g u) ≡ nodes u) t ts h))

  pub shape-nodes : (t : TermTree) → nodes (g t) ≡ nodes t
  shape-nodes = by_term_cases (λ t. nodes (g t) ≡ nodes t)
      (λ p v. ap nodes (s.at_var p v) ∙ (fold-Var nodes_step nowhere (s.variable v) ∙ sym (fold-Var nodes_step p v)))
      (λ p f args held. ap nodes (s.at_app p f args) ∙ (fold-App nodes_step nowhere f (map g args) ∙ (ap (λ (z : List ℕ). 1 + sum z) (nodes_each args held) ∙ sym (fold-App nodes_step p f args))))

  depth_each : (args : List TermTree) → All (λ t. depth_of (g t) ≡ depth_of t) args → map depth_of (map g args) ≡ map depth_of args
  depth_each [] h = refl
  depth_each (t ∷ ts) h = ap (λ (m : ℕ). m ∷ map depth_of (map g ts)) (All-head (λ u. depth_of (g u) ≡ depth_of u) t ts h) ∙ ap (λ (z : List ℕ). depth_of t ∷ z) (depth_each ts (All-tail (λ u. depth_of (g u) ≡ depth_of u) t ts h))

  pub shape-depth : (t : TermTree) → depth_of (g t) ≡ depth_of t
  shape-depth = by_term_cases (λ t. depth_of (g t) ≡ depth_of t)
      (λ p v. ap depth_of (s.at_var p v) ∙ (fold-Var depth_step nowhere (s.variable v) ∙ sym (fold-Var depth_step p v)))
      (λ p f args held. ap depth_of (s.at_app p f args) ∙ (fold-App depth_step nowhere f (map g args) ∙ (ap (λ (z : List ℕ). 1 + greatest z) (depth_each args held) ∙ sym (fold-App depth_step p f args))))

  own_changed : (f h : SymId) (args : List TermTree) → own_calls f h (map g args) ≡ map g (own_calls f h args)
  own_changed f h args = go (nat_eq f.0 h.0)
    where
      trees : map bare (map g args) ≡ map g (map bare args)
      trees = map_after g bare args ∙ (map_same (λ t. bare (g t)) (λ t. g (bare t)) args (λ k d lt. shape-bare (get_or args k d) ∙ sym (shape-blind (get_or args k d))) ∙ sym (map_after bare g args))

      go : (b : Bool) → cond b (application h (map bare (map g args)) ∷ []) [] ≡ map g (cond b (application h (map bare args) ∷ []) [])
      go true = ap (λ (z : TermTree). z ∷ []) (ap (application h) trees ∙ sym (s.at_app nowhere h (map bare args)))
      go false = refl

  -- the calls in a term changed are those in the term, each changed
  pub calls_changed : (f : SymId) (t : TermTree) → calls_in f (g t) ≡ map g (calls_in f t)
  calls_changed f = by_term_cases (λ t. calls_in f (g t) ≡ map g (calls_in f t))
      (λ p v. ap (calls_in f) (s.at_var p v) ∙ (calls-Var f nowhere (s.variable v) ∙ ap (map g) (sym (calls-Var f p v))))
      (λ p h args held.
      ap (calls_in f) (s.at_app p h args)
      ∙ (calls-App f nowhere h (map g args)
      ∙ (ap (λ (z : List TermTree). z ++ flat_map (calls_in f) (map g args)) (own_changed f h args)
      ∙ (ap (λ (z : List TermTree). map g (own_calls f h args) ++ z) (flat_map_changed g (calls_in f) args held)
      ∙ (sym (map-append g (own_calls f h args) (flat_map (calls_in f) args)) ∙ ap (map g) (sym (calls-App f p h args)))))))

  module _ (F : FormTree → FormTree) (c : Changes F g) where
    -- and those in a formula
    pub form_calls_changed : (f : SymId) (h : FormTree) → calls_in_form f (F h) ≡ map g (calls_in_form f h)
    form_calls_changed f h = ap (flat_map (calls_in f)) (form_terms-changed F g c h) ∙ flat_map_changed g (calls_in f) (form_terms h) (λ k d lt. calls_changed f (get_or (form_terms h) k d))
