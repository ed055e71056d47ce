-- For public contracts: rows: substitutions and unifiers, variants, and simplification.
use Rattle.std.specs.Prelude.{◌≡◌, ℕ, Bool, true, List, [], ◌∷◌, if◌then◌else◌, nat_eq}
use Rattle.std.specs.List.{list_any, AllByRecursion}
use Rattle.syn_term.specs.declared.sorts.Var.{Var}
use Rattle.syn_term.specs.declared.term.Node.{Node, fold-Node}
use Rattle.syn_term.specs.declared.term.Node.TheOpen.{Node-F}
use Rattle.syn_term.specs.Terms.{TermTree, variable_tree, application, bare}
use Rattle.syn_term.specs.Same.{same_tree}
use Rattle.syn_app.specs.declared.trees.Form.TheVariants as form
use Rattle.syn_app.specs.declared.trees.Out.TheVariants as out
use Rattle.syn_app.specs.Trees.{FormTree, OutTree}
use Rattle.syn_app.specs.declared.flat.Row.{Row}

-- a substitution lists finitely many variables, by their numbers, each with its term
abbrev pub Substitution : Type 0
Substitution = List (ℕ × TermTree)

-- what a variable becomes: the first term that is listed for it, or itself
abbrev pub image : Substitution → Var → TermTree
image [] v = variable_tree v
image (e ∷ es) v = if nat_eq e.0 v.number then e.1 else image es v

abbrev pub substituted_step : Substitution → Node-F Node → Node
substituted_step σ (Node-F.Var place v) = image σ v
substituted_step σ (Node-F.App place f args) = application f args

-- the term with all its variables replaced at once
abbrev pub substituted : Substitution → TermTree → TermTree
substituted σ = fold-Node Node (substituted_step σ)

abbrev pub has_variable_step : ℕ → Node-F Bool → Bool
has_variable_step k (Node-F.Var place v) = nat_eq v.number k
has_variable_step k (Node-F.App place f args) = list_any (λ b. b) args

-- the variable with this number occurs in the term; in one of two terms
abbrev pub HasVariable : ℕ → TermTree → Type 0
HasVariable k t = fold-Node Bool (has_variable_step k) t ≡ true

abbrev pub OccursIn : ℕ → TermTree → TermTree → Type 0
OccursIn k s t = (HasVariable k s → ⊥) → (HasVariable k t → ⊥) → ⊥

-- a unifier makes the two terms one tree
abbrev pub IsUnifier : Substitution → TermTree → TermTree → Type 0
IsUnifier σ s t = bare (substituted σ s) ≡ bare (substituted σ t)

-- a unifier is most general where each unifier is, on the variables of the terms, this one and then a further
-- substitution, and where it binds only their variables, to terms over their variables
pub record IsMostGeneral (σ : Substitution) (s t : TermTree) : Type 0 where
  pub unifies : IsUnifier σ s t
  pub general : (τ : Substitution) → IsUnifier τ s t → (δ : Substitution) × ((v : Var) → OccursIn v.number s t → bare (image τ v) ≡ bare (substituted δ (image σ v)))
  pub own : AllByRecursion (λ e. OccursIn e.0 s t × ((k : ℕ) → HasVariable k e.1 → OccursIn k s t)) σ

-- the row with a substitution applied to formula and output
abbrev pub instance_form : Substitution → FormTree → FormTree
instance_form σ form.True = form.True
instance_form σ (form.Equal s t) = form.Equal (substituted σ s) (substituted σ t)

abbrev pub instance_out : Substitution → OutTree → OutTree
instance_out σ (out.Give t) = out.Give (substituted σ t)

abbrev pub instance_of : Substitution → Row → Row
instance_of σ r = record { form = instance_form σ r.form; out = instance_out σ r.out }

-- the number of a variable changed, its sort kept
abbrev pub renumbered : (ℕ → ℕ) → Var → Var
renumbered to v = record { number = to v.number; sort = v.sort }

abbrev pub renamed_step : (ℕ → ℕ) → Node-F Node → Node
renamed_step to (Node-F.Var place v) = variable_tree (renumbered to v)
renamed_step to (Node-F.App place f args) = application f args

abbrev pub renamed : (ℕ → ℕ) → TermTree → TermTree
renamed to = fold-Node Node (renamed_step to)

abbrev pub renamed_form : (ℕ → ℕ) → FormTree → FormTree
renamed_form to form.True = form.True
renamed_form to (form.Equal s t) = form.Equal (renamed to s) (renamed to t)

abbrev pub renamed_out : (ℕ → ℕ) → OutTree → OutTree
renamed_out to (out.Give t) = out.Give (renamed to t)

abbrev pub renamed_row : (ℕ → ℕ) → Row → Row
renamed_row to r = record { form = renamed_form to r.form; out = renamed_out to r.out }

-- the row with the places of its nodes left out
abbrev pub bare_form : FormTree → FormTree
bare_form form.True = form.True
bare_form (form.Equal s t) = form.Equal (bare s) (bare t)

abbrev pub bare_out : OutTree → OutTree
bare_out (out.Give t) = out.Give (bare t)

abbrev pub bare_row : Row → Row
bare_row r = record { form = bare_form r.form; out = bare_out r.out }

-- two rows are variants where a one-to-one renaming of variables makes the first the second
pub record AreVariants (r s : Row) : Type 0 where
  pub to : ℕ → ℕ
  pub from : ℕ → ℕ
  pub one_to_one : (k : ℕ) → from (to k) ≡ k
  pub is : renamed_row to r ≡ bare_row s

-- an equality of a term with itself becomes `true`; all else stays
abbrev pub simplified_form : FormTree → FormTree
simplified_form form.True = form.True
simplified_form (form.Equal s t) = if same_tree s t then form.True else form.Equal s t

abbrev pub simplified_row : Row → Row
simplified_row r = record { form = simplified_form r.form; out = r.out }
