-- Public. Substitutions, which replace variables by terms in all places at once, and most general unifiers.
use Rattle.std.specs.Prelude.{◌≡◌, Bool, ◌&&◌, List, [], ◌∷◌, Some, Contains, All, if◌then◌else◌, nat_eq, map}
use Rattle.std.specs.List.{flat_map}
use Rattle.syn_term.specs.declared.sorts.Var.{Var}
use Rattle.syn_term.specs.declared.term.Node.{Node, fold-Node}
use Rattle.syn_term.specs.declared.term.Node.TheOpen.{Node-F}
use Rattle.syn_term.specs.Symbols.{SymbolTable}
use Rattle.syn_term.specs.Terms.{TermTree, variable_tree, application, bare, sort_of}
use Rattle.syn_form.specs.declared.trees.Form.{Form, fold-Form}
use Rattle.syn_form.specs.declared.trees.Form.TheOpen.{Form-F}
use Rattle.syn_form.specs.declared.trees.Form.TheVariants as form
use Rattle.syn_form.specs.declared.trees.Form.TheViews as view
use Rattle.syn_form.specs.declared.trees.Out.{Out, fold-Out}
use Rattle.syn_form.specs.declared.trees.Out.TheOpen.{Out-F}
use Rattle.syn_form.specs.declared.trees.Out.TheVariants as out
use Rattle.syn_form.specs.declared.trees.Out.TheViews as out_view
use Rattle.syn_form.specs.Trees.{FormTree, OutTree, bare_form, term_vars, form_vars}
use Rattle.syn_form.specs.Sorts.{same_sort}
use Rattle.syn_form.specs.Plain.{IsSorted}

-- a binding is a variable and the term that it becomes
pub record Binding : Type 0 where
  pub var : Var
  pub term : TermTree

-- a substitution is a finite list of bindings, in which the first for a variable counts
abbrev pub Substitution : Type 0
Substitution = List Binding

-- each variable is bound to a term of its own sort
abbrev pub KeepsSorts : SymbolTable → Substitution → Type 0
KeepsSorts table = All (λ b. IsSorted table b.term × (sort_of table b.term ≡ Some b.var.sort))

-- whether two variables are one: their numbers and their sorts are
abbrev pub same_var : Var → Var → Bool
same_var v w = nat_eq v.number w.number && same_sort v.sort w.sort

-- what a variable becomes: the term of its first binding, or itself
abbrev pub image : Substitution → Var → TermTree
image [] v = variable_tree v
image (b ∷ bs) v = if same_var b.var v then b.term else image bs v

abbrev pub substituted_step : Substitution → Node-F Node → Node
substituted_step σ (Node-F.Var place v) = image σ v
substituted_step σ (Node-F.App place f args) = application f args

-- the term with all its variables replaced at once
abbrev pub substituted : Substitution → TermTree → TermTree
substituted σ = fold-Node Node (substituted_step σ)

abbrev pub substituted_form_step : Substitution → Form-F Form → Form
substituted_form_step σ Form-F.True = form.True
substituted_form_step σ Form-F.False = form.False
substituted_form_step σ (Form-F.Atom r args) = form.Atom r (map (substituted σ) args)
substituted_form_step σ (Form-F.Equal s t) = form.Equal (substituted σ s) (substituted σ t)
substituted_form_step σ (Form-F.Not a) = view.Not a
substituted_form_step σ (Form-F.And all) = view.And all
substituted_form_step σ (Form-F.Or all) = view.Or all
substituted_form_step σ (Form-F.Implies a b) = view.Implies a b

abbrev pub substituted_form : Substitution → FormTree → FormTree
substituted_form σ = fold-Form Form (substituted_form_step σ)

abbrev pub substituted_out_step : Substitution → Out-F Out → Out
substituted_out_step σ (Out-F.Give t) = out.Give (substituted σ t)
substituted_out_step σ (Out-F.If f u v) = out_view.If (substituted_form σ f) u v

abbrev pub substituted_out : Substitution → OutTree → OutTree
substituted_out σ = fold-Out Out (substituted_out_step σ)

-- a unifier makes the given terms, or the given formulas, one tree
abbrev pub UnifiesTerms : List TermTree → Substitution → Type 0
UnifiesTerms terms σ = (s t : TermTree) → Contains terms s → Contains terms t → bare (substituted σ s) ≡ bare (substituted σ t)

abbrev pub UnifiesForms : List FormTree → Substitution → Type 0
UnifiesForms forms σ = (f g : FormTree) → Contains forms f → Contains forms g → bare_form (substituted_form σ f) ≡ bare_form (substituted_form σ g)

-- of all that unify the given trees, whose variables are these, a substitution is most general where each other one is,
-- on these variables, this one and then a further substitution, and where it binds only these variables, to terms over
-- these variables
pub record IsMostGeneral (table : SymbolTable) (Unifies : Substitution → Type 0) (vars : List Var) (σ : Substitution) : Type 0 where
  pub unifies : Unifies σ
  pub sorts : KeepsSorts table σ
  pub general : (τ : Substitution) → KeepsSorts table τ → Unifies τ → (δ : Substitution) × KeepsSorts table δ × ((v : Var) → Contains vars v → bare (image τ v) ≡ bare (substituted δ (image σ v)))
  pub own : (b : Binding) → Contains σ b → Contains vars b.var × ((v : Var) → Contains (term_vars b.term) v → Contains vars v)

abbrev pub IsUnifierOfTerms : SymbolTable → List TermTree → Substitution → Type 0
IsUnifierOfTerms table terms = IsMostGeneral table (UnifiesTerms terms) (flat_map term_vars terms)

abbrev pub IsUnifierOfForms : SymbolTable → List FormTree → Substitution → Type 0
IsUnifierOfForms table forms = IsMostGeneral table (UnifiesForms forms) (flat_map form_vars forms)
