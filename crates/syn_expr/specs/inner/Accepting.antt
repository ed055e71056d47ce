-- For private contracts: which tree a syntax tree is taken for, that is what it stands for, where that is within the limits.
use Rattle.std.specs.Prelude.{◌≡◌, ℕ, ◌≤◌, List, Option, None, Some, Result, Ok, Err}
use Rattle.syn_term.specs.declared.sorts.Var.{Var}
use Rattle.syn_term.specs.Terms.{TermTree, nodes, depth_of}
use Rattle.syn_form.specs.declared.syntax.TermSyntax.{TermSyntax}
use Rattle.syn_form.specs.declared.syntax.FormSyntax.{FormSyntax}
use Rattle.syn_form.specs.declared.syntax.OutSyntax.{OutSyntax}
use Rattle.syn_form.specs.Trees.{FormTree, QFormTree, OutTree, form_nodes, form_depth, out_nodes, out_depth, term_vars, form_vars, out_vars}
use Rattle.syn_form.specs.Plain.{HasOneSortEach}
use Rattle.syn_form.specs.Quantified.{qform_nodes, qform_depth, qform_vars}
use Rattle.syn_term.specs.declared.memory.NoMemory.{NoMemory}
use Rattle.syn_expr.specs.declared.error.ExprError.{ExprError}
use Rattle.syn_expr.specs.declared.error.ExprError.TheVariants as error
use Rattle.syn_form.specs.Scopes.{TextScope}
use Rattle.syn_form.specs.Texts.{Limit}
use Rattle.syn_form.specs.Elaboration.{elaborate_term, elaborate_form, elaborate_plain, elaborate_out}

abbrev pub limit_of : ℕ → ℕ → Limit
limit_of most deepest = record { nodes = most; depth = deepest }

-- the syntax tree stands for the term, which is within the limit
pub record TakesTerm (limit : Limit) (scope : TextScope) (syntax : TermSyntax) (t : TermTree) : Type 0 where
  pub tree : elaborate_term scope syntax ≡ Some t
  pub sorts : HasOneSortEach (term_vars t)
  pub few : nodes t ≤ limit.nodes
  pub shallow : depth_of t ≤ limit.depth

-- the syntax tree stands for the formula without quantifiers, which is within the limit
pub record TakesForm (limit : Limit) (scope : TextScope) (syntax : FormSyntax) (f : FormTree) : Type 0 where
  pub tree : elaborate_plain scope syntax ≡ Some f
  pub sorts : HasOneSortEach (form_vars f)
  pub few : form_nodes f ≤ limit.nodes
  pub shallow : form_depth f ≤ limit.depth

-- the syntax tree stands for the formula, which is within the limit; its binders are numbered from 1
pub record TakesQForm (limit : Limit) (scope : TextScope) (syntax : FormSyntax) (f : QFormTree) : Type 0 where
  pub next : ℕ
  pub tree : elaborate_form syntax scope 1 ≡ Some (f, next)
  pub sorts : HasOneSortEach (qform_vars f)
  pub few : qform_nodes f ≤ limit.nodes
  pub shallow : qform_depth f ≤ limit.depth

-- the syntax tree stands for the output, which is within the limit
pub record TakesOut (limit : Limit) (scope : TextScope) (syntax : OutSyntax) (o : OutTree) : Type 0 where
  pub tree : elaborate_out scope syntax ≡ Some o
  pub sorts : HasOneSortEach (out_vars o)
  pub few : out_nodes o ≤ limit.nodes
  pub shallow : out_depth o ≤ limit.depth

-- a tree that is taken, its places left out, and none only where none would be
abbrev pub Taken : {T : Type 0} → (T → T) → (T → Type 0) → Option T → Type 0
Taken bare Takes None = (t : _) → Takes t → ⊥
Taken bare Takes (Some t) = Takes (bare t)

-- the tree where no number has two sorts in it, and none only where one has
abbrev pub IfSorted : {T : Type 0} → (T → List Var) → T → Option T → Type 0
IfSorted vars t None = HasOneSortEach (vars t) → ⊥
IfSorted vars t (Some u) = (u ≡ t) × HasOneSortEach (vars t)

-- what was taken, as a reader answers it
abbrev pub answer_of : {T : Type 0} → Result (Option T) NoMemory → Result T ExprError
answer_of (Ok (Some t)) = Ok t
answer_of (Ok None) = Err error.Refused
answer_of (Err e) = Err error.NoMemory
