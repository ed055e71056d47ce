-- Public. Which tree a text stands for: its words are those of a reading, and what the reading's syntax tree stands for is within
-- the limits.
use Rattle.std.specs.Prelude.{◌≡◌, ℕ, ◌≤◌, List, Some, map}
use Rattle.syn_term.specs.Terms.{TermTree, nodes, depth_of}
use Rattle.syn_term.specs.Tokens.{Word, Spelled}
use Rattle.syn_form.specs.declared.syntax.TermSyntax.{TermSyntax}
use Rattle.syn_form.specs.Trees.{FormTree, QFormTree, OutTree, form_nodes, form_depth, out_nodes, out_depth, term_vars, form_vars, out_vars}
use Rattle.syn_form.specs.Plain.{HasOneSortEach}
use Rattle.syn_form.specs.Quantified.{qform_nodes, qform_depth, qform_vars}
use Rattle.syn_form.specs.Scopes.{TextScope}
use Rattle.syn_form.specs.Grammar.{FormText, OutText, spelling, words_of_term, words_of_form, words_of_out, syntax_of_form, syntax_of_out}
use Rattle.syn_form.specs.Elaboration.{elaborate_term, elaborate_form, elaborate_plain, elaborate_out}

-- how many nodes a tree may have, and how deep it may be
pub record Limit : Type 0 where
  pub nodes : ℕ
  pub depth : ℕ

-- the limit of an expression
abbrev pub expression_limit : Limit
expression_limit = record { nodes = 4096; depth = 1200 }

-- the limit of a program body
abbrev pub body_limit : Limit
body_limit = record { nodes = 262144; depth = 1264 }

-- the words are those of a term, which stands for the tree
pub record IsTermOf (limit : Limit) (scope : TextScope) (words : List Word) (t : TermTree) : Type 0 where
  pub syntax : TermSyntax
  pub written : words ≡ map spelling (words_of_term syntax)
  pub tree : elaborate_term scope syntax ≡ Some t
  pub sorts : HasOneSortEach (term_vars t)
  pub few : nodes t ≤ limit.nodes
  pub shallow : depth_of t ≤ limit.depth

-- the words are those of a formula without quantifiers, which stands for the tree
pub record IsFormOf (limit : Limit) (scope : TextScope) (words : List Word) (f : FormTree) : Type 0 where
  pub reading : FormText
  pub written : words ≡ map spelling (words_of_form reading)
  pub tree : elaborate_plain scope (syntax_of_form reading) ≡ Some f
  pub sorts : HasOneSortEach (form_vars f)
  pub few : form_nodes f ≤ limit.nodes
  pub shallow : form_depth f ≤ limit.depth

-- the words are those of a formula, which stands for the tree; its binders are numbered from 1
pub record IsQFormOf (limit : Limit) (scope : TextScope) (words : List Word) (f : QFormTree) : Type 0 where
  pub reading : FormText
  pub next : ℕ
  pub written : words ≡ map spelling (words_of_form reading)
  pub tree : elaborate_form (syntax_of_form reading) scope 1 ≡ Some (f, next)
  pub sorts : HasOneSortEach (qform_vars f)
  pub few : qform_nodes f ≤ limit.nodes
  pub shallow : qform_depth f ≤ limit.depth

-- the words are those of an output, which stands for the tree
pub record IsOutOf (limit : Limit) (scope : TextScope) (words : List Word) (o : OutTree) : Type 0 where
  pub reading : OutText
  pub written : words ≡ map spelling (words_of_out reading)
  pub tree : elaborate_out scope (syntax_of_out reading) ≡ Some o
  pub sorts : HasOneSortEach (out_vars o)
  pub few : out_nodes o ≤ limit.nodes
  pub shallow : out_depth o ≤ limit.depth

-- a text stands for a tree where it is one line of such words, with blanks between and at most a comment behind them
pub record IsTextOf {T : Type 0} (Stands : List Word → T → Type 0) (bytes : List ℕ) (tree : T) : Type 0 where
  pub words : List Word
  pub spelled : Spelled bytes words
  pub stands : Stands words tree
