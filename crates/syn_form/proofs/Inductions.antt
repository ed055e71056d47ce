-- The inductions on formulas and outputs with their cases by name, and with both kinds of chain as one case.
use Rattle.std.proofs.Common.{List, All}
use Rattle.syn_term.specs.declared.sorts.SymId.{SymId}
use Rattle.syn_term.specs.Terms.{TermTree}
use Rattle.syn_form.specs.declared.trees.Form.TheVariants as form
use Rattle.syn_form.specs.declared.trees.Form.TheViews as view
use Rattle.syn_form.specs.declared.trees.Out.TheVariants as out
use Rattle.syn_form.specs.declared.trees.Out.TheViews as out_view
use Rattle.syn_form.specs.Trees.{FormTree, OutTree}
use Rattle.syn_form.specs.Simplification.{Junction, conjunction, disjunction, chain}
use Rattle.syn_form.proofs.Induction.{by_forms, by_outs}

pub record FormCases (P : FormTree → Type 0) : Type 0 where
  pub at_true : P form.True
  pub at_false : P form.False
  pub at_atom : (r : SymId) (args : List TermTree) → P (form.Atom r args)
  pub at_equal : (s t : TermTree) → P (form.Equal s t)
  pub at_not : (a : FormTree) → P a → P (view.Not a)
  pub at_chain : (j : Junction) (all : List FormTree) → All P all → P (chain j all)
  pub at_implies : (a b : FormTree) → P a → P b → P (view.Implies a b)

-- what holds of each formula whose parts it holds of, holds of all formulas
pub by_form_cases : (P : FormTree → Type 0) → FormCases P → (f : FormTree) → P f
by_form_cases P c = by_forms P c.at_true c.at_false c.at_atom c.at_equal c.at_not (c.at_chain conjunction) (c.at_chain disjunction) c.at_implies

pub record OutCases (P : OutTree → Type 0) : Type 0 where
  pub at_give : (t : TermTree) → P (out.Give t)
  pub at_if : (f : FormTree) (u v : OutTree) → P u → P v → P (out_view.If f u v)

pub by_out_cases : (P : OutTree → Type 0) → OutCases P → (o : OutTree) → P o
by_out_cases P c = by_outs P c.at_give c.at_if
