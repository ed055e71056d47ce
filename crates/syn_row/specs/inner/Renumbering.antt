-- Inner. Trees with their variables renumbered, as formulas whose terms are changed.
use Rattle.std.specs.Prelude.{◌≡◌, ℕ, List, Option, IfSome}
use Rattle.syn_term.specs.declared.sorts.Var.{Var}
use Rattle.syn_term.specs.Symbols.{SymbolTable}
use Rattle.syn_term.specs.Terms.{TermTree}
use Rattle.syn_form.specs.declared.trees.Out.{Out, fold-Out}
use Rattle.syn_form.specs.declared.trees.Out.TheOpen.{Out-F}
use Rattle.syn_form.specs.declared.trees.Out.TheVariants as out
use Rattle.syn_form.specs.declared.trees.Out.TheViews as out_view
use Rattle.syn_form.specs.Inputs.{on_terms}
use Rattle.syn_form.specs.Plain.{IsFormedOut}
use Rattle.syn_form.specs.Substitutions.{substituted}
use Rattle.syn_form.specs.Trees.{FormTree, OutTree}
use Rattle.syn_row.specs.Rows.{numbered_from}

-- the term with these variables numbered from n on
abbrev pub renumbered : ℕ → List Var → TermTree → TermTree
renumbered n vars = substituted (numbered_from n vars)

abbrev pub renumbered_form : ℕ → List Var → FormTree → FormTree
renumbered_form n vars = on_terms (renumbered n vars)

abbrev pub out_on_terms_step : (TermTree → TermTree) → Out-F Out → Out
out_on_terms_step g (Out-F.Give t) = out.Give (g t)
out_on_terms_step g (Out-F.If f u v) = out_view.If (on_terms g f) u v

-- the output with each of its terms changed
abbrev pub out_on_terms : (TermTree → TermTree) → OutTree → OutTree
out_on_terms g = fold-Out Out (out_on_terms_step g)

abbrev pub renumbered_out : ℕ → List Var → OutTree → OutTree
renumbered_out n vars = out_on_terms (renumbered n vars)

-- the output is formed, where there is one
abbrev pub IsFormedOutput : SymbolTable → Option OutTree → Type 0
IsFormedOutput table o = IfSome o (IsFormedOut table)

-- two variables of one number have one sort
abbrev pub AreLike : Var → Var → Type 0
AreLike v w = v.number ≡ w.number → v.sort ≡ w.sort
