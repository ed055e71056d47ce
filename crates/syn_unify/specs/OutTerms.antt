-- Public. Outputs with each of their terms changed, those of the tests too.
use Rattle.syn_term.specs.Terms.{TermTree}
use Rattle.syn_form.specs.declared.trees.Out.{Out, fold-Out}
use Rattle.syn_form.specs.declared.trees.Out.TheOpen.{Out-F}
use Rattle.syn_form.specs.declared.trees.Out.TheVariants as out
use Rattle.syn_form.specs.declared.trees.Out.TheViews as out_view
use Rattle.syn_form.specs.Inputs.{on_terms}
use Rattle.syn_form.specs.Trees.{OutTree}

abbrev pub out_on_terms_step : (TermTree → TermTree) → Out-F Out → Out
out_on_terms_step g (Out-F.Give t) = out.Give (g t)
out_on_terms_step g (Out-F.If f u v) = out_view.If (on_terms g f) u v

-- the output with each of its terms changed
abbrev pub out_on_terms : (TermTree → TermTree) → OutTree → OutTree
out_on_terms g = fold-Out Out (out_on_terms_step g)
