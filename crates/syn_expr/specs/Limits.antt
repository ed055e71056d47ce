-- For public contracts: how many nodes what a syntax tree stands for has, and how deep it is, counted on the syntax tree.
use Rattle.std.specs.Prelude.{ℕ, ◌+◌, ◌*◌, ◌<◌, ◌⊎◌, max, sum, length, map}
use Rattle.syn_term.specs.Terms.{greatest}
use Rattle.syn_form.specs.declared.syntax.TermSyntax.{TermSyntax, fold-TermSyntax}
use Rattle.syn_form.specs.declared.syntax.TermSyntax.TheOpen.{TermSyntax-F}
use Rattle.syn_form.specs.declared.syntax.FormSyntax.{FormSyntax, fold-FormSyntax}
use Rattle.syn_form.specs.declared.syntax.FormSyntax.TheOpen.{FormSyntax-F}
use Rattle.syn_form.specs.declared.syntax.OutSyntax.{OutSyntax, fold-OutSyntax}
use Rattle.syn_form.specs.declared.syntax.OutSyntax.TheOpen.{OutSyntax-F}
use Rattle.syn_form.specs.Texts.{Limit}

abbrev pub term_cost_step : TermSyntax-F ℕ → ℕ
term_cost_step (TermSyntax-F.Number k) = k + 1
term_cost_step (TermSyntax-F.Applied h args) = 1 + sum args
term_cost_step _ = 1

-- the nodes of a term; a number k is k times `s` over `0`
abbrev pub term_cost : TermSyntax → ℕ
term_cost = fold-TermSyntax ℕ term_cost_step

abbrev pub term_levels_step : TermSyntax-F ℕ → ℕ
term_levels_step (TermSyntax-F.Number k) = k + 1
term_levels_step (TermSyntax-F.Applied h args) = 1 + greatest args
term_levels_step _ = 1

-- the depth of a term
abbrev pub term_levels : TermSyntax → ℕ
term_levels = fold-TermSyntax ℕ term_levels_step

abbrev pub form_cost_step : FormSyntax-F ℕ → ℕ
form_cost_step (FormSyntax-F.Atom r args) = 1 + sum (map term_cost args)
form_cost_step (FormSyntax-F.Equal s t) = 1 + (term_cost s + term_cost t)
form_cost_step (FormSyntax-F.Not a) = 1 + a
form_cost_step (FormSyntax-F.And all) = 1 + sum all
form_cost_step (FormSyntax-F.Or all) = 1 + sum all
form_cost_step (FormSyntax-F.Implies a b) = 1 + (a + b)
form_cost_step (FormSyntax-F.BothWays a b) = 3 + 2 * (a + b)
form_cost_step (FormSyntax-F.Quantified q binders a) = length binders + a
form_cost_step _ = 1

-- the nodes of a formula; `A <-> B` is two implications under an `and`, and each binder is a quantifier
abbrev pub form_cost : FormSyntax → ℕ
form_cost = fold-FormSyntax ℕ form_cost_step

abbrev pub form_levels_step : FormSyntax-F ℕ → ℕ
form_levels_step (FormSyntax-F.Atom r args) = 1 + greatest (map term_levels args)
form_levels_step (FormSyntax-F.Equal s t) = 1 + max (term_levels s) (term_levels t)
form_levels_step (FormSyntax-F.Not a) = 1 + a
form_levels_step (FormSyntax-F.And all) = 1 + greatest all
form_levels_step (FormSyntax-F.Or all) = 1 + greatest all
form_levels_step (FormSyntax-F.Implies a b) = 1 + max a b
form_levels_step (FormSyntax-F.BothWays a b) = 2 + max a b
form_levels_step (FormSyntax-F.Quantified q binders a) = length binders + a
form_levels_step _ = 1

-- the depth of a formula
abbrev pub form_levels : FormSyntax → ℕ
form_levels = fold-FormSyntax ℕ form_levels_step

abbrev pub out_cost_step : OutSyntax-F ℕ → ℕ
out_cost_step (OutSyntax-F.Give t) = term_cost t
out_cost_step (OutSyntax-F.If f u v) = 1 + (form_cost f + (u + v))

-- the nodes of an output
abbrev pub out_cost : OutSyntax → ℕ
out_cost = fold-OutSyntax ℕ out_cost_step

abbrev pub out_levels_step : OutSyntax-F ℕ → ℕ
out_levels_step (OutSyntax-F.Give t) = term_levels t
out_levels_step (OutSyntax-F.If f u v) = 1 + max (form_levels f) (max u v)

-- the depth of an output
abbrev pub out_levels : OutSyntax → ℕ
out_levels = fold-OutSyntax ℕ out_levels_step

-- a tree with so many nodes, or so deep, is past the limit
abbrev pub IsPast : Limit → ℕ → ℕ → Type 0
IsPast limit nodes depth = (limit.nodes < nodes) ⊎ (limit.depth < depth)
