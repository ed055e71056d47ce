-- Public. How high syntax trees are, and how high one may be that is read.
use Rattle.std.specs.Prelude.{ℕ, ◌+◌, ◌≤◌, max}
use Rattle.syn_term.specs.Terms.{greatest}
use Rattle.syn_form.specs.declared.syntax.FormSyntax.{FormSyntax, fold-FormSyntax}
use Rattle.syn_form.specs.declared.syntax.FormSyntax.TheOpen.{FormSyntax-F}
use Rattle.syn_form.specs.declared.syntax.OutSyntax.{OutSyntax, fold-OutSyntax}
use Rattle.syn_form.specs.declared.syntax.OutSyntax.TheOpen.{OutSyntax-F}

abbrev pub height_step : FormSyntax-F ℕ → ℕ
height_step (FormSyntax-F.Not a) = 1 + a
height_step (FormSyntax-F.And all) = 1 + greatest all
height_step (FormSyntax-F.Or all) = 1 + greatest all
height_step (FormSyntax-F.Implies a b) = 1 + max a b
height_step (FormSyntax-F.BothWays a b) = 1 + max a b
height_step (FormSyntax-F.Quantified q binders a) = 1 + a
height_step _ = 1

-- the height of a syntax tree: each connective and quantifier is one more than its highest part, all else is 1
abbrev pub height_of : FormSyntax → ℕ
height_of = fold-FormSyntax ℕ height_step

abbrev pub out_height_step : OutSyntax-F ℕ → ℕ
out_height_step (OutSyntax-F.Give t) = 1
out_height_step (OutSyntax-F.If f o p) = 1 + max (height_of f) (max o p)

-- the height of an output's syntax tree: a term is 1, and a choice is one more than the highest of its test and its arms
abbrev pub out_height : OutSyntax → ℕ
out_height = fold-OutSyntax ℕ out_height_step

-- the greatest height of a tree that is read
abbrev pub max_height : ℕ
max_height = 1264

-- a tree is low enough to be read
abbrev pub Low : FormSyntax → Type 0
Low f = height_of f ≤ max_height
