-- The depth that a syntax tree tells at a symbol with arguments and at a chain.
use Rattle.std.proofs.Common.{◌≡◌, ℕ, ◌+◌, ◌⊎◌, inl, inr, List, map, min, sym, ◌∙◌, ap}
use Rattle.syn_term.specs.Terms.{greatest}
use Rattle.syn_form.specs.declared.syntax.HeadName.{HeadName}
use Rattle.syn_form.specs.declared.syntax.TermSyntax.{TermSyntax}
use Rattle.syn_form.specs.declared.syntax.TermSyntax.TheViews as term_view
use Rattle.syn_form.specs.declared.syntax.FormSyntax.{FormSyntax}
use Rattle.syn_form.specs.declared.syntax.FormSyntax.TheViews as view
use Rattle.syn_expr.specs.Limits.{term_levels, term_levels_step, form_levels, form_levels_step}
use Rattle.syn_expr.proofs.TermSyntaxes.{fold-Applied}
use Rattle.syn_expr.proofs.FormSyntaxes.{fold-And, fold-Or}

pub applied_levels : (t : TermSyntax) (h : HeadName) (args : List TermSyntax) → t ≡ term_view.Applied h args → term_levels t ≡ 1 + greatest (map term_levels args)
applied_levels t h args is = ap term_levels is ∙ fold-Applied term_levels_step h args

pub chain_levels : (f : FormSyntax) (all : List FormSyntax) → (f ≡ view.And all) ⊎ (f ≡ view.Or all) → form_levels f ≡ 1 + greatest (map form_levels all)
chain_levels f all (inl e) = ap form_levels e ∙ fold-And form_levels_step all
chain_levels f all (inr e) = ap form_levels e ∙ fold-Or form_levels_step all

-- what is counted of the parts of a chain, up to a bound, is counted of the chain
pub chain_capped : (f : FormSyntax) (all xs : List FormSyntax) (most r : ℕ) → (f ≡ view.And all) ⊎ (f ≡ view.Or all) → xs ≡ all → r ≡ min (1 + greatest (map form_levels xs)) most → r ≡ min (form_levels f) most
chain_capped f all xs most r is same e = e ∙ ap (λ n. min n most) (ap (λ (z : List FormSyntax). 1 + greatest (map form_levels z)) same ∙ sym (chain_levels f all is))
