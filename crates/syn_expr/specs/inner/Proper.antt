-- For proofs: syntax trees that may stand for trees, by their words alone.
use Rattle.std.specs.Prelude.{ℕ, Bool, true, false, not, ◌&&◌, ◌||◌, List, [], ◌∷◌, codes, map, nat_lt}
use Rattle.std.specs.Str.{bytes_eq}
use Rattle.syn_term.specs.Tokens.{is_reserved}
use Rattle.syn_form.specs.Scopes.{largest_numeral}
use Rattle.syn_form.specs.declared.syntax.HeadName.{HeadName}
use Rattle.syn_form.specs.declared.syntax.HeadName.TheVariants as head
use Rattle.syn_form.specs.declared.syntax.BinderSyntax.{BinderSyntax}
use Rattle.syn_form.specs.declared.syntax.TermSyntax.{TermSyntax, fold-TermSyntax}
use Rattle.syn_form.specs.declared.syntax.TermSyntax.TheOpen.{TermSyntax-F}
use Rattle.syn_form.specs.declared.syntax.FormSyntax.{FormSyntax, fold-FormSyntax}
use Rattle.syn_form.specs.declared.syntax.FormSyntax.TheOpen.{FormSyntax-F}
use Rattle.syn_form.specs.declared.syntax.OutSyntax.{OutSyntax, fold-OutSyntax}
use Rattle.syn_form.specs.declared.syntax.OutSyntax.TheOpen.{OutSyntax-F}

abbrev pub all_true : List Bool → Bool
all_true [] = true
all_true (b ∷ bs) = b && all_true bs

-- the word is no reserved one, or it is `s`
abbrev pub is_symbol_name : List ℕ → Bool
is_symbol_name x = not (is_reserved x) || bytes_eq x (codes "s")

abbrev pub is_proper_head : HeadName → Bool
is_proper_head (head.Name x) = is_symbol_name x
is_proper_head (head.Skolem x) = true

abbrev pub proper_applied : HeadName → List Bool → Bool
proper_applied h [] = false
proper_applied h (b ∷ bs) = is_proper_head h && all_true (b ∷ bs)

abbrev pub proper_term_step : TermSyntax-F Bool → Bool
proper_term_step (TermSyntax-F.Number k) = not (nat_lt largest_numeral k)
proper_term_step (TermSyntax-F.RowVar k s) = true
proper_term_step (TermSyntax-F.Alone h) = is_proper_head h
proper_term_step (TermSyntax-F.Applied h args) = proper_applied h args

-- numbers are at most `largest_numeral`, brackets have arguments, and of the reserved words `s` alone is a head
abbrev pub is_proper_term : TermSyntax → Bool
is_proper_term = fold-TermSyntax Bool proper_term_step

-- the name of a binder is no reserved word, and its sort is `nat` or no reserved word
abbrev pub is_proper_binder : BinderSyntax → Bool
is_proper_binder b = not (is_reserved b.name) && (not (is_reserved b.sort) || bytes_eq b.sort (codes "nat"))

abbrev pub proper_atom : List ℕ → List Bool → Bool
proper_atom r [] = false
proper_atom r (b ∷ bs) = is_symbol_name r && all_true (b ∷ bs)

abbrev pub are_proper_binders : List BinderSyntax → Bool
are_proper_binders [] = false
are_proper_binders (b ∷ bs) = all_true (map is_proper_binder (b ∷ bs))

abbrev pub proper_form_step : FormSyntax-F Bool → Bool
proper_form_step FormSyntax-F.True = true
proper_form_step FormSyntax-F.False = true
proper_form_step (FormSyntax-F.Atom r args) = proper_atom r (map is_proper_term args)
proper_form_step (FormSyntax-F.Equal s t) = is_proper_term s && is_proper_term t
proper_form_step (FormSyntax-F.Not a) = a
proper_form_step (FormSyntax-F.And all) = all_true all
proper_form_step (FormSyntax-F.Or all) = all_true all
proper_form_step (FormSyntax-F.Implies a b) = a && b
proper_form_step (FormSyntax-F.BothWays a b) = a && b
proper_form_step (FormSyntax-F.Quantified q binders a) = are_proper_binders binders && a

-- the terms are proper, atoms have arguments, quantifiers have binders, and these are proper
abbrev pub is_proper_form : FormSyntax → Bool
is_proper_form = fold-FormSyntax Bool proper_form_step

abbrev pub proper_out_step : OutSyntax-F Bool → Bool
proper_out_step (OutSyntax-F.Give t) = is_proper_term t
proper_out_step (OutSyntax-F.If f u v) = is_proper_form f && (u && v)

-- the terms and tests are proper
abbrev pub is_proper_out : OutSyntax → Bool
is_proper_out = fold-OutSyntax Bool proper_out_step
