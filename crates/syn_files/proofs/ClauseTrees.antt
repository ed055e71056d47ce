-- The terms of syntax trees, where one of them stands for none.
use Rattle.std.proofs.Common.{◌≡◌, ℕ, ◌<◌, List, Option, None, length, map, get_or, sym, ◌∙◌, ap}
use Rattle.std.specs.Option.{option_map}
use Rattle.syn_term.specs.Terms.{TermTree, bare}
use Rattle.syn_form.specs.declared.syntax.TermSyntax.{TermSyntax}
use Rattle.syn_form.specs.Elaboration.{elaborate_term}
use Rattle.syn_form.specs.Lists.{all_there}
use Rattle.syn_form.specs.Scopes.{TextScope}
use Rattle.syn_expr.proofs.Options.{one_missing}

pub term_missing : (scope : TextScope) (xs : List TermSyntax) (i : ℕ) (x : TermSyntax) (o : Option TermTree) → i < length xs → x ≡ get_or xs i x → option_map bare o ≡ elaborate_term scope x → o ≡ None → None ≡ all_there (map (elaborate_term scope) xs)
term_missing scope xs i x o lt at made none =
    sym (one_missing (elaborate_term scope) xs i x lt (ap (elaborate_term scope) (sym at) ∙ (sym made ∙ ap (option_map bare) none)))
