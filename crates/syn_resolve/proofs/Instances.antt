-- What belongs to a bank still does when an instance has been made.
use Rattle.std.proofs.Common.{get_or, Option, ◌++◌, [], All}
use Rattle.std.proofs.lemmas.List.Elements.{All-append}
use Rattle.std.specs.Option.{option_map_or}
use Rattle.syn_term.specs.Bank.{Belongs, Belongs-extends, Extends, Kept}
use Rattle.syn_form.specs.Substitutions.{Substitution}
use Rattle.syn_form.specs.Trees.{FormTree, OutTree, form_terms, out_terms}
use Rattle.syn_form.proofs.InputTerms.{all_still}
use Rattle.syn_form.proofs.Owned.{All-right}
use Rattle.syn_row.specs.Rows.{RowTree, row_terms}
use Rattle.syn_unify.specs.Bindings.{BindsOwn}

pub binds_still : (a b : Kept) (σ : Substitution) → Extends a b → BindsOwn a σ → BindsOwn b σ
binds_still a b σ e h = λ k d lt. Belongs-extends a b (get_or σ k d).term e (h k d lt)

pub output_still : (a b : Kept) (r : RowTree) → Extends a b → All (Belongs a) (row_terms r) → All (Belongs b) (option_map_or out_terms r.out [])
output_still a b r e h = all_still a b (option_map_or out_terms r.out []) e (All-right (Belongs a) (form_terms r.form) (option_map_or out_terms r.out []) h)

pub both_belong : (a b : Kept) (f : FormTree) (o : Option OutTree) → Extends a b → All (Belongs a) (form_terms f) → All (Belongs b) (option_map_or out_terms o []) → All (Belongs b) (form_terms f ++ option_map_or out_terms o [])
both_belong a b f o e h k = All-append (Belongs b) (form_terms f) (option_map_or out_terms o []) (all_still a b (form_terms f) e h) k
