-- The terms of rows belong to the bank where those of their parts do.
use Rattle.std.proofs.Common.{◌≡◌, List, [], ◌++◌, Option, All, get_or, sym, subst}
use Rattle.std.specs.Option.{option_map_or}
use Rattle.std.proofs.lemmas.List.Elements.{All-append, All-nil}
use Rattle.syn_term.specs.Bank.{Kept, Belongs, Belongs-extends, Extends}
use Rattle.syn_term.specs.Terms.{TermTree}
use Rattle.syn_form.specs.declared.trees.Form.TheViews as view
use Rattle.syn_form.specs.Same.{OfOneBank, OfOneBank-from}
use Rattle.syn_form.specs.Trees.{FormTree, OutTree, form_terms, out_terms}
use Rattle.syn_form.proofs.Equations.{form_terms-Not}
use Rattle.syn_form.proofs.Owned.{All-left}
use Rattle.syn_row.specs.Rows.{RowTree, row_terms}

pub two_rows : (b : Kept) (r s : RowTree) → All (Belongs b) (row_terms r) → All (Belongs b) (row_terms s) → OfOneBank (row_terms r ++ row_terms s)
two_rows b r s h k = OfOneBank-from b (row_terms r ++ row_terms s) (All-append (Belongs b) (row_terms r) (row_terms s) h k)

pub negated_own : (b : Kept) (r : RowTree) (f g : FormTree) → g ≡ view.Not f → f ≡ r.form → All (Belongs b) (row_terms r) → All (Belongs b) (form_terms g ++ [])
negated_own b r f g is same h =
    let own : All (Belongs b) (form_terms f) = subst (λ (z : FormTree). All (Belongs b) (form_terms z)) (sym same) (All-left (Belongs b) (form_terms r.form) (option_map_or out_terms r.out []) h) in
    let whole : All (Belongs b) (form_terms (view.Not f)) = subst (All (Belongs b)) (sym (form_terms-Not f)) own in
    All-append (Belongs b) (form_terms g) [] (subst (λ (z : FormTree). All (Belongs b) (form_terms z)) (sym is) whole) (All-nil (Belongs b))
