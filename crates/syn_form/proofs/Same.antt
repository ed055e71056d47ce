-- The tests for one formula and one output mean what they say.
use Rattle.std.proofs.Common.{◌≡◌, true, sym, ◌∙◌, ap}
use Rattle.syn_term.proofs.Same.{same_code-to, same_code-from}
use Rattle.syn_term.specs.Same.{same_code}
use Rattle.syn_form.specs.contracts.trees.Form as form_code
use Rattle.syn_form.specs.contracts.trees.Out as out_code
use Rattle.syn_form.specs.Same.{SameFormMeansEqual, SameOutMeansEqual, same_form, same_out}
use Rattle.syn_form.specs.Trees.{FormTree, OutTree, bare_form, bare_out}

pub same_form-to : (f g : FormTree) → same_form f g ≡ true → bare_form f ≡ bare_form g
unfolding same_form
same_form-to f g h = form_code.the_row.coded.inj (bare_form f) (bare_form g) (same_code-to _ _ h)

pub same_form-from : (f g : FormTree) → bare_form f ≡ bare_form g → same_form f g ≡ true
unfolding same_form
same_form-from f g e = ap (λ (z : FormTree). same_code (form_code.the_row.coded.code (bare_form f)) (form_code.the_row.coded.code z)) (sym e) ∙ same_code-from (form_code.the_row.coded.code (bare_form f))

pub same_out-to : (o p : OutTree) → same_out o p ≡ true → bare_out o ≡ bare_out p
unfolding same_out
same_out-to o p h = out_code.the_row.coded.inj (bare_out o) (bare_out p) (same_code-to _ _ h)

pub same_out-from : (o p : OutTree) → bare_out o ≡ bare_out p → same_out o p ≡ true
unfolding same_out
same_out-from o p e = ap (λ (z : OutTree). same_code (out_code.the_row.coded.code (bare_out o)) (out_code.the_row.coded.code z)) (sym e) ∙ same_code-from (out_code.the_row.coded.code (bare_out o))

-- so each test is passed exactly where the two are equal with places left out
pub same_form_means_equal : SameFormMeansEqual
same_form_means_equal f g = (same_form-to f g, same_form-from f g)

pub same_out_means_equal : SameOutMeansEqual
same_out_means_equal o p = (same_out-to o p, same_out-from o p)
