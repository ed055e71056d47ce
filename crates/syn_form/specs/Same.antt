-- Public. Whether two trees are one, as truth values, for definitions that decide by it; and that terms may be compared.
use Rattle.std.specs.Prelude.{◌≡◌, ◌↔◌, Bool, List, All, IsTrue}
use Rattle.syn_term.specs.Bank.{Kept, Belongs}
use Rattle.syn_term.specs.Same.{same_code}
use Rattle.syn_term.specs.Terms.{TermTree}
use Rattle.syn_form.specs.contracts.trees.Form as form_code
use Rattle.syn_form.specs.contracts.trees.Out as out_code
use Rattle.syn_form.specs.Trees.{FormTree, OutTree, bare_form, bare_out}

-- whether the two formulas are one tree, their places left out
unfoldable pub same_form : FormTree → FormTree → Bool
same_form f g = same_code (form_code.the_row.coded.code (bare_form f)) (form_code.the_row.coded.code (bare_form g))

unfoldable pub same_out : OutTree → OutTree → Bool
same_out o p = same_code (out_code.the_row.coded.code (bare_out o)) (out_code.the_row.coded.code (bare_out p))

-- the terms belong to one bank, so any two of them can be compared
pub OfOneBank : List TermTree → Type 0
OfOneBank terms = (b : Kept) × All (Belongs b) terms

-- they are where all belong to some bank, and there is such a bank where they are
pub OfOneBank-from : (b : Kept) (terms : List TermTree) → All (Belongs b) terms → OfOneBank terms
unfolding OfOneBank
OfOneBank-from b terms h = (b, h)

pub OfOneBank-to : (terms : List TermTree) → OfOneBank terms → (b : Kept) × All (Belongs b) terms
unfolding OfOneBank
OfOneBank-to terms one = one

-- two trees are one exactly where they are equal with places left out
abbrev pub SameFormMeansEqual : Type 0
SameFormMeansEqual = (f g : FormTree) → IsTrue (same_form f g) ↔ (bare_form f ≡ bare_form g)

abbrev pub SameOutMeansEqual : Type 0
SameOutMeansEqual = (o p : OutTree) → IsTrue (same_out o p) ↔ (bare_out o ≡ bare_out p)
