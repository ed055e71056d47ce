-- For public contracts: which rows stand in a derivation's place: what each of them has, whatever the derivation.
use Rattle.std.specs.Prelude.{◌≡◌, Some, All, IfSome}
use Rattle.syn_term.specs.Bank.{Belongs, Kept}
use Rattle.syn_form.specs.Plain.{given_sort}
use Rattle.syn_row.specs.Rows.{IsPlain, RowTree, row_terms}
use Rattle.syn_start.specs.Starts.{StartTree}

-- A row over the specification's table: it is plain, its output, where there is one, has the sort of the program's result, and its
-- terms belong to the bank.
pub record IsRowOf (x : StartTree) (bank : Kept) (r : RowTree) : Type 0 where
  pub plain : IsPlain x.spec.table r
  pub output : IfSome r.out (λ o. given_sort x.spec.table o ≡ Some x.spec.head.result)
  pub belongs : All (Belongs bank) (row_terms r)
