-- Of two rows that are one the same row is given, or of neither.
use Rattle.std.proofs.Common.{◌≡◌, ◌≤◌, Option, None, Some, sym, ◌∙◌, ap, subst}
use Rattle.syn_row.specs.Rows.{IsWithinRow, RowTree, bare_row, canonical_row, row_limit, simplified_row}
use Rattle.syn_row.proofs.CanonicalRows.{renumbered_along, simplified_row-bare}
use Rattle.syn_row.proofs.RowSizes.{depth-along, nodes-along}
use Rattle.syn_row.proofs.Variants.{variants-one}
use Rattle.syn_start.specs.Initial.{Exactly, IsGiven}

module _ (r s : RowTree) (e : bare_row r ≡ bare_row s) where
  simplified_one : bare_row (simplified_row r) ≡ bare_row (simplified_row s)
  simplified_one = sym (simplified_row-bare r) ∙ (ap simplified_row e ∙ simplified_row-bare s)

  canonical_one : bare_row (canonical_row r) ≡ bare_row (canonical_row s)
  canonical_one = renumbered_along (simplified_row r) (simplified_row s) (variants-one (simplified_row r) (simplified_row s) simplified_one)

  within_one : IsWithinRow r → IsWithinRow s
  within_one h = record { few = subst (λ n. n ≤ row_limit.nodes) (nodes-along r s e) h.few; shallow = subst (λ n. n ≤ row_limit.depth) (depth-along r s e) h.shallow }

given_one : (r s q : RowTree) → bare_row r ≡ bare_row s → IsGiven r q → IsGiven s q
given_one r s q e h = record { within = within_one (simplified_row r) (simplified_row s) (simplified_one r s e) h.within; is = h.is ∙ canonical_one r s e }

pub exactly_one : (r s : RowTree) (o : Option RowTree) → bare_row r ≡ bare_row s → Exactly (IsGiven r) o → Exactly (IsGiven s) o
exactly_one r s None e h = λ q g. h q (given_one s r q (sym e) g)
exactly_one r s (Some q) e h = given_one r s q e h
