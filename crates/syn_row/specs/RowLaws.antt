-- For public contracts: what holds of variants and of canonical rows.
use Rattle.std.specs.Prelude.{◌≡◌, ◌↔◌}
use Rattle.syn_term.specs.Symbols.{SymbolTable}
use Rattle.syn_row.specs.Rows.{RowTree, AreVariants, IsPlain, IsSimplified, bare_row, canonical_row, simplified_row}

-- to be variants is an equivalence, and two rows that are one are variants
pub record VariantLaws : Type 0 where
  pub itself : (r : RowTree) → AreVariants r r
  pub one : (r s : RowTree) → bare_row r ≡ bare_row s → AreVariants r s
  pub back : (r s : RowTree) → AreVariants r s → AreVariants s r
  pub along : (r s t : RowTree) → AreVariants r s → AreVariants s t → AreVariants r t

-- A simplified row and its canonical row are variants. Two simplified rows are variants exactly where their canonical rows
-- are one. The canonical row of a canonical row is itself; it is simplified, and plain where the row is.
pub record CanonicalLaws : Type 0 where
  pub variants : VariantLaws
  pub variant : (r : RowTree) → AreVariants (simplified_row r) (canonical_row r)
  pub decides : (r s : RowTree) → IsSimplified r → IsSimplified s → AreVariants r s ↔ (bare_row (canonical_row r) ≡ bare_row (canonical_row s))
  pub again : (r : RowTree) → bare_row (canonical_row (canonical_row r)) ≡ bare_row (canonical_row r)
  pub simplified : (r : RowTree) → IsSimplified (canonical_row r)
  pub plain : (table : SymbolTable) (r : RowTree) → IsPlain table r → IsPlain table (canonical_row r)
