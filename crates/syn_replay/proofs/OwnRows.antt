-- A row that is its own canonical row, and rows that are variants of it.
use Rattle.std.proofs.Common.{◌≡◌, ◌↔◌, ◌++◌, Option, None, Some, MatchOption, IfSome, Bool, true, false, IsTrue, All, sym, ◌∙◌, subst, arith}
use Rattle.std.proofs.lemmas.List.Elements.{All-append}
use Rattle.syn_term.specs.Bank.{Belongs, Extends, Kept}
use Rattle.syn_form.specs.Same.{OfOneBank, OfOneBank-from}
use Rattle.syn_form.proofs.InputTerms.{all_still}
use Rattle.syn_row.specs.RowLaws.{CanonicalLaws}
use Rattle.syn_row.specs.Rows.{AreVariants, IsSimplified, IsWithinRow, RowTree, bare_row, canonical_row, renumbered_row, row_depth, row_nodes, row_terms, simplified_row}
use Rattle.syn_row.proofs.RowSizes.{depth-along, nodes-along, row_depth-renumbered, row_nodes-renumbered}

-- what is answered of a row
abbrev IsCanonical : RowTree → RowTree → Type 0
IsCanonical r m = IsWithinRow (simplified_row r) × (bare_row m ≡ bare_row (canonical_row r))

module _ (laws : CanonicalLaws) (q : RowTree) (simple : IsSimplified q) (of : (u : RowTree) × (bare_row q ≡ bare_row (canonical_row u))) where
  -- a simplified row that is the canonical row of some row is its own
  itself : bare_row q ≡ bare_row (canonical_row q)
  itself = of.1 ∙ (sym (laws.again of.0) ∙ sym ((laws.decides q (canonical_row of.0) simple (laws.simplified of.0)).0 (laws.variants.one q (canonical_row of.0) of.1)))

  module _ (r : RowTree) (simplified : IsSimplified r) where
    -- variants of it are told by their canonical rows
    pub variants_told : (m : RowTree) (o : Option RowTree) (b : Bool) → o ≡ Some m → MatchOption o (¬ (IsWithinRow (simplified_row r))) (IsCanonical r) → (IsTrue b ↔ (bare_row m ≡ bare_row q)) → IsTrue b ↔ AreVariants r q
    variants_told m o b is h test =
        let found : IsCanonical r m = subst (λ (z : Option RowTree). MatchOption z (¬ (IsWithinRow (simplified_row r))) (IsCanonical r)) is h in (
          (λ t. (laws.decides r q simplified simple).1 (sym found.1 ∙ (test.0 t ∙ itself))),
          (λ v. test.1 (found.1 ∙ ((laws.decides r q simplified simple).0 v ∙ sym itself))),
        )

    -- and are within the limit of a row where it is
    variant_within : IsWithinRow q → AreVariants r q → IsWithinRow (simplified_row r)
    variant_within within v =
        let e : bare_row (renumbered_row (simplified_row r)) ≡ bare_row q = (laws.decides r q simplified simple).0 v ∙ sym itself in
        let n : row_nodes (simplified_row r) ≡ row_nodes q = sym (row_nodes-renumbered (simplified_row r) 1) ∙ nodes-along (renumbered_row (simplified_row r)) q e in
        let d : row_depth (simplified_row r) ≡ row_depth q = sym (row_depth-renumbered (simplified_row r) 1) ∙ depth-along (renumbered_row (simplified_row r)) q e in
        let few = within.few in let shallow = within.shallow in
        record { few = omega arith; shallow = omega arith }

    pub not_within : (o : Option RowTree) → o ≡ None → MatchOption o (¬ (IsWithinRow (simplified_row r))) (IsCanonical r) → IsWithinRow q → IsTrue false ↔ AreVariants r q
    not_within o is h within =
        let none : IsWithinRow (simplified_row r) → ⊥ = subst (λ (z : Option RowTree). MatchOption z (¬ (IsWithinRow (simplified_row r))) (IsCanonical r)) is h in
        ((λ (t : false ≡ true). absurd (cc)), (λ v. absurd (none (variant_within within v))))

-- the terms of a row that the bank has made now, and of one that was there
pub one_bank : (a b : Kept) (q m : RowTree) (o : Option RowTree) → o ≡ Some m → Extends a b → IfSome o (λ z. All (Belongs b) (row_terms z)) → All (Belongs a) (row_terms q) → OfOneBank (row_terms m ++ row_terms q)
one_bank a b q m o is e h k =
    let own : All (Belongs b) (row_terms m) = subst (λ (z : Option RowTree). IfSome z (λ y. All (Belongs b) (row_terms y))) is h in
    OfOneBank-from b (row_terms m ++ row_terms q) (All-append (Belongs b) (row_terms m) (row_terms q) own (all_still a b (row_terms q) e k))
