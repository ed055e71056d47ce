-- The rows of lines, once they are simplified, and once the bank has made more nodes.
use Rattle.std.proofs.Common.{◌≡◌, ◌<◌, ◌-◌, ℕ, List, Option, None, Some, IfSome, All, length, get_or, take, refl, sym, ◌∙◌, ap, subst}
use Rattle.std.specs.Option.{option_map}
use Rattle.std.proofs.lemmas.List.Elements.{All-map, All-take, All-weaker}
use Rattle.std.proofs.lemmas.Option.{get_or_from_slice_get, slice_get_within}
use Rattle.syn_term.specs.Bank.{Extends, Kept}
use Rattle.syn_term.specs.declared.sorts.Sort.{Sort}
use Rattle.syn_term.specs.Symbols.{SymbolTable}
use Rattle.syn_form.specs.Plain.{IsFormedOut, given_sort}
use Rattle.syn_form.specs.Simplification.{simplified_out}
use Rattle.syn_form.specs.Trees.{OutTree}
use Rattle.syn_form.proofs.InputTerms.{all_still}
use Rattle.syn_form.proofs.SimplifiedPlain.{simplified_out-formed}
use Rattle.syn_row.specs.declared.guards.GuardRule.{GuardRule}
use Rattle.syn_row.specs.Guards.{RuleBelongs}
use Rattle.syn_row.specs.Rows.{IsSimplified, RowTree, bare_row, row_terms, simplified_row}
use Rattle.syn_row.proofs.CanonicalRows.{simplified_row-twice}
use Rattle.syn_row.proofs.Ends.{simplified_own}
use Rattle.syn_row.proofs.GuardsEach.{RuleBelongs-extends}
use Rattle.syn_row.proofs.RowPlain.{plain_simplified}
use Rattle.syn_start.specs.declared.steps.Step.{Step}
use Rattle.syn_start.specs.Derivations.{Lines}
use Rattle.syn_start.specs.Starts.{StartTree}
use Rattle.syn_step.specs.Acceptance.{judged, last_of}
use Rattle.syn_start.specs.Rows.{IsRowOf}

-- the guard rule's terms still belong
pub rule_still : (a b : Kept) (o : Option GuardRule) → Extends a b → IfSome o (RuleBelongs a) → IfSome o (RuleBelongs b)
rule_still a b None e h = tt
rule_still a b (Some rule) e h = RuleBelongs-extends a b rule e h

output_simplified : (table : SymbolTable) (s : Sort) (o : Option OutTree) → IfSome o (IsFormedOut table) → IfSome o (λ u. given_sort table u ≡ Some s) → IfSome (option_map simplified_out o) (λ u. given_sort table u ≡ Some s)
output_simplified table s None h k = tt
output_simplified table s (Some o) h k = (simplified_out-formed table o h).1 ∙ k

-- a simplified row is simplified
pub is_simplified : (r s : RowTree) → s ≡ simplified_row r → IsSimplified s
is_simplified r s e = subst IsSimplified (sym e) (ap bare_row (simplified_row-twice r))

module _ (x : StartTree) where
  pub row_still : (a b : Kept) (r : RowTree) → Extends a b → IsRowOf x a r → IsRowOf x b r
  row_still a b r e h = record { plain = h.plain; output = h.output; belongs = all_still a b (row_terms r) e h.belongs }

  simplified_is : (b : Kept) (r : RowTree) → IsRowOf x b r → IsRowOf x b (simplified_row r)
  simplified_is b r h = record {
    plain = plain_simplified x.spec.table r h.plain;
    output = output_simplified x.spec.table x.spec.head.result r.out h.plain.out h.output;
    belongs = simplified_own b r (simplified_row r) refl h.belongs;
  }

  pub row_simplified : (b : Kept) (r s : RowTree) → s ≡ simplified_row r → IsRowOf x b r → IsRowOf x b s
  row_simplified b r s e h = subst (IsRowOf x b) (sym e) (simplified_is b r h)

  abbrev LineOf : Kept → Step × RowTree → Type 0
  LineOf b l = IsRowOf x b l.1

  judged_are : (b : Kept) (ls : Lines) → All (LineOf b) ls → All (IsRowOf x b) (judged ls)
  judged_are b ls h = All-map (IsRowOf x b) (λ l. simplified_row l.1) ls (All-weaker (LineOf b) (λ l. IsRowOf x b (simplified_row l.1)) (λ l k. simplified_is b l.1 k) ls h)

  module _ (a b : Kept) (ls : Lines) (more : Extends a b) (all : All (λ l. IsRowOf x a l.1) ls) where
    lines_still : All (LineOf b) ls
    lines_still = All-weaker (LineOf a) (LineOf b) (λ l k. row_still a b l.1 more k) ls all

    -- the simplified rows of the first lines, and of all
    pub rows_kept : (rows : List RowTree) (n : ℕ) → rows ≡ judged (take n ls) → All (IsRowOf x b) rows
    rows_kept rows n e = subst (All (IsRowOf x b)) (sym e) (judged_are b (take n ls) (All-take (LineOf b) n ls lines_still))

    pub all_kept : (rows : List RowTree) → rows ≡ judged ls → All (IsRowOf x b) rows
    all_kept rows e = subst (All (IsRowOf x b)) (sym e) (judged_are b ls lines_still)

    pub line_kept : (i : ℕ) (l : Step × RowTree) → i < length ls → l ≡ get_or ls i l → IsRowOf x b l.1
    line_kept i l lt e = subst (LineOf b) (sym e) (lines_still i l lt)

  -- the last of the rows
  pub last_is_row : (b : Kept) (rows : List RowTree) (r : RowTree) → last_of rows ≡ Some r → All (IsRowOf x b) rows → IsRowOf x b r
  last_is_row b rows r e h = subst (IsRowOf x b) (get_or_from_slice_get rows (length rows - 1) r r e) (h (length rows - 1) r (slice_get_within rows (length rows - 1) r e))
