-- Lines of a start, over a bank that is called again, and with one line more.
use Rattle.std.proofs.Common.{◌≡◌, [], ◌∷◌, ◌++◌, All, Option, None, Some, subst, sym}
use Rattle.std.proofs.lemmas.List.Elements.{All-append, All-cons, All-nil, All-weaker}
use Rattle.syn_term.specs.Bank.{Belongs, Belongs-extends, Extends, Kept}
use Rattle.syn_row.specs.Rows.{RowTree, row_terms}
use Rattle.syn_start.specs.declared.steps.Step.{Step}
use Rattle.syn_start.specs.Derivations.{Lines}
use Rattle.syn_start.specs.Rows.{IsRowOf}
use Rattle.syn_start.specs.Starts.{StartTree}
use Rattle.syn_deriv.specs.inner.Telling.{AreLinesOf}

module _ (x : StartTree) where
  abbrev Has : Kept → Step × RowTree → Type 0
  Has b l = IsRowOf x b l.1

  row_extends : (a b : Kept) (r : RowTree) → Extends a b → IsRowOf x a r → IsRowOf x b r
  row_extends a b r more h = record { plain = h.plain; output = h.output; belongs = All-weaker (Belongs a) (Belongs b) (λ t k. Belongs-extends a b t more k) (row_terms r) h.belongs }

  pub lines_extend : (a b : Kept) (d : Option Lines) → Extends a b → AreLinesOf x a d → AreLinesOf x b d
  lines_extend a b None more h = tt
  lines_extend a b (Some ls) more h = All-weaker (Has a) (Has b) (λ l k. row_extends a b l.1 more k) ls h

  pub lines_more : (a b : Kept) (old new : Lines) (l : Step × RowTree) → new ≡ old ++ l ∷ [] → Extends a b → AreLinesOf x a (Some old) → IsRowOf x b l.1 → AreLinesOf x b (Some new)
  lines_more a b old new l is more h k = subst (All (Has b)) (sym is) (All-append (Has b) old (l ∷ []) (lines_extend a b (Some old) more h) (All-cons (Has b) l [] k (All-nil (Has b))))
