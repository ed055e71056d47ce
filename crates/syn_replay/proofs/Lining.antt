-- The loop over the lines of a derivation: what holds of the first lines, of one more, and where one doesn't follow.
use Rattle.std.proofs.Common.{◌≡◌, ◌↔◌, ◌<◌, ◌+◌, ℕ, List, [], ◌∷◌, ◌++◌, Option, Some, IfSome, Bool, true, false, IsTrue, length, get_or, take, below_more, refl, sym, ◌∙◌, ap, subst, arith}
use Rattle.std.specs.List.{slice_get}
use Rattle.std.proofs.lemmas.List.{map-append, take_more}
use Rattle.std.proofs.lemmas.Option.{slice_get_read}
use Rattle.syn_row.specs.Rows.{RowTree, simplified_row}
use Rattle.syn_start.specs.declared.steps.Step.{Step}
use Rattle.syn_start.specs.Derivations.{Lines}
use Rattle.syn_start.specs.Starts.{StartTree}
use Rattle.syn_step.specs.Acceptance.{FirstFollow, Follows, IsFirstToFail, judged}
use Rattle.syn_step.specs.Steps.{StepGives}
use Rattle.syn_replay.specs.inner.Lines.{ComesOf}

abbrev row_judged : Step × RowTree → RowTree
row_judged l = simplified_row l.1

module _ (x : StartTree) (ls : Lines) (i : ℕ) (l : Step × RowTree) (rows : List RowTree) (lt : i < length ls) (item : l ≡ get_or ls i l) (are : rows ≡ judged (take i ls)) where
  there : slice_get ls i ≡ Some l
  there = slice_get_read ls (length ls) i l refl lt item

  to_follows : ComesOf x rows l.0 (simplified_row l.1) → Follows x (take i ls) l
  to_follows h = record { row = h.row; gives = subst (λ (z : List RowTree). StepGives x z l.0 h.row) are h.gives; variant = h.variant }

  from_follows : Follows x (take i ls) l → ComesOf x rows l.0 (simplified_row l.1)
  from_follows h = record { row = h.row; gives = subst (λ (z : List RowTree). StepGives x z l.0 h.row) (sym are) h.gives; variant = h.variant }

  -- one line more follows
  pub follow_more : ComesOf x rows l.0 (simplified_row l.1) → FirstFollow x ls i → FirstFollow x ls (i + 1)
  follow_more h before = below_more (λ (k : ℕ). IfSome (slice_get ls k) (Follows x (take k ls))) i before (subst (λ (z : Option (Step × RowTree)). IfSome z (Follows x (take i ls))) (sym there) (to_follows h))

  -- and its row is kept
  pub rows_more : (more : List RowTree) → more ≡ rows ++ simplified_row l.1 ∷ [] → more ≡ judged (take (i + 1) ls)
  rows_more more e =
      let one : take (i + 1) ls ≡ take i ls ++ l ∷ [] = take_more ls i l lt ∙ ap (λ (z : Step × RowTree). take i ls ++ z ∷ []) (sym item) in
      e ∙ (ap (λ (z : List RowTree). z ++ simplified_row l.1 ∷ []) are ∙ sym (ap judged one ∙ map-append row_judged (take i ls) (l ∷ [])))

  -- the line is the first that doesn't follow
  pub first_fails : (k : ℕ) → k ≡ i + 1 → (ComesOf x rows l.0 (simplified_row l.1) → ⊥) → FirstFollow x ls i → IsFirstToFail x ls k
  first_fails k e none before = record { before = i; number = omega arith; line = l; there = there; earlier = before; fails = λ f. none (from_follows f) }

-- what a test says where it is not passed
pub not_told : (b : Bool) (P : Type 0) → b ≡ false → (IsTrue b ↔ P) → P → ⊥
not_told b P e h p = let t : b ≡ true = h.1 p in absurd (cc)
