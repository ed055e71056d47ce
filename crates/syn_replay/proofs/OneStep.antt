-- A row follows just where it is a variant of the row that the step gives: a step gives one row at most.
use Rattle.std.proofs.Common.{◌≡◌, ◌↔◌, List, Option, None, Some, IfSome, Bool, true, false, IsTrue, All, sym, ◌∙◌, ap, subst}
use Rattle.std.proofs.lemmas.List.Elements.{All-weaker}
use Rattle.syn_term.specs.Bank.{Kept}
use Rattle.syn_term.specs.Symbols.{SymbolTable}
use Rattle.syn_row.specs.Rows.{AreVariants, IsPlain, RowTree, simplified_row}
use Rattle.syn_row.proofs.Variants.{variant_laws}
use Rattle.syn_model.specs.Specifications.{SpecTree}
use Rattle.syn_start.specs.declared.steps.Step.{Step}
use Rattle.syn_start.specs.Initial.{Exactly, IsReady}
use Rattle.syn_start.specs.Starts.{IsStart, StartTree}
use Rattle.syn_start.specs.Rows.{IsRowOf}
use Rattle.syn_step.specs.Steps.{StepGives}
use Rattle.syn_step.proofs.StepLaws.{step_one}
use Rattle.syn_replay.specs.inner.Lines.{ComesOf}

module _ (x : StartTree) (rows : List RowTree) (step : Step) where
  -- where the step gives nothing
  pub nothing_follows : (r : RowTree) (o : Option RowTree) → o ≡ None → Exactly (StepGives x rows step) o → IsTrue false ↔ ComesOf x rows step r
  nothing_follows r o is h =
      let none : (q : RowTree) → StepGives x rows step q → ⊥ = subst (Exactly (StepGives x rows step)) is h in
      ((λ (t : false ≡ true). absurd (cc)), (λ k. absurd (none k.row k.gives)))

  pub step_gives : (q : RowTree) (o : Option RowTree) → o ≡ Some q → Exactly (StepGives x rows step) o → StepGives x rows step q
  step_gives q o is h = subst (Exactly (StepGives x rows step)) is h

  -- where it gives this row
  pub follows_told : (bank : Kept) (r q : RowTree) (b : Bool) → IsStart x → All (IsRowOf x bank) rows → StepGives x rows step q → (IsTrue b ↔ AreVariants r q) → IsTrue b ↔ ComesOf x rows step r
  follows_told bank r q b start all gives test =
      let plain = All-weaker (IsRowOf x bank) (IsPlain x.spec.table) (λ z h. h.plain) rows all in (
        (λ t. record { row = q; gives = gives; variant = test.0 t }),
        (λ h. test.1 (variant_laws.along r h.row q h.variant (variant_laws.one h.row q (step_one x rows start.of_table plain step h.row q h.gives gives)))),
      )

-- the table over which the rows are
pub table_is : (x : StartTree) (s : SpecTree) (table : SymbolTable) → table ≡ s.table → s ≡ x.spec → table ≡ x.spec.table
table_is x s table e f = e ∙ ap (λ (z : SpecTree). z.table) f

pub plain_over : (x : StartTree) (s : SpecTree) (table : SymbolTable) (r : RowTree) → table ≡ s.table → s ≡ x.spec → IsPlain x.spec.table r → IsPlain table r
plain_over x s table r e f h = subst (λ (z : SymbolTable). IsPlain z r) (sym (table_is x s table e f)) h

pub ready_over : (x : StartTree) (s : SpecTree) (table : SymbolTable) (bank : Kept) (q : RowTree) (o : Option RowTree) → table ≡ s.table → s ≡ x.spec → o ≡ Some q → IfSome o (IsReady x.spec.table bank) → IsReady table bank q
ready_over x s table bank q o e f is h =
    subst (λ (z : SymbolTable). IsReady z bank q) (sym (table_is x s table e f)) (subst (λ (z : Option RowTree). IfSome z (IsReady x.spec.table bank)) is h)

-- a line's row is judged once it is simplified
pub line_follows : (x : StartTree) (rows list : List RowTree) (step : Step) (r s : RowTree) (b : Bool) → list ≡ rows → s ≡ simplified_row r → (IsTrue b ↔ ComesOf x list step s) → IsTrue b ↔ ComesOf x rows step (simplified_row r)
line_follows x rows list step r s b e f h =
    subst (λ (z : RowTree). IsTrue b ↔ ComesOf x rows step z) f (subst (λ (z : List RowTree). IsTrue b ↔ ComesOf x z step s) e h)
