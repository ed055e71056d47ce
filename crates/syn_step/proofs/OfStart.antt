-- What the rules ask of rows and of the guard rule, and what they answer, over the table and the rule of a start.
use Rattle.std.proofs.Common.{◌≡◌, ℕ, List, Option, None, Some, Result, Ok, Err, IfOk, IfSome, MatchOption, All, sym, ◌∙◌, subst}
use Rattle.syn_term.specs.Bank.{Belongs, Kept}
use Rattle.syn_term.specs.declared.sorts.Sort.{Sort}
use Rattle.syn_term.specs.Symbols.{SymbolTable}
use Rattle.syn_form.specs.Plain.{given_sort}
use Rattle.syn_form.specs.Trees.{OutTree}
use Rattle.syn_row.specs.declared.guards.GuardRule.{GuardRule}
use Rattle.syn_row.specs.Guards.{IsGuardRule, RuleBelongs}
use Rattle.syn_row.specs.JoinLaws.{GiveOneSort}
use Rattle.syn_row.specs.Rows.{IsPlain, IsSimplified, IsWithinRow, RowTree, row_terms}
use Rattle.syn_start.specs.Initial.{IsReady}
use Rattle.syn_start.specs.Starts.{StartTree}
use Rattle.syn_start.specs.Rows.{IsRowOf}
use Rattle.syn_step.specs.Steps.{row_at}
use Rattle.syn_step.proofs.NumberedRows.{row_holds}

-- the guard rule, which the start lends
pub rule_over : (table : SymbolTable) (rule : Option GuardRule) (x : StartTree) → table ≡ x.spec.table → IfSome rule (IsGuardRule x.spec.table) → IfSome rule (IsGuardRule table)
rule_over table rule x e h = subst (λ (z : SymbolTable). IfSome rule (IsGuardRule z)) (sym e) h

pub rule_own : (bank : Kept) (rule : Option GuardRule) (x : StartTree) → rule ≡ x.rule → IfSome x.rule (RuleBelongs bank) → IfSome rule (RuleBelongs bank)
rule_own bank rule x e h = subst (λ (z : Option GuardRule). IfSome z (RuleBelongs bank)) (sym e) h

-- two outputs that give terms of the result's sort give terms of one
one_sort : (table : SymbolTable) (s : Sort) (o p : Option OutTree) → IfSome o (λ u. given_sort table u ≡ Some s) → IfSome p (λ u. given_sort table u ≡ Some s) → GiveOneSort table o p
one_sort table s (Some u) (Some v) h k = h ∙ sym k
one_sort table s (Some u) None h k = tt
one_sort table s None p h k = tt

-- the row with a number
module _ (x : StartTree) (bank : Kept) (rows : List RowTree) (all : All (IsRowOf x bank) rows) where
  pub row_plain : (table : SymbolTable) (n : ℕ) (r : RowTree) → table ≡ x.spec.table → row_at rows n ≡ Some r → IsPlain table r
  row_plain table n r is e = subst (λ (z : SymbolTable). IsPlain z r) (sym is) (row_holds (IsRowOf x bank) rows n r e all).plain

  pub row_own : (n : ℕ) (r : RowTree) → row_at rows n ≡ Some r → All (Belongs bank) (row_terms r)
  row_own n r e = (row_holds (IsRowOf x bank) rows n r e all).belongs

  pub rows_sort : (table : SymbolTable) (n m : ℕ) (r s : RowTree) → table ≡ x.spec.table → row_at rows n ≡ Some r → row_at rows m ≡ Some s → GiveOneSort table r.out s.out
  rows_sort table n m r s is e f =
      let a = row_holds (IsRowOf x bank) rows n r e all in
      let b = row_holds (IsRowOf x bank) rows m s f all in
      subst (λ (z : SymbolTable). GiveOneSort z r.out s.out) (sym is) (one_sort x.spec.table x.spec.head.result r.out s.out a.output b.output)

-- what a rule answers
pub over_start : (Gives : SymbolTable → Option GuardRule → RowTree → Type 0) (table : SymbolTable) (rule : Option GuardRule) (x : StartTree) (o : Option RowTree) → table ≡ x.spec.table → rule ≡ x.rule
    → MatchOption o ((q : RowTree) → Gives table rule q → ⊥) (Gives table rule) → MatchOption o ((q : RowTree) → Gives x.spec.table x.rule q → ⊥) (Gives x.spec.table x.rule)
over_start Gives table rule x o e f h =
    subst (λ (z : Option GuardRule). MatchOption o ((q : RowTree) → Gives x.spec.table z q → ⊥) (Gives x.spec.table z)) f
    (subst (λ (z : SymbolTable). MatchOption o ((q : RowTree) → Gives z rule q → ⊥) (Gives z rule)) e h)

pub ready_over : {E : Type 0} (table : SymbolTable) (x : StartTree) (bank : Kept) (r : Result (Option RowTree) E) → table ≡ x.spec.table → IfOk r (λ o. IfSome o (IsPlain table)) → IfOk r (λ o. IfSome o IsSimplified) → IfOk r (λ o. IfSome o IsWithinRow) → IfOk r (λ o. IfSome o (λ q. All (Belongs bank) (row_terms q)))
    → IfOk r (λ o. IfSome o (IsReady x.spec.table bank))
ready_over table x bank (Err e) is p s w b = tt
ready_over table x bank (Ok None) is p s w b = tt
ready_over table x bank (Ok (Some q)) is p s w b = record { plain = subst (λ (z : SymbolTable). IsPlain z q) is p; simplified = s; within = w; belongs = b }
