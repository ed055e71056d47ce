-- For public contracts: each rule gives one row at most, whatever renaming and whatever most general unifier is taken. The rows are
-- plain, and the guard rule is one of the table.
use Rattle.std.specs.Prelude.{◌≡◌, ℕ, List, Option, IfSome}
use Rattle.syn_term.specs.Symbols.{SymbolTable}
use Rattle.syn_row.specs.declared.direction.Dir.{Dir}
use Rattle.syn_row.specs.declared.guards.GuardRule.{GuardRule}
use Rattle.syn_row.specs.Guards.{IsGuardRule}
use Rattle.syn_row.specs.Rows.{IsPlain, RowTree, bare_row}
use Rattle.syn_resolve.specs.Replacement.{EqualGives}
use Rattle.syn_resolve.specs.Resolution.{ReflexGives, ResolveGives}
use Rattle.syn_resolve.specs.Splitting.{DualGives, SplitGives}

pub record RuleLaws : Type 0 where
  pub split_one : (r : RowTree) (i : ℕ) (p q : RowTree) → SplitGives r i p → SplitGives r i q → bare_row p ≡ bare_row q
  pub dual_one : (r p q : RowTree) → DualGives r p → DualGives r q → bare_row p ≡ bare_row q
  pub reflex_one : (table : SymbolTable) (rule : Option GuardRule) (r : RowTree) (at : List ℕ) (p q : RowTree) → IfSome rule (IsGuardRule table) → IsPlain table r → ReflexGives table rule r at p → ReflexGives table rule r at q → bare_row p ≡ bare_row q
  pub resolve_one : (table : SymbolTable) (rule : Option GuardRule) (r s : RowTree) (ps qs : List (List ℕ)) (p q : RowTree) → IfSome rule (IsGuardRule table) → IsPlain table r → IsPlain table s → ResolveGives table rule r ps s qs p → ResolveGives table rule r ps s qs q → bare_row p ≡ bare_row q
  pub equal_one : (table : SymbolTable) (rule : Option GuardRule) (r : RowTree) (at : List ℕ) (way : Dir) (s : RowTree) (place : List ℕ) (p q : RowTree) → IfSome rule (IsGuardRule table) → IsPlain table r → IsPlain table s → EqualGives table rule r at way s place p → EqualGives table rule r at way s place q → bare_row p ≡ bare_row q
