-- Numbers that are read are small, so values have room for the turns of the tables.
use Rattle.std.proofs.Common.{◌≡◌, ℕ, ◌+◌, ◌-◌, ◌^◌, ◌≤◌, List, [], ◌∷◌, ◌++◌, All, sym, subst, arith}
use Rattle.std.proofs.lemmas.List.Elements.{All-append, All-cons, All-weaker}
use Rattle.syn_term.specs.declared.sorts.Sort.{Sort}
use Rattle.syn_term.specs.Symbols.{SymbolTable}
use Rattle.syn_value.specs.declared.tree.ValueTree.{ValueTree}
use Rattle.syn_value.specs.Texts.{IsValueText, greatest_number}
use Rattle.syn_value.specs.Values.{FitsTurns, numbers_in}
use Rattle.syn_eval.specs.Ending.{AllFit}

small_fits : (n : ℕ) → n ≤ greatest_number → n + 2 ^ 32 ≤ 2 ^ 64 - 1
small_fits n le = omega arith

pub read_fits : (table : SymbolTable) (sort : Sort) (bytes : List ℕ) (v : ValueTree) → IsValueText table sort bytes v → FitsTurns v (2 ^ 32)
read_fits table sort bytes v h = All-weaker (λ n. n ≤ greatest_number) (λ n. n + 2 ^ 32 ≤ 2 ^ 64 - 1) small_fits (numbers_in v) h.small

pub more_fit : (vs us : List ValueTree) (v : ValueTree) → us ≡ vs ++ v ∷ [] → AllFit (2 ^ 32) vs → FitsTurns v (2 ^ 32) → AllFit (2 ^ 32) us
more_fit vs us v is h k =
    subst (AllFit (2 ^ 32)) (sym is) (All-append (λ w. FitsTurns w (2 ^ 32)) vs (v ∷ []) h (All-cons (λ w. FitsTurns w (2 ^ 32)) v [] k (λ i d lt. absurd (omega arith))))

less : (turns : ℕ) → turns ≤ 2 ^ 32 → (n : ℕ) → n + 2 ^ 32 ≤ 2 ^ 64 - 1 → n + turns ≤ 2 ^ 64 - 1
less turns le n h = omega arith

fewer_turns : (turns : ℕ) → turns ≤ 2 ^ 32 → (v : ValueTree) → FitsTurns v (2 ^ 32) → FitsTurns v turns
fewer_turns turns le v h = All-weaker (λ n. n + 2 ^ 32 ≤ 2 ^ 64 - 1) (λ n. n + turns ≤ 2 ^ 64 - 1) (less turns le) (numbers_in v) h

pub less_fit : (turns : ℕ) (vs us : List ValueTree) → us ≡ vs → turns ≤ 2 ^ 32 → AllFit (2 ^ 32) vs → AllFit turns us
less_fit turns vs us is le h = subst (AllFit turns) (sym is) (All-weaker (λ v. FitsTurns v (2 ^ 32)) (λ v. FitsTurns v turns) (fewer_turns turns le) vs h)
