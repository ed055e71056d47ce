-- Private: the sort of the values that a symbol makes.
use Rattle.std.specs.Prelude.{◌≡◌, Some}
use Rattle.std.specs.Option.{option_and_then}
use Rattle.syn_term.specs.declared.sorts.Sort.{Sort}
use Rattle.syn_term.specs.declared.sorts.SymId.{SymId}
use Rattle.syn_term.specs.Symbols.{SymbolTable, symbol_at}

abbrev pub IsValued : SymbolTable → SymId → Sort → Type 0
IsValued table f sort = option_and_then (λ s. s.result) (symbol_at table f) ≡ Some sort
