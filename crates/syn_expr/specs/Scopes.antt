-- For public contracts: a scope as it is lent, as what a text may speak of.
use Rattle.std.specs.Prelude.{◌≡◌, false, List, String, All, map, string_bytes}
use Rattle.syn_term.specs.declared.sorts.Var.{Var}
use Rattle.syn_form.specs.Scopes.{Named, TextScope}
use Rattle.syn_expr.specs.declared.scope.Scope.{Scope}

-- names with their variables, as a scope has them
abbrev pub listed : {Z : Type 0} → List (String Z × Var) → List Named
listed = map (λ e. record { text = string_bytes e.0; var = e.1 })

abbrev pub spoken : Scope → TextScope
spoken scope = record { table = scope.syms.now; names = listed scope.names.now; rows = scope.rows }

-- a scope of a file whose variables have number 0, so that the numbers from 1 on are free for binders
abbrev pub LeavesNumbersToBinders : TextScope → Type 0
LeavesNumbersToBinders scope = (scope.rows ≡ false) × All (λ n. n.var.number ≡ 0) scope.names
