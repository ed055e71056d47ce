-- For private contracts: steps of the making of trees from syntax trees.
use Rattle.std.specs.Prelude.{ℕ, ◌+◌, List, [], ◌∷◌, Option, None, codes, map, if◌then◌else◌}
use Rattle.std.specs.Option.{option_and_then, option_map}
use Rattle.syn_term.specs.Symbols.{SymbolTable}
use Rattle.syn_term.specs.Terms.{TermTree}
use Rattle.syn_term.specs.declared.sorts.Var.{Var}
use Rattle.syn_form.specs.declared.syntax.BinderSyntax.{BinderSyntax}
use Rattle.syn_form.specs.declared.trees.Binder.{Binder}
use Rattle.syn_form.specs.Elaboration.{binder_sort, is_free, numbered_var, sorted_application, symbol_named}
use Rattle.syn_form.specs.Quantified.{bare_qform}
use Rattle.syn_form.specs.Scopes.{TextScope}
use Rattle.syn_form.specs.Trees.{OutTree, QFormTree, bare_out}

-- `s` over a term
abbrev pub next_tree : SymbolTable → TermTree → Option TermTree
next_tree table t = option_and_then (sorted_application table (t ∷ [])) (symbol_named table (codes "s"))

-- the variable of a binder, where its name may be bound and its sort is there
abbrev pub binder_var : TextScope → ℕ → BinderSyntax → Option Var
binder_var scope n b = if is_free scope b.name then option_map (numbered_var n) (binder_sort scope.table b.sort) else None

-- the binder with its variable, and the number of the next one
abbrev pub numbered_binder : TextScope → ℕ → BinderSyntax → Option (Binder × ℕ)
numbered_binder scope n b = option_map (λ v. (record { var = v; name = b.name }, n + 1)) (binder_var scope n b)

-- what was read, its places left out, and the number of the next binder
abbrev pub bare_reading : QFormTree × ℕ → QFormTree × ℕ
bare_reading r = (bare_qform r.0, r.1)

abbrev pub bare_readings : List QFormTree × ℕ → List QFormTree × ℕ
bare_readings r = (map bare_qform r.0, r.1)

-- the two arms of a choice, their places left out
abbrev pub bare_arms : OutTree × OutTree → OutTree × OutTree
bare_arms r = (bare_out r.0, bare_out r.1)

-- the two arms, where both are there
abbrev pub both_there : Option OutTree → Option OutTree → Option (OutTree × OutTree)
both_there u v = option_and_then (λ x. option_map (λ y. (x, y)) v) u
