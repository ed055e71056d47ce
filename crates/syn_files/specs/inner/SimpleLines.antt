-- For private contracts: what the words behind the first of a line declare, read from the left, where no expression stands in it.
use Rattle.std.specs.Prelude.{ℕ, Bool, List, [], ◌∷◌, Option, None, Some, codes, if◌then◌else◌}
use Rattle.std.specs.Option.{option_map}
use Rattle.std.specs.Str.{bytes_eq}
use Rattle.syn_term.specs.declared.sorts.Sort.{Sort}
use Rattle.syn_term.specs.declared.sorts.SymId.{SymId}
use Rattle.syn_form.specs.declared.trees.Mono.{Mono}
use Rattle.syn_term.specs.Symbols.{SymbolTable}
use Rattle.syn_term.specs.Tokens.{Word}
use Rattle.syn_model.specs.declared.decl.Decl.{Decl}
use Rattle.syn_model.specs.declared.decl.Decl.TheVariants as decl
use Rattle.syn_model.specs.declared.heads.Param.{Param}
use Rattle.syn_files.specs.inner.Params.{param}
use Rattle.syn_files.specs.inner.Firsts.{◌>>=◌, Got, got, direction_first, ended, name_first, number_first, sign_first, sort_first, sorts_first, symbol_first}

-- NAME, and nothing behind it
abbrev pub title_line : List Word → Option (List ℕ)
title_line ws = name_first ws >>= λ n. ended n.left n.value

-- c(E
abbrev pub cons_first : SymbolTable → List Word → Option (Got Param)
cons_first table ws = name_first ws >>= λ c. sign_first (codes "(") c.left >>= λ o. option_map (λ e. got (param c.value e.value) e.left) (sort_first table o)

-- , L) at the end, with this name
abbrev pub again_line : List ℕ → List Word → Option (List ℕ)
again_line name ws =
    sign_first (codes ",") ws >>= λ m. name_first m >>= λ l. sign_first (codes ")") l.left >>= λ d. if bytes_eq l.value name then ended d name else None

abbrev pub list_of : List ℕ → Param → List ℕ → Decl
list_of nil c name = decl.ListSort name nil c.name c.sort

-- c(E, L), behind `sort L = n |`
abbrev pub list_line : SymbolTable → List ℕ → List ℕ → List Word → Option Decl
list_line table name nil ws = cons_first table ws >>= λ c. option_map (list_of nil c.value) (again_line name c.left)

-- (S1, .., Sk), behind `sort T = c`
abbrev pub tuple_line : SymbolTable → List ℕ → List ℕ → List Word → Option Decl
tuple_line table name make ws = sorts_first table ws >>= λ s. ended s.left (decl.TupleSort name make s.value)

abbrev pub list_or_tuple : SymbolTable → List ℕ → List ℕ → List Word → Option (List Word) → Option Decl
list_or_tuple table name first ws None = tuple_line table name first ws
list_or_tuple table name first ws (Some behind) = list_line table name first behind

-- L = n | c(E, L), or T = c(S1, .., Sk)
abbrev pub sort_line : SymbolTable → List Word → Option Decl
sort_line table ws =
    name_first ws >>= λ n. sign_first (codes "=") n.left >>= λ e. name_first e >>= λ f. list_or_tuple table n.value f.value f.left (sign_first (codes "|") f.left)

-- : S at the end
abbrev pub value_line : SymbolTable → List Word → Option Sort
value_line table ws = sign_first (codes ":") ws >>= λ c. sort_first table c >>= λ r. ended r.left r.value

-- (S1, .., Sn): S, behind `fun f`
abbrev pub fun_behind : SymbolTable → List ℕ → List Word → Option Decl
fun_behind table name ws = sorts_first table ws >>= λ a. option_map (decl.Fun name a.value) (value_line table a.left)

-- f(S1, .., Sn): S
abbrev pub fun_line : SymbolTable → List Word → Option Decl
fun_line table ws = name_first ws >>= λ n. fun_behind table n.value n.left

-- (S1, .., Sn), behind `rel r`
abbrev pub rel_behind : SymbolTable → List ℕ → List Word → Option Decl
rel_behind table name ws = sorts_first table ws >>= λ a. ended a.left (decl.Rel name a.value)

-- r(S1, .., Sn)
abbrev pub rel_line : SymbolTable → List Word → Option Decl
rel_line table ws = name_first ws >>= λ n. rel_behind table n.value n.left

-- the name of an axiom or a monotonicity row with the words behind its colon
abbrev pub entry_first : List Word → Option (Got (List ℕ))
entry_first ws = name_first ws >>= λ n. option_map (λ b. got n.value b) (sign_first (codes ":") n.left)

-- nothing, or a relation and nothing behind it
abbrev pub given_first : SymbolTable → List Word → Option (Option SymId)
given_first table [] = Some None
given_first table (w ∷ ws) = symbol_first table (w ∷ ws) >>= λ f. ended f.left (Some f.value)

abbrev pub mono_of : SymId → Bool → SymId → ℕ → Option SymId → Mono
mono_of r up f k given = record { rel = r; up = up; sym = f; place = k; gives = given }

-- REL up SYM K, and its kin
abbrev pub row_line : SymbolTable → List Word → Option Mono
row_line table ws =
    symbol_first table ws >>= λ r. direction_first r.left >>= λ u. symbol_first table u.left >>= λ f. number_first f.left >>= λ k.
    option_map (mono_of r.value u.value f.value k.value) (given_first table k.left)

-- NAME: REL up SYM K, and its kin
abbrev pub mono_line : SymbolTable → List Word → Option Decl
mono_line table ws = entry_first ws >>= λ n. option_map (decl.Monotone n.value) (row_line table n.left)
