-- For private contracts: names with their sorts at the front of words.
use Rattle.std.specs.Prelude.{ℕ, ◌+◌, List, [], ◌∷◌, Option, None, Some, codes, if◌then◌else◌}
use Rattle.std.specs.Option.{option_map}
use Rattle.syn_term.specs.declared.sorts.Sort.{Sort}
use Rattle.syn_term.specs.DeclaredSorts.{sort_named}
use Rattle.syn_term.specs.Symbols.{SymbolTable}
use Rattle.syn_term.specs.Tokens.{Word}
use Rattle.syn_form.specs.Scopes.{Named}
use Rattle.syn_model.specs.declared.heads.Param.{Param}
use Rattle.syn_files.specs.inner.Firsts.{◌>>=◌, Got, got, is_sign, name_first, name_of, sign_first, sort_first}

abbrev pub param : List ℕ → Sort → Param
param x s = record { name = x; sort = s }

-- x: S
abbrev pub param_first : SymbolTable → List Word → Option (Got Param)
param_first table ws = name_first ws >>= λ n. sign_first (codes ":") n.left >>= λ c. option_map (λ s. got (param n.value s.value) s.left) (sort_first table c)

-- what is read of a name with its sort, and what comes next
pub data Awaits : Type 0 where
  a_name : Awaits
  a_colon : List ℕ → Awaits
  a_sort : List ℕ → Awaits
  an_end : Param → Awaits

abbrev pub with_param : Param → Got (List Param) → Got (List Param)
with_param p g = got (p ∷ g.value) g.left

-- names with their sorts and commas between, up to a closing bracket
abbrev pub params_on : SymbolTable → Awaits → List Word → Option (Got (List Param))
params_on table a [] = None
params_on table a_name (w ∷ ws) = name_of w >>= λ x. params_on table (a_colon x) ws
params_on table (a_colon x) (w ∷ ws) = if is_sign (codes ":") w then params_on table (a_sort x) ws else None
params_on table (a_sort x) (w ∷ ws) = (name_of w >>= sort_named table) >>= λ s. params_on table (an_end (param x s)) ws
params_on table (an_end p) (w ∷ ws) =
    if is_sign (codes ")") w then Some (got (p ∷ []) ws) else (if is_sign (codes ",") w then option_map (with_param p) (params_on table a_name ws) else None)

-- names with their sorts in brackets
abbrev pub params_first : SymbolTable → List Word → Option (Got (List Param))
params_first table ws = sign_first (codes "(") ws >>= params_on table a_name

-- a parameter as the name of a variable with this number
abbrev pub numbered_name : ℕ → Param → Named
numbered_name n p = record { text = p.name; var = record { number = n; sort = p.sort } }

-- each of them so, numbered from here on
abbrev pub numbered_names : ℕ → List Param → List Named
numbered_names n [] = []
numbered_names n (p ∷ ps) = numbered_name n p ∷ numbered_names (n + 1) ps
