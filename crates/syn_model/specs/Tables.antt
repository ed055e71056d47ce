-- For public contracts: what declarations put together: the table of symbols, and the names that are no symbol's and no sort's.
use Rattle.std.specs.Prelude.{◌⊎◌, ℕ, List, [], ◌∷◌, ◌++◌, None, Some, Contains, fold}
use Rattle.std.specs.List.{flat_map}
use Rattle.syn_term.specs.declared.sorts.Sort.{Sort}
use Rattle.syn_term.specs.declared.sorts.Sym.{Sym}
use Rattle.syn_term.specs.declared.sorts.Kind.TheVariants as kind
use Rattle.syn_term.specs.Symbols.{SymbolTable, IsTaken, first_symbols, with_symbol}
use Rattle.syn_term.specs.DeclaredSorts.{with_list, with_tuple}
use Rattle.syn_form.specs.declared.trees.Mono.{Mono}
use Rattle.syn_model.specs.declared.decl.Decl.{Decl}
use Rattle.syn_model.specs.declared.decl.Decl.TheVariants as decl

abbrev pub fun_symbol : List ℕ → List Sort → Sort → Sym
fun_symbol name args result = record { name = name; kind = kind.Fun; args = args; result = Some result }

abbrev pub rel_symbol : List ℕ → List Sort → Sym
rel_symbol name args = record { name = name; kind = kind.Rel; args = args; result = None }

-- an order is a relation on two lists of arguments
abbrev pub order_symbol : List ℕ → List Sort → Sym
order_symbol name args = record { name = name; kind = kind.Order; args = args ++ args; result = None }

-- the table after one more declaration
abbrev pub table_after : SymbolTable → Decl → SymbolTable
table_after table (decl.ListSort name nil cons item) = with_list table name nil cons item
table_after table (decl.TupleSort name make parts) = with_tuple table name make parts
table_after table (decl.Fun name args result) = with_symbol table (fun_symbol name args result)
table_after table (decl.Rel name args) = with_symbol table (rel_symbol name args)
table_after table (decl.Order name args measure) = with_symbol table (order_symbol name args)
table_after table _ = table

-- zero, successor, and what was declared
abbrev pub table_of : List Decl → SymbolTable
table_of = fold table_after first_symbols

abbrev pub other_name : Decl → List (List ℕ)
other_name (decl.Axiom name form) = name ∷ []
other_name (decl.Monotone name mono) = name ∷ []
other_name _ = []

abbrev pub axiom_name : Decl → List (List ℕ)
axiom_name (decl.Axiom name form) = name ∷ []
axiom_name _ = []

-- the names of axioms
abbrev pub axiom_names : List Decl → List (List ℕ)
axiom_names = flat_map axiom_name

-- the names of axioms and monotonicity rows
abbrev pub other_names : List Decl → List (List ℕ)
other_names = flat_map other_name

-- the name is declared
abbrev pub IsDeclared : List Decl → List ℕ → Type 0
IsDeclared ds name = IsTaken (table_of ds) name ⊎ Contains (other_names ds) name

abbrev pub mono_in : Decl → List Mono
mono_in (decl.Monotone name mono) = mono ∷ []
mono_in _ = []

-- the monotonicity rows
abbrev pub monos_of : List Decl → List Mono
monos_of = flat_map mono_in
