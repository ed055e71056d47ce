-- For private contracts: the variables that the arguments of a clause bring, from their words.
use Rattle.std.specs.Prelude.{ℕ, ◌+◌, List, [], ◌∷◌, ◌++◌, Option, None, Some, length}
use Rattle.syn_term.specs.declared.sorts.Sort.{Sort}
use Rattle.syn_term.specs.declared.sorts.Sym.{Sym}
use Rattle.syn_term.specs.declared.sorts.SymId.{SymId}
use Rattle.syn_term.specs.Symbols.{SymbolTable, symbol_at}
use Rattle.syn_form.specs.declared.syntax.HeadName.{HeadName}
use Rattle.syn_form.specs.declared.syntax.HeadName.TheVariants as head
use Rattle.syn_form.specs.declared.syntax.TermSyntax.{TermSyntax, out-TermSyntax}
use Rattle.syn_form.specs.declared.syntax.TermSyntax.TheOpen.{TermSyntax-F}
use Rattle.syn_form.specs.Elaboration.{numbered_var, symbol_named}
use Rattle.syn_form.specs.Scopes.{Named}
use Rattle.syn_term.specs.declared.sorts.Var.{Var}

abbrev pub named : List ℕ → Var → Named
named x v = record { text = x; var = v }

-- one name more, for the variable with the next number
abbrev pub with_next : List Named → List ℕ → Sort → List Named
with_next names x s = names ++ named x (numbered_var (length names + 1) s) ∷ []

-- a name that is no symbol's is the next variable's
abbrev pub name_next : List Named → Sort → List ℕ → Option SymId → List Named
name_next names s x None = with_next names x s
name_next names s x (Some f) = names

abbrev pub head_next : SymbolTable → List Named → Sort → HeadName → List Named
head_next table names s (head.Name x) = name_next names s x (symbol_named table x)
head_next table names s (head.Skolem x) = names

-- names one after another, where each item of its sort brings some
abbrev pub each_next : (List Named → Sort → TermSyntax → List Named) → List Named → List Sort → List TermSyntax → List Named
each_next next names (s ∷ ss) (p ∷ ps) = each_next next (next names s p) ss ps
each_next next names _ _ = names

abbrev pub part_at : SymbolTable → List Named → Sort → TermSyntax-F TermSyntax → List Named
part_at table names s (TermSyntax-F.Alone h) = head_next table names s h
part_at table names s _ = names

-- what stands behind a symbol, where a variable of this sort may stand
abbrev pub part_next : SymbolTable → List Named → Sort → TermSyntax → List Named
part_next table names s p = part_at table names s (out-TermSyntax p)

abbrev pub sorts_of_symbol : Option Sym → List Sort
sorts_of_symbol None = []
sorts_of_symbol (Some f) = f.args

-- the sorts that a symbol takes
abbrev pub sorts_taken : SymbolTable → Option SymId → List Sort
sorts_taken table None = []
sorts_taken table (Some f) = sorts_of_symbol (symbol_at table f)

abbrev pub sorts_of_head : SymbolTable → HeadName → List Sort
sorts_of_head table (head.Name x) = sorts_taken table (symbol_named table x)
sorts_of_head table (head.Skolem x) = []

abbrev pub pattern_at : SymbolTable → List Named → Sort → TermSyntax-F TermSyntax → List Named
pattern_at table names s (TermSyntax-F.Alone h) = head_next table names s h
pattern_at table names s (TermSyntax-F.Applied h args) = each_next (part_next table) names (sorts_of_head table h) args
pattern_at table names s _ = names

-- an argument of this sort is a variable, or a symbol with variables
abbrev pub pattern_next : SymbolTable → List Named → Sort → TermSyntax → List Named
pattern_next table names s p = pattern_at table names s (out-TermSyntax p)

-- the names that the arguments of a clause bring, by the sorts of its heading
abbrev pub clause_names : SymbolTable → List Sort → List TermSyntax → List Named
clause_names table sorts patterns = each_next (pattern_next table) [] sorts patterns
