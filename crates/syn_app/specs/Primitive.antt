-- For public contracts: programs of primitive symbols: what a program may be made of.
use Rattle.std.specs.Prelude.{◌≡◌, Bool, true, false, ◌&&◌, Option, None, Some}
use Rattle.std.specs.List.{list_all}
use Rattle.syn_term.specs.declared.sorts.Sym.{Sym}
use Rattle.syn_term.specs.declared.sorts.Kind.{Kind}
use Rattle.syn_term.specs.declared.sorts.Kind.TheVariants as kind
use Rattle.syn_term.specs.declared.term.Node.{fold-Node}
use Rattle.syn_term.specs.declared.term.Node.TheOpen.{Node-F}
use Rattle.syn_term.specs.Symbols.{SymbolTable, symbol_at}
use Rattle.syn_term.specs.Terms.{TermTree}
use Rattle.syn_app.specs.declared.trees.Out.TheVariants as out
use Rattle.syn_app.specs.Trees.{OutTree, TheoryTree, ProgramTree, program_symbols}

-- a constructor or an input; no specification lists a primitive or names an order yet
abbrev pub primitive_kind : Kind → Bool
primitive_kind kind.Zero = true
primitive_kind kind.Succ = true
primitive_kind kind.Nil = true
primitive_kind kind.Cons = true
primitive_kind kind.Tuple = true
primitive_kind kind.Input = true
primitive_kind _ = false

abbrev pub primitive_symbol : Option Sym → Bool
primitive_symbol None = false
primitive_symbol (Some s) = primitive_kind s.kind

abbrev pub primitive_step : SymbolTable → Node-F Bool → Bool
primitive_step table (Node-F.Var place v) = true
primitive_step table (Node-F.App place f args) = primitive_symbol (symbol_at table f) && list_all (λ b. b) args

-- each symbol of the term is primitive; variables are
abbrev pub IsPrimitiveTerm : SymbolTable → TermTree → Type 0
IsPrimitiveTerm table t = fold-Node Bool (primitive_step table) t ≡ true

abbrev pub IsPrimitiveOut : SymbolTable → OutTree → Type 0
IsPrimitiveOut table (out.Give t) = IsPrimitiveTerm table t

-- each symbol of the program's body is primitive
abbrev pub IsPrimitiveProgram : TheoryTree → ProgramTree → Type 0
IsPrimitiveProgram theory p = IsPrimitiveOut (program_symbols theory p) p.body
