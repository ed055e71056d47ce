-- For public contracts: the one text that is printed for a program.
use Rattle.std.specs.Prelude.{ℕ, ◌+◌, List, [], ◌∷◌, ◌++◌, Option, None, Some, codes, decimal, if◌then◌else◌, nat_lt, slice_get}
use Rattle.std.specs.Option.{option_map_or}
use Rattle.syn_term.specs.declared.sorts.Sort.{Sort}
use Rattle.syn_term.specs.declared.sorts.Sort.TheVariants as sort
use Rattle.syn_term.specs.declared.sorts.Sym.{Sym}
use Rattle.syn_term.specs.declared.sorts.NamedSort.{NamedSort}
use Rattle.syn_term.specs.declared.sorts.Kind.{Kind}
use Rattle.syn_term.specs.declared.sorts.Kind.TheVariants as kind
use Rattle.syn_term.specs.declared.term.Node.{fold-Node}
use Rattle.syn_term.specs.declared.term.Node.TheOpen.{Node-F}
use Rattle.syn_term.specs.Symbols.{SymbolTable, symbol_at}
use Rattle.syn_term.specs.Terms.{TermTree}
use Rattle.syn_app.specs.Bounds.{largest_numeral}
use Rattle.syn_app.specs.declared.trees.Out.TheVariants as out
use Rattle.syn_app.specs.Trees.{OutTree, Declared, TheoryTree, ProgramTree, program_symbols}

-- the text of a term, and the number that the text is, where it is one
pub record Printed : Type 0 where
  pub text : List ℕ
  pub number : Option ℕ

-- the texts one after another, with this text between
abbrev pub joined : List ℕ → List (List ℕ) → List ℕ
joined between [] = []
joined between (t ∷ []) = t
joined between (t ∷ u ∷ more) = t ++ between ++ joined between (u ∷ more)

abbrev pub texts_of : List Printed → List (List ℕ)
texts_of [] = []
texts_of (p ∷ ps) = p.text ∷ texts_of ps

-- `name`, or `name(t, .., u)`
abbrev pub applied_text : List ℕ → List Printed → Printed
applied_text name [] = record { text = name; number = None }
applied_text name (p ∷ ps) = record { text = name ++ codes "(" ++ joined (codes ", ") (texts_of (p ∷ ps)) ++ codes ")"; number = None }

-- a number up to `largest_numeral`
abbrev pub number_text : ℕ → Printed
number_text n = record { text = decimal n; number = Some n }

-- the successor of a number below `largest_numeral` is the next number; any other is `s(..)`
abbrev pub successor_text : List ℕ → Printed → Option ℕ → Printed
successor_text name p None = applied_text name (p ∷ [])
successor_text name p (Some n) = if nat_lt n largest_numeral then number_text (n + 1) else applied_text name (p ∷ [])

abbrev pub symbol_text : Kind → List ℕ → List Printed → Printed
symbol_text kind.Zero name [] = number_text 0
symbol_text kind.Succ name (p ∷ []) = successor_text name p p.number
symbol_text _ name ps = applied_text name ps

abbrev pub symbol_printed : Option Sym → List Printed → Printed
symbol_printed None ps = applied_text [] ps
symbol_printed (Some s) ps = symbol_text s.kind s.name ps

-- a variable prints as the row variable `?n`
abbrev pub print_step : SymbolTable → Node-F Printed → Printed
print_step table (Node-F.Var place v) = record { text = codes "?" ++ decimal v.number; number = None }
print_step table (Node-F.App place f args) = symbol_printed (symbol_at table f) args

-- the largest subterm that is k times `s` over `0` prints as the number k up to 1,000; above, as `s(..)` over 1000
abbrev pub printed_term : SymbolTable → TermTree → List ℕ
printed_term table t = (fold-Node Printed (print_step table) t).text

abbrev pub printed_out : SymbolTable → OutTree → List ℕ
printed_out table (out.Give t) = printed_term table t

abbrev sort_name : NamedSort → List ℕ
sort_name s = s.name

-- `nat`, or the name of the declared sort
abbrev pub printed_sort : SymbolTable → Sort → List ℕ
printed_sort table sort.Nat = codes "nat"
printed_sort table (sort.Named k) = option_map_or sort_name (slice_get table.sorts k) []

-- `name: sort`
abbrev pub printed_declared : SymbolTable → List Declared → List (List ℕ)
printed_declared table [] = []
printed_declared table (d ∷ ds) = (d.name ++ codes ": " ++ printed_sort table d.sort) ∷ printed_declared table ds

-- `program name(input: sort, ..): sort`, and the body in a line of its own after two spaces
abbrev pub printed_program : TheoryTree → ProgramTree → List ℕ
printed_program theory p =
    let table = program_symbols theory p in
    codes "program " ++ p.name ++ codes "(" ++ joined (codes ", ") (printed_declared table p.inputs) ++ codes "): " ++ printed_sort table p.result ++ codes "\n  " ++ printed_out table p.body ++ codes "\n"
