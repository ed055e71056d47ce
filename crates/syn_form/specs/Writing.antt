-- For public contracts: the tables whose symbols have texts of their own.
use Rattle.std.specs.Prelude.{◌≡◌, ◌≤◌, Bool, true, All, length}
use Rattle.syn_term.specs.declared.sorts.Kind.{Kind}
use Rattle.syn_term.specs.declared.sorts.Kind.TheVariants as kind
use Rattle.syn_term.specs.declared.sorts.Sym.{Sym}
use Rattle.syn_term.specs.Symbols.{SymbolTable, succ_symbol, zero_symbol}
use Rattle.syn_form.specs.Scopes.{TextScope}

-- in rows or in a file, a symbol of this kind has a text of its own: only `0` is zero and only `s` is the successor, a relation
-- and an order have arguments, and a Skolem symbol is written in rows alone
abbrev pub CanWrite : Bool → Kind → Sym → Type 0
CanWrite rows kind.Zero sym = sym ≡ zero_symbol
CanWrite rows kind.Succ sym = sym ≡ succ_symbol
CanWrite rows kind.Rel sym = 1 ≤ length sym.args
CanWrite rows kind.Order sym = 1 ≤ length sym.args
CanWrite rows kind.Skolem sym = rows ≡ true
CanWrite rows _ sym = Unit {0}

-- each symbol of the table has a text of its own
abbrev pub CanWriteTable : Bool → SymbolTable → Type 0
CanWriteTable rows table = All (λ sym. CanWrite rows sym.kind sym) table.syms

-- and so has each symbol of the scope's table
abbrev pub CanWriteAll : TextScope → Type 0
CanWriteAll scope = CanWriteTable scope.rows scope.table
