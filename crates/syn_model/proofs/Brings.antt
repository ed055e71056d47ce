-- A table with the symbol of a relation or an order is the table after its declaration.
use Rattle.std.proofs.Common.{◌≡◌, ℕ, List, Bool, Result, IfOk, sym, ◌∙◌, ap, subst}
use Rattle.syn_term.specs.declared.memory.NoMemory.{NoMemory}
use Rattle.syn_term.specs.declared.sorts.Sort.{Sort}
use Rattle.syn_term.specs.declared.sorts.Sym.{Sym}
use Rattle.syn_term.specs.Symbols.{SymbolTable, MayAdd, with_symbol}
use Rattle.syn_term.specs.Terms.{TermTree}
use Rattle.syn_model.specs.declared.decl.Decl.{Decl}
use Rattle.syn_model.specs.declared.decl.Decl.TheVariants as decl
use Rattle.syn_model.specs.Theories.{MayBring, Steps}
use Rattle.syn_model.specs.Tables.{order_symbol, rel_symbol, table_after}

module _ (before after : SymbolTable) (r : Result Bool NoMemory) where
  abbrev Adds : Sym → Type 0
  Adds s = IfOk r (Steps before after (with_symbol before s) (MayAdd before s))

  abbrev Brings : Decl → Type 0
  Brings d = IfOk r (Steps before after (table_after before d) (MayBring before d))

  pub added_as : (s t : Sym) → s ≡ t → Adds s → Adds t
  added_as s t is h = subst Adds is h

  pub brings_rel : (d : Decl) (name x : List ℕ) (args y : List Sort) → d ≡ decl.Rel name args → x ≡ name → y ≡ args → Adds (rel_symbol x y) → Brings d
  brings_rel d name x args y e n a h = subst Brings (sym e) (subst Adds (ap (λ (z : List ℕ). rel_symbol z y) n ∙ ap (rel_symbol name) a) h)

  pub brings_order : (d : Decl) (name x : List ℕ) (args y : List Sort) (measure : TermTree) → d ≡ decl.Order name args measure → x ≡ name → y ≡ args → Adds (order_symbol x y) → Brings d
  brings_order d name x args y measure e n a h = subst Brings (sym e) (subst Adds (ap (λ (z : List ℕ). order_symbol z y) n ∙ ap (order_symbol name) a) h)
