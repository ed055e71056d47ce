-- Each symbol of a theory's table has a text of its own, and so has each that a head adds.
use Rattle.std.proofs.Common.{Bool, List, [], ◌∷◌, refl, sym, subst, arith, length-append}
use Rattle.std.proofs.lemmas.List.Elements.{All-append, All-cons, All-nil}
use Rattle.std.proofs.lemmas.List.Sums.{fold-append}
use Rattle.syn_term.specs.declared.sorts.Sym.{Sym}
use Rattle.syn_term.specs.Symbols.{SymbolTable, first_symbols, succ_symbol, with_symbol, zero_symbol}
use Rattle.syn_term.specs.DeclaredSorts.{cons_symbol, list_sort, make_symbol, nil_symbol, tuple_sort, with_sort}
use Rattle.syn_form.specs.Writing.{CanWrite, CanWriteTable}
use Rattle.syn_model.specs.declared.decl.Decl.{Decl}
use Rattle.syn_model.specs.declared.decl.Decl.TheVariants as decl
use Rattle.syn_model.specs.Declaring.{Asks, IsTheory, nothing, one_more}
use Rattle.syn_model.specs.Heads.{HeadTree, Param, input_symbol, program_symbol, with_head, with_inputs}
use Rattle.syn_model.specs.Tables.{fun_symbol, order_symbol, rel_symbol, table_after, table_of}

module _ (rows : Bool) where
  abbrev HasText : Sym → Type 0
  HasText s = CanWrite rows s.kind s

  written_more : (t : SymbolTable) (s : Sym) → CanWriteTable rows t → HasText s → CanWriteTable rows (with_symbol t s)
  written_more t s h w = All-append HasText t.syms (s ∷ []) h (All-cons HasText s [] w (All-nil HasText))

  written_first : CanWriteTable rows first_symbols
  written_first = All-cons HasText zero_symbol (succ_symbol ∷ []) refl (All-cons HasText succ_symbol [] refl (All-nil HasText))

  written_after : (ds : List Decl) (t : SymbolTable) (d : Decl) → Asks ds d → CanWriteTable rows t → CanWriteTable rows (table_after t d)
  written_after ds t (decl.ListSort name nil cons item) a h = written_more (with_symbol (with_sort t (list_sort t name item)) (nil_symbol t nil)) (cons_symbol t cons item) (written_more (with_sort t (list_sort t name item)) (nil_symbol t nil) h tt) tt
  written_after ds t (decl.TupleSort name make parts) a h = written_more (with_sort t (tuple_sort t name parts)) (make_symbol t make parts) h tt
  written_after ds t (decl.Fun name args result) a h = written_more t (fun_symbol name args result) h tt
  written_after ds t (decl.Rel name args) a h = written_more t (rel_symbol name args) h a.few.0
  written_after ds t (decl.Order name args measure) a h = let few = a.few.0 in let both = length-append args args in written_more t (order_symbol name args) h (omega arith)
  written_after ds t (decl.FunClause args body) a h = h
  written_after ds t (decl.RelClause args body) a h = h
  written_after ds t (decl.Axiom name form) a h = h
  written_after ds t (decl.Monotone name mono) a h = h

  pub theory_written : (ds : List Decl) → IsTheory ds → CanWriteTable rows (table_of ds)
  theory_written _ nothing = written_first
  theory_written _ (one_more ds d before may) = subst (CanWriteTable rows) (sym (fold-append table_after first_symbols ds (d ∷ []))) (written_after ds (table_of ds) d may.asks (theory_written ds before))

  inputs_written : (t : SymbolTable) (ps : List Param) → CanWriteTable rows t → CanWriteTable rows (with_inputs t ps)
  inputs_written t [] h = h
  inputs_written t (p ∷ ps) h = inputs_written (with_symbol t (input_symbol p)) ps (written_more t (input_symbol p) h tt)

  pub head_written : (t : SymbolTable) (head : HeadTree) → CanWriteTable rows t → CanWriteTable rows (with_head t head)
  head_written t head h = inputs_written (with_symbol t (program_symbol head)) head.inputs (written_more t (program_symbol head) h tt)
