-- The table of a theory is well formed, and begins the table of each theory that has more declarations.
use Rattle.std.proofs.Common.{◌≤◌, List, [], ◌∷◌, ◌++◌, All, fold, length, sym, subst, arith, length-append}
use Rattle.std.proofs.lemmas.List.Elements.{All-append, All-cons, All-nil}
use Rattle.std.proofs.lemmas.List.Sums.{fold-append}
use Rattle.syn_term.specs.declared.sorts.Sym.{Sym}
use Rattle.syn_term.specs.DeclaredSorts.{IsTable, cons_symbol, list_sort, make_symbol, nil_symbol, tuple_sort, with_sort}
use Rattle.syn_term.specs.Symbols.{IsPrefix, SymbolTable, first_symbols, succ_symbol, with_symbol, zero_symbol}
use Rattle.syn_term.proofs.SymbolLaws.{IsPrefix-refl, IsPrefix-trans, IsPrefix-with_list, IsPrefix-with_symbol, IsPrefix-with_tuple}
use Rattle.syn_term.proofs.TableLaws.{table_added, table_first, table_list, table_tuple}
use Rattle.syn_model.specs.declared.decl.Decl.{Decl}
use Rattle.syn_model.specs.declared.decl.Decl.TheVariants as decl
use Rattle.syn_model.specs.Declaring.{Asks, IsTheory, nothing, one_more}
use Rattle.syn_model.specs.Tables.{fun_symbol, order_symbol, rel_symbol, table_after, table_of}
use Rattle.syn_model.specs.Theories.{MayBring}

after_grows : (t : SymbolTable) (d : Decl) → IsPrefix t (table_after t d)
after_grows t (decl.ListSort name nil cons item) = IsPrefix-with_list t name nil cons item
after_grows t (decl.TupleSort name make parts) = IsPrefix-with_tuple t name make parts
after_grows t (decl.Fun name args result) = IsPrefix-with_symbol t (fun_symbol name args result)
after_grows t (decl.Rel name args) = IsPrefix-with_symbol t (rel_symbol name args)
after_grows t (decl.Order name args measure) = IsPrefix-with_symbol t (order_symbol name args)
after_grows t (decl.FunClause args body) = IsPrefix-refl t
after_grows t (decl.RelClause args body) = IsPrefix-refl t
after_grows t (decl.Axiom name form) = IsPrefix-refl t
after_grows t (decl.Monotone name mono) = IsPrefix-refl t

all_grow : (t : SymbolTable) (ds : List Decl) → IsPrefix t (fold table_after t ds)
all_grow t [] = IsPrefix-refl t
all_grow t (d ∷ ds) = IsPrefix-trans t (table_after t d) (fold table_after (table_after t d) ds) (after_grows t d) (all_grow (table_after t d) ds)

-- more declarations only add to the table
pub table_grows : (before more : List Decl) → IsPrefix (table_of before) (table_of (before ++ more))
table_grows before more = subst (IsPrefix (table_of before)) (sym (fold-append table_after first_symbols before more)) (all_grow (table_of before) more)

after_table : (t : SymbolTable) (d : Decl) → IsTable t → MayBring t d → IsTable (table_after t d)
after_table t (decl.ListSort name nil cons item) h may = table_list t name nil cons item h may
after_table t (decl.TupleSort name make parts) h may = table_tuple t name make parts h may
after_table t (decl.Fun name args result) h may = table_added t (fun_symbol name args result) h may
after_table t (decl.Rel name args) h may = table_added t (rel_symbol name args) h may
after_table t (decl.Order name args measure) h may = table_added t (order_symbol name args) h may
after_table t (decl.FunClause args body) h may = h
after_table t (decl.RelClause args body) h may = h
after_table t (decl.Axiom name form) h may = h
after_table t (decl.Monotone name mono) h may = h

-- the table of a theory
pub theory_table : (ds : List Decl) → IsTheory ds → IsTable (table_of ds)
theory_table _ nothing = table_first
theory_table _ (one_more ds d before may) = subst IsTable (sym (fold-append table_after first_symbols ds (d ∷ []))) (after_table (table_of ds) d (theory_table ds before) may.brings)

abbrev pub TakesFew : Sym → Type 0
TakesFew s = length s.args ≤ 64

few_more : (t : SymbolTable) (s : Sym) → All TakesFew t.syms → TakesFew s → All TakesFew (with_symbol t s).syms
few_more t s h few = All-append TakesFew t.syms (s ∷ []) h (All-cons TakesFew s [] few (All-nil TakesFew))

few_after : (ds : List Decl) (t : SymbolTable) (d : Decl) → Asks ds d → MayBring t d → All TakesFew t.syms → All TakesFew (table_after t d).syms
few_after ds t (decl.ListSort name nil cons item) a b h = few_more (with_symbol (with_sort t (list_sort t name item)) (nil_symbol t nil)) (cons_symbol t cons item) (few_more (with_sort t (list_sort t name item)) (nil_symbol t nil) h (omega arith)) (omega arith)
few_after ds t (decl.TupleSort name make parts) a b h = let few = b.few.1 in few_more (with_sort t (tuple_sort t name parts)) (make_symbol t make parts) h (omega arith)
few_after ds t (decl.Fun name args result) a b h = few_more t (fun_symbol name args result) h a.few.1
few_after ds t (decl.Rel name args) a b h = few_more t (rel_symbol name args) h a.few.1
few_after ds t (decl.Order name args measure) a b h = let few = a.few.1 in let both = length-append args args in few_more t (order_symbol name args) h (omega arith)
few_after ds t (decl.FunClause args body) a b h = h
few_after ds t (decl.RelClause args body) a b h = h
few_after ds t (decl.Axiom name form) a b h = h
few_after ds t (decl.Monotone name mono) a b h = h

-- no symbol of a theory takes more than 64 arguments
pub theory_few : (ds : List Decl) → IsTheory ds → All TakesFew (table_of ds).syms
theory_few _ nothing = All-cons TakesFew zero_symbol (succ_symbol ∷ []) (omega arith) (All-cons TakesFew succ_symbol [] (omega arith) (All-nil TakesFew))
theory_few _ (one_more ds d before may) = subst (λ (t : SymbolTable). All TakesFew t.syms) (sym (fold-append table_after first_symbols ds (d ∷ []))) (few_after ds (table_of ds) d may.asks may.brings (theory_few ds before))
