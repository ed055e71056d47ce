-- The printed line of a declaration without variables reads back behind the declarations before it, whatever stands behind it.
use Rattle.std.proofs.Common.{◌≡◌, ℕ, Bool, true, false, List, [], ◌∷◌, ◌++◌, All, Option, Some, codes, decimal, map, refl, sym, ◌∙◌, ap, subst, arith}
use Rattle.std.proofs.lemmas.List.Elements.{All-weaker}
use Rattle.syn_term.specs.declared.sorts.Sort.{Sort}
use Rattle.syn_term.specs.declared.sorts.Sym.{Sym}
use Rattle.syn_term.specs.declared.sorts.SymId.{SymId}
use Rattle.syn_term.specs.DeclaredSorts.{IsTable, MayAddList, MayAddTuple}
use Rattle.syn_term.specs.Symbols.{IsPrefix, IsSort, MayAdd, SymbolTable, symbol_at}
use Rattle.syn_form.specs.declared.trees.Binder.{Binder}
use Rattle.syn_form.specs.declared.trees.Mono.{Mono}
use Rattle.syn_form.specs.PlainQuantified.{IsPlainQForm, MayBind, binders_of}
use Rattle.syn_form.specs.Printing.{PrintedForm, name_of, printed_qform, sort_text}
use Rattle.syn_form.specs.Quantified.{bare_qform}
use Rattle.syn_form.specs.Sorts.{is_relation}
use Rattle.syn_form.specs.Trees.{QFormTree}
use Rattle.syn_model.specs.declared.decl.Decl.{Decl}
use Rattle.syn_model.specs.declared.decl.Decl.TheVariants as decl
use Rattle.syn_model.specs.BareTrees.{bare_decl}
use Rattle.syn_model.specs.Declaring.{AsksHead, GivesFor, IsMono, IsTheory, MayAxiom, MayMono}
use Rattle.syn_model.specs.Tables.{fun_symbol, rel_symbol, table_of}
use Rattle.syn_model.proofs.BareDeclaring.{table_bare}
use Rattle.syn_form.specs.Writing.{CanWriteAll}
use Rattle.syn_expr.proofs.Told.{IsOver}
use Rattle.syn_files.specs.Printed.{IsWithinLimit, axiom_text, fun_text, given_text, in_brackets_text, list_sort_text, mono_text, rel_text, sort_texts, symbol_text, tuple_sort_text}
use Rattle.syn_files.specs.TheoryLines.{direction, file_scope}
use Rattle.syn_files.proofs.ClauseBack.{axiom_told}
use Rattle.syn_files.proofs.ExprBack.{nameless_over}
use Rattle.syn_files.proofs.MonoBack.{mono_told}
use Rattle.syn_files.proofs.OrderBack.{list_told}
use Rattle.syn_files.proofs.SameTexts.{qform_same, sort_same, sorts_same, symbol_same}
use Rattle.syn_files.proofs.SimpleBack.{Told, fun_told, rel_told, tuple_told}
use Rattle.syn_files.proofs.TheoryTables.{TakesFew, table_grows, theory_few, theory_table}

module _ (before more : List Decl) (theory : IsTheory before) (written : CanWriteAll (file_scope (table_of before) [])) where
  -- the declarations before the line, with the places of their terms left out; their table; and that of all declarations
  abbrev pub bares : List Decl
  bares = map bare_decl before

  abbrev small : SymbolTable
  small = table_of before

  abbrev whole : SymbolTable
  whole = table_of (before ++ more)

  pub grow : IsPrefix (table_of before) (table_of (before ++ more))
  grow = table_grows before more

  -- the two tables of what stands before are one
  pub one_table : table_of bares ≡ table_of before
  one_table = table_bare before

  pub bare_table : IsTable (table_of bares)
  bare_table = subst IsTable (sym one_table) (theory_table before theory)

  pub bare_written : CanWriteAll (file_scope (table_of bares) [])
  bare_written = subst (λ (t : SymbolTable). CanWriteAll (file_scope t [])) (sym one_table) written

  pub bare_over : IsOver (file_scope (table_of bares) [])
  bare_over = nameless_over (table_of bares) bare_table bare_written

  -- what is printed over the one is printed over the other
  sort_moved : (s : Sort) → IsSort small s → sort_text (table_of bares) s ≡ sort_text whole s
  sort_moved s h = ap (λ (t : SymbolTable). sort_text t s) one_table ∙ sym (sort_same small whole grow s h)

  sorts_moved : (ss : List Sort) → All (IsSort small) ss → sort_texts (table_of bares) ss ≡ sort_texts whole ss
  sorts_moved ss h = ap (λ (t : SymbolTable). sort_texts t ss) one_table ∙ sym (sorts_same small whole grow ss h)

  symbol_moved : (f : SymId) (s : Sym) → symbol_at small f ≡ Some s → symbol_text (table_of bares) f ≡ symbol_text whole f
  symbol_moved f s is = ap (λ (t : SymbolTable). symbol_text t f) one_table ∙ sym (ap name_of (symbol_same small whole grow f s is))

  there : (s : Sort) → IsSort small s → IsSort (table_of bares) s
  there s h = subst (λ (t : SymbolTable). IsSort t s) (sym one_table) h

  all_there : (ss : List Sort) → All (IsSort small) ss → All (IsSort (table_of bares)) ss
  all_there ss h = subst (λ (t : SymbolTable). All (IsSort t) ss) (sym one_table) h

  pub list_line : (name nil cons : List ℕ) (item : Sort) → MayAddList small name nil cons item → Told bares (decl.ListSort name nil cons item) (list_sort_text whole name nil cons item)
  list_line name nil cons item may =
      subst (Told bares (decl.ListSort name nil cons item)) (ap (λ (z : List ℕ). codes "sort " ++ name ++ codes " = " ++ nil ++ codes " | " ++ in_brackets_text cons (z ∷ name ∷ [])) (sort_moved item may.there))
      (list_told bares bare_over name nil cons item may.named.0 may.named.1 may.named.2 (there item may.there))

  pub tuple_line : (name make : List ℕ) (parts : List Sort) → MayAddTuple small name make parts → Told bares (decl.TupleSort name make parts) (tuple_sort_text whole name make parts)
  tuple_line name make parts may =
      let few = may.few.0 in
      subst (Told bares (decl.TupleSort name make parts)) (ap (λ (z : List (List ℕ)). codes "sort " ++ name ++ codes " = " ++ in_brackets_text make z) (sorts_moved parts may.there))
      (tuple_told bares bare_over name make parts may.named.0 may.named.1 (omega arith) (all_there parts may.there))

  pub fun_line : (name : List ℕ) (args : List Sort) (result : Sort) → MayAdd small (fun_symbol name args result) → AsksHead before name args → Told bares (decl.Fun name args result) (fun_text whole name args result)
  fun_line name args result may asks =
      subst (Told bares (decl.Fun name args result))
      (ap (λ (z : List (List ℕ)). codes "fun " ++ in_brackets_text name z ++ codes ": " ++ sort_text (table_of bares) result) (sorts_moved args may.args) ∙ ap (λ (z : List ℕ). codes "fun " ++ in_brackets_text name (sort_texts whole args) ++ codes ": " ++ z) (sort_moved result may.result))
      (fun_told bares bare_over name args result may.fitting.named asks.few.0 (all_there args may.args) (there result may.result))

  pub rel_line : (name : List ℕ) (args : List Sort) → MayAdd small (rel_symbol name args) → AsksHead before name args → Told bares (decl.Rel name args) (rel_text whole name args)
  rel_line name args may asks =
      subst (Told bares (decl.Rel name args)) (ap (λ (z : List (List ℕ)). codes "rel " ++ in_brackets_text name z) (sorts_moved args may.args))
      (rel_told bares bare_over name args may.fitting.named asks.few.0 (all_there args may.args))

  pub axiom_line : (name : List ℕ) (f : QFormTree) → MayAxiom before name f → IsWithinLimit (decl.Axiom name f) → Told bares (decl.Axiom name (bare_qform f)) (axiom_text whole name f)
  axiom_line name f may limit =
      let sorts : All (λ (b : Binder). IsSort small b.var.sort) (binders_of f) = All-weaker (MayBind small) (λ (b : Binder). IsSort small b.var.sort) (λ b h. h.sort) (binders_of f) may.plain.binders in
      let same : printed_qform (file_scope whole []) f ≡ printed_qform (file_scope small []) f = ap (λ (p : PrintedForm). p.text) (qform_same small whole grow f [] may.plain.formed sorts) in
      subst (Told bares (decl.Axiom name (bare_qform f)))
      (ap (λ (z : List ℕ). codes "axiom " ++ name ++ codes ": " ++ z) (ap (λ (t : SymbolTable). printed_qform (file_scope t []) f) one_table ∙ sym same))
      (axiom_told bares bare_table bare_written name f may.named (subst (λ (t : SymbolTable). IsPlainQForm t f) (sym one_table) may.plain) may.closed limit)

  given_moved : (b : Bool) (result : Option Sort) (gives : Option SymId) → GivesFor small b result gives → given_text (table_of bares) gives ≡ given_text whole gives
  given_moved true result gives e = subst (λ (o : Option SymId). given_text (table_of bares) o ≡ given_text whole o) (sym e) refl
  given_moved false result gives h = subst (λ (o : Option SymId). given_text (table_of bares) o ≡ given_text whole o) (sym h.3) (ap (λ (z : List ℕ). codes " " ++ z) (symbol_moved h.1 h.4.sym h.4.is))

  pub mono_line : (name : List ℕ) (m : Mono) → MayMono before name m → Told bares (decl.Monotone name m) (mono_text whole name m)
  mono_line name m may =
      let h = may.mono in
      let tail = λ (r s g : List ℕ). codes "mono " ++ name ++ codes ": " ++ r ++ codes " " ++ direction m.up ++ codes " " ++ s ++ codes " " ++ decimal m.place ++ g in
      let r = symbol_text (table_of bares) m.rel in
      let s = symbol_text (table_of bares) m.sym in
      subst (Told bares (decl.Monotone name m))
      (ap (λ (z : List ℕ). tail z s (given_text (table_of bares) m.gives)) (symbol_moved m.rel h.relation.sym h.relation.is)
      ∙ (ap (λ (z : List ℕ). tail (symbol_text whole m.rel) z (given_text (table_of bares) m.gives)) (symbol_moved m.sym h.sym h.is)
      ∙ ap (λ (z : List ℕ). tail (symbol_text whole m.rel) (symbol_text whole m.sym) z) (given_moved (is_relation h.sym.kind) h.sym.result m.gives h.gives)))
      (mono_told bares bare_over (subst (λ (t : SymbolTable). All TakesFew t.syms) (sym one_table) (theory_few before theory)) name m may.named (subst (λ (t : SymbolTable). IsMono t m) (sym one_table) h))
