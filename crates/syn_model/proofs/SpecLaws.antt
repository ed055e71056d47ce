-- What is known of every specification that is kept.
use Rattle.std.proofs.Common.{◌≡◌, ℕ, ◌+◌, Bool, List, [], Some, length, refl, sym, ◌∙◌, ap, subst, arith}
use Rattle.syn_term.specs.declared.sorts.SymId.{SymId}
use Rattle.syn_term.specs.Names.{IsName}
use Rattle.syn_term.specs.Symbols.{SymbolTable, symbol_at}
use Rattle.syn_form.specs.Elaboration.{sym_id}
use Rattle.syn_form.specs.Writing.{CanWriteTable}
use Rattle.syn_model.specs.declared.decl.Decl.{Decl}
use Rattle.syn_model.specs.declared.head_table.HeadTable.{HeadTable}
use Rattle.syn_model.specs.declared.spec_part.SpecPart.{SpecPart}
use Rattle.syn_model.specs.Declaring.{IsTheory}
use Rattle.syn_model.specs.Heads.{HeadTree, program_id, program_symbol, with_head}
use Rattle.syn_model.specs.Specifications.{IsSomeSpec, IsSpec, MayBegin, SpecTree, bare_spec, begun, one_more}
use Rattle.syn_model.specs.Tables.{table_of}
use Rattle.syn_model.specs.inner.HeadTables.{IsHeadTable}
use Rattle.syn_model.specs.inner.HoldingSpecs.{HoldsSpec, spec_seen}
use Rattle.syn_model.proofs.HeadTableLaws.{head_count, program_found}
use Rattle.syn_model.proofs.Written.{head_written, theory_written}

module _ (ds : List Decl) where
  pub spec_table : (s : SpecTree) → IsSpec ds s → s.table ≡ with_head (table_of ds) s.head
  spec_table _ (begun name h output may) = refl
  spec_table _ (one_more s p before may) = spec_table s before

  pub spec_named : (s : SpecTree) → IsSpec ds s → IsName s.name
  spec_named _ (begun name h output may) = may.named
  spec_named _ (one_more s p before may) = spec_named s before

  -- the program's number is that behind the theory's symbols
  pub program_is : (s : SpecTree) (made : HeadTable) → IsSpec ds s → length s.table.syms ≡ made.program.0 + (1 + length s.head.inputs) → made.program ≡ program_id (table_of ds)
  program_is s made h place =
      let table : length s.table.syms ≡ length (with_head (table_of ds) s.head).syms = ap (λ (t : SymbolTable). length t.syms) (spec_table s h) in
      let count = head_count (table_of ds) s.head in
      let number : made.program.0 ≡ length (table_of ds).syms = omega arith in
      ap sym_id number

pub program_at : (s : SpecTree) (made : HeadTable) → HoldsSpec s made → symbol_at s.table made.program ≡ Some (program_symbol s.head)
program_at s made h =
    let ds = h.some.0 in
    ap (λ (t : SymbolTable). symbol_at t made.program) (spec_table ds s h.some.2)
    ∙ (ap (symbol_at (with_head (table_of ds) s.head)) (program_is ds s made h.some.2 h.place) ∙ program_found (table_of ds) s.head)

pub spec_written : (s : SpecTree) → IsSomeSpec s → (rows : Bool) → CanWriteTable rows s.table
spec_written s h rows = subst (CanWriteTable rows) (sym (spec_table h.0 s h.2)) (head_written rows (table_of h.0) s.head (theory_written rows h.0 h.1))

abbrev the_spec : List ℕ → HeadTree → List ℕ → SymbolTable → List SpecPart → SpecTree
the_spec name h output table parts = record { name = name; head = h; output = output; table = table; parts = parts }

-- a specification as it begins
module _ (ds : List Decl) (n o : List ℕ) (g : HeadTree) where
  pub begun_holds : (name output : List ℕ) (h : HeadTree) (made : HeadTable) (parts : List SpecPart) → IsTheory ds → MayBegin ds (bare_spec ds n g o) → name ≡ n → output ≡ o → h ≡ g → parts ≡ [] → IsHeadTable (table_of ds) h made → HoldsSpec (spec_seen name h output made parts) made
  begun_holds name output h made parts theory may name_is output_is head_is none table =
      let first : IsSpec ds (the_spec n g o (with_head (table_of ds) g) []) = begun n g o may in
      let named : IsSpec ds (the_spec name g o (with_head (table_of ds) g) []) = subst (λ (z : List ℕ). IsSpec ds (the_spec z g o (with_head (table_of ds) g) [])) (sym name_is) first in
      let headed : IsSpec ds (the_spec name h o (with_head (table_of ds) h) []) = subst (λ (z : HeadTree). IsSpec ds (the_spec name z o (with_head (table_of ds) z) [])) (sym head_is) named in
      let given : IsSpec ds (the_spec name h output (with_head (table_of ds) h) []) = subst (λ (z : List ℕ). IsSpec ds (the_spec name h z (with_head (table_of ds) h) [])) (sym output_is) headed in
      let tabled : IsSpec ds (the_spec name h output made.syms []) = subst (λ (z : SymbolTable). IsSpec ds (the_spec name h output z [])) (sym table.syms) given in
      let whole : IsSpec ds (the_spec name h output made.syms parts) = subst (λ (z : List SpecPart). IsSpec ds (the_spec name h output made.syms z)) (sym none) tabled in
      let syms : length made.syms.syms ≡ length (with_head (table_of ds) h).syms = ap (λ (t : SymbolTable). length t.syms) table.syms in
      let count = head_count (table_of ds) h in
      let place : made.program.0 ≡ length (table_of ds).syms = ap (λ (x : SymId). x.0) table.program in
      record { some = (ds, theory, whole); place = omega arith; inputs = table.inputs }
