-- What is known of every head of a program, and of every program, that is kept; and that nothing in it looks at places.
use Rattle.std.proofs.Common.{◌≡◌, ◌↔◌, Bool, List, [], ◌++◌, sym, ◌∙◌, ap, subst}
use Rattle.std.proofs.lemmas.List.Elements.{All-head}
use Rattle.syn_term.specs.Names.{IsName}
use Rattle.syn_term.specs.Symbols.{SymbolTable, symbol_at}
use Rattle.syn_form.specs.Trees.{OutTree, bare_out}
use Rattle.syn_form.specs.Writing.{CanWriteTable}
use Rattle.syn_form.proofs.BareFacts.{plain_out_bare}
use Rattle.syn_form.proofs.BareVars.{given_bare, out_vars_bare}
use Rattle.syn_model.specs.declared.decl.Decl.{Decl}
use Rattle.syn_model.specs.declared.head_table.HeadTable.{HeadTable}
use Rattle.syn_model.specs.Declaring.{IsTheory}
use Rattle.syn_model.specs.Heads.{HeadTree, IsNewName, MayHead, input_names, with_head}
use Rattle.syn_model.specs.Programs.{IsProgram, IsProgramHead, IsSomeProgram, IsSomeProgramHead, MayBeBody, ProgramHeadTree, ProgramTree, with_body}
use Rattle.syn_model.specs.Tables.{table_of}
use Rattle.syn_model.specs.inner.HeadTables.{IsHeadTable}
use Rattle.syn_model.specs.inner.HoldingPrograms.{HoldsProgramHead, head_seen}
use Rattle.syn_model.proofs.HeadTableLaws.{program_found}
use Rattle.syn_model.proofs.Written.{head_written, theory_written}

-- a head as it is made
pub head_holds : (ds : List Decl) (g h : HeadTree) (made : HeadTable) → IsTheory ds → MayHead ds g [] → h ≡ g → IsHeadTable (table_of ds) h made → HoldsProgramHead (head_seen h made) made
head_holds ds g h made theory may is table = record {
  some = (ds, theory, record { may = subst (λ (z : HeadTree). MayHead ds z []) (sym is) may; table = table.syms });
  program =
      ap (λ (t : SymbolTable). symbol_at t made.program) table.syms
      ∙ (ap (symbol_at (with_head (table_of ds) h)) table.program ∙ program_found (table_of ds) h);
  inputs = table.inputs;
}

pub head_named : (h : ProgramHeadTree) → IsSomeProgramHead h → IsName h.head.program
head_named h s = (All-head (IsNewName s.0) h.head.program (input_names h.head.inputs ++ []) s.2.may.new).0

pub head_writes : (h : ProgramHeadTree) → IsSomeProgramHead h → (rows : Bool) → CanWriteTable rows h.table
head_writes h s rows = subst (CanWriteTable rows) (sym s.2.table) (head_written rows (table_of s.0) h.head (theory_written rows s.0 s.1))

-- a body makes a program of a head
pub body_put : (ds : List Decl) (h : ProgramHeadTree) (body : OutTree) (p : ProgramTree) → IsProgramHead ds h → MayBeBody h body → p ≡ with_body h body → IsProgram ds p
body_put ds h body p head may is = subst (IsProgram ds) (sym is) (record { head = head; body = may })

pub some_program : (h : ProgramHeadTree) (body : OutTree) → IsSomeProgramHead h → MayBeBody h body → IsSomeProgram (with_body h body)
some_program h body s may = (s.0, s.1, record { head = s.2; body = may })

-- an output may be the body just where it may with its places left out
pub may_be_body_bare : (h : ProgramHeadTree) (body : OutTree) → MayBeBody h (bare_out body) ↔ MayBeBody h body
may_be_body_bare h body = (
  (λ m. record {
    plain = (plain_out_bare h.table body).0 m.plain;
    closed = sym (out_vars_bare body) ∙ m.closed;
    sort = sym (given_bare h.table body) ∙ m.sort;
  }),
  (λ m. record {
    plain = (plain_out_bare h.table body).1 m.plain;
    closed = out_vars_bare body ∙ m.closed;
    sort = given_bare h.table body ∙ m.sort;
  }),
)
