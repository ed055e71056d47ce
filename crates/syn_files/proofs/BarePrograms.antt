-- Lines and texts of programs don't look at places in declarations: over declarations with the places of their terms left out they are
-- the same. So who read a theory, whose text says the declarations without places, may speak of programs over these.
use Rattle.std.proofs.Common.{◌≡◌, ◌↔◌, ◌⊎◌, ℕ, List, [], ◌∷◌, All, Contains, Result, Ok, Err, map, sym, ◌∙◌, ap, subst}
use Rattle.std.proofs.lemmas.List.Elements.{All-weaker}
use Rattle.syn_term.specs.Symbols.{SymbolTable, IsSort, IsTaken}
use Rattle.syn_term.specs.Tokens.{Word}
use Rattle.syn_lex.specs.declared.lines.FileError.{FileError}
use Rattle.syn_lex.specs.declared.lines.FileError.TheVariants as error
use Rattle.syn_lex.specs.Stepping.{Ends, Extends, IsTextOf, Lead, ReadsText, Step}
use Rattle.syn_lex.specs.TextLines.{IsFirstBad}
use Rattle.syn_model.specs.declared.decl.Decl.{Decl}
use Rattle.syn_model.specs.BareParts.{bare_program_tree}
use Rattle.syn_model.specs.BareTrees.{bare_decl}
use Rattle.syn_model.specs.Heads.{HeadTree, IsNewName, MayHead, head_names, sorts_of, with_head}
use Rattle.syn_model.specs.Programs.{IsProgram, IsProgramHead, ProgramHeadTree, ProgramTree, head_part, headed}
use Rattle.syn_model.specs.Tables.{other_names, table_of}
use Rattle.syn_model.proofs.BareDeclaring.{names_bare, table_bare}
use Rattle.syn_model.proofs.ProgramLaws.{may_be_body_bare}
use Rattle.syn_files.specs.ProgramLines.{IsProgramText, IsWholeProgram, ProgramLine, ProgramState, ProgramWordsLead, WritesProgramHead, begun, blank, body, heading, known, nothing}
use Rattle.syn_files.specs.Words.{WriteParameters, WritesSort}

-- where one step leads, the other does
module _ {S : Type 0} (f g : Step S) (along : (s : S) (line : List ℕ) (t : S) → f s line t → g s line t) where
  lead_along : (s : S) (lines : List (List ℕ)) (t : S) → Lead f s lines t → Lead g s lines t
  lead_along s [] t e = e
  lead_along s (line ∷ lines) t h = (h.0, along s line h.0 h.1, lead_along h.0 lines t h.2)

  extends_along : (start : S) (lines : List (List ℕ)) (line : List ℕ) → Extends f start lines line → Extends g start lines line
  extends_along start lines line h = (h.0, h.1, lead_along start lines h.0 h.2, along h.0 line h.1 h.3)

  ends_along : (start : S) (Whole : S → Type 0) (lines : List (List ℕ)) → Ends f start Whole lines → Ends g start Whole lines
  ends_along start Whole lines h = (h.0, lead_along start lines h.0 h.1, h.2)

  text_along : (start : S) (Whole : S → Type 0) (bytes : List ℕ) (s : S) → IsTextOf f start Whole bytes s → IsTextOf g start Whole bytes s
  text_along start Whole bytes s h = record { lines = h.lines; cut = h.cut; led = lead_along start h.lines s h.led; whole = h.whole }

-- where the steps lead alike, a reader of the one is a reader of the other
module _ {S : Type 0} (f g : Step S) (to : (s : S) (line : List ℕ) (t : S) → f s line t → g s line t) (back : (s : S) (line : List ℕ) (t : S) → g s line t → f s line t) (start : S) (Whole : S → Type 0) (bytes : List ℕ) where
  bad_along : (n : ℕ) → IsFirstBad (Extends f start) (Ends f start Whole) bytes n → IsFirstBad (Extends g start) (Ends g start Whole) bytes n
  bad_along n h = record {
    lines = h.lines;
    rest = h.rest;
    cut = h.cut;
    at = h.at;
    is = h.is;
    within = h.within;
    before = λ i lt. extends_along f g to start _ _ (h.before i lt);
    bad = λ lt e. h.bad lt (extends_along g f back start _ _ e);
    early = λ end none w. h.early end none (ends_along g f back start Whole h.lines w);
  }

  reads_along : {T : Type 0} (seen : T → S) (r : Result T FileError) → ReadsText f start Whole seen bytes r → ReadsText g start Whole seen bytes r
  reads_along seen (Ok t) h = text_along f g to start Whole bytes (seen t) h
  reads_along seen (Err (error.Bad n)) h = bad_along n h
  reads_along seen (Err error.NoMemory) h = h

abbrev over_table : HeadTree → SymbolTable → ProgramHeadTree
over_table h t = record { head = h; table = with_head t h }

-- declarations that put together the same table and bring the same other names
module _ (ds es : List Decl) (tables : table_of ds ≡ table_of es) (names : other_names ds ≡ other_names es) where
  new_along : (x : List ℕ) → IsNewName ds x → IsNewName es x
  new_along x n = (
    n.0,
    λ d. n.1 (subst (λ (t : SymbolTable). IsTaken t x ⊎ Contains (other_names ds) x) (sym tables) (subst (λ (others : List (List ℕ)). IsTaken (table_of es) x ⊎ Contains others x) (sym names) d)),
  )

  may_head_along : (h : HeadTree) (more : List (List ℕ)) → MayHead ds h more → MayHead es h more
  may_head_along h more m = record {
    few = m.few;
    new = All-weaker (IsNewName ds) (IsNewName es) new_along (head_names h more) m.new;
    distinct = m.distinct;
    sorts = subst (λ (t : SymbolTable). All (IsSort t) (h.result ∷ sorts_of h.inputs)) tables m.sorts;
  }

  headed_along : (h : HeadTree) → headed ds h ≡ headed es h
  headed_along h = ap (over_table h) tables

  writes_along : (h : HeadTree) (words : List Word) → WritesProgramHead ds h words → WritesProgramHead es h words
  writes_along h words w = record {
    params = w.params;
    result = w.result;
    inputs = subst (λ (t : SymbolTable). WriteParameters t h.inputs w.params) tables w.inputs;
    sort = subst (λ (t : SymbolTable). WritesSort t h.result w.result) tables w.sort;
    is = w.is;
  }

  words_along : (s : ProgramState) (words : List Word) (t : ProgramState) → ProgramWordsLead ds s words t → ProgramWordsLead es s words t
  words_along _ _ _ (blank s) = blank s
  words_along _ _ _ (heading h words w may) =
      subst (λ (z : ProgramHeadTree). ProgramWordsLead es nothing words (begun z)) (sym (headed_along h)) (heading h words (writes_along h words w) (may_head_along h [] may))
  words_along _ _ _ (body h o words is may) = body h o words is may

  line_along : (s : ProgramState) (line : List ℕ) (t : ProgramState) → ProgramLine ds s line t → ProgramLine es s line t
  line_along s line t l = (l.0, l.1, words_along s l.0 t l.2)

  head_along : (h : ProgramHeadTree) → IsProgramHead ds h → IsProgramHead es h
  head_along h k = record { may = may_head_along h.head [] k.may; table = k.table ∙ ap (λ (t : SymbolTable). with_head t h.head) tables }

  program_along : (p : ProgramTree) → IsProgram ds p → IsProgram es p
  program_along p k = record { head = head_along (head_part p) k.head; body = k.body }

-- a program with the places of its body left out
bare_made : (ds : List Decl) (p : ProgramTree) → IsProgram ds p → IsProgram ds (bare_program_tree p)
bare_made ds p k = record { head = record { may = k.head.may; table = k.head.table }; body = (may_be_body_bare (head_part p) p.body).1 k.body }

with_places : (ds : List Decl) (p : ProgramTree) → IsProgram ds (bare_program_tree p) → IsProgram ds p
with_places ds p k = record { head = record { may = k.head.may; table = k.head.table }; body = (may_be_body_bare (head_part p) p.body).0 k.body }

module _ (ds : List Decl) where
  abbrev bares : List Decl
  bares = map bare_decl ds

  -- a head may stand behind the declarations just where it may without their places
  pub may_head_bare : (h : HeadTree) (more : List (List ℕ)) → MayHead bares h more ↔ MayHead ds h more
  may_head_bare h more = (may_head_along bares ds (table_bare ds) (names_bare ds) h more, may_head_along ds bares (sym (table_bare ds)) (sym (names_bare ds)) h more)

  pub headed_bare : (h : HeadTree) → headed bares h ≡ headed ds h
  headed_bare = headed_along bares ds (table_bare ds) (names_bare ds)

  line_to : (s : ProgramState) (line : List ℕ) (t : ProgramState) → ProgramLine bares s line t → ProgramLine ds s line t
  line_to = line_along bares ds (table_bare ds) (names_bare ds)

  line_back : (s : ProgramState) (line : List ℕ) (t : ProgramState) → ProgramLine ds s line t → ProgramLine bares s line t
  line_back = line_along ds bares (sym (table_bare ds)) (sym (names_bare ds))

  -- a line leads where it leads without places in the declarations
  pub program_line_bare : (s : ProgramState) (line : List ℕ) (t : ProgramState) → ProgramLine bares s line t ↔ ProgramLine ds s line t
  program_line_bare s line t = (line_to s line t, line_back s line t)

  -- bytes are a text of a program just where they are without them
  pub program_text_bare : (bytes : List ℕ) (p : ProgramTree) → IsProgramText bares bytes p ↔ IsProgramText ds bytes p
  program_text_bare bytes p = (
    text_along (ProgramLine bares) (ProgramLine ds) line_to nothing IsWholeProgram bytes (known p),
    text_along (ProgramLine ds) (ProgramLine bares) line_back nothing IsWholeProgram bytes (known p),
  )

  -- a reader over the declarations is one over those without places
  pub program_read_bare : {T : Type 0} (seen : T → ProgramState) (bytes : List ℕ) (r : Result T FileError) → ReadsText (ProgramLine bares) nothing IsWholeProgram seen bytes r ↔ ReadsText (ProgramLine ds) nothing IsWholeProgram seen bytes r
  program_read_bare seen bytes r = (
    reads_along (ProgramLine bares) (ProgramLine ds) line_to line_back nothing IsWholeProgram bytes seen r,
    reads_along (ProgramLine ds) (ProgramLine bares) line_back line_to nothing IsWholeProgram bytes seen r,
  )

  -- and so is a program, with the places of its body and without them
  pub program_over_bare : (p : ProgramTree) → IsProgram bares p ↔ IsProgram ds p
  program_over_bare p = (program_along bares ds (table_bare ds) (names_bare ds) p, program_along ds bares (sym (table_bare ds)) (sym (names_bare ds)) p)

  pub bare_program_bare : (p : ProgramTree) → IsProgram bares (bare_program_tree p) ↔ IsProgram ds p
  bare_program_bare p = (
    λ k. with_places ds p ((program_over_bare (bare_program_tree p)).0 k),
    λ k. (program_over_bare (bare_program_tree p)).1 (bare_made ds p k),
  )
