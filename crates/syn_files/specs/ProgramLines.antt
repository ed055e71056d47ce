-- For public contracts: which line says what in a program text, in the order of the format in docs/FORMATS.md, and the one text that is
-- printed for a program.
use Rattle.std.specs.Prelude.{◌≡◌, ℕ, ◌≤◌, List, [], ◌∷◌, ◌++◌, codes, map}
use Rattle.std.specs.List.{flat_map}
use Rattle.syn_term.specs.Tokens.{Word, Spelled}
use Rattle.syn_form.specs.Grammar.{name_word, sign_word}
use Rattle.syn_form.specs.Printing.{printed_out, sort_text}
use Rattle.syn_form.specs.Texts.{IsOutOf, body_limit}
use Rattle.syn_form.specs.Trees.{OutTree, out_depth, out_nodes}
use Rattle.syn_lex.specs.Stepping.{IsTextOf}
use Rattle.syn_lex.specs.TextLines.{with_feed}
use Rattle.syn_model.specs.declared.decl.Decl.{Decl}
use Rattle.syn_model.specs.declared.heads.Head.{Head as HeadTree}
use Rattle.syn_model.specs.Heads.{MayHead}
use Rattle.syn_model.specs.Programs.{MayBeBody, ProgramHeadTree, ProgramTree, headed, with_body}
use Rattle.syn_model.specs.Tables.{table_of}
use Rattle.syn_files.specs.Printed.{in_brackets_text, parameter_text}
use Rattle.syn_files.specs.TheoryLines.{file_scope}
use Rattle.syn_files.specs.Words.{WriteParameters, WritesSort, bracketed, listed_words}

-- program f(a: S, ..): S
pub record WritesProgramHead (ds : List Decl) (h : HeadTree) (words : List Word) : Type 0 where
  pub params : List (List Word)
  pub result : Word
  pub inputs : WriteParameters (table_of ds) h.inputs params
  pub sort : WritesSort (table_of ds) h.result result
  pub is : words ≡ name_word (codes "program") ∷ name_word h.program ∷ (bracketed (listed_words params) ++ sign_word (codes ":") ∷ result ∷ [])

-- what is known of a program while its lines are read: nothing yet, its head, or the program
pub data ProgramState : Type 0 where
  nothing : ProgramState
  begun : ProgramHeadTree → ProgramState
  known : ProgramTree → ProgramState

-- the words of a line lead from what was known to what is known, over the theory of these declarations
pub data ProgramWordsLead (ds : List Decl) : ProgramState → List Word → ProgramState → Type 0 where
  -- a blank line, or a comment
  blank : (s : ProgramState) → ProgramWordsLead ds s [] s
  -- program f(a: S, ..): S
  heading : (h : HeadTree) (words : List Word) → WritesProgramHead ds h words → MayHead ds h [] → ProgramWordsLead ds nothing words (begun (headed ds h))
  -- OUT, over the symbols of the head's table and without other names
  body : (h : ProgramHeadTree) (o : OutTree) (words : List Word) → IsOutOf body_limit (file_scope h.table []) words o → MayBeBody h o → ProgramWordsLead ds (begun h) words (known (with_body h o))

-- a line leads where its words do
abbrev pub ProgramLine : List Decl → ProgramState → List ℕ → ProgramState → Type 0
ProgramLine ds s line t = (words : List Word) × Spelled line words × ProgramWordsLead ds s words t

-- a program is there
abbrev pub IsWholeProgram : ProgramState → Type 0
IsWholeProgram nothing = ⊥
IsWholeProgram (begun h) = ⊥
IsWholeProgram (known p) = Unit {0}

-- the bytes are a text of the program, over the theory of these declarations: `program f(a: nat): nat`, a line feed, `a` and a line
-- feed, and so are they with blanks between the words, more blank lines, and comments
abbrev pub IsProgramText : List Decl → List ℕ → ProgramTree → Type 0
IsProgramText ds bytes p = IsTextOf (ProgramLine ds) nothing IsWholeProgram bytes (known p)

-- `program f(a: S, ..): S`
abbrev pub printed_program_head : ProgramTree → List ℕ
printed_program_head p =
    codes "program " ++ in_brackets_text p.head.program (map (parameter_text p.table) p.head.inputs) ++ codes ": " ++ sort_text p.table p.head.result

-- OUT, behind two spaces
abbrev pub printed_body : ProgramTree → List ℕ
printed_body p = codes "  " ++ printed_out (file_scope p.table []) p.body

-- the text that is printed for the program
abbrev pub printed_program : ProgramTree → List ℕ
printed_program p = flat_map with_feed (printed_program_head p ∷ printed_body p ∷ [])

-- the body is within the limit of a program body
abbrev pub IsBodyWithinLimit : ProgramTree → Type 0
IsBodyWithinLimit p = (out_nodes p.body ≤ body_limit.nodes) × (out_depth p.body ≤ body_limit.depth)
