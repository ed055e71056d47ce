-- For public contracts: which line says what in a specification text. One case for each kind of line, in the order of the format in
-- docs/FORMATS.md.
use Rattle.std.specs.Prelude.{◌≡◌, ℕ, List, [], ◌∷◌, ◌++◌, codes, map}
use Rattle.syn_term.specs.Tokens.{Word, Spelled}
use Rattle.syn_term.specs.Names.{IsName}
use Rattle.syn_form.specs.Grammar.{name_word, sign_word}
use Rattle.syn_form.specs.Scopes.{Named}
use Rattle.syn_form.specs.Texts.{IsFormOf, IsQFormOf, expression_limit}
use Rattle.syn_model.specs.declared.decl.Decl.{Decl}
use Rattle.syn_model.specs.declared.spec_part.SpecPart.{SpecPart}
use Rattle.syn_model.specs.declared.spec_part.SpecPart.TheVariants as part
use Rattle.syn_model.specs.declared.heads.Head.{Head as HeadTree}
use Rattle.syn_model.specs.Specifications.{IsWholeSpec, MayBegin, MayExtend, SpecTree, bare_spec, output_var, with_part}
use Rattle.syn_model.specs.Tables.{table_of}
use Rattle.syn_files.specs.TheoryLines.{file_scope}
use Rattle.syn_files.specs.Words.{WriteParameters, WritesSort, bracketed, listed_words, singly}

-- program f(a: S, ..): z: S
pub record WritesHead (ds : List Decl) (h : HeadTree) (output : List ℕ) (words : List Word) : Type 0 where
  pub params : List (List Word)
  pub result : Word
  pub inputs : WriteParameters (table_of ds) h.inputs params
  pub sort : WritesSort (table_of ds) h.result result
  pub is : words ≡ name_word (codes "program") ∷ name_word h.program ∷ (bracketed (listed_words params) ++ sign_word (codes ":") ∷ name_word output ∷ sign_word (codes ":") ∷ result ∷ [])

-- the output, by its name
abbrev pub output_names : SpecTree → List Named
output_names s = record { text = s.output; var = output_var s } ∷ []

-- names with commas between
abbrev pub name_words : List (List ℕ) → List Word
name_words names = listed_words (singly (map name_word names))

-- the words of a line say this part, in this specification
abbrev pub WritesPart : SpecTree → SpecPart → List Word → Type 0
-- requires FORM
WritesPart s (part.Requires form) words =
    (back : List Word) × IsFormOf expression_limit (file_scope s.table []) back form × (words ≡ name_word (codes "requires") ∷ back)
-- ensures FORM
WritesPart s (part.Ensures form) words =
    (back : List Word) × IsQFormOf expression_limit (file_scope s.table (output_names s)) back form × (words ≡ name_word (codes "ensures") ∷ back)
-- order w
WritesPart s (part.Order name) words = words ≡ name_word (codes "order") ∷ name_word name ∷ []
-- primitive NAME, ..
WritesPart s (part.Primitive names) words = words ≡ name_word (codes "primitive") ∷ name_words names
-- use NAME, ..
WritesPart s (part.Taken names) words = words ≡ name_word (codes "use") ∷ name_words names

-- what is known of a specification while its lines are read: nothing yet, its name, or its head with the parts so far
pub data SpecState : Type 0 where
  nothing : SpecState
  titled : List ℕ → SpecState
  known : SpecTree → SpecState

-- the words of a line lead from what was known to what is known, over the theory of these declarations
pub data SpecWordsLead (ds : List Decl) : SpecState → List Word → SpecState → Type 0 where
  -- a blank line, or a comment
  blank : (s : SpecState) → SpecWordsLead ds s [] s
  -- spec NAME
  title : (name : List ℕ) → IsName name → SpecWordsLead ds nothing (name_word (codes "spec") ∷ name_word name ∷ []) (titled name)
  -- the program's line
  heading : (name : List ℕ) (h : HeadTree) (output : List ℕ) (words : List Word) → WritesHead ds h output words → MayBegin ds (bare_spec ds name h output) → SpecWordsLead ds (titled name) words (known (bare_spec ds name h output))
  -- a part that may follow those before it
  one_part : (s : SpecTree) (p : SpecPart) (words : List Word) → WritesPart s p words → MayExtend ds s p → SpecWordsLead ds (known s) words (known (with_part s p))

-- a line leads where its words do
abbrev pub SpecLine : List Decl → SpecState → List ℕ → SpecState → Type 0
SpecLine ds s line t = (words : List Word) × Spelled line words × SpecWordsLead ds s words t

-- a specification is there, and its output condition too
abbrev pub IsWholeText : SpecState → Type 0
IsWholeText nothing = ⊥
IsWholeText (titled name) = ⊥
IsWholeText (known s) = IsWholeSpec s
