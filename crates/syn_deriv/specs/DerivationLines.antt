-- For public contracts: which line says what in a derivation text: its first line, and rows, each with the step that is said to give it.
-- One case for each rule that a line may name, beside the format in docs/FORMATS.md. Whether a step gives its row is not asked here.
use Rattle.std.specs.Prelude.{◌≡◌, ℕ, ◌+◌, ◌<◌, ◌≤◌, ◌^◌, true, List, [], ◌∷◌, ◌++◌, Option, None, Some, IfSome, All, codes, decimal, length, map}
use Rattle.syn_term.specs.declared.tokens.TokenKind.TheVariants as kind
use Rattle.syn_term.specs.Names.{IsName}
use Rattle.syn_term.specs.Symbols.{SymbolTable}
use Rattle.syn_term.specs.Tokens.{Word, Spelled}
use Rattle.syn_form.specs.declared.trees.Side.{Side}
use Rattle.syn_form.specs.declared.trees.Side.TheVariants as side
use Rattle.syn_form.specs.Grammar.{name_word, sign_word}
use Rattle.syn_form.specs.Plain.{given_sort}
use Rattle.syn_form.specs.Scopes.{TextScope}
use Rattle.syn_form.specs.Texts.{IsFormOf, IsOutOf, expression_limit}
use Rattle.syn_form.specs.Trees.{OutTree}
use Rattle.syn_lex.specs.Stepping.{IsTextOf}
use Rattle.syn_row.specs.declared.direction.Dir.{Dir}
use Rattle.syn_row.specs.declared.direction.Dir.TheVariants as dir
use Rattle.syn_row.specs.Rows.{IsPlain, IsWithinRow, RowTree, bare_row}
use Rattle.syn_start.specs.declared.steps.Origin.{Origin}
use Rattle.syn_start.specs.declared.steps.Origin.TheVariants as origin
use Rattle.syn_start.specs.declared.steps.Step.{Step}
use Rattle.syn_start.specs.declared.steps.Step.TheVariants as step
use Rattle.syn_start.specs.Derivations.{Lines}
use Rattle.syn_start.specs.Starts.{StartTree}

abbrev pub number_word : ℕ → Word
number_word n = record { kind = kind.Number; bytes = decimal n }

-- a number, and more behind full stops
abbrev pub dotted : ℕ → List ℕ → List Word
dotted k [] = number_word k ∷ []
dotted k (j ∷ js) = number_word k ∷ sign_word (codes ".") ∷ dotted j js

-- POS: `-` is the root, `3.1` the first child of the third
abbrev pub position_words : List ℕ → List Word
position_words [] = sign_word (codes "-") ∷ []
position_words (k ∷ ks) = dotted k ks

-- POS,..
abbrev pub positions_words : List (List ℕ) → List Word
positions_words [] = []
positions_words (p ∷ []) = position_words p
positions_words (p ∷ q ∷ more) = position_words p ++ sign_word (codes ",") ∷ positions_words (q ∷ more)

-- `lr` or `rl`
abbrev pub direction : Dir → List ℕ
direction dir.Lr = codes "lr"
direction dir.Rl = codes "rl"

-- N POS lr N POS, or with `rl`
abbrev pub used_words : ℕ → List ℕ → Dir → ℕ → List ℕ → List Word
used_words n at way m place = number_word n ∷ (position_words at ++ name_word (direction way) ∷ number_word m ∷ position_words place)

-- the words of a rule
abbrev pub step_words : Step → List Word
-- goal
step_words (step.Start origin.Goal) = name_word (codes "goal") ∷ []
-- input
step_words (step.Start origin.Input) = name_word (codes "input") ∷ []
-- axiom NAME
step_words (step.Start (origin.Axiom name)) = name_word (codes "axiom") ∷ name_word name ∷ []
-- def NAME K
step_words (step.Start (origin.Def name k)) = name_word (codes "def") ∷ name_word name ∷ number_word k ∷ []
-- induct
step_words (step.Start origin.Induct) = name_word (codes "induct") ∷ []
-- split N I
step_words (step.Split n member) = name_word (codes "split") ∷ number_word n ∷ number_word member ∷ []
-- dual N
step_words (step.Dual n) = name_word (codes "dual") ∷ number_word n ∷ []
-- reflex N POS
step_words (step.Reflex n at) = name_word (codes "reflex") ∷ number_word n ∷ position_words at
-- resolve N POS,.. N POS,..
step_words (step.Resolve n ps m qs) = name_word (codes "resolve") ∷ number_word n ∷ (positions_words ps ++ number_word m ∷ positions_words qs)
-- equal N POS lr N POS
step_words (step.Equal n at way m place) = name_word (codes "equal") ∷ used_words n at way m place
-- relate N POS lr N POS
step_words (step.Relate n at way m place) = name_word (codes "relate") ∷ used_words n at way m place

-- a number of a text has at most seven digits
abbrev pub IsFew : ℕ → Type 0
IsFew n = n < 10 ^ 7

-- there is a position, and each has a text
pub record AreWritten (ps : List (List ℕ)) : Type 0 where
  pub some : 1 ≤ length ps
  pub few : All (All IsFew) ps

-- the parts of `equal` and `relate` have a text
pub record IsUsedText (n : ℕ) (at : List ℕ) (m : ℕ) (place : List ℕ) : Type 0 where
  pub first : IsFew n
  pub position : All IsFew at
  pub second : IsFew m
  pub position_there : All IsFew place

abbrev pub OriginHasText : Origin → Type 0
OriginHasText (origin.Axiom name) = IsName name
OriginHasText (origin.Def name k) = IsName name × IsFew k
OriginHasText _ = Unit {0}

-- The step has a text: its names are names, its numbers have at most seven digits, and a resolution names positions of both rows.
-- Position, member and row 0 have texts, and so have positions named twice.
abbrev pub HasText : Step → Type 0
HasText (step.Start o) = OriginHasText o
HasText (step.Split n member) = IsFew n × IsFew member
HasText (step.Dual n) = IsFew n
HasText (step.Reflex n at) = IsFew n × All IsFew at
HasText (step.Resolve n ps m qs) = IsFew n × AreWritten ps × IsFew m × AreWritten qs
HasText (step.Equal n at way m place) = IsUsedText n at m place
HasText (step.Relate n at way m place) = IsUsedText n at m place

-- what a row may speak of: the symbols of the table, row variables and no names
abbrev pub row_scope : SymbolTable → TextScope
row_scope table = record { table = table; names = []; rows = true }

-- `goal` or `assertion`
abbrev pub side_name : Side → List ℕ
side_name side.Goal = codes "goal"
side_name side.Assertion = codes "assertion"

-- A row that a text may have: formula and output are plain, and no variable number has two sorts in the two together; they are within
-- the limit of a row together; and the output has the sort of the program's result.
pub record IsTextRow (x : StartTree) (r : RowTree) : Type 0 where
  pub plain : IsPlain x.spec.table r
  pub within : IsWithinRow r
  pub output : IfSome r.out (λ o. given_sort x.spec.table o ≡ Some x.spec.head.result)

-- nothing, or `| OUT`
abbrev pub WritesOutput : SymbolTable → Option OutTree → List Word → Type 0
WritesOutput table None words = words ≡ []
WritesOutput table (Some o) words = (back : List Word) × IsOutOf expression_limit (row_scope table) back o × (words ≡ sign_word (codes "|") ∷ back)

-- KIND FORM [ | OUT ]: no quantifier and no `<->` stands in a row, in no test of its output either
pub record WritesRow (x : StartTree) (r : RowTree) (words : List Word) : Type 0 where
  pub front : List Word
  pub back : List Word
  pub form : IsFormOf expression_limit (row_scope x.spec.table) front r.form
  pub output : WritesOutput x.spec.table r.out back
  pub may : IsTextRow x r
  pub is : words ≡ name_word (side_name r.side) ∷ (front ++ back)

-- N RULE: KIND FORM [ | OUT ], N being the row's own number
pub record WritesLine (x : StartTree) (n : ℕ) (line : Step × RowTree) (words : List Word) : Type 0 where
  pub row : List Word
  pub few : IsFew n
  pub step : HasText line.0
  pub writes : WritesRow x line.1 row
  pub is : words ≡ number_word n ∷ (step_words line.0 ++ sign_word (codes ":") ∷ row)

-- what is known of a derivation while its lines are read: nothing yet, or its rows so far
abbrev pub DerivationState : Type 0
DerivationState = Option Lines

-- the words of a line lead from what was known to what is known
pub data DerivationWordsLead (x : StartTree) : DerivationState → List Word → DerivationState → Type 0 where
  -- a blank line, or a comment
  blank : (s : DerivationState) → DerivationWordsLead x s [] s
  -- derivation 1
  header : DerivationWordsLead x None (name_word (codes "derivation") ∷ number_word 1 ∷ []) (Some [])
  -- a row, with the number that comes next
  one_row : (ls : Lines) (line : Step × RowTree) (words : List Word) → WritesLine x (length ls + 1) line words → DerivationWordsLead x (Some ls) words (Some (ls ++ line ∷ []))

-- a line leads where its words do
abbrev pub DerivationLine : StartTree → DerivationState → List ℕ → DerivationState → Type 0
DerivationLine x s line t = (words : List Word) × Spelled line words × DerivationWordsLead x s words t

-- the first line is there; there may be no rows
abbrev pub IsBegun : DerivationState → Type 0
IsBegun None = ⊥
IsBegun (Some ls) = Unit {0}

-- a line with the places of its terms left out
abbrev pub bare_line : Step × RowTree → Step × RowTree
bare_line line = (line.0, bare_row line.1)

abbrev pub bare_lines : Lines → Lines
bare_lines = map bare_line

-- the bytes are a text of the derivation
abbrev pub IsDerivationText : StartTree → List ℕ → Lines → Type 0
IsDerivationText x bytes ls = IsTextOf (DerivationLine x) None IsBegun bytes (Some ls)
