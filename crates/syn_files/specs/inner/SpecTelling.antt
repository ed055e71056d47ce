-- For private contracts: what a reader of a specification's lines answers.
use Rattle.std.specs.Prelude.{◌≡◌, ℕ, Bool, true, false, List, [], ◌∷◌, Option, None, Some, codes}
use Rattle.syn_term.specs.Tokens.{Word}
use Rattle.syn_form.specs.Grammar.{name_word}
use Rattle.syn_model.specs.declared.decl.Decl.{Decl}
use Rattle.syn_model.specs.declared.spec_part.SpecPart.{SpecPart}
use Rattle.syn_model.specs.BareParts.{bare_part, bare_spec_tree}
use Rattle.syn_model.specs.Heads.{HeadTree}
use Rattle.syn_model.specs.Specifications.{IsSpec, MayBegin, SpecTree, bare_spec}
use Rattle.syn_files.specs.SpecLines.{SpecLine, SpecState, SpecWordsLead, WritesHead, WritesPart, known, nothing, titled}

-- the words say the part, its places left out, and no other; where none is answered they say none
abbrev pub ReadsPart : SpecTree → List Word → Option SpecPart → Type 0
ReadsPart s words None = (q : SpecPart) → WritesPart s q words → ⊥
ReadsPart s words (Some p) = WritesPart s (bare_part p) words × ((q : SpecPart) → WritesPart s q words → q ≡ bare_part p)

-- a specification as the definitions of texts see it, or its name, or nothing yet
abbrev pub state_of : Option (List ℕ) → Option SpecTree → SpecState
state_of name (Some s) = known (bare_spec_tree s)
state_of (Some name) None = titled name
state_of None None = nothing

-- whether the words lead on from the first state, and then they lead to the second
abbrev pub TakesSpecWords : List Decl → SpecState → List Word → SpecState → Bool → Type 0
TakesSpecWords ds s words t true = SpecWordsLead ds s words t
TakesSpecWords ds s words t false = (u : SpecState) → SpecWordsLead ds s words u → ⊥

-- the same for a line
abbrev pub TakesSpecLine : List Decl → SpecState → List ℕ → SpecState → Bool → Type 0
TakesSpecLine ds s line t true = SpecLine ds s line t
TakesSpecLine ds s line t false = (u : SpecState) → SpecLine ds s line u → ⊥

-- the words of a specification's first line
abbrev pub spec_title_words : List ℕ → List Word
spec_title_words name = name_word (codes "spec") ∷ name_word name ∷ []

-- what is known is a specification over these declarations
abbrev pub IsOver : List Decl → Option SpecTree → Type 0
IsOver ds None = Unit {0}
IsOver ds (Some s) = IsSpec ds s

-- the words begin the specification of this name, and no other; where none is answered they begin none
abbrev pub ReadsHead : List Decl → List ℕ → List Word → Option SpecTree → Type 0
ReadsHead ds name words None = (h : HeadTree) (output : List ℕ) → WritesHead ds h output words → MayBegin ds (bare_spec ds name h output) → ⊥
ReadsHead ds name words (Some s) = (h : HeadTree) × (output : List ℕ) × WritesHead ds h output words × MayBegin ds (bare_spec ds name h output) × (s ≡ bare_spec ds name h output)
