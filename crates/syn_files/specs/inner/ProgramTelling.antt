-- For private contracts: what a reader of a program's lines answers.
use Rattle.std.specs.Prelude.{◌≡◌, ℕ, Bool, true, false, List, [], ◌∷◌, Option, None, Some, codes}
use Rattle.std.specs.Option.{option_map}
use Rattle.syn_term.specs.declared.sorts.Sort.{Sort}
use Rattle.syn_term.specs.Symbols.{SymbolTable}
use Rattle.syn_term.specs.Tokens.{Word}
use Rattle.syn_form.specs.Texts.{IsOutOf, body_limit}
use Rattle.syn_form.specs.Trees.{OutTree, bare_out}
use Rattle.syn_model.specs.declared.decl.Decl.{Decl}
use Rattle.syn_model.specs.BareParts.{bare_program_tree}
use Rattle.syn_model.specs.Heads.{HeadTree, MayHead, Param}
use Rattle.syn_model.specs.Programs.{IsProgram, IsProgramHead, ProgramHeadTree, ProgramTree, headed}
use Rattle.syn_files.specs.ProgramLines.{ProgramLine, ProgramState, ProgramWordsLead, WritesProgramHead, begun, known, nothing}
use Rattle.syn_files.specs.TheoryLines.{file_scope}
use Rattle.syn_files.specs.inner.Firsts.{◌>>=◌, name_first}
use Rattle.syn_files.specs.inner.Params.{params_first}
use Rattle.syn_files.specs.inner.SimpleLines.{value_line}

abbrev pub program_with : List ℕ → List Param → Sort → HeadTree
program_with program inputs s = record { program = program; inputs = inputs; result = s }

-- f(a: S, ..): S
abbrev pub program_line : SymbolTable → List Word → Option HeadTree
program_line table ws = name_first ws >>= λ n. params_first table n.left >>= λ a. option_map (program_with n.value a.value) (value_line table a.left)

-- what is headed by such a line: the head, where there may be such a one
abbrev pub Heads : List Decl → Option HeadTree → Option ProgramHeadTree → Type 0
Heads ds None None = Unit {0}
Heads ds None (Some h) = ⊥
Heads ds (Some g) None = MayHead ds g [] → ⊥
Heads ds (Some g) (Some h) = MayHead ds g [] × (h ≡ headed ds g)

-- the words head a program, and no other; where none is answered they head none
abbrev pub ReadsProgramHead : List Decl → List Word → Option ProgramHeadTree → Type 0
ReadsProgramHead ds words None = (g : HeadTree) → WritesProgramHead ds g words → MayHead ds g [] → ⊥
ReadsProgramHead ds words (Some h) = (g : HeadTree) × WritesProgramHead ds g words × MayHead ds g [] × (h ≡ headed ds g)

-- what is known of a program, as the definitions of texts see it
abbrev pub program_state : Option ProgramHeadTree → Option ProgramTree → ProgramState
program_state head (Some p) = known (bare_program_tree p)
program_state (Some h) None = begun h
program_state None None = nothing

-- whether the words lead on from the first state, and then they lead to the second
abbrev pub TakesProgramWords : List Decl → ProgramState → List Word → ProgramState → Bool → Type 0
TakesProgramWords ds s words t true = ProgramWordsLead ds s words t
TakesProgramWords ds s words t false = (u : ProgramState) → ProgramWordsLead ds s words u → ⊥

-- the same for a line
abbrev pub TakesProgramLine : List Decl → ProgramState → List ℕ → ProgramState → Bool → Type 0
TakesProgramLine ds s line t true = ProgramLine ds s line t
TakesProgramLine ds s line t false = (u : ProgramState) → ProgramLine ds s line u → ⊥

-- the words stand for the output over the table, its places left out, and for no other; where none is answered they stand for none
abbrev pub ReadsOut : SymbolTable → List Word → Option OutTree → Type 0
ReadsOut table words None = (b : OutTree) → IsOutOf body_limit (file_scope table []) words b → ⊥
ReadsOut table words (Some o) =
    IsOutOf body_limit (file_scope table []) words (bare_out o) × ((b : OutTree) → IsOutOf body_limit (file_scope table []) words b → b ≡ bare_out o)

-- the words are the body of a program of this head; where none is answered they are that of none
abbrev pub ReadsBody : List Decl → ProgramHeadTree → List Word → Option ProgramTree → Type 0
ReadsBody ds h words None = (u : ProgramState) → ProgramWordsLead ds (begun h) words u → ⊥
ReadsBody ds h words (Some p) = ProgramWordsLead ds (begun h) words (known (bare_program_tree p))

-- what is known stands over these declarations
abbrev pub IsHeadOver : List Decl → Option ProgramHeadTree → Type 0
IsHeadOver ds None = Unit {0}
IsHeadOver ds (Some h) = IsProgramHead ds h

abbrev pub IsProgramOver : List Decl → Option ProgramTree → Type 0
IsProgramOver ds None = Unit {0}
IsProgramOver ds (Some p) = IsProgram ds p
