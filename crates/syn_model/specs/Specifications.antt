-- For public contracts: what a specification is: its head, and the parts that may follow one another.
use Rattle.std.specs.Prelude.{◌≡◌, ◌≢◌, ◌⊎◌, ℕ, ◌<◌, ◌≤◌, List, [], ◌∷◌, ◌++◌, Option, None, String, All, Any, Contains, length}
use Rattle.syn_term.specs.declared.sorts.Kind.TheVariants as kind
use Rattle.syn_term.specs.declared.sorts.Sort.{Sort}
use Rattle.syn_term.specs.declared.sorts.Sym.{Sym}
use Rattle.syn_term.specs.declared.sorts.SymId.{SymId}
use Rattle.syn_term.specs.declared.sorts.Var.{Var}
use Rattle.syn_term.specs.Names.{IsName}
use Rattle.syn_term.specs.Symbols.{SymbolTable}
use Rattle.syn_form.specs.declared.trees.QForm.{QForm, every-QForm}
use Rattle.syn_form.specs.declared.trees.QForm.TheOpen.{QForm-F}
use Rattle.syn_form.specs.Plain.{IsPlainForm}
use Rattle.syn_form.specs.PlainQuantified.{IsPlainQForm, binders_of}
use Rattle.syn_form.specs.Quantified.{free_vars}
use Rattle.syn_form.specs.Trees.{FormTree, QFormTree, form_vars}
use Rattle.syn_model.specs.declared.decl.Decl.{Decl}
use Rattle.syn_model.specs.declared.spec_part.SpecPart.{SpecPart}
use Rattle.syn_model.specs.declared.spec_part.SpecPart.TheVariants as part
use Rattle.syn_model.specs.declared.uses.Rest.{Rest}
use Rattle.syn_model.specs.Clauses.{MayUse, UsesForm, UsesTerm}
use Rattle.syn_model.specs.Declaring.{IsOtherwiseFree, IsTheory}
use Rattle.syn_model.specs.Heads.{AreDistinct, HeadTree, MayHead, given_head, program_id, sorts_of, with_head}
use Rattle.syn_model.specs.Tables.{axiom_names, table_of}

-- a specification: its name, the head of its program, the name of the output, the table over which its parts speak, and its parts
pub record SpecTree : Type 0 where
  pub name : List ℕ
  pub head : HeadTree
  pub output : List ℕ
  pub table : SymbolTable
  pub parts : List SpecPart

abbrev pub with_part : SpecTree → SpecPart → SpecTree
with_part s p = record s { parts = s.parts ++ p ∷ [] }

-- the specification of this name and head over these declarations, without parts
abbrev pub bare_spec : List Decl → List ℕ → HeadTree → List ℕ → SpecTree
bare_spec ds name h output = record { name = name; head = h; output = output; table = with_head (table_of ds) h; parts = [] }

-- the same of a head as it is handed in
abbrev pub given_spec : {Z : Type 0} → List Decl → List ℕ → List ℕ → List (String Z × Sort) → List ℕ → Sort → SpecTree
given_spec ds name program inputs output result = bare_spec ds name (given_head program inputs result) output

-- it has a name, and its head may stand behind these declarations, with a new name for the output
pub record MayBegin (ds : List Decl) (s : SpecTree) : Type 0 where
  pub named : IsName s.name
  pub head : MayHead ds s.head (s.output ∷ [])

-- the places of the parts' lines: `requires`, `ensures`, `order`, `primitive`, `use`
abbrev pub line_place : SpecPart → ℕ
line_place (part.Requires f) = 1
line_place (part.Ensures f) = 2
line_place (part.Order name) = 3
line_place (part.Primitive names) = 4
line_place (part.Taken names) = 5

-- the output condition is there
abbrev pub HasEnsures : List SpecPart → Type 0
HasEnsures = Any (λ p. line_place p ≡ 2)

-- a part comes behind those of earlier lines, each of which stands at most once; what stands behind the output condition comes
-- where that is there
pub record ComesNext (parts : List SpecPart) (p : SpecPart) : Type 0 where
  pub later : All (λ q. line_place q < line_place p) parts
  pub behind : 2 < line_place p → HasEnsures parts

abbrev pub UsesQFormNode : SymId → Option Rest → QForm-F QForm → Type 0
UsesQFormNode own rest (QForm-F.Atom r args) = (r ≡ own → MayUse rest args) × All (UsesTerm own rest) args
UsesQFormNode own rest (QForm-F.Equal s t) = UsesTerm own rest s × UsesTerm own rest t
UsesQFormNode own rest _ = Unit {0}

-- wherever the formula has the symbol, it may be used
abbrev pub UsesQForm : SymId → Option Rest → QFormTree → Type 0
UsesQForm own rest = every-QForm (UsesQFormNode own rest)

-- the output, as a variable
abbrev pub output_var : SpecTree → Var
output_var s = record { number = 0; sort = s.head.result }

-- an input condition speaks of the inputs, and doesn't have the program's symbol
pub record MayRequire (ds : List Decl) (s : SpecTree) (f : FormTree) : Type 0 where
  pub plain : IsPlainForm s.table f
  pub closed : form_vars f ≡ []
  pub apart : UsesForm (program_id (table_of ds)) None f

-- an output condition speaks of the inputs and the output, binds no name that is declared or is the output's, and doesn't have the
-- program's symbol
pub record MayEnsure (ds : List Decl) (s : SpecTree) (f : QFormTree) : Type 0 where
  pub plain : IsPlainQForm s.table f
  pub over : All (λ v. v ≡ output_var s) (free_vars f)
  pub bound : All (λ b. IsOtherwiseFree ds b.name × (b.name ≢ s.output)) (binders_of f)
  pub apart : UsesQForm (program_id (table_of ds)) None f

-- a symbol of the table has the name, and is such a one
abbrev pub NamesSymbol : SymbolTable → (Sym → Type 0) → List ℕ → Type 0
NamesSymbol table Is name = Any (λ sym. (sym.name ≡ name) × Is sym) table.syms

-- an order on two lists of arguments of these sorts
abbrev pub IsOrderOn : List Sort → Sym → Type 0
IsOrderOn sorts sym = (sym.kind ≡ kind.Order) × (sym.args ≡ sorts ++ sorts)

-- a function or a relation
abbrev pub IsDefined : Sym → Type 0
IsDefined sym = (sym.kind ≡ kind.Fun) ⊎ (sym.kind ≡ kind.Rel)

-- a function, a relation or an order
abbrev pub MayBePrimitive : Sym → Type 0
MayBePrimitive sym = IsDefined sym ⊎ (sym.kind ≡ kind.Order)

-- an axiom, a function or a relation has the name
abbrev pub MayBeTaken : List Decl → List ℕ → Type 0
MayBeTaken ds name = Contains (axiom_names ds) name ⊎ NamesSymbol (table_of ds) IsDefined name

-- one name or more, no two of which are one, and each such a one
pub record AreListed (May : List ℕ → Type 0) (names : List (List ℕ)) : Type 0 where
  pub some : 1 ≤ length names
  pub distinct : AreDistinct names
  pub each : All May names

-- what a part asks besides its place
abbrev pub AsksPart : List Decl → SpecTree → SpecPart → Type 0
AsksPart ds s (part.Requires f) = MayRequire ds s f
AsksPart ds s (part.Ensures f) = MayEnsure ds s f
AsksPart ds s (part.Order name) = NamesSymbol (table_of ds) (IsOrderOn (sorts_of s.head.inputs)) name
AsksPart ds s (part.Primitive names) = AreListed (NamesSymbol (table_of ds) MayBePrimitive) names
AsksPart ds s (part.Taken names) = AreListed (MayBeTaken ds) names

-- the part may follow those of the specification
pub record MayExtend (ds : List Decl) (s : SpecTree) (p : SpecPart) : Type 0 where
  pub next : ComesNext s.parts p
  pub asks : AsksPart ds s p

-- a specification over these declarations: it begins with a head, or has one part more that may follow the others
pub data IsSpec (ds : List Decl) : SpecTree → Type 0 where
  begun : (name : List ℕ) (h : HeadTree) (output : List ℕ) → MayBegin ds (bare_spec ds name h output) → IsSpec ds (bare_spec ds name h output)
  one_more : (s : SpecTree) (p : SpecPart) → IsSpec ds s → MayExtend ds s p → IsSpec ds (with_part s p)

-- a specification over some theory
abbrev pub IsSomeSpec : SpecTree → Type 0
IsSomeSpec s = (ds : List Decl) × IsTheory ds × IsSpec ds s

-- the output condition is there, so nothing is missing
abbrev pub IsWholeSpec : SpecTree → Type 0
IsWholeSpec s = HasEnsures s.parts
