-- For public contracts: what a program is, its head with the table over which its body speaks, and the body; and which symbols a
-- specification lets a program have.
use Rattle.std.specs.Prelude.{◌≡◌, ℕ, Bool, true, false, List, [], Some, All, Any, Contains}
use Rattle.std.specs.List.{flat_map}
use Rattle.syn_term.specs.declared.sorts.Kind.{Kind}
use Rattle.syn_term.specs.declared.sorts.Kind.TheVariants as kind
use Rattle.syn_term.specs.declared.sorts.Sym.{Sym}
use Rattle.syn_term.specs.declared.sorts.SymId.{SymId}
use Rattle.syn_term.specs.declared.term.Node.{Node, every-Node}
use Rattle.syn_term.specs.declared.term.Node.TheOpen.{Node-F}
use Rattle.syn_term.specs.Symbols.{SymbolTable, symbol_at}
use Rattle.syn_term.specs.Terms.{TermTree}
use Rattle.syn_form.specs.declared.trees.Form.{Form, every-Form}
use Rattle.syn_form.specs.declared.trees.Form.TheOpen.{Form-F}
use Rattle.syn_form.specs.declared.trees.Out.{Out, every-Out}
use Rattle.syn_form.specs.declared.trees.Out.TheOpen.{Out-F}
use Rattle.syn_form.specs.Plain.{IsPlainOut, given_sort}
use Rattle.syn_form.specs.Trees.{FormTree, OutTree, out_vars}
use Rattle.syn_model.specs.declared.decl.Decl.{Decl}
use Rattle.syn_model.specs.declared.spec_part.SpecPart.{SpecPart}
use Rattle.syn_model.specs.declared.spec_part.SpecPart.TheVariants as part
use Rattle.syn_model.specs.Declaring.{IsTheory}
use Rattle.syn_model.specs.Heads.{HeadTree, MayHead, with_head}
use Rattle.syn_model.specs.Specifications.{SpecTree, line_place}
use Rattle.syn_model.specs.Tables.{table_of}

-- the head of a program, and the table over which its body speaks
pub record ProgramHeadTree : Type 0 where
  pub head : HeadTree
  pub table : SymbolTable

-- the head over these declarations: behind their symbols stand the program and its inputs, in this order
abbrev pub headed : List Decl → HeadTree → ProgramHeadTree
headed ds h = record { head = h; table = with_head (table_of ds) h }

-- it may stand behind these declarations
pub record IsProgramHead (ds : List Decl) (h : ProgramHeadTree) : Type 0 where
  pub may : MayHead ds h.head []
  pub table : h.table ≡ with_head (table_of ds) h.head

-- a head over some theory
abbrev pub IsSomeProgramHead : ProgramHeadTree → Type 0
IsSomeProgramHead h = (ds : List Decl) × IsTheory ds × IsProgramHead ds h

-- a program: its head, the table over which its body speaks, and its body
pub record ProgramTree : Type 0 where
  pub head : HeadTree
  pub table : SymbolTable
  pub body : OutTree

abbrev pub with_body : ProgramHeadTree → OutTree → ProgramTree
with_body h body = record { head = h.head; table = h.table; body = body }

-- the program without its body
abbrev pub head_part : ProgramTree → ProgramHeadTree
head_part p = record { head = p.head; table = p.table }

-- an output may be the body: it is plain over the table, has no variables, and gives a term of the result's sort
pub record MayBeBody (h : ProgramHeadTree) (body : OutTree) : Type 0 where
  pub plain : IsPlainOut h.table body
  pub closed : out_vars body ≡ []
  pub sort : given_sort h.table body ≡ Some h.head.result

-- a program over these declarations
pub record IsProgram (ds : List Decl) (p : ProgramTree) : Type 0 where
  pub head : IsProgramHead ds (head_part p)
  pub body : MayBeBody (head_part p) p.body

-- a program over some theory
abbrev pub IsSomeProgram : ProgramTree → Type 0
IsSomeProgram p = (ds : List Decl) × IsTheory ds × IsProgram ds p

-- `0`, `s`, and the makers of lists and tuples
abbrev pub is_constructor : Kind → Bool
is_constructor kind.Zero = true
is_constructor kind.Succ = true
is_constructor kind.Nil = true
is_constructor kind.Cons = true
is_constructor kind.Tuple = true
is_constructor _ = false

abbrev pub listed_primitives : SpecPart → List (List ℕ)
listed_primitives (part.Primitive names) = names
listed_primitives _ = []

-- the names of the `primitive` line; none where there is no such line
abbrev pub primitive_names : SpecTree → List (List ℕ)
primitive_names s = flat_map listed_primitives s.parts

-- an order is named
abbrev pub NamesOrder : SpecTree → Type 0
NamesOrder s = Any (λ p. line_place p ≡ 3) s.parts

-- a program for the specification may have the symbol. With `primitive le` and no order, it may have `le`, constructors and inputs; with
-- `order below` it may call itself.
pub data IsPrimitive (s : SpecTree) (sym : Sym) : Type 0 where
  constructor : is_constructor sym.kind ≡ true → IsPrimitive s sym
  input : sym.kind ≡ kind.Input → IsPrimitive s sym
  listed : Contains (primitive_names s) sym.name → IsPrimitive s sym
  own_call : sym.kind ≡ kind.Program → NamesOrder s → IsPrimitive s sym

-- the symbol with this number is such a one
abbrev pub HasPrimitive : SpecTree → SymId → Type 0
HasPrimitive s f = (sym : Sym) × (symbol_at s.table f ≡ Some sym) × IsPrimitive s sym

abbrev pub PrimitiveNode : SpecTree → Node-F Node → Type 0
PrimitiveNode s (Node-F.Var place v) = Unit {0}
PrimitiveNode s (Node-F.App place f args) = HasPrimitive s f

-- each symbol of the term is such a one
abbrev pub IsPrimitiveTerm : SpecTree → TermTree → Type 0
IsPrimitiveTerm s = every-Node (PrimitiveNode s)

abbrev pub PrimitiveFormNode : SpecTree → Form-F Form → Type 0
PrimitiveFormNode s (Form-F.Atom r args) = HasPrimitive s r × All (IsPrimitiveTerm s) args
PrimitiveFormNode s (Form-F.Equal t u) = IsPrimitiveTerm s t × IsPrimitiveTerm s u
PrimitiveFormNode s _ = Unit {0}

-- and each of the formula
abbrev pub IsPrimitiveForm : SpecTree → FormTree → Type 0
IsPrimitiveForm s = every-Form (PrimitiveFormNode s)

abbrev pub PrimitiveOutNode : SpecTree → Out-F Out → Type 0
PrimitiveOutNode s (Out-F.Give t) = IsPrimitiveTerm s t
PrimitiveOutNode s (Out-F.If f u v) = IsPrimitiveForm s f

-- and each of the body of a program, so that a program for the specification may have it. For `max2`, with `primitive le`,
-- `if le(a, b) then b else a` is such a body; for `twice`, with `order below` and `primitive p`, so is
-- `if a = 0 then 0 else s(s(twice(p(a))))`.
abbrev pub IsPrimitiveProgram : SpecTree → OutTree → Type 0
IsPrimitiveProgram s = every-Out (PrimitiveOutNode s)
