-- For public contracts: which trees a scope can read: each symbol, variable and sort of the tree has a name by which the scope finds just it. Such a
-- tree, printed, is read back.
use Rattle.std.specs.Prelude.{◌≡◌, ℕ, ◌≤◌, ◌<◌, ◌^◌, Bool, true, false, List, [], ◌∷◌, ◌++◌, None, Some, All, length}
use Rattle.std.specs.List.{flat_map}
use Rattle.syn_term.specs.declared.sorts.Sort.{Sort}
use Rattle.syn_term.specs.declared.sorts.Sort.TheVariants as sort
use Rattle.syn_term.specs.declared.sorts.Sym.{Sym}
use Rattle.syn_term.specs.declared.sorts.SymId.{SymId}
use Rattle.syn_term.specs.declared.sorts.Var.{Var}
use Rattle.syn_term.specs.declared.sorts.Kind.{Kind}
use Rattle.syn_term.specs.declared.sorts.Kind.TheVariants as kind
use Rattle.syn_term.specs.declared.term.Node.{Node, every-Node}
use Rattle.syn_term.specs.declared.term.Node.TheOpen.{Node-F}
use Rattle.syn_term.specs.Names.{IsName, IsSkolemName}
use Rattle.syn_term.specs.Symbols.{SymbolTable, symbol_at, zero_symbol, succ_symbol}
use Rattle.syn_term.specs.DeclaredSorts.{name_of_sort, sort_named}
use Rattle.syn_term.specs.Terms.{TermTree, nodes, depth_of}
use Rattle.syn_form.specs.declared.syntax.HeadName.{HeadName}
use Rattle.syn_form.specs.declared.syntax.HeadName.TheVariants as head
use Rattle.syn_form.specs.declared.trees.Binder.{Binder}
use Rattle.syn_form.specs.declared.trees.Form.{Form, every-Form}
use Rattle.syn_form.specs.declared.trees.Form.TheOpen.{Form-F}
use Rattle.syn_form.specs.declared.trees.Out.{Out, every-Out}
use Rattle.syn_form.specs.declared.trees.Out.TheOpen.{Out-F}
use Rattle.syn_form.specs.declared.trees.QForm.{fold-QForm}
use Rattle.syn_form.specs.declared.trees.QForm.TheOpen.{QForm-F}
use Rattle.syn_form.specs.Trees.{FormTree, QFormTree, OutTree, form_nodes, form_depth, out_nodes, out_depth, term_vars}
use Rattle.syn_form.specs.Plain.{IsSorted, HasOneSortEach, IsPlainForm, IsPlainOut}
use Rattle.syn_form.specs.PlainQuantified.{IsPlainQForm}
use Rattle.syn_form.specs.Quantified.{qform_nodes, qform_depth}
use Rattle.syn_form.specs.Scopes.{TextScope}
use Rattle.syn_form.specs.Elaboration.{head_symbol, head_var, is_free, var_named}
use Rattle.syn_form.specs.Printing.{name_for, in_scope_of}
use Rattle.syn_form.specs.Texts.{Limit}

-- zero and successor are those that every table begins with, a Skolem symbol has a name of their form, and all others names
abbrev pub IsNamed : Kind → Sym → Type 0
IsNamed kind.Zero sym = sym ≡ zero_symbol
IsNamed kind.Succ sym = sym ≡ succ_symbol
IsNamed kind.Skolem sym = IsSkolemName sym.name
IsNamed _ sym = IsName sym.name

-- a symbol as a head
abbrev pub symbol_head : Kind → List ℕ → HeadName
symbol_head kind.Skolem name = head.Skolem name
symbol_head _ name = head.Name name

-- where it stands without arguments no variable has its name
abbrev pub IsUnshadowed : TextScope → HeadName → List TermTree → Type 0
IsUnshadowed scope h [] = head_var scope h ≡ None
IsUnshadowed scope h (t ∷ ts) = Unit {0}

-- the symbol has a name of its kind, and the scope finds it by its name
pub record CanReadSymbol (scope : TextScope) (f : SymId) (args : List TermTree) : Type 0 where
  pub sym : Sym
  pub is : symbol_at scope.table f ≡ Some sym
  pub named : IsNamed sym.kind sym
  pub found : head_symbol scope (symbol_head sym.kind sym.name) ≡ Some f
  pub unshadowed : IsUnshadowed scope (symbol_head sym.kind sym.name) args

-- the sort is `nat`, or declared with a name by which it is found
abbrev pub CanReadSort : SymbolTable → Sort → Type 0
CanReadSort table sort.Nat = Unit {0}
CanReadSort table s = (x : List ℕ) × IsName x × (name_of_sort table s ≡ Some x) × (sort_named table x ≡ Some s)

-- in rows a variable has a number from 1 of at most seven digits; in files it has a name by which it is found
abbrev pub CanReadVarIn : Bool → TextScope → Var → Type 0
CanReadVarIn true scope v = (1 ≤ v.number) × (v.number < 10 ^ 7) × CanReadSort scope.table v.sort
CanReadVarIn false scope v = IsName (name_for scope.names v.number) × (var_named scope.names (name_for scope.names v.number) ≡ Some v)

abbrev pub CanReadVar : TextScope → Var → Type 0
CanReadVar scope = CanReadVarIn scope.rows scope

abbrev pub CanReadNode : TextScope → Node-F Node → Type 0
CanReadNode scope (Node-F.Var place v) = CanReadVar scope v
CanReadNode scope (Node-F.App place f args) = CanReadSymbol scope f args

-- each symbol and variable of the term
abbrev pub CanReadTerm : TextScope → TermTree → Type 0
CanReadTerm scope = every-Node (CanReadNode scope)

-- an atom has arguments
abbrev pub CanReadAtom : TextScope → SymId → List TermTree → Type 0
CanReadAtom scope r args = CanReadSymbol scope r args × (1 ≤ length args) × All (CanReadTerm scope) args

abbrev pub CanReadEquality : TextScope → TermTree → TermTree → Type 0
CanReadEquality scope s t = CanReadTerm scope s × CanReadTerm scope t

abbrev pub CanReadFormNode : TextScope → Form-F Form → Type 0
CanReadFormNode scope (Form-F.Atom r args) = CanReadAtom scope r args
CanReadFormNode scope (Form-F.Equal s t) = CanReadEquality scope s t
CanReadFormNode scope _ = Unit {0}

-- each symbol and variable of the formula
abbrev pub CanReadForm : TextScope → FormTree → Type 0
CanReadForm scope = every-Form (CanReadFormNode scope)

abbrev pub CanReadOutNode : TextScope → Out-F Out → Type 0
CanReadOutNode scope (Out-F.Give t) = CanReadTerm scope t
CanReadOutNode scope (Out-F.If f u v) = CanReadForm scope f

-- each symbol and variable of the output
abbrev pub CanReadOut : TextScope → OutTree → Type 0
CanReadOut scope = every-Out (CanReadOutNode scope)

-- what of a formula with quantifiers speaks of names
pub data Leaf : Type 0 where
  atom : SymId → List TermTree → Leaf
  equality : TermTree → TermTree → Leaf
  binder : Binder → Leaf

-- with what may be spoken of at its place
pub record Placed : Type 0 where
  pub at : TextScope
  pub leaf : Leaf

abbrev pub placed : TextScope → Leaf → List Placed
placed scope leaf = record { at = scope; leaf = leaf } ∷ []

abbrev pub leaves_step : QForm-F (TextScope → List Placed) → TextScope → List Placed
leaves_step (QForm-F.Atom r args) scope = placed scope (atom r args)
leaves_step (QForm-F.Equal s t) scope = placed scope (equality s t)
leaves_step (QForm-F.Not p) scope = p scope
leaves_step (QForm-F.And ps) scope = flat_map (λ p. p scope) ps
leaves_step (QForm-F.Or ps) scope = flat_map (λ p. p scope) ps
leaves_step (QForm-F.Implies p q) scope = p scope ++ q scope
leaves_step (QForm-F.All b p) scope = record { at = scope; leaf = binder b } ∷ p (in_scope_of scope b)
leaves_step (QForm-F.Exists b p) scope = record { at = scope; leaf = binder b } ∷ p (in_scope_of scope b)
leaves_step _ scope = []

-- its atoms, equalities and binders
abbrev pub leaves : QFormTree → TextScope → List Placed
leaves = fold-QForm (TextScope → List Placed) leaves_step

-- a name is bound that may be bound there
abbrev pub CanReadLeaf : TextScope → Leaf → Type 0
CanReadLeaf scope (atom r args) = CanReadAtom scope r args
CanReadLeaf scope (equality s t) = CanReadEquality scope s t
CanReadLeaf scope (binder b) = IsName b.name × (is_free scope b.name ≡ true) × CanReadSort scope.table b.var.sort

-- each symbol and variable of the formula, at its place
abbrev pub CanReadQForm : TextScope → QFormTree → Type 0
CanReadQForm scope f = All (λ p. CanReadLeaf p.at p.leaf) (leaves f scope)

-- plain trees within a limit that a scope can read
pub record IsReadableTerm (limit : Limit) (scope : TextScope) (t : TermTree) : Type 0 where
  pub sorted : IsSorted scope.table t
  pub sorts : HasOneSortEach (term_vars t)
  pub can : CanReadTerm scope t
  pub few : nodes t ≤ limit.nodes
  pub shallow : depth_of t ≤ limit.depth

pub record IsReadableForm (limit : Limit) (scope : TextScope) (f : FormTree) : Type 0 where
  pub plain : IsPlainForm scope.table f
  pub can : CanReadForm scope f
  pub few : form_nodes f ≤ limit.nodes
  pub shallow : form_depth f ≤ limit.depth

pub record IsReadableQForm (limit : Limit) (scope : TextScope) (f : QFormTree) : Type 0 where
  pub plain : IsPlainQForm scope.table f
  pub can : CanReadQForm scope f
  pub few : qform_nodes f ≤ limit.nodes
  pub shallow : qform_depth f ≤ limit.depth

pub record IsReadableOut (limit : Limit) (scope : TextScope) (o : OutTree) : Type 0 where
  pub plain : IsPlainOut scope.table o
  pub can : CanReadOut scope o
  pub few : out_nodes o ≤ limit.nodes
  pub shallow : out_depth o ≤ limit.depth
