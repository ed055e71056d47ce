-- For public contracts: plain trees whose printed text reads back over any table, since their variables are told apart.
use Rattle.std.specs.Prelude.{◌≡◌, ◌≤◌, ◌<◌, ◌^◌, Bool, true, false, List, [], All, Contains, map}
use Rattle.syn_term.specs.declared.sorts.Var.{Var}
use Rattle.syn_term.specs.Names.{IsName}
use Rattle.syn_term.specs.Symbols.{SymbolTable, IsTaken}
use Rattle.syn_term.specs.Terms.{TermTree, nodes, depth_of}
use Rattle.syn_form.specs.Plain.{HasOneSortEach, IsPlainForm, IsPlainOut, IsSorted}
use Rattle.syn_form.specs.PlainQuantified.{IsPlainQForm}
use Rattle.syn_form.specs.Quantified.{free_vars, qform_depth, qform_nodes}
use Rattle.syn_form.specs.Scopes.{Named, TextScope}
use Rattle.syn_form.specs.Texts.{Limit}
use Rattle.syn_form.specs.Writing.{CanWriteAll}
use Rattle.syn_form.specs.Trees.{FormTree, OutTree, QFormTree, form_depth, form_nodes, form_vars, out_depth, out_nodes, out_vars, term_vars}

-- each name is one that nothing in the table has, and no two variables have one name or one number
pub record TellsApart (table : SymbolTable) (names : List Named) : Type 0 where
  pub free : All (λ n. IsName n.text × (IsTaken table n.text → ⊥)) names
  pub texts : (m n : Named) → Contains names m → Contains names n → m.text ≡ n.text → m.var ≡ n.var
  pub numbers : (m n : Named) → Contains names m → Contains names n → m.var.number ≡ n.var.number → m.text ≡ n.text

-- in a file: each variable is one of the scope's, and their names tell them apart
pub record AreToldInFile (scope : TextScope) (vars : List Var) : Type 0 where
  pub names : TellsApart scope.table scope.names
  pub named : All (Contains (map (λ n. n.var) scope.names)) vars

-- in rows: there are no names, and each variable has a number from 1 of at most seven digits
pub record AreToldInRows (scope : TextScope) (vars : List Var) : Type 0 where
  pub nameless : scope.names ≡ []
  pub numbers : All (λ v. (1 ≤ v.number) × (v.number < 10 ^ 7)) vars

abbrev pub AreToldIn : Bool → TextScope → List Var → Type 0
AreToldIn true = AreToldInRows
AreToldIn false = AreToldInFile

-- the variables are told from each other by what they print as
abbrev pub AreTold : TextScope → List Var → Type 0
AreTold scope = AreToldIn scope.rows scope

-- plain trees within a limit whose variables are told apart
pub record IsToldTerm (limit : Limit) (scope : TextScope) (t : TermTree) : Type 0 where
  pub sorted : IsSorted scope.table t
  pub sorts : HasOneSortEach (term_vars t)
  pub written : CanWriteAll scope
  pub told : AreTold scope (term_vars t)
  pub few : nodes t ≤ limit.nodes
  pub shallow : depth_of t ≤ limit.depth

pub record IsToldForm (limit : Limit) (scope : TextScope) (f : FormTree) : Type 0 where
  pub plain : IsPlainForm scope.table f
  pub written : CanWriteAll scope
  pub told : AreTold scope (form_vars f)
  pub few : form_nodes f ≤ limit.nodes
  pub shallow : form_depth f ≤ limit.depth

pub record IsToldOut (limit : Limit) (scope : TextScope) (o : OutTree) : Type 0 where
  pub plain : IsPlainOut scope.table o
  pub written : CanWriteAll scope
  pub told : AreTold scope (out_vars o)
  pub few : out_nodes o ≤ limit.nodes
  pub shallow : out_depth o ≤ limit.depth

-- a plain formula within a limit that has no free variables, in a file without names
pub record IsClosedQForm (limit : Limit) (scope : TextScope) (f : QFormTree) : Type 0 where
  pub plain : IsPlainQForm scope.table f
  pub file : scope.rows ≡ false
  pub nameless : scope.names ≡ []
  pub written : CanWriteAll scope
  pub closed : free_vars f ≡ []
  pub few : qform_nodes f ≤ limit.nodes
  pub shallow : qform_depth f ≤ limit.depth
