-- Public. Plain trees with quantifiers: those that texts stand for, in which each quantifier brings a name and a variable of its
-- own.
use Rattle.std.specs.Prelude.{◌≡◌, ◌≢◌, ℕ, ◌≤◌, List, [], ◌∷◌, ◌++◌, All, map, length}
use Rattle.std.specs.List.{range_with_len}
use Rattle.syn_term.specs.Names.{IsName}
use Rattle.syn_term.specs.Symbols.{SymbolTable, IsSort, IsTaken}
use Rattle.syn_term.specs.Terms.{sort_of}
use Rattle.syn_form.specs.declared.trees.Binder.{Binder}
use Rattle.syn_form.specs.declared.trees.QForm.{QForm, fold-QForm, every-QForm}
use Rattle.syn_form.specs.declared.trees.QForm.TheOpen.{QForm-F}
use Rattle.syn_form.specs.Quantified.{qform_vars}
use Rattle.syn_form.specs.Trees.{QFormTree, all_of}
use Rattle.syn_form.specs.Plain.{IsSorted, IsAtom, HasOneSortEach}

abbrev pub binders_step : QForm-F (List Binder) → List Binder
binders_step (QForm-F.Not a) = a
binders_step (QForm-F.And all) = all_of all
binders_step (QForm-F.Or all) = all_of all
binders_step (QForm-F.Implies a b) = a ++ b
binders_step (QForm-F.All b a) = b ∷ a
binders_step (QForm-F.Exists b a) = b ∷ a
binders_step _ = []

-- the binders of its quantifiers, from the left, the outer one first
abbrev pub binders_of : QFormTree → List Binder
binders_of = fold-QForm (List Binder) binders_step

abbrev PlainQFormNode : SymbolTable → QForm-F QForm → Type 0
PlainQFormNode table (QForm-F.Atom r args) = IsAtom table r args × All (IsSorted table) args
PlainQFormNode table (QForm-F.Equal s t) = IsSorted table s × IsSorted table t × (sort_of table s ≡ sort_of table t)
PlainQFormNode table (QForm-F.And all) = 2 ≤ length all
PlainQFormNode table (QForm-F.Or all) = 2 ≤ length all
PlainQFormNode table _ = Unit {0}

-- each atom is a relation or order of its sorts, the sides of each equality have one sort, and chains have two members
abbrev pub IsFormedQ : SymbolTable → QFormTree → Type 0
IsFormedQ table = every-QForm (PlainQFormNode table)

-- the numbers of the bound variables are 1, 2, 3 and so on, in the order of the binders
abbrev pub IsNumbered : QFormTree → Type 0
IsNumbered f = map (λ b. b.var.number) (binders_of f) ≡ range_with_len 1 (length (binders_of f))

-- what a quantifier may bind: its name is a name that no symbol and no sort has, and its variable has a sort of the table
pub record MayBind (table : SymbolTable) (b : Binder) : Type 0 where
  pub is_name : IsName b.name
  pub free : IsTaken table b.name → ⊥
  pub sort : IsSort table b.var.sort

-- no quantifier of the formula binds this name
abbrev pub IsUnbound : List ℕ → QFormTree → Type 0
IsUnbound name f = All (λ b. b.name ≢ name) (binders_of f)

abbrev UnboundBelow : QForm-F QForm → Type 0
UnboundBelow (QForm-F.All b a) = IsUnbound b.name a
UnboundBelow (QForm-F.Exists b a) = IsUnbound b.name a
UnboundBelow _ = Unit {0}

-- no quantifier in the scope of another binds the same name again
abbrev pub BindsOnce : QFormTree → Type 0
BindsOnce = every-QForm UnboundBelow

-- it is formed, no variable number has two sorts, and its binders are numbered in order and may be bound, and no name is
-- bound again within its scope
pub record IsPlainQForm (table : SymbolTable) (f : QFormTree) : Type 0 where
  pub formed : IsFormedQ table f
  pub sorts : HasOneSortEach (qform_vars f)
  pub numbered : IsNumbered f
  pub binders : All (MayBind table) (binders_of f)
  pub once : BindsOnce f
