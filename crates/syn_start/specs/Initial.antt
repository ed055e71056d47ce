-- For public contracts: the initial rows over a theory and a specification. Each is the canonical row of what is said here; there is
-- none where that passes the limit of a row, and none yet where a formula has a quantifier.
use Rattle.std.specs.Prelude.{◌≡◌, ℕ, zero, suc, List, [], ◌∷◌, Option, None, Some, All, slice_get}
use Rattle.std.specs.Option.{option_and_then, option_map}
use Rattle.syn_term.specs.Bank.{Kept, Belongs}
use Rattle.syn_term.specs.declared.sorts.SymId.{SymId}
use Rattle.syn_term.specs.Symbols.{SymbolTable}
use Rattle.syn_term.specs.Terms.{application, variable_tree}
use Rattle.syn_form.specs.declared.trees.Form.TheVariants as form
use Rattle.syn_form.specs.declared.trees.Out.TheVariants as out
use Rattle.syn_form.specs.declared.trees.Side.TheVariants as side
use Rattle.syn_form.specs.Quantified.{unquantified}
use Rattle.syn_form.specs.Trees.{FormTree, QFormTree}
use Rattle.syn_row.specs.Rows.{IsPlain, IsSimplified, IsWithinRow, RowTree, bare_row, canonical_row, row_terms, simplified_row}
use Rattle.syn_model.specs.declared.decl.Decl.{Decl}
use Rattle.syn_model.specs.declared.decl.Decl.TheVariants as decl
use Rattle.syn_model.specs.declared.spec_part.SpecPart.{SpecPart}
use Rattle.syn_model.specs.declared.spec_part.SpecPart.TheVariants as part
use Rattle.syn_model.specs.Clausal.{picked_under}
use Rattle.syn_model.specs.Declaring.{symbol_of_name}
use Rattle.syn_model.specs.Specifications.{SpecTree, output_var}
use Rattle.syn_model.specs.Tables.{table_of}
use Rattle.syn_start.specs.Definitions.{defines_relation, equals_output}

-- of r the row q is given: r is within the limit of a row once it is simplified, and q is its canonical row
pub record IsGiven (r q : RowTree) : Type 0 where
  pub within : IsWithinRow (simplified_row r)
  pub is : bare_row q ≡ bare_row (canonical_row r)

-- the same where there may be no row to begin with
abbrev pub GivenOf : Option RowTree → RowTree → Type 0
GivenOf None q = ⊥
GivenOf (Some r) q = IsGiven r q

-- what is answered is given, and nothing is answered only where nothing is given
abbrev pub Exactly : (RowTree → Type 0) → Option RowTree → Type 0
Exactly Given None = (q : RowTree) → Given q → ⊥
Exactly Given (Some q) = Given q

-- what else holds of each row that is answered
pub record IsReady (table : SymbolTable) (bank : Kept) (q : RowTree) : Type 0 where
  pub plain : IsPlain table q
  pub simplified : IsSimplified q
  pub within : IsWithinRow q
  pub belongs : All (Belongs bank) (row_terms q)

abbrev pub assertion_of : FormTree → RowTree
assertion_of f = record { side = side.Assertion; form = f; out = None }

-- the output condition
abbrev pub output_condition : List SpecPart → Option QFormTree
output_condition [] = None
output_condition (part.Ensures f ∷ ps) = Some f
output_condition (p ∷ ps) = output_condition ps

-- the input condition, `true` where none is stated
abbrev pub input_condition : List SpecPart → FormTree
input_condition [] = form.True
input_condition (part.Requires f ∷ ps) = f
input_condition (p ∷ ps) = input_condition ps

-- the goal of a formula, whose output entry is the output itself, a free variable
abbrev pub goal_of : SpecTree → FormTree → RowTree
goal_of s f = record { side = side.Goal; form = f; out = Some (out.Give (variable_tree (output_var s))) }

-- `goal`: the output condition as a goal
abbrev pub GoalRow : SpecTree → RowTree → Type 0
GoalRow s = GivenOf (option_map (goal_of s) (option_and_then unquantified (output_condition s.parts)))

-- `input`: the input condition as an assertion
abbrev pub InputRow : SpecTree → RowTree → Type 0
InputRow s = IsGiven (assertion_of (input_condition s.parts))

abbrev pub clause_in : Decl → List Decl
clause_in (decl.FunClause args body) = decl.FunClause args body ∷ []
clause_in (decl.RelClause args body) = decl.RelClause args body ∷ []
clause_in _ = []

-- the clauses of the function or relation of this name, in their order
abbrev pub clauses_of : List Decl → List ℕ → List Decl
clauses_of ds name = picked_under clause_in name [] ds

-- the clause of this number, counted from 1
abbrev pub clause_at : List Decl → List ℕ → ℕ → Option Decl
clause_at ds name zero = None
clause_at ds name (suc k) = slice_get (clauses_of ds name) k

-- what a clause of the symbol says
abbrev pub clause_form : SymId → Decl → Option FormTree
clause_form f (decl.FunClause args body) = Some (equals_output (application f args) body)
clause_form f (decl.RelClause args body) = Some (defines_relation (form.Atom f args) body)
clause_form f _ = None

abbrev pub def_form : List Decl → List ℕ → ℕ → Option FormTree
def_form ds name k = option_and_then (λ f. option_and_then (clause_form f) (clause_at ds name k)) (symbol_of_name (table_of ds) name)

-- `def f K`: what the K-th clause of f says, as an assertion
abbrev pub DefRow : List Decl → List ℕ → ℕ → RowTree → Type 0
DefRow ds name k = GivenOf (option_map assertion_of (def_form ds name k))
