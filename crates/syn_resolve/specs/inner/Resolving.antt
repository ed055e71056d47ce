-- For private contracts: how two rows that are kept apart are resolved, and the row that comes of their instances.
use Rattle.std.specs.Prelude.{◌≡◌, ℕ, Bool, true, false, List, [], ◌∷◌, ◌++◌, Option, None, Some, IfSome, All}
use Rattle.syn_term.specs.declared.sorts.SymId.{SymId}
use Rattle.syn_term.specs.Symbols.{SymbolTable}
use Rattle.syn_term.specs.Terms.{TermTree}
use Rattle.syn_form.specs.Plain.{HasOneSortEach, IsFormed, IsFormedOut}
use Rattle.syn_form.specs.Positions.{at_position, formula}
use Rattle.syn_form.specs.Replacing.{replaced_all}
use Rattle.syn_form.specs.Substitutions.{IsUnifierOfForms, KeepsSorts, Substitution, UnifiesForms, substituted_form}
use Rattle.syn_form.specs.Trees.{FormTree, OutTree, bare_form}
use Rattle.syn_row.specs.declared.guards.GuardRule.{GuardRule}
use Rattle.syn_row.specs.Calls.{calls_standing_form}
use Rattle.syn_row.specs.JoinLaws.{GiveOneSort}
use Rattle.syn_row.specs.Results.{Figure, Gives, chosen_out, joined_form, joined_side, out_list}
use Rattle.syn_row.specs.Rows.{IsPlain, RowTree, bare_row, row_vars, substituted_row}
use Rattle.syn_resolve.specs.Resolution.{AreAt, resolved}
use Rattle.syn_resolve.specs.inner.Reflexing.{FigureGives, outputs_calls}

-- the row that comes of two instances, where the part p is replaced in the first, g stands in place of the second's formula, and the
-- output is chosen of u and v
abbrev pub row_joined : FormTree → Bool → RowTree → RowTree → FormTree → List FormTree → Option OutTree → Option OutTree → RowTree
row_joined p by a b g guards u v = record {
  side = joined_side a.side b.side;
  form = joined_form a.side (replaced_all p by a.form) b.side g guards;
  out = chosen_out p u v;
}

-- the row of resolution, where their part p is replaced in both
abbrev pub row_of_both : FormTree → RowTree → RowTree → List FormTree → RowTree
row_of_both p a b guards = row_joined p true a b (replaced_all p false b.form) guards a.out b.out

-- what is made of two instances, guards and the row that comes of them
abbrev pub figure_of : RowTree → RowTree → List FormTree → RowTree → Figure
figure_of a b guards under = record { forms = a.form ∷ b.form ∷ []; outs = out_list a.out ++ out_list b.out; guards = guards; row = under }

-- what resolution makes of two instances and guards
abbrev pub figure_of_both : FormTree → RowTree → RowTree → List FormTree → Figure
figure_of_both p a b guards = figure_of a b guards (row_of_both p a b guards)

-- the calls that stand in the test that chooses between two outputs
abbrev pub test_standing : Option OutTree → Option OutTree → FormTree → SymId → List TermTree
test_standing (Some u) (Some v) p f = calls_standing_form f p
test_standing (Some u) None p f = []
test_standing None v p f = []

-- those of a step of two parents: brought into the outputs, and in the test
abbrev pub calls_of_both : SymId → Substitution → FormTree → Option OutTree → Option OutTree → List TermTree
calls_of_both f σ p first second = outputs_calls f σ (out_list first ++ out_list second) ++ test_standing first second p f

-- a formula stands there
abbrev pub HasPart : List ℕ → FormTree → Type 0
HasPart at f = (h : FormTree) × (at_position at (formula f) ≡ Some (formula h))

-- what the two rows give where the one formula is the instance of the first row's part at this position
abbrev pub PartGives : Option GuardRule → Substitution → List ℕ → RowTree → RowTree → Option RowTree → Type 0
PartGives rule σ at first second o = (h p : FormTree) × (at_position at (formula first.form) ≡ Some (formula h)) × (bare_form (substituted_form σ h) ≡ bare_form p) × FigureGives (resolved rule σ p first second) o

-- parts of both rows, and a most general unifier of these
pub record UnifiesParts (table : SymbolTable) (ps qs : List (List ℕ)) (first second : RowTree) (σ : Substitution) : Type 0 where
  pub first_parts : List FormTree
  pub second_parts : List FormTree
  pub first_there : AreAt ps first.form first_parts
  pub second_there : AreAt qs second.form second_parts
  pub general : IsUnifierOfForms table (first_parts ++ second_parts) σ

-- the parts of both, one after another
pub record PartsOfBoth (ps qs : List (List ℕ)) (f g : FormTree) (parts : List FormTree) : Type 0 where
  pub first_parts : List FormTree
  pub second_parts : List FormTree
  pub first_there : AreAt ps f first_parts
  pub second_there : AreAt qs g second_parts
  pub is : parts ≡ first_parts ++ second_parts

-- parts of both rows, a most general unifier of these, and the formula that they become
pub record Unified (table : SymbolTable) (ps qs : List (List ℕ)) (first second : RowTree) : Type 0 where
  pub first_parts : List FormTree
  pub second_parts : List FormTree
  pub first_there : AreAt ps first.form first_parts
  pub second_there : AreAt qs second.form second_parts
  pub unifier : Substitution
  pub general : IsUnifierOfForms table (first_parts ++ second_parts) unifier
  pub one : FormTree
  pub one_is : All (λ f. bare_form (substituted_form unifier f) ≡ bare_form one) (first_parts ++ second_parts)

abbrev pub UnifiedGives : {table : SymbolTable} {ps qs : List (List ℕ)} {first second : RowTree} → Option GuardRule → Unified table ps qs first second → RowTree → Type 0
UnifiedGives {table} {ps} {qs} {first} {second} rule u q = Gives (resolved rule u.unifier u.one first second) q

-- The row that rows kept apart give; none only where, as soon as parts stand there and are unified, there is a way to unify them that
-- gives nothing.
abbrev pub ApartGives : SymbolTable → Option GuardRule → List (List ℕ) → List (List ℕ) → RowTree → RowTree → Option RowTree → Type 0
ApartGives table rule ps qs first second (Some q) = (u : Unified table ps qs first second) × UnifiedGives rule u q
ApartGives table rule ps qs first second None =
    (fs gs : List FormTree) → AreAt ps first.form fs → AreAt qs second.form gs → (τ : Substitution) → KeepsSorts table τ → UnifiesForms (fs ++ gs) τ
    → (u : Unified table ps qs first second) × ((q : RowTree) → UnifiedGives rule u q → ⊥)

-- two plain rows in which no variable number has two sorts, and whose outputs give terms of one sort
pub record IsPair (table : SymbolTable) (first second : RowTree) : Type 0 where
  pub first_plain : IsPlain table first
  pub second_plain : IsPlain table second
  pub sorts : HasOneSortEach (row_vars first ++ row_vars second)
  pub given : GiveOneSort table first.out second.out

-- a formed row that is the instance of this row but for places
pub record IsInstance (table : SymbolTable) (σ : Substitution) (r m : RowTree) : Type 0 where
  pub is : bare_row m ≡ bare_row (substituted_row σ r)
  pub formed : IsFormed table m.form
  pub formed_out : IfSome m.out (IsFormedOut table)
