-- What each step gives is the canonical row of some row, and a step gives one row at most.
use Rattle.std.proofs.Common.{◌≡◌, ℕ, List, Option, None, Some, IfSome, All, sym, ◌∙◌, subst}
use Rattle.syn_row.specs.Guards.{IsGuardRule}
use Rattle.syn_row.specs.Rows.{IsPlain, RowTree, bare_row, canonical_row}
use Rattle.syn_start.specs.declared.steps.Origin.TheVariants as origin
use Rattle.syn_start.specs.declared.steps.Step.{Step}
use Rattle.syn_start.specs.declared.steps.Step.TheVariants as step
use Rattle.syn_start.specs.Initial.{GivenOf, assertion_of, def_form, goal_of, input_condition, output_condition}
use Rattle.syn_start.specs.Starts.{StartTree}
use Rattle.syn_form.specs.Quantified.{unquantified}
use Rattle.std.specs.Option.{option_and_then, option_map}
use Rattle.syn_resolve.specs.Replacement.{EqualGives}
use Rattle.syn_resolve.specs.Resolution.{ReflexGives, ResolveGives}
use Rattle.syn_resolve.specs.Splitting.{DualGives, SplitGives}
use Rattle.syn_resolve.proofs.Laws.{rule_laws}
use Rattle.syn_step.specs.Steps.{OfRow, StepGives}
use Rattle.syn_step.proofs.NumberedRows.{row_holds}

-- the row is the canonical one of some row
abbrev pub IsCanonicalOf : RowTree → Type 0
IsCanonicalOf q = (u : RowTree) × (bare_row q ≡ bare_row (canonical_row u))

given_canonical : (o : Option RowTree) (q : RowTree) → GivenOf o q → IsCanonicalOf q
given_canonical None q h = absurd h
given_canonical (Some u) q h = (u, h.is)

pub step_canonical : (x : StartTree) (rows : List RowTree) (s : Step) (q : RowTree) → StepGives x rows s q → IsCanonicalOf q
step_canonical x rows (step.Start origin.Goal) q h = given_canonical (option_map (goal_of x.spec) (option_and_then unquantified (output_condition x.spec.parts))) q h
step_canonical x rows (step.Start origin.Input) q h = (assertion_of (input_condition x.spec.parts), h.is)
step_canonical x rows (step.Start (origin.Def name k)) q h = given_canonical (option_map assertion_of (def_form x.theory.decls name k)) q h
step_canonical x rows (step.Start (origin.Axiom name)) q h = absurd h
step_canonical x rows (step.Start origin.Induct) q h = absurd h
step_canonical x rows (step.Split n member) q h = (h.2.under, h.2.gives.is)
step_canonical x rows (step.Dual n) q h = (_, h.2.is)
step_canonical x rows (step.Reflex n at) q h = (_, h.2.gives.is)
step_canonical x rows (step.Resolve n ps m qs) q h = (_, h.2.2.gives.is)
step_canonical x rows (step.Equal n at way m place) q h = (_, h.2.2.gives.is)
step_canonical x rows (step.Relate n at way m place) q h = absurd h

given_one : (o : Option RowTree) (p q : RowTree) → GivenOf o p → GivenOf o q → bare_row p ≡ bare_row q
given_one None p q a b = absurd a
given_one (Some u) p q a b = a.is ∙ sym b.is

-- one row has the number, so what is given of it is one row where the rule gives one
one_of_row : (Gives : RowTree → RowTree → Type 0) (P : RowTree → Type 0) (rows : List RowTree) (n : ℕ) (p q : RowTree) → All P rows → ((r : RowTree) → P r → Gives r p → Gives r q → bare_row p ≡ bare_row q) → OfRow rows n (λ r. Gives r p) → OfRow rows n (λ r. Gives r q) → bare_row p ≡ bare_row q
one_of_row Gives P rows n p q all one a b =
    let e = a.1 in
    let f = b.1 in
    let same : b.0 ≡ a.0 = cc in
    one a.0 (row_holds P rows n a.0 a.1 all) a.2 (subst (λ (z : RowTree). Gives z q) same b.2)

one_of_rows : (Gives : RowTree → RowTree → RowTree → Type 0) (P : RowTree → Type 0) (rows : List RowTree) (n m : ℕ) (p q : RowTree) → All P rows → ((r s : RowTree) → P r → P s → Gives r s p → Gives r s q → bare_row p ≡ bare_row q)
    → OfRow rows n (λ r. OfRow rows m (λ s. Gives r s p)) → OfRow rows n (λ r. OfRow rows m (λ s. Gives r s q)) → bare_row p ≡ bare_row q
one_of_rows Gives P rows n m p q all one a b =
    let e = a.1 in
    let f = b.1 in
    let g = a.2.1 in
    let h = b.2.1 in
    let first : b.0 ≡ a.0 = cc in
    let second : b.2.0 ≡ a.2.0 = cc in
    one a.0 a.2.0 (row_holds P rows n a.0 a.1 all) (row_holds P rows m a.2.0 a.2.1 all) a.2.2
    (subst (λ (y : RowTree). Gives y a.2.0 q) first (subst (λ (z : RowTree). Gives b.0 z q) second b.2.2))

pub step_one : (x : StartTree) (rows : List RowTree) → IfSome x.rule (IsGuardRule x.spec.table) → All (IsPlain x.spec.table) rows → (s : Step) (p q : RowTree) → StepGives x rows s p → StepGives x rows s q → bare_row p ≡ bare_row q
step_one x rows is plain (step.Start origin.Goal) p q a b = given_one (option_map (goal_of x.spec) (option_and_then unquantified (output_condition x.spec.parts))) p q a b
step_one x rows is plain (step.Start origin.Input) p q a b = a.is ∙ sym b.is
step_one x rows is plain (step.Start (origin.Def name k)) p q a b = given_one (option_map assertion_of (def_form x.theory.decls name k)) p q a b
step_one x rows is plain (step.Start (origin.Axiom name)) p q a b = absurd a
step_one x rows is plain (step.Start origin.Induct) p q a b = absurd a
step_one x rows is plain (step.Split n member) p q a b =
    one_of_row (λ r z. SplitGives r member z) (IsPlain x.spec.table) rows n p q plain (λ r h c d. rule_laws.split_one r member p q c d) a b
step_one x rows is plain (step.Dual n) p q a b =
    one_of_row (λ r z. DualGives r z) (IsPlain x.spec.table) rows n p q plain (λ r h c d. rule_laws.dual_one r p q c d) a b
step_one x rows is plain (step.Reflex n at) p q a b =
    one_of_row (λ r z. ReflexGives x.spec.table x.rule r at z) (IsPlain x.spec.table) rows n p q plain (λ r h c d. rule_laws.reflex_one x.spec.table x.rule r at p q is h c d) a b
step_one x rows is plain (step.Resolve n ps m qs) p q a b =
    one_of_rows (λ r s z. ResolveGives x.spec.table x.rule r ps s qs z) (IsPlain x.spec.table) rows n m p q plain (λ r s h k c d. rule_laws.resolve_one x.spec.table x.rule r s ps qs p q is h k c d) a b
step_one x rows is plain (step.Equal n at way m place) p q a b =
    one_of_rows (λ r s z. EqualGives x.spec.table x.rule r at way s place z) (IsPlain x.spec.table) rows n m p q plain (λ r s h k c d. rule_laws.equal_one x.spec.table x.rule r at way s place p q is h k c d) a b
step_one x rows is plain (step.Relate n at way m place) p q a b = absurd a
