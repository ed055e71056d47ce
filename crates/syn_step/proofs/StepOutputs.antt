-- The output of the row that a step gives has the sort of the program's result, where the outputs of the rows before it have.
use Rattle.std.proofs.Common.{◌≡◌, ℕ, List, Option, None, Some, Result, IfOk, IfSome, All, refl, sym, subst}
use Rattle.std.specs.Option.{option_and_then, option_map}
use Rattle.std.proofs.lemmas.List.Elements.{All-weaker}
use Rattle.std.proofs.lemmas.Result.{IfOk-weaker}
use Rattle.syn_term.specs.Bank.{Kept}
use Rattle.syn_term.specs.declared.sorts.Sort.{Sort}
use Rattle.syn_form.specs.Plain.{given_sort}
use Rattle.syn_form.specs.Quantified.{unquantified}
use Rattle.syn_form.specs.Trees.{FormTree, OutTree}
use Rattle.syn_row.specs.Results.{AreApart}
use Rattle.syn_row.specs.Rows.{RowTree}
use Rattle.syn_model.specs.Specifications.{output_var}
use Rattle.syn_start.specs.declared.steps.Origin.TheVariants as origin
use Rattle.syn_start.specs.declared.steps.Step.{Step}
use Rattle.syn_start.specs.declared.steps.Step.TheVariants as step
use Rattle.syn_start.specs.Initial.{Exactly, GivenOf, assertion_of, def_form, goal_of, input_condition, output_condition}
use Rattle.syn_start.specs.Starts.{StartTree}
use Rattle.syn_resolve.specs.Splitting.{Splits, conclusion, conjunct, disjunct, premise}
use Rattle.syn_start.specs.Rows.{IsRowOf}
use Rattle.syn_step.specs.Steps.{StepGives}
use Rattle.syn_step.proofs.GivenSorts.{AllGive, canonical_gives, chosen_gives, formed_gives, gives_sort, substituted_give, variable_gives, variant_gives}
use Rattle.syn_step.proofs.NumberedRows.{row_holds}

-- a member of a row has the row's output
split_output : (r : RowTree) (i : ℕ) (u : RowTree) → Splits r i u → u.out ≡ r.out
split_output r i u (conjunct all o k f e) = refl
split_output r i u (disjunct all o k f e) = refl
split_output r i u (premise a b o) = refl
split_output r i u (conclusion a b o) = refl

module _ (x : StartTree) where
  abbrev result_sort : Option Sort
  result_sort = Some x.spec.head.result

  -- the output, where there is one, gives terms of the result's sort
  abbrev Fits : RowTree → Type 0
  Fits r = IfSome r.out (AllGive x.spec.table result_sort)

  goal_fits : (o : Option FormTree) (q : RowTree) → GivenOf (option_map (goal_of x.spec) o) q → Fits q
  goal_fits None q h = absurd h
  goal_fits (Some f) q h = canonical_gives x.spec.table result_sort (goal_of x.spec f) q h.is (variable_gives x.spec.table (output_var x.spec))

  assertion_fits : (o : Option FormTree) (q : RowTree) → GivenOf (option_map assertion_of o) q → Fits q
  assertion_fits None q h = absurd h
  assertion_fits (Some f) q h = canonical_gives x.spec.table result_sort (assertion_of f) q h.is tt

  apart_fits : (r s first second : RowTree) → AreApart r s first second → Fits r → Fits s → Fits first × Fits second
  apart_fits r s first second a h k = (
    variant_gives x.spec.table result_sort r first (record { renaming = a.left; renames = a.renames_left; is = a.first_is }) h,
    variant_gives x.spec.table result_sort s second (record { renaming = a.right; renames = a.renames_right; is = a.second_is }) k,
  )

  module _ (rows : List RowTree) (all : All Fits rows) where
    step_fits : (s : Step) (q : RowTree) → StepGives x rows s q → Fits q
    step_fits (step.Start origin.Goal) q h = goal_fits (option_and_then unquantified (output_condition x.spec.parts)) q h
    step_fits (step.Start origin.Input) q h = canonical_gives x.spec.table result_sort (assertion_of (input_condition x.spec.parts)) q h.is tt
    step_fits (step.Start (origin.Def name k)) q h = assertion_fits (def_form x.theory.decls name k) q h
    step_fits (step.Start (origin.Axiom name)) q h = absurd h
    step_fits (step.Start origin.Induct) q h = absurd h
    step_fits (step.Split n member) q h =
        let r = h.0 in
        let g = h.2 in
        canonical_gives x.spec.table result_sort g.under q g.gives.is (subst (λ (z : Option OutTree). IfSome z (AllGive x.spec.table result_sort)) (sym (split_output r member g.under g.splits)) (row_holds Fits rows n r h.1 all))
    step_fits (step.Dual n) q h = canonical_gives x.spec.table result_sort _ q h.2.is (row_holds Fits rows n h.0 h.1 all)
    step_fits (step.Reflex n at) q h =
        let g = h.2 in
        canonical_gives x.spec.table result_sort _ q g.gives.is (substituted_give x.spec.table result_sort g.unifier g.general.sorts h.0.out (row_holds Fits rows n h.0 h.1 all))
    step_fits (step.Resolve n ps m qs) q h =
        let g = h.2.2 in
        let a = apart_fits h.0 h.2.0 g.first g.second g.apart (row_holds Fits rows n h.0 h.1 all) (row_holds Fits rows m h.2.0 h.2.1 all) in
        canonical_gives x.spec.table result_sort _ q g.gives.is
        (chosen_gives x.spec.table result_sort g.one _ _ (substituted_give x.spec.table result_sort g.unifier g.general.sorts g.first.out a.0) (substituted_give x.spec.table result_sort g.unifier g.general.sorts g.second.out a.1))
    step_fits (step.Equal n at way m place) q h =
        let g = h.2.2 in
        let a = apart_fits h.0 h.2.0 g.first g.second g.apart (row_holds Fits rows n h.0 h.1 all) (row_holds Fits rows m h.2.0 h.2.1 all) in
        canonical_gives x.spec.table result_sort _ q g.gives.is
        (chosen_gives x.spec.table result_sort _ _ _ (substituted_give x.spec.table result_sort g.unifier g.general.sorts g.second.out a.1) (substituted_give x.spec.table result_sort g.unifier g.general.sorts g.first.out a.0))
    step_fits (step.Relate n at way m place) q h = absurd h

  module _ (bank : Kept) (rows : List RowTree) (all : All (IsRowOf x bank) rows) where
    rows_fit : All Fits rows
    rows_fit = All-weaker (IsRowOf x bank) Fits (λ r h. formed_gives x.spec.table result_sort r.out h.plain.out h.output) rows all

    -- what is answered of a step
    answer_fits : (s : Step) (o : Option RowTree) → Exactly (StepGives x rows s) o → IfSome o (λ q. IfSome q.out (λ u. given_sort x.spec.table u ≡ Some x.spec.head.result))
    answer_fits s None h = tt
    answer_fits s (Some q) h = gives_sort x.spec.table result_sort q.out (step_fits rows rows_fit s q h)

    pub result_fits : {E : Type 0} (s : Step) (r : Result (Option RowTree) E) → IfOk r (Exactly (StepGives x rows s)) → IfOk r (λ o. IfSome o (λ q. IfSome q.out (λ u. given_sort x.spec.table u ≡ Some x.spec.head.result)))
    result_fits s r h = IfOk-weaker r (Exactly (StepGives x rows s)) (λ o. IfSome o (λ q. IfSome q.out (λ u. given_sort x.spec.table u ≡ Some x.spec.head.result))) (answer_fits s) h
