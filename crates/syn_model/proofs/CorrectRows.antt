-- For the condition that the output is the input: the program that gives its input back is correct, and the one that gives 0 isn't.
use Rattle.std.proofs.Common.{◌≡◌, ℕ, zero, suc, Bool, List, [], ◌∷◌, Option, Some, codes, refl, sym, ap, subst, ◌∙◌}
use Rattle.std.proofs.lemmas.List.Elements.{All-cons, All-head, All-nil}
use Rattle.syn_term.specs.declared.sorts.Sort.{Sort}
use Rattle.syn_term.specs.declared.sorts.Sort.TheVariants.{Nat}
use Rattle.syn_term.specs.Terms.{TermTree, application, nowhere, variable_tree}
use Rattle.syn_form.specs.declared.trees.Out.TheVariants as output
use Rattle.syn_form.specs.declared.trees.QForm.TheVariants as qform
use Rattle.syn_form.specs.Trees.{OutTree, QFormTree}
use Rattle.syn_value.specs.declared.tree.ValueTree.{ValueTree}
use Rattle.syn_value.specs.declared.tree.ValueTree.TheVariants as tree
use Rattle.syn_value.specs.Values.{OfSort, number_of, sort_step}
use Rattle.syn_value.proofs.Trees.{fold-Num, number_of-Num}
use Rattle.syn_model.specs.declared.spec_part.SpecPart.TheVariants as part
use Rattle.syn_model.specs.Calls.{call_of, numbered_values, reading_at}
use Rattle.syn_model.specs.Correctness.{EndsWell, Ensures, IsCorrect, MeetsEnsures, Requires, program_meaning, spec_meaning}
use Rattle.syn_model.specs.Evaluation.{Counted, Environment, after, evaluate_out, evaluate_term}
use Rattle.syn_model.specs.Heads.{HeadTree}
use Rattle.syn_model.specs.Specifications.{SpecTree, bare_spec, with_part}
use Rattle.syn_model.specs.Truth.{HaveOneValue, IsTrueIn, read_as}
use Rattle.syn_model.proofs.EvaluationEquations.{evaluate_out-Give, evaluate_term-App, evaluate_term-Var}
use Rattle.syn_model.proofs.OneOutcome.{outcome_is_good}
use Rattle.syn_model.proofs.TruthEquations.{true-Equal}

abbrev head : HeadTree
head = record { program = codes "f"; inputs = record { name = codes "a"; sort = Nat } ∷ []; result = Nat }

-- behind zero, successor and the program
abbrev input : TermTree
input = application (record { 0 = 3 }) []

abbrev result_is_input : QFormTree
result_is_input = qform.Equal (variable_tree (record { number = 0; sort = Nat })) input

abbrev pub spec : SpecTree
spec = with_part (bare_spec [] (codes "same") head (codes "z")) (part.Ensures result_is_input)

abbrev pub body : OutTree
body = output.Give input

-- the call is the body with the input read as its value, and takes one turn
call_body : (v : ValueTree) → call_of (program_meaning [] spec body) 1 (v ∷ []) ≡ after 1 (evaluate_out (reading_at (program_meaning [] spec body) 0 (v ∷ [])) (numbered_values []) body)
call_body v = refl

given : (v : ValueTree) → call_of (program_meaning [] spec body) 1 (v ∷ []) ≡ Some (record { result = v; turns = 1 })
given v =
    let reading = reading_at (program_meaning [] spec body) 0 (v ∷ []) in
    call_body v ∙ ap (after 1) (evaluate_out-Give reading (numbered_values []) input ∙ evaluate_term-App reading (numbered_values []) nowhere (record { 0 = 3 }) [])

good : (v : ValueTree) → IsTrueIn (spec_meaning [] spec) (v ∷ []) (read_as (numbered_values []) 0 v) result_is_input
good v =
    let reading = reading_at (spec_meaning [] spec) 0 (v ∷ []) in
    let env = read_as (numbered_values []) 0 v in
    subst (λ (Z : Type 0). Z) (sym (true-Equal (spec_meaning [] spec) (v ∷ []) env (variable_tree (record { number = 0; sort = Nat })) input)) (
      0,
      v,
      (0, evaluate_term-Var reading env nowhere (record { number = 0; sort = Nat })),
      (0, evaluate_term-App reading env nowhere (record { 0 = 3 }) []),
    )

ends_well : (v : ValueTree) → OfSort spec.table Nat v → EndsWell [] spec body (v ∷ [])
ends_well v sorted = record {
  nesting = 1;
  value = v;
  ends = (1, given v);
  of_sort = sorted;
  good = All-cons (Ensures [] spec (v ∷ []) v) (part.Ensures result_is_input) [] (good v) (All-nil (Ensures [] spec (v ∷ []) v));
}

pub same_is_correct : IsCorrect [] spec body
unfolding IsCorrect
same_is_correct [] sorted met = absurd sorted
same_is_correct (v ∷ []) sorted met = ends_well v sorted.0
same_is_correct (v ∷ w ∷ vs) sorted met = absurd sorted.1

abbrev pub wrong : OutTree
wrong = output.Give (application (record { 0 = 0 }) [])

abbrev one_input : List ValueTree
one_input = tree.Num 1 ∷ []

wrong_body : call_of (program_meaning [] spec wrong) 1 one_input ≡ after 1 (evaluate_out (reading_at (program_meaning [] spec wrong) 0 one_input) (numbered_values []) wrong)
wrong_body = refl

wrong_given : call_of (program_meaning [] spec wrong) 1 one_input ≡ Some (record { result = tree.Num 0; turns = 1 })
wrong_given =
    let reading = reading_at (program_meaning [] spec wrong) 0 one_input in
    wrong_body ∙ ap (after 1) (evaluate_out-Give reading (numbered_values []) (application (record { 0 = 0 }) []) ∙ evaluate_term-App reading (numbered_values []) nowhere (record { 0 = 0 }) [])

input_at : (n : ℕ) (env : Environment) → evaluate_term (reading_at (spec_meaning [] spec) n one_input) env input ≡ Some (record { result = tree.Num 1; turns = 0 })
input_at zero env = evaluate_term-App (reading_at (spec_meaning [] spec) 0 one_input) env nowhere (record { 0 = 3 }) []
input_at (suc n) env = evaluate_term-App (reading_at (spec_meaning [] spec) (suc n) one_input) env nowhere (record { 0 = 3 }) []

one_result : {A : Type 0} (c d : Counted A) → Some c ≡ Some d → c.result ≡ d.result
one_result c d e = let h : c ≡ d = cc in ap (λ z. z.result) h

numbers_apart : (v : ValueTree) → tree.Num 0 ≡ v → tree.Num 1 ≡ v → ⊥
numbers_apart v a b = let h : ◌≡◌ {A = Option ℕ} (Some 0) (Some 1) = sym (number_of-Num 0) ∙ (ap number_of (a ∙ sym b) ∙ number_of-Num 1) in cc

abbrev zero_result : Environment
zero_result = read_as (numbered_values []) 0 (tree.Num 0)

not_one_value : HaveOneValue (spec_meaning [] spec) one_input zero_result (variable_tree (record { number = 0; sort = Nat })) input → ⊥
not_one_value (n, v, (j, e), (k, h)) =
    numbers_apart v
    (one_result (record { result = tree.Num 0; turns = 0 }) (record { result = v; turns = j }) (sym (evaluate_term-Var (reading_at (spec_meaning [] spec) n one_input) zero_result nowhere (record { number = 0; sort = Nat })) ∙ e))
    (one_result (record { result = tree.Num 1; turns = 0 }) (record { result = v; turns = k }) (sym (input_at n zero_result) ∙ h))

not_good : IsTrueIn (spec_meaning [] spec) one_input zero_result result_is_input → ⊥
not_good h = not_one_value (subst (λ (Z : Type 0). Z) (true-Equal (spec_meaning [] spec) one_input zero_result (variable_tree (record { number = 0; sort = Nat })) input) h)

refused : EndsWell [] spec wrong one_input → ⊥
refused ends =
    let good_at : MeetsEnsures [] spec one_input (tree.Num 0) = outcome_is_good [] spec wrong one_input ends 1 (tree.Num 0) (1, wrong_given) in
    not_good (All-head (Ensures [] spec one_input (tree.Num 0)) (part.Ensures result_is_input) [] good_at)

one_sorted : OfSort spec.table Nat (tree.Num 1)
one_sorted = ap (λ (fits : Sort → Bool). fits Nat) (fold-Num (sort_step spec.table) 1)

pub wrong_is_not_correct : IsCorrect [] spec wrong → ⊥
unfolding IsCorrect
wrong_is_not_correct h = refused (h one_input (one_sorted, tt) (All-cons (Requires [] spec one_input) (part.Ensures result_is_input) [] tt (All-nil (Requires [] spec one_input))))
