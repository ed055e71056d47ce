-- A tree whose variables are renamed is evaluated to what it is in the environment that is read through the renaming.
use Rattle.std.proofs.Common.{◌≡◌, ◌⊎◌, inl, inr, ℕ, Bool, true, false, List, [], ◌∷◌, All, Contains, get_or, map, nat_eq, if◌then◌else◌, refl, sym, ap, ◌∙◌, true≢false, arith}
use Rattle.std.specs.List.{flat_map}
use Rattle.std.proofs.lemmas.Bool.Decides.{nat_tests}
use Rattle.std.proofs.lemmas.List.Elements.{Contains-get_or}
use Rattle.syn_term.specs.declared.sorts.SymId.{SymId}
use Rattle.syn_term.specs.declared.sorts.Var.{Var}
use Rattle.syn_term.specs.declared.term.Place.{Place}
use Rattle.syn_term.specs.declared.term.Node.TheVariants as node
use Rattle.syn_term.specs.declared.term.Node.TheViews as node_view
use Rattle.syn_term.specs.Terms.{TermTree, bare, nowhere, variable_tree}
use Rattle.syn_term.proofs.Trees.{fold-App, fold-Var}
use Rattle.syn_form.specs.Plain.{HasOneSortEach}
use Rattle.syn_form.specs.Substitutions.{Substitution, image, substituted, substituted_form, substituted_out, substituted_step}
use Rattle.syn_form.specs.Trees.{FormTree, OutTree, form_terms, form_vars, out_terms, out_vars, term_vars}
use Rattle.syn_form.proofs.Lists.{Contains-cons_cases, Contains-head, Contains-tail, none_in_nil}
use Rattle.syn_form.proofs.TermNodes.{by_term_cases}
use Rattle.syn_model.specs.Evaluation.{Environment, Reading, evaluate_form, evaluate_out, evaluate_term, free, on_all}
use Rattle.syn_model.proofs.BareEvaluation.{evaluate_term-bare}
use Rattle.syn_model.proofs.EvaluationEquations.{evaluate_term-App, evaluate_term-Var}
use Rattle.syn_model.proofs.Over.{all_of_pieces, over_app, over_var}
use Rattle.syn_laws.proofs.Changing.{changes_substituted, form_alike, map_alike, out_alike, out_changes_substituted}

module _ (reading : Reading) (env also : Environment) (σ : Substitution) where
  -- what the variable becomes is evaluated, without a turn, to what the other environment reads the variable as
  abbrev pub IsReadAs : Var → Type 0
  IsReadAs v = evaluate_term reading env (image σ v) ≡ free (also v.number)

  abbrev TermRead : TermTree → Type 0
  TermRead t = All IsReadAs (term_vars t) → evaluate_term reading env (substituted σ t) ≡ evaluate_term reading also t

  variable : (p : Place) (v : Var) → TermRead (node.Var p v)
  variable p v h =
      ap (evaluate_term reading env) (fold-Var (substituted_step σ) p v) ∙ ((over_var IsReadAs (node.Var p v) p v refl).1 h ∙ sym (evaluate_term-Var reading also p v))

  applied : (p : Place) (f : SymId) (args : List TermTree) → All TermRead args → TermRead (node_view.App p f args)
  applied p f args same h =
      ap (evaluate_term reading env) (fold-App (substituted_step σ) p f args)
      ∙ (evaluate_term-App reading env nowhere f (map (substituted σ) args)
      ∙ (ap (on_all (reading.value f)) (map_alike (evaluate_term reading env) (substituted σ) (evaluate_term reading also) (λ t. All IsReadAs (term_vars t)) args same ((over_app IsReadAs (node_view.App p f args) p f args args refl refl).1 h))
      ∙ sym (evaluate_term-App reading also p f args)))

  -- then a term, a formula and an output are evaluated to what they are in the other environment
  pub term_read : (t : TermTree) → All IsReadAs (term_vars t) → evaluate_term reading env (substituted σ t) ≡ evaluate_term reading also t
  term_read = by_term_cases TermRead variable applied

  terms_read : (ts : List TermTree) → All IsReadAs (flat_map term_vars ts) → All (λ t. evaluate_term reading env (substituted σ t) ≡ evaluate_term reading also t) ts
  terms_read ts h k d lt = term_read (get_or ts k d) ((all_of_pieces IsReadAs term_vars ts).1 h k d lt)

  pub form_read : (f : FormTree) → All IsReadAs (form_vars f) → evaluate_form reading env (substituted_form σ f) ≡ evaluate_form reading also f
  form_read f h = form_alike reading env also (substituted_form σ) (substituted σ) (changes_substituted σ) f (terms_read (form_terms f) h)

  pub out_read : (o : OutTree) → All IsReadAs (out_vars o) → evaluate_out reading env (substituted_out σ o) ≡ evaluate_out reading also o
  out_read o h = out_alike reading env also (substituted_form σ) (substituted σ) (changes_substituted σ) (substituted_out σ) (out_changes_substituted σ) o (terms_read (out_terms o) h)

-- each of these variables becomes the variable that the function gives
pub record Renames (to : Var → Var) (vars : List Var) (σ : Substitution) : Type 0 where
  pub is : (v : Var) → Contains vars v → bare (image σ v) ≡ variable_tree (to v)

-- each of these variables is read as the one that it becomes
abbrev pub ReadsThrough : (Var → Var) → Environment → Environment → List Var → Type 0
ReadsThrough to env also = All (λ (v : Var). also v.number ≡ env (to v).number)

module _ (reading : Reading) (to : Var → Var) (σ : Substitution) (env also : Environment) where
  -- so what each becomes is evaluated, without a turn, to what it is read as
  pub read_renamed : (vars : List Var) → Renames to vars σ → ReadsThrough to env also vars → All (IsReadAs reading env also σ) vars
  read_renamed vars renames through k d lt =
      let v = get_or vars k d in
      sym (evaluate_term-bare reading env (image σ v))
      ∙ (ap (evaluate_term reading env) (renames.is v (Contains-get_or vars k d lt)) ∙ (evaluate_term-Var reading env nowhere (to v) ∙ ap free (sym (through k d lt))))

  -- the renamed tree is evaluated to what the tree is in the environment that is read through the renaming
  pub renamed_term : (t : TermTree) → Renames to (term_vars t) σ → ReadsThrough to env also (term_vars t) → evaluate_term reading env (substituted σ t) ≡ evaluate_term reading also t
  renamed_term t renames through = term_read reading env also σ t (read_renamed (term_vars t) renames through)

  pub renamed_form : (f : FormTree) → Renames to (form_vars f) σ → ReadsThrough to env also (form_vars f) → evaluate_form reading env (substituted_form σ f) ≡ evaluate_form reading also f
  renamed_form f renames through = form_read reading env also σ f (read_renamed (form_vars f) renames through)

  pub renamed_out : (o : OutTree) → Renames to (out_vars o) σ → ReadsThrough to env also (out_vars o) → evaluate_out reading env (substituted_out σ o) ≡ evaluate_out reading also o
  renamed_out o renames through = out_read reading env also σ o (read_renamed (out_vars o) renames through)

-- a variable of the same sort, with the number that the function gives
abbrev pub with_number : (ℕ → ℕ) → Var → Var
with_number to v = record { number = to v.number; sort = v.sort }

-- where a renaming goes by the numbers, each number is read as the one that it becomes
pub through_numbers : (to : ℕ → ℕ) (env : Environment) (vars : List Var) → ReadsThrough (with_number to) env (λ k. env (to k)) vars
through_numbers to env vars k d lt = refl

-- the environment read through a renaming of these variables; where several have one number the first counts
abbrev pub read_through : (Var → Var) → List Var → Environment → Environment
read_through to [] env k = env k
read_through to (v ∷ vs) env k = if nat_eq v.number k then env (to v).number else read_through to vs env k

-- variables with one number and one sort are one
pub one_var : (v w : Var) → v.number ≡ w.number → v.sort ≡ w.sort → v ≡ w
one_var v w e h = ap (λ n. record { number = n; sort = v.sort }) e ∙ ap (λ s. record { number = w.number; sort = s }) h

-- and of fewer variables none has two sorts either
pub one_sort_tail : (v : Var) (vs : List Var) → HasOneSortEach (v ∷ vs) → HasOneSortEach vs
one_sort_tail v vs h x y a b e = h x y (Contains-tail v vs x a) (Contains-tail v vs y b) e

pub reads_through : (to : Var → Var) (env : Environment) (vars : List Var) → HasOneSortEach vars → (x : Var) → Contains vars x → read_through to vars env x.number ≡ env (to x).number
reads_through to env [] h x c = absurd (none_in_nil x c)
reads_through to env (v ∷ vs) h x c = by (nat_eq v.number x.number) refl (Contains-cons_cases v vs x c) (reads_through to env vs (one_sort_tail v vs h) x)
  where
    by : (t : Bool) → nat_eq v.number x.number ≡ t → (v ≡ x) ⊎ Contains vs x → (Contains vs x → read_through to vs env x.number ≡ env (to x).number) → read_through to (v ∷ vs) env x.number ≡ env (to x).number
    by true e at more =
        let number : v.number ≡ x.number = grind (arith, nat_tests) in
        let is : v ≡ x = one_var v x number (h v x (Contains-head v vs) c number) in
        ap (λ t. if t then env (to v).number else read_through to vs env x.number) e ∙ ap (λ (y : Var). env (to y).number) is
    by false e (inl is) more =
        let number : v.number ≡ x.number = ap (λ (y : Var). y.number) is in
        let same : nat_eq v.number x.number ≡ true = grind (arith, nat_tests) in
        absurd (true≢false (sym same ∙ e))
    by false e (inr at) more = ap (λ t. if t then env (to v).number else read_through to vs env x.number) e ∙ more at

-- where no variable number has two sorts, there is such an environment
pub through_sorted : (to : Var → Var) (env : Environment) (vars : List Var) → HasOneSortEach vars → ReadsThrough to env (read_through to vars env) vars
through_sorted to env vars h k d lt = reads_through to env vars h (get_or vars k d) (Contains-get_or vars k d lt)
