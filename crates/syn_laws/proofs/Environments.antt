-- Where each of some variables has a value that fits it, an environment reads each as such a value.
use Rattle.std.proofs.Common.{◌≡◌, ◌⊎◌, inl, inr, Bool, true, false, List, [], ◌∷◌, All, Contains, get_or, nat_eq, if◌then◌else◌, refl, sym, ap, subst, ◌∙◌, true≢false, arith}
use Rattle.std.proofs.lemmas.Bool.Decides.{nat_tests}
use Rattle.std.proofs.lemmas.List.Elements.{All-contains, All-nil, Contains-get_or}
use Rattle.syn_term.specs.declared.sorts.Var.{Var}
use Rattle.syn_form.specs.Plain.{HasOneSortEach}
use Rattle.syn_form.proofs.Lists.{Contains-cons_cases, Contains-head, Contains-tail}
use Rattle.syn_value.specs.declared.tree.ValueTree.{ValueTree}
use Rattle.syn_model.specs.Evaluation.{Environment}
use Rattle.syn_model.specs.Truth.{read_as}
use Rattle.syn_laws.proofs.Renamings.{one_sort_tail, one_var}

module _ (Fits : Var → ValueTree → Type 0) where
  -- the environment reads the variable as a value that fits it
  abbrev pub IsRead : Environment → Var → Type 0
  IsRead env v = Fits v (env v.number)

  one_more : (v : Var) (vs : List Var) → HasOneSortEach (v ∷ vs) → (w : ValueTree) → Fits v w → (env : Environment) → All (IsRead env) vs → All (IsRead (read_as env v.number w)) (v ∷ vs)
  one_more v vs sorts w fits env read k d lt = by (get_or (v ∷ vs) k d) (Contains-get_or (v ∷ vs) k d lt) (Contains-cons_cases v vs (get_or (v ∷ vs) k d) (Contains-get_or (v ∷ vs) k d lt)) (nat_eq (get_or (v ∷ vs) k d).number v.number) refl
    where
      by : (x : Var) → Contains (v ∷ vs) x → (v ≡ x) ⊎ Contains vs x → (t : Bool) → nat_eq x.number v.number ≡ t → IsRead (read_as env v.number w) x
      by x c at true e =
          let number : v.number ≡ x.number = grind (arith, nat_tests) in
          let is : v ≡ x = one_var v x number (sorts v x (Contains-head v vs) c number) in
          subst (Fits x) (sym (ap (λ t. if t then w else env x.number) e)) (subst (λ (y : Var). Fits y w) is fits)
      by x c (inl is) false e =
          let number : v.number ≡ x.number = ap (λ (y : Var). y.number) is in
          let same : nat_eq x.number v.number ≡ true = grind (arith, nat_tests) in
          absurd (true≢false (sym same ∙ e))
      by x c (inr at) false e = subst (Fits x) (sym (ap (λ t. if t then w else env x.number) e)) (All-contains (IsRead env) vs x read at)

  -- no variable number has two sorts, and each variable has a value that fits it
  pub environment_of : (vars : List Var) → HasOneSortEach vars → ((v : Var) → Contains vars v → (w : ValueTree) × Fits v w) → Environment → (env : Environment) × All (IsRead env) vars
  environment_of [] sorts values start = (start, All-nil (IsRead start))
  environment_of (v ∷ vs) sorts values start =
      let w = values v (Contains-head v vs) in
      let rest = environment_of vs (one_sort_tail v vs sorts) (λ x c. values x (Contains-tail v vs x c)) start in
      (read_as rest.0 v.number w.0, one_more v vs sorts w.0 w.1 rest.0 rest.1)
