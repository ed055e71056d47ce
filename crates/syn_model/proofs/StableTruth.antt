-- Truth of plain formulas is stable where all symbols give something: what is not false is true.
use Rattle.std.proofs.Common.{◌≡◌, ◌⊎◌, inl, inr, ℕ, ◌+◌, Bool, true, false, ◌&&◌, List, [], ◌∷◌, ◌++◌, All, Contains, get_or, Some, None, map, length, nat_eq, if◌then◌else◌, refl, sym, ap, subst, ◌∙◌, true≢false, arith}
use Rattle.std.specs.List.{AllByRecursion, flat_map}
use Rattle.std.proofs.lemmas.Bool.Decides.{nat_tests}
use Rattle.std.proofs.lemmas.List.Elements.{All-contains, All-head, All-tail, Contains-append_left, Contains-append_right, Contains-get_or}
use Rattle.std.proofs.lemmas.Option.{slice_get_past}
use Rattle.syn_term.specs.declared.sorts.Sort.{Sort}
use Rattle.syn_term.specs.declared.sorts.Sym.{Sym}
use Rattle.syn_term.specs.declared.sorts.SymId.{SymId}
use Rattle.syn_term.specs.declared.sorts.Var.{Var}
use Rattle.syn_term.specs.DeclaredSorts.{IsTable}
use Rattle.syn_term.specs.Symbols.{symbol_at}
use Rattle.syn_term.specs.Terms.{TermTree, sort_of}
use Rattle.syn_form.specs.declared.trees.Binder.{Binder}
use Rattle.syn_form.specs.declared.trees.Form.TheVariants as plain
use Rattle.syn_form.specs.declared.trees.QForm.TheVariants as form
use Rattle.syn_form.specs.declared.trees.QForm.TheViews as view
use Rattle.syn_form.specs.Elaboration.{sym_id}
use Rattle.syn_form.specs.Plain.{HasOneSortEach, IsAtom, IsSorted}
use Rattle.syn_form.specs.PlainQuantified.{IsFormedQ}
use Rattle.syn_form.specs.Quantified.{free_vars, free_vars_step, qform_vars, qform_vars_step, without}
use Rattle.syn_form.specs.Sorts.{same_sort}
use Rattle.syn_form.specs.Substitutions.{same_var}
use Rattle.syn_form.specs.Trees.{QFormTree, term_vars}
use Rattle.syn_form.proofs.Equations.{form_terms-Atom}
use Rattle.syn_form.proofs.FormedForms.{atom_formed}
use Rattle.syn_form.proofs.Lists.{Contains-append_both, Contains-cons_cases, Contains-head, Contains-tail, all_of-map, flat_map_weaker}
use Rattle.syn_form.proofs.QForms.{by_qform_cases, qfold-All, qfold-And, qfold-Atom, qfold-Equal, qfold-Exists, qfold-False, qfold-Implies, qfold-Not, qfold-Or, qfold-True}
use Rattle.syn_form.proofs.QNodes.{node-Atom, node-Equal, part-All, parts-And}
use Rattle.syn_value.specs.declared.tree.ValueTree.{ValueTree}
use Rattle.syn_value.specs.Values.{OfSort, same_value}
use Rattle.syn_value.proofs.SameValues.{same_value-is}
use Rattle.syn_model.specs.Calls.{Meaning, reading_at}
use Rattle.syn_model.specs.Evaluation.{Counted, Environment, evaluate_form, evaluate_term, on_all}
use Rattle.syn_model.specs.Clauses.{UsesForm}
use Rattle.syn_model.specs.Truth.{HaveOneValue, IsTrueAtom, IsTrueIn, OfSorts, read_as}
use Rattle.syn_model.proofs.DeeperCalls.{form_deeper, term_deeper}
use Rattle.syn_model.proofs.EvaluationEquations.{evaluate_form-Atom}
use Rattle.syn_model.proofs.Given.{Given}
use Rattle.syn_model.proofs.KeptReadings.{Some_one}
use Rattle.syn_model.proofs.OneOutcome.{have_one_value}
use Rattle.syn_model.proofs.OrdersGiving.{uses_none}
use Rattle.syn_model.proofs.Over.{all_of_two}
use Rattle.syn_model.proofs.SortedEvaluation.{Able, GivesOn, IsAny, form_given, has_sort, value_given}
use Rattle.syn_model.proofs.TruthEquations.{true-All, true-And, true-Atom, true-Equal, true-Exists, true-False, true-Implies, true-Not, true-Or, true-True}
use Rattle.syn_model.proofs.Using.{uses_atom}

-- what isn't false holds
abbrev pub IsStable : Type 0 → Type 0
IsStable A = ((A → ⊥) → ⊥) → A

pub decided_stable : (A : Type 0) → A ⊎ (A → ⊥) → IsStable A
decided_stable A (inl a) h = a
decided_stable A (inr n) h = absurd (h n)

stable_along : (A B : Type 0) → A ≡ B → IsStable B → IsStable A
stable_along A B e h = subst IsStable (sym e) h

-- the variables that are free are among all
abbrev Inside : QFormTree → Type 0
Inside f = (x : Var) → Contains (free_vars f) x → Contains (qform_vars f) x

inside_same : (f : QFormTree) (xs : List Var) → free_vars f ≡ xs → qform_vars f ≡ xs → Inside f
inside_same f xs a b x c = subst (λ (z : List Var). Contains z x) (a ∙ sym b) c

inside_along : (f : QFormTree) (xs ys : List Var) → free_vars f ≡ xs → qform_vars f ≡ ys → ((x : Var) → Contains xs x → Contains ys x) → Inside f
inside_along f xs ys a b h x c = subst (λ (z : List Var). Contains z x) (sym b) (h x (subst (λ (z : List Var). Contains z x) a c))

without_within : (v : Var) (xs : List Var) (x : Var) → Contains (without v xs) x → Contains xs x
without_within v [] x c = c
without_within v (w ∷ ws) x c = by (same_var v w) c (without_within v ws x)
  where
    at : (w ≡ x) ⊎ Contains (without v ws) x → (Contains (without v ws) x → Contains ws x) → Contains (w ∷ ws) x
    at (inl e) k = subst (Contains (w ∷ ws)) e (Contains-head w ws)
    at (inr c) k = Contains-tail w ws x (k c)

    by : (b : Bool) → Contains (if b then without v ws else w ∷ without v ws) x → (Contains (without v ws) x → Contains ws x) → Contains (w ∷ ws) x
    by true c k = Contains-tail w ws x (k c)
    by false c k = at (Contains-cons_cases w (without v ws) x c) k

-- another variable is left
left_without : (v : Var) (xs : List Var) (x : Var) → same_var v x ≡ false → Contains xs x → Contains (without v xs) x
left_without v [] x other c = c
left_without v (w ∷ ws) x other c = by (same_var v w) refl (Contains-cons_cases w ws x c) (left_without v ws x other)
  where
    by : (b : Bool) → same_var v w ≡ b → (w ≡ x) ⊎ Contains ws x → (Contains ws x → Contains (without v ws) x) → Contains (if b then without v ws else w ∷ without v ws) x
    by true e (inl is) k = absurd (true≢false (sym e ∙ (ap (same_var v) is ∙ other)))
    by true e (inr c) k = k c
    by false e (inl is) k = subst (Contains (w ∷ without v ws)) is (Contains-head w (without v ws))
    by false e (inr c) k = Contains-tail w (without v ws) x (k c)

inside_members : (all : List QFormTree) → All Inside all → (x : Var) → Contains (flat_map free_vars all) x → Contains (flat_map qform_vars all) x
inside_members all h = flat_map_weaker free_vars qform_vars all h

inside : (f : QFormTree) → Inside f
inside = by_qform_cases Inside (record {
  at_true = inside_same form.True [] (qfold-True free_vars_step) (qfold-True qform_vars_step);
  at_false = inside_same form.False [] (qfold-False free_vars_step) (qfold-False qform_vars_step);
  at_atom = λ r args. inside_same (form.Atom r args) (flat_map term_vars args) (qfold-Atom free_vars_step r args) (qfold-Atom qform_vars_step r args);
  at_equal = λ s t. inside_same (form.Equal s t) (term_vars s ++ term_vars t) (qfold-Equal free_vars_step s t) (qfold-Equal qform_vars_step s t);
  at_not = λ a h. inside_along (view.Not a) (free_vars a) (qform_vars a) (qfold-Not free_vars_step a) (qfold-Not qform_vars_step a) h;
  at_and = λ all h. inside_along (view.And all) (flat_map free_vars all) (flat_map qform_vars all) (qfold-And free_vars_step all ∙ all_of-map free_vars all) (qfold-And qform_vars_step all ∙ all_of-map qform_vars all) (inside_members all h);
  at_or = λ all h. inside_along (view.Or all) (flat_map free_vars all) (flat_map qform_vars all) (qfold-Or free_vars_step all ∙ all_of-map free_vars all) (qfold-Or qform_vars_step all ∙ all_of-map qform_vars all) (inside_members all h);
  at_implies = λ a b h k. inside_along (view.Implies a b) (free_vars a ++ free_vars b) (qform_vars a ++ qform_vars b) (qfold-Implies free_vars_step a b) (qfold-Implies qform_vars_step a b) (Contains-append_both (free_vars a) (free_vars b) (qform_vars a) (qform_vars b) h k);
  at_all = λ b a h. inside_along (view.All b a) (without b.var (free_vars a)) (b.var ∷ qform_vars a) (qfold-All free_vars_step b a) (qfold-All qform_vars_step b a) (λ x c. Contains-tail b.var (qform_vars a) x (h x (without_within b.var (free_vars a) x c)));
  at_exists = λ b a h. inside_along (view.Exists b a) (without b.var (free_vars a)) (b.var ∷ qform_vars a) (qfold-Exists free_vars_step b a) (qfold-Exists qform_vars_step b a) (λ x c. Contains-tail b.var (qform_vars a) x (h x (without_within b.var (free_vars a) x c)));
})

module _ (m : Meaning) (inputs : List ValueTree) (table : IsTable m.table) (gives : (f : SymId) (s : Sym) (vs : List ValueTree) → symbol_at m.table f ≡ Some s → OfSorts m.table s.args vs → GivesOn m inputs f s.result vs) where
  -- a symbol that isn't there
  abbrev outside : SymId
  outside = sym_id (length m.table.syms)

  outside_free : symbol_at m.table outside ≡ None
  outside_free = slice_get_past m.table.syms (length m.table.syms) (omega arith)

  able : (env : Environment) → Able m inputs env outside None
  able env = record { others = λ f s vs at other of. gives f s vs at of; itself = λ r s vs e at of is. absurd (cc) }

  -- all these variables are read as values of their sorts
  abbrev pub AreSorted : Environment → List Var → Type 0
  AreSorted env xs = All (λ (x : Var). OfSort m.table x.sort (env x.number)) xs

  module _ (env : Environment) (r : SymId) (args : List TermTree) (atom : IsAtom m.table r args) (sorted : All (IsSorted m.table) args) (vars : AreSorted env (flat_map term_vars args)) where
    atom_uses : UsesForm outside None (plain.Atom r args)
    atom_uses =
        (uses_atom outside None (plain.Atom r args) r args args args refl refl refl).0
        ((λ e. let never : None ≡ Some atom.sym = sym outside_free ∙ (ap (symbol_at m.table) (sym e) ∙ atom.is) in absurd (cc)), λ k d lt. uses_none m.table outside outside_free (get_or args k d) (sorted k d lt))

    atom_given : Given IsAny (λ n. evaluate_form (reading_at m n inputs) env (plain.Atom r args))
    atom_given =
        form_given m inputs env outside None (able env) table (plain.Atom r args) ((atom_formed m.table (plain.Atom r args) r args args refl refl).1 (atom, sorted)) atom_uses
        (subst (All (λ (x : Var). OfSort m.table x.sort (env x.number))) (sym (ap (flat_map term_vars) (form_terms-Atom r args))) vars)

    -- two outcomes of the atom are one
    atom_one : (n k : ℕ) (c d : Counted Bool) → on_all ((reading_at m n inputs).truth r) (map (evaluate_term (reading_at m n inputs) env) args) ≡ Some c → evaluate_form (reading_at m k inputs) env (plain.Atom r args) ≡ Some d → c ≡ d
    atom_one n k c d e h =
        let order : n + k ≡ k + n = omega arith in
        let first : evaluate_form (reading_at m (k + n) inputs) env (plain.Atom r args) ≡ Some c = form_deeper m n k inputs env (plain.Atom r args) c (evaluate_form-Atom (reading_at m n inputs) env r args ∙ e) in
        let second : evaluate_form (reading_at m (n + k) inputs) env (plain.Atom r args) ≡ Some d = form_deeper m k n inputs env (plain.Atom r args) d h in
        Some_one c d (sym first ∙ subst (λ j. evaluate_form (reading_at m j inputs) env (plain.Atom r args) ≡ Some d) order second)

    by_outcome : (n : ℕ) (c : Counted Bool) (b : Bool) → evaluate_form (reading_at m n inputs) env (plain.Atom r args) ≡ Some c → c.result ≡ b → IsTrueAtom m inputs env r args ⊎ (IsTrueAtom m inputs env r args → ⊥)
    by_outcome n c true is e = inl (n, (c.turns, sym (evaluate_form-Atom (reading_at m n inputs) env r args) ∙ (is ∙ ap (λ (b : Bool). Some (record { result = b; turns = c.turns })) e)))
    by_outcome n c false is e = inr (λ t.
        let d : Counted Bool = record { result = true; turns = t.1.0 } in
        true≢false (ap (λ (x : Counted Bool). x.result) (atom_one t.0 n d c t.1.1 is) ∙ e))

    atom_decided : IsTrueAtom m inputs env r args ⊎ (IsTrueAtom m inputs env r args → ⊥)
    atom_decided = by_outcome atom_given.nesting atom_given.counted atom_given.counted.result atom_given.is refl

  -- two values of a term are one
  term_one : (env : Environment) (u : TermTree) (n k : ℕ) (c d : Counted ValueTree) → evaluate_term (reading_at m n inputs) env u ≡ Some c → evaluate_term (reading_at m k inputs) env u ≡ Some d → c ≡ d
  term_one env u n k c d e h =
      let order : n + k ≡ k + n = omega arith in
      let first : evaluate_term (reading_at m (k + n) inputs) env u ≡ Some c = term_deeper m n k inputs env u c e in
      let second : evaluate_term (reading_at m (n + k) inputs) env u ≡ Some d = term_deeper m k n inputs env u d h in
      Some_one c d (sym first ∙ subst (λ j. evaluate_term (reading_at m j inputs) env u ≡ Some d) order second)

  by_values : (env : Environment) (s t : TermTree) (n k : ℕ) (v w : Counted ValueTree) → evaluate_term (reading_at m n inputs) env s ≡ Some v → evaluate_term (reading_at m k inputs) env t ≡ Some w → (b : Bool) → same_value v.result w.result ≡ b → HaveOneValue m inputs env s t ⊎ (HaveOneValue m inputs env s t → ⊥)
  by_values env s t n k v w v_is w_is true e =
      let is : v.result ≡ w.result = (same_value-is v.result w.result).0 e in
      inl (have_one_value m inputs env s t v.result n k (v.turns, v_is) (w.turns, w_is ∙ ap (λ (x : ValueTree). Some (record { result = x; turns = w.turns })) (sym is)))
  by_values env s t n k v w v_is w_is false e = inr (λ h.
      let c : Counted ValueTree = record { result = h.1; turns = h.2.0 } in
      let d : Counted ValueTree = record { result = h.1; turns = h.3.0 } in
      let first : c ≡ v = term_one env s h.0 n c v h.2.1 v_is in
      let second : d ≡ w = term_one env t h.0 k d w h.3.1 w_is in
      let is : v.result ≡ w.result = sym (ap (λ (x : Counted ValueTree). x.result) first) ∙ ap (λ (x : Counted ValueTree). x.result) second in
      true≢false (sym ((same_value-is v.result w.result).1 is) ∙ e))

  equal_decided : (env : Environment) (s t : TermTree) → IsSorted m.table s → IsSorted m.table t → sort_of m.table s ≡ sort_of m.table t → AreSorted env (term_vars s ++ term_vars t) → HaveOneValue m inputs env s t ⊎ (HaveOneValue m inputs env s t → ⊥)
  equal_decided env s t a b same vars =
      let of = has_sort m inputs env outside None (able env) s a in
      let both = (all_of_two (λ (x : Var). OfSort m.table x.sort (env x.number)) (term_vars s) (term_vars t)).1 vars in
      let v = value_given m inputs env outside None (able env) s a (uses_none m.table outside outside_free s a) both.0 of.0 of.1 in
      let w = value_given m inputs env outside None (able env) t b (uses_none m.table outside outside_free t b) both.1 of.0 (sym same ∙ of.1) in
      by_values env s t v.nesting w.nesting v.counted w.counted v.is w.is (same_value v.counted.result w.counted.result) refl

  -- a formula whose variables are read as values of their sorts
  abbrev Stable : QFormTree → Type 0
  Stable f = IsFormedQ m.table f → HasOneSortEach (qform_vars f) → (env : Environment) → AreSorted env (free_vars f) → IsStable (IsTrueIn m inputs env f)

  one_sort_within : (xs ys : List Var) → ((x : Var) → Contains xs x → Contains ys x) → HasOneSortEach ys → HasOneSortEach xs
  one_sort_within xs ys sub h v w a b e = h v w (sub v a) (sub w b) e

  members_stable : (all : List QFormTree) (env : Environment) → All Stable all → All (IsFormedQ m.table) all → HasOneSortEach (flat_map qform_vars all) → AreSorted env (flat_map free_vars all) → IsStable (AllByRecursion (λ a. IsTrueIn m inputs env a) all)
  members_stable [] env h formed sorts vars = λ n. tt
  members_stable (a ∷ all) env h formed sorts vars =
      let two = (all_of_two (λ (x : Var). OfSort m.table x.sort (env x.number)) (free_vars a) (flat_map free_vars all)).1 vars in
      let first = All-head Stable a all h (All-head (IsFormedQ m.table) a all formed) (one_sort_within (qform_vars a) (flat_map qform_vars (a ∷ all)) (Contains-append_left (qform_vars a) (flat_map qform_vars all)) sorts) env two.0 in
      let others = members_stable all env (All-tail Stable a all h) (All-tail (IsFormedQ m.table) a all formed) (one_sort_within (flat_map qform_vars all) (flat_map qform_vars (a ∷ all)) (Contains-append_right (qform_vars a) (flat_map qform_vars all)) sorts) two.1 in
      λ n. (first (λ k. n (λ p. k p.0)), others (λ k. n (λ p. k p.1)))

  -- below a quantifier its variable is read as a value of its sort
  sorted_below : (b : Binder) (a : QFormTree) (v : ValueTree) (env : Environment) → HasOneSortEach (b.var ∷ qform_vars a) → AreSorted env (without b.var (free_vars a)) → OfSort m.table b.var.sort v → AreSorted (read_as env b.var.number v) (free_vars a)
  sorted_below b a v env sorts vars of k d lt = by (get_or (free_vars a) k d) (Contains-get_or (free_vars a) k d lt) (nat_eq (get_or (free_vars a) k d).number b.var.number) refl
    where
      by : (x : Var) → Contains (free_vars a) x → (t : Bool) → nat_eq x.number b.var.number ≡ t → OfSort m.table x.sort (read_as env b.var.number v x.number)
      by x c true e =
          let number : x.number ≡ b.var.number = grind (arith, nat_tests) in
          let sort : x.sort ≡ b.var.sort = sorts x b.var (Contains-tail b.var (qform_vars a) x (inside a x c)) (Contains-head b.var (qform_vars a)) number in
          subst (OfSort m.table x.sort) (sym (ap (λ t. if t then v else env x.number) e)) (subst (λ (s : Sort). OfSort m.table s v) (sym sort) of)
      by x c false e =
          let apart : nat_eq b.var.number x.number ≡ false = grind (arith, nat_tests) in
          let other : same_var b.var x ≡ false = ap (λ t. t && same_sort b.var.sort x.sort) apart in
          subst (OfSort m.table x.sort) (sym (ap (λ t. if t then v else env x.number) e)) (All-contains (λ (y : Var). OfSort m.table y.sort (env y.number)) (without b.var (free_vars a)) x vars (left_without b.var (free_vars a) x other c))

  never_stable : (A : Type 0) → IsStable (A → ⊥)
  never_stable A h a = h (λ f. f a)

  -- what is not false is true
  pub truth_stable : (f : QFormTree) → IsFormedQ m.table f → HasOneSortEach (qform_vars f) → (env : Environment) → AreSorted env (free_vars f) → IsStable (IsTrueIn m inputs env f)
  truth_stable = by_qform_cases Stable (record {
    at_true = λ formed sorts env vars. stable_along (IsTrueIn m inputs env form.True) (Unit {0}) (true-True m inputs env) (λ n. tt);
    at_false = λ formed sorts env vars. stable_along (IsTrueIn m inputs env form.False) ⊥ (true-False m inputs env) (λ n. n (λ e. e));
    at_atom = λ r args formed sorts env vars.
        let h = node-Atom _ r args formed in
        stable_along (IsTrueIn m inputs env (form.Atom r args)) (IsTrueAtom m inputs env r args) (true-Atom m inputs env r args)
        (decided_stable (IsTrueAtom m inputs env r args) (atom_decided env r args h.0 h.1 (subst (AreSorted env) (qfold-Atom free_vars_step r args) vars)));
    at_equal = λ s t formed sorts env vars.
        let h = node-Equal _ s t formed in
        stable_along (IsTrueIn m inputs env (form.Equal s t)) (HaveOneValue m inputs env s t) (true-Equal m inputs env s t)
        (decided_stable (HaveOneValue m inputs env s t) (equal_decided env s t h.0 h.1 h.2 (subst (AreSorted env) (qfold-Equal free_vars_step s t) vars)));
    at_not = λ a h formed sorts env vars. stable_along (IsTrueIn m inputs env (view.Not a)) (IsTrueIn m inputs env a → ⊥) (true-Not m inputs env a) (never_stable (IsTrueIn m inputs env a));
    at_and = λ all h formed sorts env vars.
        stable_along (IsTrueIn m inputs env (view.And all)) (AllByRecursion (λ a. IsTrueIn m inputs env a) all) (true-And m inputs env all)
        (members_stable all env h (parts-And _ all formed) (subst HasOneSortEach (qfold-And qform_vars_step all ∙ all_of-map qform_vars all) sorts) (subst (AreSorted env) (qfold-And free_vars_step all ∙ all_of-map free_vars all) vars));
    at_or = λ all h formed sorts env vars. stable_along (IsTrueIn m inputs env (view.Or all)) (AllByRecursion (λ a. IsTrueIn m inputs env a → ⊥) all → ⊥) (true-Or m inputs env all) (never_stable (AllByRecursion (λ a. IsTrueIn m inputs env a → ⊥) all));
    at_implies = λ a b h k formed sorts env vars. stable_along (IsTrueIn m inputs env (view.Implies a b)) (IsTrueIn m inputs env a → (IsTrueIn m inputs env b → ⊥) → ⊥) (true-Implies m inputs env a b) (λ n x y. n (λ f. f x y));
    at_all = λ b a h formed sorts env vars.
        let all_sorts : HasOneSortEach (b.var ∷ qform_vars a) = subst HasOneSortEach (qfold-All qform_vars_step b a) sorts in
        let below : AreSorted env (without b.var (free_vars a)) = subst (AreSorted env) (qfold-All free_vars_step b a) vars in
        let part = part-All _ b a formed in
        stable_along (IsTrueIn m inputs env (view.All b a)) ((v : ValueTree) → OfSort m.table b.var.sort v → IsTrueIn m inputs (read_as env b.var.number v) a) (true-All m inputs env b a)
        (λ n v of. h part (one_sort_within (qform_vars a) (b.var ∷ qform_vars a) (Contains-tail b.var (qform_vars a)) all_sorts) (read_as env b.var.number v) (sorted_below b a v env all_sorts below of) (λ k. n (λ f. k (f v of))));
    at_exists = λ b a h formed sorts env vars. stable_along (IsTrueIn m inputs env (view.Exists b a)) (((v : ValueTree) → OfSort m.table b.var.sort v → IsTrueIn m inputs (read_as env b.var.number v) a → ⊥) → ⊥) (true-Exists m inputs env b a) (never_stable ((v : ValueTree) → OfSort m.table b.var.sort v → IsTrueIn m inputs (read_as env b.var.number v) a → ⊥));
  })

-- no formula is true together with its negation
pub not_both : (m : Meaning) (inputs : List ValueTree) (env : Environment) (f : QFormTree) → IsTrueIn m inputs env f → IsTrueIn m inputs env (view.Not f) → ⊥
not_both m inputs env f h k = subst (λ (Z : Type 0). Z) (true-Not m inputs env f) k h
