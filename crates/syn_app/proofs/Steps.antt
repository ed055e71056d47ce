-- What the two rules give for a specification of this form: its goal is `z = T`, with T closed. Each row that follows is
-- `?n = T | ?n`, a variant of the goal, or `true | T`.
use Rattle.std.proofs.Common.{◌≡◌, ℕ, ◌≤◌, Bool, true, false, if◌then◌else◌, cond, nat_eq, List, [], ◌∷◌, Some, refl, sym, ◌∙◌, ap, subst, arith, ◌⊎◌, inl, inr}
use Rattle.std.proofs.lemmas.Bool.Decides.{nat_tests}
use Rattle.syn_term.specs.declared.sorts.Sort.TheVariants as sort
use Rattle.syn_term.specs.declared.sorts.Var.{Var}
use Rattle.syn_term.specs.Terms.{TermTree, variable_tree, nowhere, bare, bare_step, nodes, nodes_step, depth_of, depth_step}
use Rattle.syn_term.specs.Same.{same_tree}
use Rattle.syn_term.proofs.Same.{same_tree-to, same_tree-from}
use Rattle.syn_term.proofs.Trees.{fold-Var, fold-bare}
use Rattle.syn_app.specs.declared.trees.Form.TheVariants as form
use Rattle.syn_app.specs.declared.trees.Out.TheVariants as out
use Rattle.syn_app.specs.Trees.{FormTree, SpecTree}
use Rattle.syn_app.specs.declared.flat.Row.{Row}
use Rattle.syn_app.specs.declared.flat.FlatTerm.{FlatTerm}
use Rattle.syn_app.specs.declared.flat.Step.{Step}
use Rattle.syn_app.specs.declared.flat.Step.TheVariants as step
use Rattle.syn_app.specs.Terms.{term_tree, term_size, IsClosed}
use Rattle.syn_app.specs.SpecText.{ensures_of}
use Rattle.syn_app.specs.Limits.{FitsRow, FitsStep}
use Rattle.syn_app.specs.Rows.{Substitution, image, substituted, substituted_step, renamed, renamed_step, renumbered, renamed_row, bare_row, HasVariable, has_variable_step, OccursIn, IsUnifier, IsMostGeneral, instance_of, AreVariants, simplified_row}
use Rattle.syn_app.specs.inner.Shapes.{row_variable, open_goal, solved_goal, IsOpen, HasShape, StepGives}
use Rattle.syn_app.specs.Replay.{Follows, row_at, goal_row, GoalGives, ReflexGives}
use Rattle.syn_app.proofs.Closed.{substituted-closed, renamed-closed, bare-term_tree, closed-has, nodes-term_tree, depth_of-term_tree}

bare-variable : (v : Var) → bare (variable_tree v) ≡ variable_tree v
bare-variable v = fold-Var bare_step nowhere v

renamed-variable : (to : ℕ → ℕ) (v : Var) → renamed to (variable_tree v) ≡ variable_tree (renumbered to v)
renamed-variable to v = fold-Var (renamed_step to) nowhere v

substituted-variable : (σ : Substitution) (v : Var) → substituted σ (variable_tree v) ≡ image σ v
substituted-variable σ v = fold-Var (substituted_step σ) nowhere v

renamed-bare : (to : ℕ → ℕ) (t : TermTree) → renamed to (bare t) ≡ renamed to t
renamed-bare to = fold-bare (renamed_step to) (λ p v. refl) (λ p f xs. refl)

has-variable : (n : ℕ) → HasVariable n (row_variable n)
has-variable n = fold-Var (has_variable_step n) nowhere _ ∙ (grind (arith, nat_tests))

one_number : (m n : ℕ) → nat_eq m n ≡ true → m ≡ n
one_number m n h = grind (arith, nat_tests)

variable-has : (k n : ℕ) → HasVariable k (row_variable n) → n ≡ k
variable-has k n h = one_number n k (sym (fold-Var (has_variable_step k) nowhere (record { number = n; sort = sort.Nat })) ∙ h)

module _ (r : FlatTerm) (closed : IsClosed r.base) where
  abbrev tree : TermTree
  tree = term_tree r

  -- no variable is the term
  no_variable : (n : ℕ) → bare (row_variable n) ≡ bare (term_tree r) → ⊥
  no_variable n e =
      closed-has n r closed (subst (λ (z : TermTree). HasVariable n z) (sym (bare-variable _) ∙ (e ∙ bare-term_tree r)) (has-variable n))

  not_same : (n : ℕ) (b : Bool) → same_tree (row_variable n) (term_tree r) ≡ b → b ≡ false
  not_same n true e = absurd (no_variable n (same_tree-to (row_variable n) (term_tree r) e))
  not_same n false e = refl

  simplified-open : (n : ℕ) → simplified_row (open_goal (term_tree r) n) ≡ open_goal (term_tree r) n
  simplified-open n =
      ap (λ (b : Bool). record { form = if b then form.True else form.Equal (row_variable n) (term_tree r); out = out.Give (row_variable n) }) (not_same n (same_tree (row_variable n) (term_tree r)) refl)

  renamed-open : (to : ℕ → ℕ) (n : ℕ) → renamed_row to (open_goal (term_tree r) n) ≡ open_goal (term_tree r) (to n)
  renamed-open to n = let e = renamed-variable to (record { number = n; sort = sort.Nat }) in let h = renamed-closed to r closed in cc

  renamed-solved : (to : ℕ → ℕ) → renamed_row to (solved_goal (term_tree r)) ≡ solved_goal (term_tree r)
  renamed-solved to = let h = renamed-closed to r closed in cc

-- the two numbers exchanged
abbrev exchanged : ℕ → ℕ → ℕ → ℕ
exchanged a b k = if nat_eq k a then b else if nat_eq k b then a else k

exchanged-twice : (a b k : ℕ) → exchanged a b (exchanged a b k) ≡ k
exchanged-twice a b k = grind (arith, nat_tests)

exchanged-first : (a b : ℕ) → exchanged a b a ≡ b
exchanged-first a b = grind (arith, nat_tests)

module _ (r : FlatTerm) (closed : IsClosed r.base) (short : term_size r ≤ 1199) where
  fits-open : (n : ℕ) → FitsRow (open_goal (term_tree r) n)
  fits-open n =
      let a = nodes-term_tree r in
      let b = depth_of-term_tree r in
      let c : nodes (row_variable n) ≡ 1 = fold-Var nodes_step nowhere _ in
      let d : depth_of (row_variable n) ≡ 1 = fold-Var depth_step nowhere _ in
      (omega arith, omega arith)

  fits-solved : FitsRow (solved_goal (term_tree r))
  fits-solved = let a = nodes-term_tree r in let b = depth_of-term_tree r in (omega arith, omega arith)

  module _ (spec : SpecTree) (is : spec.ensures_form ≡ ensures_of r) where
    goal_is : goal_row spec ≡ open_goal (term_tree r) 0
    goal_is = ap (λ (f : FormTree). simplified_row (record { form = f; out = out.Give (row_variable 0) })) is ∙ simplified-open r closed 0

    -- the rule `goal` gives the variants of the goal
    pub goal_gives : (row : Row) (n : ℕ) → bare_row row ≡ open_goal (term_tree r) n → GoalGives spec row
    goal_gives row n e = record {
      fits = subst FitsRow (sym goal_is) (fits-open 0);
      variant = record {
        to = exchanged 0 n;
        from = exchanged 0 n;
        one_to_one = exchanged-twice 0 n;
        is = ap (renamed_row (exchanged 0 n)) goal_is ∙ (renamed-open r closed (exchanged 0 n) 0 ∙ (ap (open_goal (term_tree r)) (exchanged-first 0 n) ∙ sym e));
      };
    }

    -- and nothing else
    pub goal_only : (row : Row) → GoalGives spec row → (n : ℕ) × (bare_row row ≡ open_goal (term_tree r) n)
    goal_only row g =
        let v : AreVariants (goal_row spec) row = g.variant in
        (v.to 0, sym (sym (renamed-open r closed v.to 0) ∙ (sym (ap (renamed_row v.to) goal_is) ∙ v.is)))

    -- what a substitution gives for the equation of an open goal
    same_sides : (σ : Substitution) (n : ℕ) → IsUnifier σ (row_variable n) (term_tree r) → bare (image σ (record { number = n; sort = sort.Nat })) ≡ term_tree r
    same_sides σ n u = ap bare (sym (substituted-variable σ _)) ∙ (u ∙ (ap bare (substituted-closed σ r closed) ∙ bare-term_tree r))

    -- where an open goal is reflected, what is left is solved
    pub reflex_only : (row : Row) (n : ℕ) → ReflexGives (open_goal (term_tree r) n) row → bare_row row ≡ solved_goal (term_tree r)
    reflex_only row n g =
        let σ = g.unifier in
        let x = substituted σ (row_variable n) in
        let l : row_variable n ≡ g.left = cc (g.equality) in
        let t : term_tree r ≡ g.right = cc (g.equality) in
        let u : IsUnifier σ (row_variable n) (term_tree r) = subst (λ (z : TermTree). IsUnifier σ z (term_tree r)) (sym l) (subst (λ (z : TermTree). IsUnifier σ g.left z) (sym t) g.most_general.unifies) in
        let same : same_tree x (substituted σ (term_tree r)) ≡ true = same_tree-from x (substituted σ (term_tree r)) u in
        let solved : simplified_row (instance_of σ (open_goal (term_tree r) n)) ≡ record { form = form.True; out = out.Give x } =
        ap (λ (b : Bool). record { form = if b then form.True else form.Equal x (substituted σ (term_tree r)); out = out.Give x }) same in
        let whole : renamed g.variant.to x ≡ term_tree r = sym (renamed-bare g.variant.to x) ∙ (ap (renamed g.variant.to) (ap bare (substituted-variable σ _) ∙ same_sides σ n u) ∙ renamed-closed g.variant.to r closed) in
        sym g.variant.is ∙ (ap (renamed_row g.variant.to) solved ∙ ap (λ (z : TermTree). record { form = form.True; out = out.Give z }) whole)

    -- a variable and one with its number and another sort become the same, or the first stays
    listed : (τ : Substitution) (n : ℕ) (v : Var) → v.number ≡ n → (image τ (record { number = n; sort = sort.Nat }) ≡ image τ v) ⊎ (image τ (record { number = n; sort = sort.Nat }) ≡ row_variable n)
    listed [] n v e = inr refl
    listed (x ∷ xs) n v e =
        let h = listed xs n v e in
        elim (nat_eq x.0 n) as (λ b. nat_eq x.0 n ≡ b → (cond b x.1 (image xs (record { number = n; sort = sort.Nat })) ≡ image (x ∷ xs) v) ⊎ (cond b x.1 (image xs (record { number = n; sort = sort.Nat })) ≡ row_variable n)) [
          | true ↦ (λ k. inl (ap (λ (b : Bool). cond b x.1 (image xs v)) (sym (ap (nat_eq x.0) e ∙ k))))
          | false ↦ (λ k. elim h [ inl p ↦ inl (p ∙ ap (λ (b : Bool). cond b x.1 (image xs v)) (sym (ap (nat_eq x.0) e ∙ k))) | inr p ↦ inr p ])
        ] refl

    number_stable : (m k : ℕ) → ((m ≡ k → ⊥) → ⊥) → m ≡ k
    number_stable m k h = grind (arith, nat_tests)

    solving : ℕ → Substitution
    solving n = (n, term_tree r) ∷ []

    -- a variable that occurs in the equation is the open goal's own
    own_variable : (k n : ℕ) → OccursIn k (row_variable n) (term_tree r) → k ≡ n
    own_variable k n o = number_stable k n (λ ne. o (λ h. ne (sym (variable-has k n h))) (closed-has k r closed))

    own_occurs : (n : ℕ) → OccursIn n (row_variable n) (term_tree r)
    own_occurs n = λ a b. a (has-variable n)

    solving-image : (n : ℕ) (v : Var) → v.number ≡ n → image (solving n) v ≡ term_tree r
    unfolding solving
    solving-image n v e = let h : nat_eq n v.number ≡ true = grind (arith, nat_tests) in ap (λ (b : Bool). if b then term_tree r else variable_tree v) h

    solving_unifies : (n : ℕ) → IsUnifier (solving n) (row_variable n) (term_tree r)
    solving_unifies n = ap bare (substituted-variable (solving n) _ ∙ (solving-image n _ refl ∙ sym (substituted-closed (solving n) r closed)))

    solving_general : (n : ℕ) (τ : Substitution) → IsUnifier τ (row_variable n) (term_tree r) → (v : Var) → v.number ≡ n → bare (image τ v) ≡ bare (substituted τ (image (solving n) v))
    solving_general n τ u v e =
        let whole : bare (substituted τ (image (solving n) v)) ≡ term_tree r = ap (λ (z : TermTree). bare (substituted τ z)) (solving-image n v e) ∙ (ap bare (substituted-closed τ r closed) ∙ bare-term_tree r) in
        let s : bare (image τ (record { number = n; sort = sort.Nat })) ≡ term_tree r = same_sides τ n u in
        elim (listed τ n v e) [
          | inl p ↦ ap bare (sym p) ∙ (s ∙ sym whole)
          | inr p ↦ absurd (no_variable r closed n (ap bare (sym p) ∙ (s ∙ sym (bare-term_tree r))))
        ]

    solving_most : (n : ℕ) → IsMostGeneral (solving n) (row_variable n) (term_tree r)
    unfolding solving
    solving_most n = record {
      unifies = solving_unifies n;
      general = λ τ u. (τ, (λ v o. solving_general n τ u v (own_variable v.number n o)));
      own = ((own_occurs n, (λ k h. absurd (closed-has k r closed h))), tt);
    }

    solving-instance : (n : ℕ) → instance_of (solving n) (open_goal (term_tree r) n) ≡ record { form = form.Equal (term_tree r) (term_tree r); out = out.Give (term_tree r) }
    solving-instance n =
        let a : substituted (solving n) (row_variable n) ≡ term_tree r = substituted-variable (solving n) _ ∙ solving-image n _ refl in
        let b : substituted (solving n) (term_tree r) ≡ term_tree r = substituted-closed (solving n) r closed in cc

    solving-simplified : (n : ℕ) → simplified_row (instance_of (solving n) (open_goal (term_tree r) n)) ≡ solved_goal (term_tree r)
    solving-simplified n =
        ap simplified_row (solving-instance n) ∙ ap (λ (b : Bool). record { form = if b then form.True else form.Equal (term_tree r) (term_tree r); out = out.Give (term_tree r) }) (same_tree-from (term_tree r) (term_tree r) refl)

    -- an open goal is reflected to the solved one
    pub reflex_gives : (row : Row) (n : ℕ) → bare_row row ≡ solved_goal (term_tree r) → ReflexGives (open_goal (term_tree r) n) row
    reflex_gives row n e = record {
      left = row_variable n;
      right = term_tree r;
      unifier = solving n;
      equality = refl;
      most_general = solving_most n;
      weight = let a = nodes-term_tree r in let b = depth_of-term_tree r in subst FitsStep (sym (solving-instance n)) (omega arith, omega arith);
      fits = subst FitsRow (sym (solving-simplified n)) fits-solved;
      variant = record {
        to = λ k. k;
        from = λ k. k;
        one_to_one = λ k. refl;
        is = ap (renamed_row (λ k. k)) (solving-simplified n) ∙ (renamed-solved r closed (λ k. k) ∙ sym e);
      };
    }

    -- a solved goal has no equality to reflect
    pub reflex_solved : (row : Row) → ReflexGives (solved_goal (term_tree r)) row → ⊥
    reflex_solved row g = cc (g.equality)

-- the term is the one that the output condition of the specification asks for
pub record IsTarget (target : TermTree) (spec : SpecTree) : Type 0 where
  pub flat : FlatTerm
  pub closed : IsClosed flat.base
  pub short : term_size flat ≤ 1199
  pub is : target ≡ term_tree flat
  pub condition : spec.ensures_form ≡ ensures_of flat

-- where all rows before are of the two shapes, a row follows exactly where the step gives it, in shapes
module _ (t : TermTree) (spec : SpecTree) (target : IsTarget t spec) (before : List Row) (shapes : (k : ℕ) (parent : Row) → row_at before k ≡ Some parent → HasShape t parent) (row : Row) where
  abbrev r : FlatTerm
  r = target.flat

  pub follows_from : (s : Step) → StepGives t before s (bare_row row) → Follows spec before s row
  follows_from step.Goal g = goal_gives target.flat target.closed target.short spec target.condition row g.0 (g.1 ∙ ap (λ (z : TermTree). open_goal z g.0) target.is)
  follows_from (step.Reflex k) g = (
    open_goal t g.0.0,
    g.0.1,
    subst (λ (z : TermTree). ReflexGives (open_goal z g.0.0) row) (sym target.is) (reflex_gives target.flat target.closed target.short spec target.condition row g.0.0 (g.1 ∙ ap solved_goal target.is)),
  )

  reflects : (parent : Row) → HasShape t parent → ReflexGives parent row → IsOpen t parent × (bare_row row ≡ solved_goal t)
  reflects parent (inl o) g = (
    o,
    reflex_only target.flat target.closed target.short spec target.condition row o.0 (subst (λ (z : Row). ReflexGives z row) (o.1 ∙ ap (λ (z : TermTree). open_goal z o.0) target.is) g) ∙ ap solved_goal (sym target.is),
  )
  reflects parent (inr s) g = absurd (reflex_solved target.flat target.closed target.short spec target.condition row (subst (λ (z : Row). ReflexGives z row) (s ∙ ap solved_goal target.is) g))

  pub follows_to : (s : Step) → Follows spec before s row → StepGives t before s (bare_row row)
  follows_to step.Goal g =
      let h = goal_only target.flat target.closed target.short spec target.condition row g in
      (h.0, h.1 ∙ ap (λ (z : TermTree). open_goal z h.0) (sym target.is))
  follows_to (step.Reflex k) f =
      let h = reflects f.0 (shapes k f.0 f.1) f.2 in
      ((h.0.0, f.1 ∙ ap (λ (z : Row). Some z) h.0.1), h.1)
