-- Which tree a syntax tree is taken for, as the code finds it: what was counted decides, then what it stands for, then the sorts.
use Rattle.std.proofs.Common.{◌≡◌, ◌↔◌, inl, inr, IfSome, ℕ, ◌≤◌, Bool, false, List, Option, None, Some, IsTrue, sym, ◌∙◌, ap, subst, arith, true≢false}
use Rattle.std.specs.Option.{option_map}
use Rattle.syn_term.specs.declared.sorts.Var.{Var}
use Rattle.syn_term.specs.Terms.{TermTree, bare}
use Rattle.syn_form.specs.declared.syntax.TermSyntax.{TermSyntax}
use Rattle.syn_form.specs.declared.syntax.FormSyntax.{FormSyntax}
use Rattle.syn_form.specs.declared.syntax.OutSyntax.{OutSyntax}
use Rattle.syn_form.specs.Elaboration.{elaborate_term, elaborate_form, elaborate_plain, elaborate_out}
use Rattle.syn_form.specs.Plain.{HasOneSortEach}
use Rattle.syn_form.specs.Quantified.{bare_qform, qform_vars}
use Rattle.syn_form.specs.Scopes.{TextScope}
use Rattle.syn_form.specs.Texts.{Limit}
use Rattle.syn_form.specs.Trees.{FormTree, QFormTree, OutTree, bare_form, bare_out, term_vars, form_vars, out_vars}
use Rattle.syn_expr.specs.inner.Accepting.{IfSorted, Taken, TakesForm, TakesOut, TakesQForm, TakesTerm, limit_of}
use Rattle.syn_expr.specs.inner.Elaborating.{bare_reading}
use Rattle.syn_expr.specs.Limits.{IsPast, term_cost, term_levels, form_cost, form_levels, out_cost, out_levels}
use Rattle.syn_form.proofs.BareVars.{term_vars_bare, form_vars_bare, qform_vars_bare, out_vars_bare}
use Rattle.syn_expr.proofs.FormCounts.{form_nodes_are, form_depth_is}
use Rattle.syn_expr.proofs.FormMaking.{both}
use Rattle.syn_expr.proofs.PlainCounts.{plain_nodes_are, plain_depth_is, out_nodes_are, out_depth_is}
use Rattle.syn_expr.proofs.TermCounts.{term_nodes_are, term_depth_is}

one_sort : (vs ws : List Var) → vs ≡ ws → HasOneSortEach vs → HasOneSortEach ws
one_sort vs ws e h = subst HasOneSortEach e h

module _ (scope : TextScope) (s : TermSyntax) (most deepest : ℕ) where
  -- what would be too large or too deep is taken for none
  pub term_counted : (b : Bool) → IsTrue b ↔ ((term_cost s ≤ most) × (term_levels s ≤ deepest)) → b ≡ false → (t : TermTree) → TakesTerm (limit_of most deepest) scope s t → ⊥
  term_counted b h off t k =
      let n = term_nodes_are scope s t k.tree in
      let d = term_depth_is scope s t k.tree in
      let few = k.few in
      let low = k.shallow in true≢false (sym (h.1 (omega arith, omega arith)) ∙ off)

  -- nor what stands for nothing
  pub term_absent : (o : Option TermTree) → o ≡ None → option_map bare o ≡ elaborate_term scope s → (t : TermTree) → TakesTerm (limit_of most deepest) scope s t → ⊥
  term_absent o none e t k = let h : None ≡ Some t = sym (ap (option_map bare) none) ∙ (e ∙ k.tree) in absurd (cc)

  module _ (o : Option TermTree) (u : TermTree) (there : o ≡ Some u) (is : option_map bare o ≡ elaborate_term scope s) where
    term_is : elaborate_term scope s ≡ Some (bare u)
    term_is = sym is ∙ ap (option_map bare) there

    -- nor that in which a number has two sorts
    term_sorts : (HasOneSortEach (term_vars u) → ⊥) → (t : TermTree) → TakesTerm (limit_of most deepest) scope s t → ⊥
    term_sorts off t k =
        let h : Some (bare u) ≡ Some t = sym term_is ∙ k.tree in
        let same : bare u ≡ t = cc in
        off (one_sort (term_vars t) (term_vars u) (ap term_vars (sym same) ∙ term_vars_bare u) k.sorts)

    -- the tree that was made is the one that is taken
    term_taken : (term_cost s ≤ most) × (term_levels s ≤ deepest) → HasOneSortEach (term_vars u) → TakesTerm (limit_of most deepest) scope s (bare u)
    term_taken low each =
        let n = term_nodes_are scope s (bare u) term_is in
        let d = term_depth_is scope s (bare u) term_is in
        let l = low.0 in
        let m = low.1 in
        record { tree = term_is; sorts = one_sort (term_vars u) (term_vars (bare u)) (sym (term_vars_bare u)) each; few = omega arith; shallow = omega arith }

    -- and what the test on sorts answers is right
    pub term_tested : (term_cost s ≤ most) × (term_levels s ≤ deepest) → (r : Option TermTree) → IfSorted term_vars u r → Taken bare (TakesTerm (limit_of most deepest) scope s) r
    term_tested low None h = term_sorts h
    term_tested low (Some w) h = subst (λ (z : TermTree). TakesTerm (limit_of most deepest) scope s (bare z)) (sym h.0) (term_taken low h.1)

module _ (scope : TextScope) (s : FormSyntax) (most deepest : ℕ) where
  -- what would be too large or too deep is taken for none
  pub form_counted : (b : Bool) → IsTrue b ↔ ((form_cost s ≤ most) × (form_levels s ≤ deepest)) → b ≡ false → (t : FormTree) → TakesForm (limit_of most deepest) scope s t → ⊥
  form_counted b h off t k =
      let n = plain_nodes_are scope s t k.tree in
      let d = plain_depth_is scope s t k.tree in
      let few = k.few in
      let low = k.shallow in true≢false (sym (h.1 (omega arith, omega arith)) ∙ off)

  -- nor what stands for nothing
  pub form_absent : (o : Option FormTree) → o ≡ None → option_map bare_form o ≡ elaborate_plain scope s → (t : FormTree) → TakesForm (limit_of most deepest) scope s t → ⊥
  form_absent o none e t k = let h : None ≡ Some t = sym (ap (option_map bare_form) none) ∙ (e ∙ k.tree) in absurd (cc)

  module _ (o : Option FormTree) (u : FormTree) (there : o ≡ Some u) (is : option_map bare_form o ≡ elaborate_plain scope s) where
    form_is : elaborate_plain scope s ≡ Some (bare_form u)
    form_is = sym is ∙ ap (option_map bare_form) there

    -- nor that in which a number has two sorts
    form_sorts : (HasOneSortEach (form_vars u) → ⊥) → (t : FormTree) → TakesForm (limit_of most deepest) scope s t → ⊥
    form_sorts off t k =
        let h : Some (bare_form u) ≡ Some t = sym form_is ∙ k.tree in
        let same : bare_form u ≡ t = cc in
        off (one_sort (form_vars t) (form_vars u) (ap form_vars (sym same) ∙ form_vars_bare u) k.sorts)

    -- the tree that was made is the one that is taken
    form_taken : (form_cost s ≤ most) × (form_levels s ≤ deepest) → HasOneSortEach (form_vars u) → TakesForm (limit_of most deepest) scope s (bare_form u)
    form_taken low each =
        let n = plain_nodes_are scope s (bare_form u) form_is in
        let d = plain_depth_is scope s (bare_form u) form_is in
        let l = low.0 in
        let m = low.1 in
        record { tree = form_is; sorts = one_sort (form_vars u) (form_vars (bare_form u)) (sym (form_vars_bare u)) each; few = omega arith; shallow = omega arith }

    -- and what the test on sorts answers is right
    pub form_tested : (form_cost s ≤ most) × (form_levels s ≤ deepest) → (r : Option FormTree) → IfSorted form_vars u r → Taken bare_form (TakesForm (limit_of most deepest) scope s) r
    form_tested low None h = form_sorts h
    form_tested low (Some w) h = subst (λ (z : FormTree). TakesForm (limit_of most deepest) scope s (bare_form z)) (sym h.0) (form_taken low h.1)

module _ (scope : TextScope) (s : OutSyntax) (most deepest : ℕ) where
  -- what would be too large or too deep is taken for none
  pub out_counted : (b : Bool) → IsTrue b ↔ ((out_cost s ≤ most) × (out_levels s ≤ deepest)) → b ≡ false → (t : OutTree) → TakesOut (limit_of most deepest) scope s t → ⊥
  out_counted b h off t k =
      let n = out_nodes_are scope s t k.tree in
      let d = out_depth_is scope s t k.tree in
      let few = k.few in
      let low = k.shallow in true≢false (sym (h.1 (omega arith, omega arith)) ∙ off)

  -- nor what stands for nothing
  pub out_absent : (o : Option OutTree) → o ≡ None → option_map bare_out o ≡ elaborate_out scope s → (t : OutTree) → TakesOut (limit_of most deepest) scope s t → ⊥
  out_absent o none e t k = let h : None ≡ Some t = sym (ap (option_map bare_out) none) ∙ (e ∙ k.tree) in absurd (cc)

  module _ (o : Option OutTree) (u : OutTree) (there : o ≡ Some u) (is : option_map bare_out o ≡ elaborate_out scope s) where
    out_is : elaborate_out scope s ≡ Some (bare_out u)
    out_is = sym is ∙ ap (option_map bare_out) there

    -- nor that in which a number has two sorts
    out_sorts : (HasOneSortEach (out_vars u) → ⊥) → (t : OutTree) → TakesOut (limit_of most deepest) scope s t → ⊥
    out_sorts off t k =
        let h : Some (bare_out u) ≡ Some t = sym out_is ∙ k.tree in
        let same : bare_out u ≡ t = cc in
        off (one_sort (out_vars t) (out_vars u) (ap out_vars (sym same) ∙ out_vars_bare u) k.sorts)

    -- the tree that was made is the one that is taken
    out_taken : (out_cost s ≤ most) × (out_levels s ≤ deepest) → HasOneSortEach (out_vars u) → TakesOut (limit_of most deepest) scope s (bare_out u)
    out_taken low each =
        let n = out_nodes_are scope s (bare_out u) out_is in
        let d = out_depth_is scope s (bare_out u) out_is in
        let l = low.0 in
        let m = low.1 in
        record { tree = out_is; sorts = one_sort (out_vars u) (out_vars (bare_out u)) (sym (out_vars_bare u)) each; few = omega arith; shallow = omega arith }

    -- and what the test on sorts answers is right
    pub out_tested : (out_cost s ≤ most) × (out_levels s ≤ deepest) → (r : Option OutTree) → IfSorted out_vars u r → Taken bare_out (TakesOut (limit_of most deepest) scope s) r
    out_tested low None h = out_sorts h
    out_tested low (Some w) h = subst (λ (z : OutTree). TakesOut (limit_of most deepest) scope s (bare_out z)) (sym h.0) (out_taken low h.1)

module _ (scope : TextScope) (s : FormSyntax) (most deepest : ℕ) where
  pub qform_counted : (b : Bool) → IsTrue b ↔ ((form_cost s ≤ most) × (form_levels s ≤ deepest)) → b ≡ false → (t : QFormTree) → TakesQForm (limit_of most deepest) scope s t → ⊥
  qform_counted b h off t k =
      let n = form_nodes_are s scope 1 k.next t k.tree in
      let d = form_depth_is s scope 1 k.next t k.tree in
      let few = k.few in
      let low = k.shallow in true≢false (sym (h.1 (omega arith, omega arith)) ∙ off)

  pub qform_absent : (o : Option (QFormTree × ℕ)) → o ≡ None → option_map bare_reading o ≡ elaborate_form s scope 1 → (t : QFormTree) → TakesQForm (limit_of most deepest) scope s t → ⊥
  qform_absent o none e t k = let h : None ≡ Some (both t k.next) = sym (ap (option_map bare_reading) none) ∙ (e ∙ k.tree) in absurd (cc)

  module _ (o : Option (QFormTree × ℕ)) (u : QFormTree) (after : ℕ) (there : o ≡ Some (both u after)) (is : option_map bare_reading o ≡ elaborate_form s scope 1) where
    qform_is : elaborate_form s scope 1 ≡ Some (both (bare_qform u) after)
    qform_is = sym is ∙ ap (option_map bare_reading) there

    qform_sorts : (HasOneSortEach (qform_vars u) → ⊥) → (t : QFormTree) → TakesQForm (limit_of most deepest) scope s t → ⊥
    qform_sorts off t k =
        let h : Some (both (bare_qform u) after) ≡ Some (both t k.next) = sym qform_is ∙ k.tree in
        let g : both (bare_qform u) after ≡ both t k.next = cc in
        let same : bare_qform u ≡ t = ap (λ (z : QFormTree × ℕ). z.0) g in
        off (one_sort (qform_vars t) (qform_vars u) (ap qform_vars (sym same) ∙ qform_vars_bare u) k.sorts)

    qform_taken : (form_cost s ≤ most) × (form_levels s ≤ deepest) → HasOneSortEach (qform_vars u) → TakesQForm (limit_of most deepest) scope s (bare_qform u)
    qform_taken low each =
        let n = form_nodes_are s scope 1 after (bare_qform u) qform_is in
        let d = form_depth_is s scope 1 after (bare_qform u) qform_is in
        let l = low.0 in
        let m = low.1 in
        record { next = after; tree = qform_is; sorts = one_sort (qform_vars u) (qform_vars (bare_qform u)) (sym (qform_vars_bare u)) each; few = omega arith; shallow = omega arith }

    -- and what the test on sorts answers is right
    pub qform_tested : (form_cost s ≤ most) × (form_levels s ≤ deepest) → (r : Option QFormTree) → IfSorted qform_vars u r → Taken bare_qform (TakesQForm (limit_of most deepest) scope s) r
    qform_tested low None h = qform_sorts h
    qform_tested low (Some w) h = subst (λ (z : QFormTree). TakesQForm (limit_of most deepest) scope s (bare_qform z)) (sym h.0) (qform_taken low h.1)

-- what was made belongs to the bank
pub found_belongs : {T : Type 0} (P : T → Type 0) (o : Option T) (t : T) → o ≡ Some t → IfSome o P → P t
found_belongs {T} P o t is h = subst (λ (z : Option T). IfSome z P) is h

-- and so does what was kept of it
pub tested_belongs : {T : Type 0} (P : T → Type 0) (vars : T → List Var) (t : T) → P t → (r : Option T) → IfSorted vars t r → IfSome r P
tested_belongs P vars t h None k = tt
tested_belongs P vars t h (Some u) k = subst P (sym k.0) h

-- what is within a limit is not past it
pub not_past : (limit : Limit) (n d : ℕ) {X : Type 0} → (n ≤ limit.nodes) × (d ≤ limit.depth) → IsPast limit n d → X
not_past limit n d low (inl h) = let l = low.0 in absurd (omega arith)
not_past limit n d low (inr h) = let l = low.1 in absurd (omega arith)
