-- The calls of a step of two parents: those that the substitution brings into the outputs, and those in the test.
use Rattle.std.proofs.Common.{◌≡◌, ◌⊎◌, inl, inr, List, ◌++◌, Option, None, Some, All, Contains, IfSome, map, refl, sym, ◌∙◌, ap, subst}
use Rattle.std.specs.List.{flat_map}
use Rattle.std.proofs.lemmas.List.{map-append}
use Rattle.std.proofs.lemmas.List.Concat.{flat_map-append}
use Rattle.std.proofs.lemmas.List.Elements.{All-append, All-nil, Contains-append_cases, Contains-append_left, Contains-append_right}
use Rattle.syn_term.specs.Bank.{Belongs, Kept}
use Rattle.syn_term.specs.declared.sorts.SymId.{SymId}
use Rattle.syn_term.specs.declared.sorts.Var.{Var}
use Rattle.syn_term.specs.Symbols.{SymbolTable}
use Rattle.syn_term.specs.Terms.{TermTree, bare}
use Rattle.syn_form.specs.Plain.{IsFormed, IsSorted}
use Rattle.syn_form.specs.Substitutions.{KeepsSorts, Substitution}
use Rattle.syn_form.specs.Trees.{FormTree, OutTree, bare_form, form_terms, form_vars, term_vars}
use Rattle.syn_form.proofs.Lists.{Contains-along, Contains-flat_map, Contains-flat_map_from, none_in_nil}
use Rattle.syn_row.specs.declared.guards.GuardRule.{GuardRule}
use Rattle.syn_row.specs.Calls.{calls_standing, calls_standing_form}
use Rattle.syn_row.specs.Guards.{IsCallOf, IsGuardRule, brought, calls_in_form, guard_of, joined_guards, test_calls}
use Rattle.syn_row.specs.Results.{out_list}
use Rattle.syn_row.proofs.CallsStanding.{all_standing_belong, all_standing_calls, all_standing_sorted, form_standing_bare, standing_vars}
use Rattle.syn_row.proofs.Changes.{changes_bare}
use Rattle.syn_row.proofs.GuardsChanged.{guards_alike}
use Rattle.syn_row.proofs.Shape.{form_calls_changed, shape_bare}
use Rattle.syn_unify.specs.Bindings.{BindsOwn, bound_vars}
use Rattle.syn_resolve.specs.inner.Reflexing.{outputs_calls}
use Rattle.syn_resolve.specs.inner.Resolving.{calls_of_both, test_standing}
use Rattle.syn_resolve.proofs.BroughtCalls.{brought_are_calls, brought_bare, brought_belong, brought_sorted, brought_vars}
use Rattle.syn_resolve.proofs.PartsAt.{terms_sorted}

module _ (f : SymId) (p : FormTree) where
  test_holds : (Q : TermTree → Type 0) → All Q (calls_standing_form f p) → (u v : Option OutTree) → All Q (test_standing u v p f)
  test_holds Q h (Some u) (Some v) = h
  test_holds Q h (Some u) None = All-nil Q
  test_holds Q h None v = All-nil Q

  test_bare : (u v : Option OutTree) → map bare (test_standing u v p f) ≡ map bare (test_calls u v p f)
  test_bare (Some u) (Some v) = form_standing_bare f p
  test_bare (Some u) None = refl
  test_bare None v = refl

  form_calls_vars : (w : Var) → Contains (flat_map term_vars (calls_standing_form f p)) w → Contains (form_vars p) w
  form_calls_vars w c =
      let a = Contains-flat_map term_vars (calls_standing_form f p) w c in
      let b = Contains-flat_map (calls_standing f) (form_terms p) a.0 a.1 in
      Contains-flat_map_from term_vars (form_terms p) b.0 w b.1 (standing_vars f b.0 w (Contains-flat_map_from term_vars (calls_standing f b.0) a.0 w b.2 a.2))

  test_vars : (u v : Option OutTree) (w : Var) → Contains (flat_map term_vars (test_standing u v p f)) w → Contains (form_vars p) w
  test_vars (Some u) (Some v) w c = form_calls_vars w c
  test_vars (Some u) None w c = absurd (none_in_nil w c)
  test_vars None v w c = absurd (none_in_nil w c)

  module _ (σ : Substitution) (u v : Option OutTree) (calls : List TermTree) (is : calls ≡ calls_of_both f σ p u v) where
    abbrev outs : List OutTree
    outs = out_list u ++ out_list v

    both_hold : (Q : TermTree → Type 0) → All Q (outputs_calls f σ outs) → All Q (calls_standing_form f p) → All Q calls
    both_hold Q h k = subst (All Q) (sym is) (All-append Q (outputs_calls f σ outs) (test_standing u v p f) h (test_holds Q k u v))

    pub joint_are_calls : All (IsCallOf f) calls
    joint_are_calls = both_hold (IsCallOf f) (brought_are_calls f σ outs (outputs_calls f σ outs) refl) (all_standing_calls f (form_terms p))

    pub joint_sorted : (table : SymbolTable) → KeepsSorts table σ → IsFormed table p → All (IsSorted table) calls
    joint_sorted table h k = both_hold (IsSorted table) (brought_sorted f σ outs (outputs_calls f σ outs) refl table h) (all_standing_sorted f table (form_terms p) (terms_sorted table p k))

    pub joint_belong : (bank : Kept) → BindsOwn bank σ → All (Belongs bank) (form_terms p) → All (Belongs bank) calls
    joint_belong bank h k = both_hold (Belongs bank) (brought_belong f σ outs (outputs_calls f σ outs) refl bank h) (all_standing_belong f bank (form_terms p) k)

    pub joint_vars : (w : Var) → Contains (flat_map term_vars calls) w → Contains (bound_vars σ ++ form_vars p) w
    joint_vars w c =
        go (Contains-append_cases (flat_map term_vars (outputs_calls f σ outs)) (flat_map term_vars (test_standing u v p f)) w
        (Contains-along (flat_map term_vars calls) (flat_map term_vars (outputs_calls f σ outs) ++ flat_map term_vars (test_standing u v p f)) w (ap (flat_map term_vars) is ∙ flat_map-append term_vars (outputs_calls f σ outs) (test_standing u v p f)) c))
      where
        go : Contains (flat_map term_vars (outputs_calls f σ outs)) w ⊎ Contains (flat_map term_vars (test_standing u v p f)) w → Contains (bound_vars σ ++ form_vars p) w
        go (inl d) = Contains-append_left (bound_vars σ) (form_vars p) w (brought_vars f σ outs (outputs_calls f σ outs) refl w d)
        go (inr d) = Contains-append_right (bound_vars σ) (form_vars p) w (test_vars u v w d)

    joint_bare : map bare calls ≡ map bare (brought σ outs f ++ test_calls u v p f)
    joint_bare =
        ap (map bare) is
        ∙ (map-append bare (outputs_calls f σ outs) (test_standing u v p f)
        ∙ (ap (λ (z : List TermTree). z ++ map bare (test_standing u v p f)) (brought_bare f σ outs)
        ∙ (ap (λ (z : List TermTree). map bare (brought σ outs f) ++ z) (test_bare u v) ∙ sym (map-append bare (brought σ outs f) (test_calls u v p f)))))

-- the guards are those of the definition, without places
pub joint_guards_are : (table : SymbolTable) (rule : GuardRule) → IsGuardRule table rule → (p : FormTree) (σ : Substitution) (u v : Option OutTree) (calls : List TermTree) (gs : List FormTree) → calls ≡ calls_of_both rule.program σ p u v → map bare_form gs ≡ map bare_form (map (guard_of rule) calls) → map bare_form gs ≡ map bare_form (joined_guards (Some rule) σ p u v)
joint_guards_are table rule is p σ u v calls gs same h =
    h ∙ guards_alike bare_form bare_form bare bare shape_bare shape_bare changes_bare changes_bare table rule is calls (brought σ (out_list u ++ out_list v) rule.program ++ test_calls u v p rule.program) (joint_bare rule.program p σ u v calls same)

-- the guards of the definition don't look at the places of the test
pub guards_same : (table : SymbolTable) (rule : Option GuardRule) → IfSome rule (IsGuardRule table) → (p q : FormTree) → bare_form p ≡ bare_form q → (σ : Substitution) (u v : Option OutTree) → map bare_form (joined_guards rule σ p u v) ≡ map bare_form (joined_guards rule σ q u v)
guards_same table None is p q e σ u v = refl
guards_same table (Some rule) is p q e σ u v =
    let brings = brought σ (out_list u ++ out_list v) rule.program in
    guards_alike bare_form bare_form bare bare shape_bare shape_bare changes_bare changes_bare table rule is (brings ++ test_calls u v p rule.program) (brings ++ test_calls u v q rule.program)
    (map-append bare brings (test_calls u v p rule.program) ∙ (ap (λ (z : List TermTree). map bare brings ++ z) (tests u v) ∙ sym (map-append bare brings (test_calls u v q rule.program))))
  where
    tests : (u v : Option OutTree) → map bare (test_calls u v p rule.program) ≡ map bare (test_calls u v q rule.program)
    tests (Some u) (Some v) = sym (form_calls_changed bare shape_bare bare_form changes_bare rule.program p) ∙ (ap (calls_in_form rule.program) e ∙ form_calls_changed bare shape_bare bare_form changes_bare rule.program q)
    tests (Some u) None = refl
    tests None v = refl
