-- The calls that a substitution brings into outputs: as terms that stand in what the variables become, and what holds of them.
use Rattle.std.proofs.Common.{◌≡◌, Bool, true, false, cond, List, [], ◌∷◌, ◌++◌, Option, None, Some, All, Contains, map, get_or, refl, sym, ◌∙◌, ap, subst, append-nil}
use Rattle.std.specs.List.{flat_map}
use Rattle.std.specs.Option.{unwrap_or}
use Rattle.std.proofs.lemmas.List.{map-append}
use Rattle.std.proofs.lemmas.List.Elements.{All-contains, All-head, All-nil, All-tail, Contains-get_or}
use Rattle.syn_term.specs.Bank.{Belongs, Kept}
use Rattle.syn_term.specs.declared.sorts.SymId.{SymId}
use Rattle.syn_term.specs.declared.sorts.Var.{Var}
use Rattle.syn_term.specs.Symbols.{SymbolTable}
use Rattle.syn_term.specs.Terms.{TermTree, bare, nowhere, variable_tree}
use Rattle.syn_form.specs.Plain.{IsSorted}
use Rattle.syn_form.specs.Substitutions.{Binding, KeepsSorts, Substitution, image, same_var}
use Rattle.syn_form.specs.Trees.{FormTree, OutTree, bare_form, out_vars, term_vars}
use Rattle.syn_form.proofs.Lists.{All-flat_map, Contains-flat_map, Contains-flat_map_from}
use Rattle.syn_row.specs.declared.guards.GuardRule.{GuardRule}
use Rattle.syn_row.specs.Calls.{calls_standing}
use Rattle.syn_row.specs.Guards.{IsCallOf, IsGuardRule, brought, calls_brought, calls_in, guard_of}
use Rattle.syn_row.specs.Rows.{first_occurrences}
use Rattle.syn_row.proofs.CallsStanding.{none_standing, standing_bare, standing_belongs, standing_calls, standing_sorted, standing_vars}
use Rattle.syn_row.proofs.Changes.{changes_bare}
use Rattle.syn_row.proofs.GuardsChanged.{guards_alike}
use Rattle.syn_row.proofs.Shape.{shape_bare}
use Rattle.syn_unify.specs.Bindings.{BindsOwn, bound_to, bound_vars}
use Rattle.syn_unify.proofs.Lookups.{image_is}
use Rattle.syn_resolve.specs.inner.Reflexing.{image_calls, output_calls, outputs_calls}

-- a variable that isn't bound brings none, and one that is bound those of its term
pub no_image : (f : SymId) (σ : Substitution) (v : Var) (old : List TermTree) → bound_to σ v ≡ None → old ≡ old ++ image_calls f σ v
no_image f σ v old e =
    let image_var : image σ v ≡ variable_tree v = image_is σ v ∙ ap (λ (o : Option TermTree). unwrap_or o (variable_tree v)) e in
    let none : image_calls f σ v ≡ [] = none_standing f (image σ v) nowhere v image_var in
    sym (ap (λ (z : List TermTree). old ++ z) none ∙ append-nil old)

pub bound_image : (f : SymId) (σ : Substitution) (v : Var) (t : TermTree) (old new : List TermTree) → bound_to σ v ≡ Some t → new ≡ old ++ calls_standing f t → new ≡ old ++ image_calls f σ v
bound_image f σ v t old new e h =
    let image_term : image σ v ≡ t = image_is σ v ∙ ap (λ (o : Option TermTree). unwrap_or o (variable_tree v)) e in
    h ∙ ap (λ (z : TermTree). old ++ calls_standing f z) (sym image_term)

-- without places they are those of the definition
flat_map_bare : {X : Type 0} (g h : X → List TermTree) (xs : List X) → ((x : X) → map bare (g x) ≡ map bare (h x)) → map bare (flat_map g xs) ≡ map bare (flat_map h xs)
flat_map_bare g h [] same = refl
flat_map_bare {X} g h (x ∷ xs) same =
    map-append bare (g x) (flat_map g xs)
    ∙ (ap (λ (z : List TermTree). z ++ map bare (flat_map g xs)) (same x)
    ∙ (ap (λ (z : List TermTree). map bare (h x) ++ z) (flat_map_bare g h xs same)
    ∙ sym (map-append bare (h x) (flat_map h xs))))

pub brought_bare : (f : SymId) (σ : Substitution) (outs : List OutTree) → map bare (outputs_calls f σ outs) ≡ map bare (brought σ outs f)
brought_bare f σ outs =
    flat_map_bare (output_calls f σ) (calls_brought f σ) outs
    (λ o. flat_map_bare (image_calls f σ) (λ v. calls_in f (image σ v)) (first_occurrences (out_vars o)) (λ v. standing_bare f (image σ v)))

-- what holds of the calls in each term that is put in
module _ (f : SymId) (P Q : TermTree → Type 0) (down : (t : TermTree) → P t → All Q (calls_standing f t)) where
  abbrev OfTerm : Binding → Type 0
  OfTerm b = P b.term

  image_holds : (σ : Substitution) (v : Var) → All OfTerm σ → All Q (image_calls f σ v)
  image_holds [] v h = subst (All Q) (sym (none_standing f (variable_tree v) nowhere v refl)) (All-nil Q)
  image_holds (b ∷ bs) v h = go (same_var b.var v) (image_holds bs v (All-tail OfTerm b bs h))
    where
      go : (c : Bool) → All Q (image_calls f bs v) → All Q (calls_standing f (cond c b.term (image bs v)))
      go true k = down b.term (All-head OfTerm b bs h)
      go false k = k

  outputs_hold : (σ : Substitution) (outs : List OutTree) → All OfTerm σ → All Q (outputs_calls f σ outs)
  outputs_hold σ outs h =
      All-flat_map Q (output_calls f σ) outs
      (λ k d lt. All-flat_map Q (image_calls f σ) (first_occurrences (out_vars (get_or outs k d))) (λ i e m. image_holds σ (get_or (first_occurrences (out_vars (get_or outs k d))) i e) h))

module _ (f : SymId) (σ : Substitution) (outs : List OutTree) (calls : List TermTree) (is : calls ≡ outputs_calls f σ outs) where
  pub brought_are_calls : All (IsCallOf f) calls
  brought_are_calls = subst (All (IsCallOf f)) (sym is) (outputs_hold f (λ t. Unit {0}) (IsCallOf f) (λ t h. standing_calls f t) σ outs (λ k d lt. tt))

  pub brought_sorted : (table : SymbolTable) → KeepsSorts table σ → All (IsSorted table) calls
  brought_sorted table h = subst (All (IsSorted table)) (sym is) (outputs_hold f (IsSorted table) (IsSorted table) (standing_sorted f table) σ outs (λ k d lt. (h k d lt).0))

  pub brought_belong : (bank : Kept) → BindsOwn bank σ → All (Belongs bank) calls
  brought_belong bank h = subst (All (Belongs bank)) (sym is) (outputs_hold f (Belongs bank) (Belongs bank) (standing_belongs f bank) σ outs h)

  abbrev HasBound : TermTree → Type 0
  HasBound t = (w : Var) → Contains (term_vars t) w → Contains (bound_vars σ) w

  calls_bound : (t : TermTree) → HasBound t → All HasBound (calls_standing f t)
  calls_bound t h k d lt w c = h w (standing_vars f t w (Contains-flat_map_from term_vars (calls_standing f t) (get_or (calls_standing f t) k d) w (Contains-get_or (calls_standing f t) k d lt) c))

  each_bound : All (λ (b : Binding). HasBound b.term) σ
  each_bound k d lt w c = Contains-flat_map_from (λ (b : Binding). term_vars b.term) σ (get_or σ k d) w (Contains-get_or σ k d lt) c

  pub brought_vars : (w : Var) → Contains (flat_map term_vars calls) w → Contains (bound_vars σ) w
  brought_vars w c =
      let p = Contains-flat_map term_vars calls w c in
      let each : All HasBound calls = subst (All HasBound) (sym is) (outputs_hold f HasBound HasBound calls_bound σ outs each_bound) in
      All-contains HasBound calls p.0 each p.1 w p.2

-- the guards are those of the definition, without places
pub brought_guards_are : (table : SymbolTable) (rule : GuardRule) → IsGuardRule table rule → (σ : Substitution) (outs : List OutTree) (calls : List TermTree) (gs : List FormTree) → calls ≡ outputs_calls rule.program σ outs → map bare_form gs ≡ map bare_form (map (guard_of rule) calls) → map bare_form gs ≡ map bare_form (map (guard_of rule) (brought σ outs rule.program))
brought_guards_are table rule is σ outs calls gs same h =
    h ∙ guards_alike bare_form bare_form bare bare shape_bare shape_bare changes_bare changes_bare table rule is calls (brought σ outs rule.program) (ap (map bare) same ∙ brought_bare rule.program σ outs)
