-- Two most general unifiers of the same terms, up to a renaming of these: each is the other one and then a renaming.
use Rattle.std.proofs.Common.{◌≡◌, ◌⊎◌, inl, inr, Bool, true, false, cond, List, [], ◌∷◌, Some, Contains, get_or, refl, sym, ◌∙◌, ap, subst}
use Rattle.std.specs.List.{flat_map}
use Rattle.std.proofs.lemmas.List.Elements.{Contains-get_or}
use Rattle.syn_term.specs.declared.sorts.Var.{Var}
use Rattle.syn_term.specs.Symbols.{SymbolTable, IsSort}
use Rattle.syn_term.specs.Terms.{TermTree, bare, nowhere, sort_of, variable_tree}
use Rattle.syn_form.specs.Substitutions.{IsMostGeneral, KeepsSorts, Substitution, image, substituted}
use Rattle.syn_form.specs.Trees.{term_vars}
use Rattle.syn_form.proofs.Lists.{Contains-along, Contains-cons_cases, Contains-flat_map, Contains-flat_map_from, none_in_nil}
use Rattle.syn_form.proofs.Sorting.{sort_bare, sort_of-variable}
use Rattle.syn_row.specs.inner.Noting.{has_var}
use Rattle.syn_row.specs.Rows.{IsRenaming}
use Rattle.syn_row.proofs.Numbers.{bare-variable, variable-injective}
use Rattle.syn_row.proofs.Renaming.{image_by, renaming_by, substituted-Var, substituted-blind}
use Rattle.syn_row.proofs.SameVars.{has_var-from, has_var-to}
use Rattle.syn_row.proofs.Telling.{blind-along}
use Rattle.syn_row.proofs.Agreeing.{AreAmong, terms_alike, vars-Var}
use Rattle.syn_row.proofs.Taking.{Fits, image_among, image_free, image_renamed, image_sort, image_sorted, image_taking, keeps_taking, named, named_is, renamed_in, taking, vars_kept}

-- the variables that these become, one for each place where one stands
abbrev pub image_vars : Substitution → List Var → List Var
image_vars σ vars = flat_map (λ v. term_vars (image σ v)) vars

-- On these variables, the second substitution of the variables moved is the first one and then a renaming.
pub record Passes (vars : List Var) (σ τ : Substitution) (over : Var → Var) : Type 0 where
  pub to : Var → Var
  pub renaming : Substitution
  pub is : (v : Var) → image renaming v ≡ variable_tree (to v)
  pub renames : IsRenaming (image_vars σ vars) renaming
  pub passes : (v : Var) → Contains vars v → bare (substituted renaming (image σ v)) ≡ bare (image τ (over v))

-- a substitution that makes the first substitution the second one
record Way (table : SymbolTable) (vars : List Var) (σ τ : Substitution) (over : Var → Var) : Type 0 where
  change : Substitution
  does : (v : Var) → Contains vars v → bare (substituted change (image σ v)) ≡ bare (image τ (over v))
  sorts : (v : Var) → Contains vars v → sort_of table (image change v) ≡ Some v.sort

-- What the way from a unifier to another one stands on: it is most general; its variables are among those that are looked at,
-- whose sorts are of the table; the other one, with the variables moved, unifies too, and leaves those that are not unified.
pub record Leads (table : SymbolTable) (Unifies : Substitution → Type 0) (unified vars : List Var) (σ τ : Substitution) (over : Var → Var) : Type 0 where
  pub general : IsMostGeneral table Unifies unified σ
  pub among : AreAmong unified vars
  pub sorted : (v : Var) → Contains vars v → IsSort table v.sort
  pub sorts : (v : Var) → Contains vars v → (over v).sort ≡ v.sort
  pub keeps : KeepsSorts table τ
  pub idle : (v : Var) → Contains vars v → (Contains unified v → ⊥) → image τ (over v) ≡ variable_tree (over v)
  pub unifies : Unifies (taking (λ v. image τ (over v)) vars)

module _ (table : SymbolTable) (Unifies : Substitution → Type 0) (unified vars : List Var) (σ τ : Substitution) (over : Var → Var) (h : Leads table Unifies unified vars σ τ over) where
  moved_fits : (v : Var) → Contains vars v → Fits table v (image τ (over v))
  moved_fits v c = (
    image_sorted table τ (over v) h.keeps (subst (IsSort table) (sym (h.sorts v c)) (h.sorted v c)),
    image_sort table τ (over v) h.keeps ∙ ap Some (h.sorts v c),
  )

  keeps_moved : KeepsSorts table (taking (λ v. image τ (over v)) vars)
  keeps_moved = keeps_taking table (λ v. image τ (over v)) vars (λ k d lt. moved_fits (get_or vars k d) (Contains-get_or vars k d lt))

  -- a variable that is not unified stays
  stays : (v : Var) → (Contains unified v → ⊥) → image σ v ≡ variable_tree v
  stays v none = image_free σ v (λ b c e. none (subst (Contains unified) e (h.general.own b c).0))

  unified_stay : (v : Var) → Contains unified v → (w : Var) → Contains (term_vars (image σ v)) w → Contains unified w
  unified_stay = image_among unified σ (λ b c. (h.general.own b c).1)

  decided : (v : Var) (b : Bool) → has_var unified v ≡ b → (Contains unified v) ⊎ (Contains unified v → ⊥)
  decided v true e = inl (has_var-to unified v e)
  decided v false e = inr (λ c. let k : true ≡ false = sym (has_var-from unified v c) ∙ e in absurd (cc))

  -- what one of the variables becomes has these variables alone
  image_here : (v : Var) → Contains vars v → (w : Var) → Contains (term_vars (image σ v)) w → Contains vars w
  image_here v c w d = go (decided v (has_var unified v) refl)
    where
      at_one : (v ≡ w) ⊎ Contains [] w → Contains vars w
      at_one (inl e) = subst (Contains vars) e c
      at_one (inr k) = absurd (none_in_nil w k)

      go : (Contains unified v) ⊎ (Contains unified v → ⊥) → Contains vars w
      go (inl k) = h.among w (unified_stay v k w d)
      go (inr none) = at_one (Contains-cons_cases v [] w (Contains-along (term_vars (image σ v)) (v ∷ []) w (ap term_vars (stays v none) ∙ vars-Var nowhere v) d))

  way_from : (δ : Substitution) × KeepsSorts table δ × ((v : Var) → Contains unified v → bare (image (taking (λ v. image τ (over v)) vars) v) ≡ bare (substituted δ (image σ v))) → Way table vars σ τ over
  way_from d = record { change = taking θ vars; does = does; sorts = sorts }
    where
      δ : Substitution
      δ = d.0

      θ : Var → TermTree
      θ v = cond (has_var unified v) (image δ v) (variable_tree (over v))

      does : (v : Var) → Contains vars v → bare (substituted (taking θ vars) (image σ v)) ≡ bare (image τ (over v))
      does v c = go (decided v (has_var unified v) refl)
        where
          here : (w : Var) → Contains unified w → bare (image (taking θ vars) w) ≡ bare (image δ w)
          here w k = ap bare (image_taking θ vars w (h.among w k) ∙ ap (λ (b : Bool). cond b (image δ w) (variable_tree (over w))) (has_var-from unified w k))

          none_is : (none : Contains unified v → ⊥) (b : Bool) → has_var unified v ≡ b → cond b (image δ v) (variable_tree (over v)) ≡ variable_tree (over v)
          none_is none true e = absurd (none (has_var-to unified v e))
          none_is none false e = refl

          go : (Contains unified v) ⊎ (Contains unified v → ⊥) → bare (substituted (taking θ vars) (image σ v)) ≡ bare (image τ (over v))
          go (inl k) =
              terms_alike (taking θ vars) δ unified here (image σ v) (unified_stay v k)
              ∙ (sym (d.2 v k) ∙ ap bare (image_taking (λ v. image τ (over v)) vars v c))
          go (inr none) =
              ap (λ (z : TermTree). bare (substituted (taking θ vars) z)) (stays v none)
              ∙ (ap bare (substituted-Var (taking θ vars) nowhere v ∙ (image_taking θ vars v c ∙ none_is none (has_var unified v) refl)) ∙ sym (ap bare (h.idle v c none)))

      sorts : (v : Var) → Contains vars v → sort_of table (image (taking θ vars) v) ≡ Some v.sort
      sorts v c = ap (sort_of table) (image_taking θ vars v c) ∙ go (has_var unified v)
        where
          go : (b : Bool) → sort_of table (cond b (image δ v) (variable_tree (over v))) ≡ Some v.sort
          go true = image_sort table δ v d.1
          go false = sort_of-variable table nowhere (over v) ∙ ap Some (h.sorts v c)

  way : Way table vars σ τ over
  way = way_from (h.general.general (taking (λ v. image τ (over v)) vars) keeps_moved h.unifies)

module _ (table : SymbolTable) (Unifies Others : Substitution → Type 0) (unified others vars moved : List Var) (σ τ : Substitution) (over back : Var → Var) (h : Leads table Unifies unified vars σ τ over) (k : Leads table Others others moved τ σ back)
    (there : (v : Var) → Contains vars v → Contains moved (over v)) (returns : (v : Var) → Contains vars v → back (over v) ≡ v) where
  out : Way table vars σ τ over
  out = way table Unifies unified vars σ τ over h

  home : Way table moved τ σ back
  home = way table Others others moved τ σ back k

  -- the way there and back leaves what each variable becomes
  around : (v : Var) → Contains vars v → bare (substituted home.change (substituted out.change (image σ v))) ≡ bare (image σ v)
  around v c =
      blind-along (substituted home.change) (substituted-blind home.change) (substituted out.change (image σ v)) (image τ (over v)) (out.does v c)
      ∙ (home.does (over v) (there v c) ∙ ap (λ (w : Var). bare (image σ w)) (returns v c))

  abbrev to_one : Var → Var
  to_one w = named (image out.change w) w

  all : List Var
  all = image_vars σ vars

  around_at : (w : Var) → Contains (image_vars σ vars) w → bare (substituted home.change (image out.change w)) ≡ variable_tree w
  around_at w c = let p = Contains-flat_map (λ v. term_vars (image σ v)) vars w c in vars_kept out.change home.change (image σ p.0) (around p.0 p.1) w p.2

  to_is : (w : Var) → Contains (image_vars σ vars) w → bare (image out.change w) ≡ variable_tree (to_one w)
  to_is w c = named_is home.change w (image out.change w) (around_at w c)

  here : (w : Var) → Contains (image_vars σ vars) w → Contains vars w
  here w c = let p = Contains-flat_map (λ v. term_vars (image σ v)) vars w c in image_here table Unifies unified vars σ τ over h p.0 p.1 w p.2

  back_at : (w : Var) → Contains (image_vars σ vars) w → variable_tree w ≡ bare (substituted home.change (variable_tree (to_one w)))
  back_at w c = sym (around_at w c) ∙ blind-along (substituted home.change) (substituted-blind home.change) (image out.change w) (variable_tree (to_one w)) (to_is w c ∙ sym (bare-variable (to_one w)))

  one_to_one : (v w : Var) → Contains (image_vars σ vars) v → Contains (image_vars σ vars) w → to_one v ≡ to_one w → v ≡ w
  one_to_one v w c d e = variable-injective v w (back_at v c ∙ (ap (λ (z : Var). bare (substituted home.change (variable_tree z))) e ∙ sym (back_at w d)))

  sort_kept : (w : Var) → Contains (image_vars σ vars) w → (to_one w).sort ≡ w.sort
  sort_kept w c =
      let a : Some (to_one w).sort ≡ Some w.sort = sym (sort_of-variable table nowhere (to_one w)) ∙ (sym (ap (sort_of table) (to_is w c)) ∙ (sort_bare table (image out.change w) ∙ out.sorts w (here w c))) in cc

  -- two unifiers, each of which leads to the other one, differ by a renaming
  pub leads_pass : Passes vars σ τ over
  leads_pass = record {
    to = renamed_in to_one (image_vars σ vars);
    renaming = renaming_by to_one (image_vars σ vars);
    is = image_renamed to_one (image_vars σ vars);
    renames = record {
      to = to_one;
      is = λ w c. ap bare (image_by to_one (image_vars σ vars) w c) ∙ bare-variable (to_one w);
      sorts = sort_kept;
      one = one_to_one;
    };
    passes = λ v c.
        terms_alike (renaming_by to_one (image_vars σ vars)) out.change (image_vars σ vars)
        (λ w d. ap bare (image_by to_one (image_vars σ vars) w d) ∙ (bare-variable (to_one w) ∙ sym (to_is w d)))
        (image σ v) (λ w d. Contains-flat_map_from (λ v. term_vars (image σ v)) vars v w c d)
        ∙ out.does v c;
  }
