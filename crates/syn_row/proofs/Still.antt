-- Which variables a row has: none that may be renamed and leaves the row as it is.
use Rattle.std.proofs.Common.{◌≡◌, ◌⊎◌, inl, inr, ℕ, ◌+◌, Bool, true, false, cond, List, [], ◌∷◌, Some, Contains, map, get_or, refl, sym, ◌∙◌, ap, subst, arith}
use Rattle.std.specs.List.{flat_map}
use Rattle.std.specs.Option.{option_map}
use Rattle.std.proofs.lemmas.List.Elements.{Contains-append_left}
use Rattle.syn_term.specs.declared.sorts.Var.{Var}
use Rattle.syn_term.specs.Terms.{TermTree, bare, nowhere, variable_tree}
use Rattle.syn_form.specs.Positions.{at_position, formula, term}
use Rattle.syn_form.specs.Replacing.{changed_part}
use Rattle.syn_form.specs.Substitutions.{Substitution, image, same_var, substituted, substituted_form, substituted_out}
use Rattle.syn_form.specs.Trees.{FormTree, bare_form, bare_out, form_terms, form_vars, term_vars}
use Rattle.syn_form.proofs.Lists.{Contains-along, Contains-flat_map, Contains-flat_map_from, Contains-head}
use Rattle.syn_form.proofs.TreeParts.{formula_is}
use Rattle.syn_row.specs.inner.Noting.{has_var}
use Rattle.syn_row.specs.Results.{Figure}
use Rattle.syn_row.specs.Rows.{RowTree, bare_row, row_terms, row_vars, substituted_row}
use Rattle.syn_row.proofs.Changes.{changes_bare, changes_substituted, out_changes_bare}
use Rattle.syn_row.proofs.Numbers.{bare-variable, variable-injective}
use Rattle.syn_row.proofs.Renaming.{image_by, renaming_by, substituted-Var, substituted-blind, substituted-none}
use Rattle.syn_row.proofs.Telling.{form-along}
use Rattle.syn_row.proofs.RowChanges.{changed_row_terms, row_vars-terms, row_within, rows_after, rows_substituted}
use Rattle.syn_row.proofs.SameVars.{has_var-from, has_var-to, same_var_to}
use Rattle.syn_row.proofs.Variants.{row-none, substituted-along}
use Rattle.syn_row.proofs.Agreeing.{AreAmong, forms_agree, terms_after, terms_alike}
use Rattle.syn_row.proofs.Alike.{AreAlike, out_changes_renamed, renamed_form, renamed_out}
use Rattle.syn_row.proofs.General.{Passes, image_vars}
use Rattle.syn_row.proofs.Leading.{Moving, form-none}
use Rattle.syn_row.proofs.Passed.{IsMoved}
use Rattle.syn_row.proofs.PartsChanged.{at_changed}
use Rattle.syn_row.proofs.Shape.{changes_renamed, form_terms-changed, shape_bare, shape_renamed}
use Rattle.syn_row.proofs.Taking.{each_of, image_renamed, renamed_in, vars_kept}

-- the variable takes another number, and all others stay
abbrev next_var : Var → Var
next_var v = record { number = v.number + 1; sort = v.sort }

abbrev pub away : Var → Substitution
away v = renaming_by (λ u. next_var v) (v ∷ [])

away_other : (v u : Var) → (u ≡ v → ⊥) → image (away v) u ≡ variable_tree u
away_other v u other = go (same_var v u) refl
  where
    go : (b : Bool) → same_var v u ≡ b → cond b (variable_tree (next_var v)) (variable_tree u) ≡ variable_tree u
    go true e = absurd (other (sym (same_var_to v u e)))
    go false e = refl

moves_away : (v : Var) → bare (image (away v) v) ≡ variable_tree v → ⊥
moves_away v e =
    let k : next_var v ≡ v = variable-injective (next_var v) v (sym (ap bare (image_by (λ u. next_var v) (v ∷ []) v (Contains-head v [])) ∙ bare-variable (next_var v)) ∙ e) in
    let n : v.number + 1 ≡ v.number = ap (λ (z : Var). z.number) k in absurd (omega arith)

-- no variable moves
pub idle : (vars : List Var) → Moving vars (λ v. v)
idle vars = record { sorts = λ v c. refl; one = λ v w c d e. e }

-- a variable that no image has may move away
pub passes_away : (vars : List Var) (σ : Substitution) (v : Var) → (Contains (image_vars σ vars) v → ⊥) → Passes vars σ σ (λ u. u)
passes_away vars σ v out =
    let other : (u : Var) → Contains (image_vars σ vars) u → image (away v) u ≡ variable_tree u = λ u c. away_other v u (λ e. out (subst (Contains (image_vars σ vars)) e c)) in
    record {
      to = renamed_in (λ u. next_var v) (v ∷ []);
      renaming = away v;
      is = image_renamed (λ u. next_var v) (v ∷ []);
      renames = record { to = λ u. u; is = λ u c. ap bare (other u c) ∙ bare-variable u; sorts = λ u c. refl; one = λ u w c d e. e };
      passes = λ u c. terms_alike (away v) [] (image_vars σ vars) (λ z d. ap bare (other z d)) (image σ u) (λ z d. Contains-flat_map_from (λ v. term_vars (image σ v)) vars u z c d) ∙ substituted-none (image σ u);
    }

kept_list : (v : Var) (ts : List TermTree) → map (λ t. bare (substituted (away v) t)) ts ≡ map bare ts → Contains (flat_map term_vars ts) v → ⊥
kept_list v ts e c =
    let p = Contains-flat_map term_vars ts v c in
    moves_away v (sym (substituted-none (image (away v) v))
    ∙ vars_kept (away v) [] p.0 (substituted-none (substituted (away v) p.0) ∙ each_of (λ t. bare (substituted (away v) t)) bare ts e p.0 p.1) v p.2)

decided : (vars : List Var) (v : Var) (b : Bool) → has_var vars v ≡ b → Contains vars v ⊎ (Contains vars v → ⊥)
decided vars v true e = inl (has_var-to vars v e)
decided vars v false e = inr (λ c. let k : true ≡ false = sym (has_var-from vars v c) ∙ e in absurd (cc))

in_or_not : (vars : List Var) (v : Var) → ((Contains vars v → ⊥) → ⊥) → Contains vars v
in_or_not vars v h = go (decided vars v (has_var vars v) refl)
  where
    go : Contains vars v ⊎ (Contains vars v → ⊥) → Contains vars v
    go (inl c) = c
    go (inr n) = absurd (h n)

-- a row that stays when any other variable moves away has these variables alone
pub row_among : (vars : List Var) (r : RowTree) → ((v : Var) → (Contains vars v → ⊥) → bare_row (substituted_row (away v) r) ≡ bare_row r) → AreAmong (row_vars r) vars
row_among vars r stays v c = in_or_not vars v (λ out.
    let e = stays v out in
    kept_list v (row_terms r)
    (sym (changed_row_terms (renamed_form (away v)) (λ t. bare (substituted (away v) t)) (changes_renamed (away v)) (renamed_out (away v)) (out_changes_renamed (away v)) r)
    ∙ (ap row_terms (sym (rows_after (substituted_form (away v)) bare_form (substituted_out (away v)) bare_out r) ∙ e) ∙ changed_row_terms bare_form bare changes_bare bare_out out_changes_bare r))
    (Contains-along (row_vars r) (flat_map term_vars (row_terms r)) v (sym (row_vars-terms r)) c))

-- a formula whose variables are among these stays when another one moves away
form_stays : (vars : List Var) (f : FormTree) (v : Var) → AreAmong (form_vars f) vars → (Contains vars v → ⊥) → renamed_form (away v) f ≡ bare_form f
form_stays vars f v h out =
    form-along-none f
    ∙ (forms_agree [] (away v) [] [] vars
    (λ u c. ap (λ (z : TermTree). bare z) (substituted-Var (away v) nowhere u ∙ away_other v u (λ e. out (subst (Contains vars) e c))) ∙ sym (substituted-none (variable_tree u))) f h
    ∙ (form-none (substituted_form [] f) ∙ form-none f))
  where
    form-along-none : (f : FormTree) → renamed_form (away v) f ≡ renamed_form (away v) (substituted_form [] f)
    form-along-none f = form-along (substituted_form (away v)) (substituted (away v)) (changes_substituted (away v)) (substituted-blind (away v)) f (substituted_form [] f) (sym (form-none f))

-- what stands at a position has the variables of the whole alone
pub part_among : (vars : List Var) (ks : List ℕ) (f h : FormTree) → at_position ks (formula f) ≡ Some (formula h) → AreAmong (form_vars f) vars → AreAmong (form_vars h) vars
part_among vars ks f h e sub v c = in_or_not vars v (λ out.
    let same = form_stays vars f v sub out in
    let k : renamed_form (away v) h ≡ bare_form h = formula_is (renamed_form (away v) h) (bare_form h)
    (sym (at_changed (λ t. bare (substituted (away v) t)) (shape_renamed (away v) (renamed_in (λ u. next_var v) (v ∷ [])) (image_renamed (λ u. next_var v) (v ∷ []))) (renamed_form (away v)) (changes_renamed (away v)) ks (formula f) ∙ ap (option_map (changed_part (renamed_form (away v)) (λ t. bare (substituted (away v) t)))) e)
    ∙ (ap (λ (z : FormTree). at_position ks (formula z)) same
    ∙ (at_changed bare shape_bare bare_form changes_bare ks (formula f) ∙ ap (option_map (changed_part bare_form bare)) e))) in
    kept_list v (form_terms h) (sym (form_terms-changed (renamed_form (away v)) (λ t. bare (substituted (away v) t)) (changes_renamed (away v)) h) ∙ (ap form_terms k ∙ form_terms-changed bare_form bare changes_bare h)) c)

pub term_part_among : (vars : List Var) (ks : List ℕ) (f : FormTree) (t : TermTree) → at_position ks (formula f) ≡ Some (term t) → AreAmong (form_vars f) vars → AreAmong (term_vars t) vars
term_part_among vars ks f t e sub v c = in_or_not vars v (λ out.
    let same = form_stays vars f v sub out in
    let k : bare (substituted (away v) t) ≡ bare t = term_is (bare (substituted (away v) t)) (bare t)
    (sym (at_changed (λ t. bare (substituted (away v) t)) (shape_renamed (away v) (renamed_in (λ u. next_var v) (v ∷ [])) (image_renamed (λ u. next_var v) (v ∷ []))) (renamed_form (away v)) (changes_renamed (away v)) ks (formula f) ∙ ap (option_map (changed_part (renamed_form (away v)) (λ t. bare (substituted (away v) t)))) e)
    ∙ (ap (λ (z : FormTree). at_position ks (formula z)) same
    ∙ (at_changed bare shape_bare bare_form changes_bare ks (formula f) ∙ ap (option_map (changed_part bare_form bare)) e))) in
    kept_list v (t ∷ []) (ap (λ (z : TermTree). z ∷ []) k) (Contains-append_left (term_vars t) [] v c))
  where
    term_is : (s t : TermTree) → Some (term s) ≡ Some (term t) → s ≡ t
    term_is s t e = cc

-- a row is itself with no variable moved
pub moved_idle : (r : RowTree) → IsMoved (row_vars r) (λ v. v) r r
moved_idle r =
    let same : Substitution = renaming_by (λ v. v) (row_vars r) in
    record {
      among = λ v c. c;
      is =
          sym (substituted-along same (substituted_row [] r) r (row-none r))
          ∙ (rows_substituted [] same [] r
          (λ k d lt. terms_after [] same [] (row_vars r) (λ v c. ap bare (substituted-Var same nowhere v ∙ image_by (λ v. v) (row_vars r) v c)) (get_or (row_terms r) k d) (row_within r k d lt))
          ∙ row-none r);
    }

-- What a figure owes to be alike another one: its parts pass, and its own row passes when another variable moves away.
pub record Related (ρ : Substitution) (x y : Figure) : Type 0 where
  pub forms : map (renamed_form ρ) x.forms ≡ map bare_form y.forms
  pub outs : map (renamed_out ρ) x.outs ≡ map bare_out y.outs
  pub guards : map (renamed_form ρ) x.guards ≡ map bare_form y.guards
  pub row : bare_row (substituted_row ρ x.row) ≡ bare_row y.row

pub related_alike : (vars : List Var) (σ τ : Substitution) (over : Var → Var) (w : Passes vars σ τ over) (x y : Figure) → Related w.renaming x y → ((u : Passes vars σ σ (λ v. v)) → Related u.renaming x x) → AreAlike x y
unfolding passes_away
related_alike vars σ τ over w x y h own = record {
  vars = image_vars σ vars;
  to = w.to;
  renaming = w.renaming;
  is = w.is;
  renames = w.renames;
  among = row_among (image_vars σ vars) x.row (λ v out. (own (passes_away vars σ v out)).row);
  forms = h.forms;
  outs = h.outs;
  guards = h.guards;
  row = h.row;
}
