-- Two ways of keeping two rows apart are one renaming of both, and what a figure of two rows is made of passes.
use Rattle.std.proofs.Common.{◌≡◌, ◌⊎◌, inl, inr, Bool, true, false, cond, List, [], ◌∷◌, ◌++◌, Option, None, Some, All, Contains, IfSome, map, get_or, refl, sym, ◌∙◌, ap, subst}
use Rattle.std.specs.Option.{option_map, option_map_or}
use Rattle.std.proofs.lemmas.List.{map-append}
use Rattle.std.proofs.lemmas.List.Elements.{All-nil, All-cons, All-append, Contains-append_cases, Contains-append_left, Contains-append_right}
use Rattle.syn_term.specs.declared.sorts.Var.{Var}
use Rattle.syn_term.specs.Symbols.{SymbolTable, IsSort}
use Rattle.syn_term.specs.Terms.{TermTree, bare, nowhere, variable_tree}
use Rattle.syn_form.specs.declared.trees.Side.{Side}
use Rattle.syn_form.specs.Substitutions.{Substitution, image, substituted, substituted_form, substituted_out}
use Rattle.syn_form.specs.Trees.{FormTree, OutTree, bare_form, bare_out, form_vars, out_vars}
use Rattle.syn_row.specs.declared.guards.GuardRule.{GuardRule}
use Rattle.syn_row.specs.inner.Noting.{has_var}
use Rattle.syn_row.specs.Guards.{IsGuardRule, brought, guards_of, test_calls}
use Rattle.syn_row.specs.Results.{AreApart, out_list}
use Rattle.syn_row.specs.Rows.{AreVariants, IsPlain, RowTree, bare_row, row_terms, row_vars, substituted_row}
use Rattle.syn_row.proofs.Numbers.{bare-variable}
use Rattle.syn_row.proofs.Renaming.{Contains-map, comes_from, comes_from_one, image_by, renaming_by, substituted-Var}
use Rattle.syn_row.proofs.RowChanges.{row_within, rows_substituted}
use Rattle.syn_row.proofs.SameVars.{has_var-from, has_var-to}
use Rattle.syn_row.proofs.Variants.{row-none, substituted-along, variant_vars, variants_along, variants_back}
use Rattle.syn_row.proofs.Agreeing.{AreAmong, terms_after}
use Rattle.syn_row.proofs.Alike.{renamed_form, renamed_out}
use Rattle.syn_row.proofs.General.{Passes}
use Rattle.syn_row.proofs.Leading.{Moving}
use Rattle.syn_row.proofs.Passed.{IsMoved, brought_passed, form_passed, guards_passed, out_passed, outs_passed, test_passed, there, there_still}
use Rattle.syn_row.proofs.SortedVars.{row_known}

-- two substitutions that do the same to each variable of a row
pub row_alike : (σ κ : Substitution) (r : RowTree) → ((v : Var) → Contains (row_vars r) v → bare (image σ v) ≡ bare (image κ v)) → bare_row (substituted_row σ r) ≡ bare_row (substituted_row κ r)
row_alike σ κ r same =
    sym (substituted-along σ (substituted_row [] r) r (row-none r))
    ∙ rows_substituted [] σ κ r (λ k d lt. terms_after [] σ κ (row_vars r) (λ v c. ap bare (substituted-Var σ nowhere v) ∙ same v c) (get_or (row_terms r) k d) (row_within r k d lt))

module _ (r s first second : RowTree) (a : AreApart r s first second) where
  pub left_variant : AreVariants r first
  left_variant = record { renaming = a.left; renames = a.renames_left; is = a.first_is }

  pub right_variant : AreVariants s second
  right_variant = record { renaming = a.right; renames = a.renames_right; is = a.second_is }

variant_known : (table : SymbolTable) (r first : RowTree) → AreVariants r first → IsPlain table r → (v : Var) → Contains (row_vars first) v → IsSort table v.sort
variant_known table r first h plain v c =
    let n = h.renames in
    let p = comes_from_one n.to (row_vars r) v (subst (λ (z : List Var). Contains z v) (variant_vars r first h) c) in
    let u = comes_from n.to (row_vars r) v in
    subst (IsSort table) (sym (n.sorts u p.0) ∙ ap (λ (z : Var). z.sort) p.1) (row_known table r plain u p.0)

abbrev pub pair_vars : RowTree → RowTree → List Var
pair_vars first second = row_vars first ++ row_vars second

-- the variables of rows kept apart have sorts of the table
pub pair_known : (table : SymbolTable) (r s first second : RowTree) → AreApart r s first second → IsPlain table r → IsPlain table s → (v : Var) → Contains (pair_vars first second) v → IsSort table v.sort
pair_known table r s first second a h k v c = go (Contains-append_cases (row_vars first) (row_vars second) v c)
  where
    go : Contains (row_vars first) v ⊎ Contains (row_vars second) v → IsSort table v.sort
    go (inl d) = variant_known table r first (left_variant r s first second a) h v d
    go (inr d) = variant_known table s second (right_variant r s first second a) k v d

module _ (r s first second first' second' : RowTree) (a : AreApart r s first second) (b : AreApart r s first' second') where
  pub firsts : AreVariants first first'
  firsts = variants_along first r first' (variants_back r first (left_variant r s first second a)) (left_variant r s first' second' b)

  pub seconds : AreVariants second second'
  seconds = variants_along second s second' (variants_back s second (right_variant r s first second a)) (right_variant r s first' second' b)

  abbrev pub pair_over : Var → Var
  pair_over v = cond (has_var (row_vars first) v) (firsts.renames.to v) (seconds.renames.to v)

  at_first : (v : Var) → Contains (row_vars first) v → pair_over v ≡ firsts.renames.to v
  at_first v c = ap (λ (t : Bool). cond t (firsts.renames.to v) (seconds.renames.to v)) (has_var-from (row_vars first) v c)

  at_second : (v : Var) → Contains (row_vars second) v → pair_over v ≡ seconds.renames.to v
  at_second v c = go (has_var (row_vars first) v) refl
    where
      go : (t : Bool) → has_var (row_vars first) v ≡ t → cond t (firsts.renames.to v) (seconds.renames.to v) ≡ seconds.renames.to v
      go true e = absurd (a.none_shared v v (has_var-to (row_vars first) v e) c refl)
      go false e = refl

  in_first : (v : Var) → Contains (row_vars first) v → Contains (row_vars first') (firsts.renames.to v)
  in_first v c = subst (λ (z : List Var). Contains z (firsts.renames.to v)) (sym (variant_vars first first' firsts)) (Contains-map firsts.renames.to (row_vars first) v c)

  in_second : (v : Var) → Contains (row_vars second) v → Contains (row_vars second') (seconds.renames.to v)
  in_second v c = subst (λ (z : List Var). Contains z (seconds.renames.to v)) (sym (variant_vars second second' seconds)) (Contains-map seconds.renames.to (row_vars second) v c)

  abbrev Either : Var → Type 0
  Either v = Contains (row_vars first) v ⊎ Contains (row_vars second) v

  pair_sorts : (v : Var) → Either v → (pair_over v).sort ≡ v.sort
  pair_sorts v (inl c) = ap (λ (z : Var). z.sort) (at_first v c) ∙ firsts.renames.sorts v c
  pair_sorts v (inr c) = ap (λ (z : Var). z.sort) (at_second v c) ∙ seconds.renames.sorts v c

  pair_one : (v w : Var) → Either v → Either w → pair_over v ≡ pair_over w → v ≡ w
  pair_one v w (inl c) (inl d) e = firsts.renames.one v w c d (sym (at_first v c) ∙ (e ∙ at_first w d))
  pair_one v w (inr c) (inr d) e = seconds.renames.one v w c d (sym (at_second v c) ∙ (e ∙ at_second w d))
  pair_one v w (inl c) (inr d) e = absurd (b.none_shared (firsts.renames.to v) (seconds.renames.to w) (in_first v c) (in_second w d) (ap (λ (z : Var). z.number) (sym (at_first v c) ∙ (e ∙ at_second w d))))
  pair_one v w (inr c) (inl d) e = absurd (b.none_shared (firsts.renames.to w) (seconds.renames.to v) (in_first w d) (in_second v c) (ap (λ (z : Var). z.number) (sym (at_first w d) ∙ (sym e ∙ at_second v c))))

  pub pair_moving : Moving (pair_vars first second) pair_over
  pair_moving = record {
    sorts = λ v c. pair_sorts v (Contains-append_cases (row_vars first) (row_vars second) v c);
    one = λ v w c d. pair_one v w (Contains-append_cases (row_vars first) (row_vars second) v c) (Contains-append_cases (row_vars first) (row_vars second) w d);
  }

  abbrev pair_way : Substitution
  pair_way = renaming_by pair_over (pair_vars first second)

  pub first_moved : IsMoved (pair_vars first second) pair_over first first'
  first_moved = record {
    among = Contains-append_left (row_vars first) (row_vars second);
    is =
        row_alike pair_way firsts.renaming first
        (λ v c.
        ap bare (image_by pair_over (pair_vars first second) v (Contains-append_left (row_vars first) (row_vars second) v c)) ∙ (bare-variable (pair_over v)
        ∙ (ap variable_tree (at_first v c) ∙ sym (firsts.renames.is v c))))
        ∙ firsts.is;
  }

  pub second_moved : IsMoved (pair_vars first second) pair_over second second'
  second_moved = record {
    among = Contains-append_right (row_vars first) (row_vars second);
    is =
        row_alike pair_way seconds.renaming second
        (λ v c.
        ap bare (image_by pair_over (pair_vars first second) v (Contains-append_right (row_vars first) (row_vars second) v c)) ∙ (bare-variable (pair_over v)
        ∙ (ap variable_tree (at_second v c) ∙ sym (seconds.renames.is v c))))
        ∙ seconds.is;
  }

-- outputs of two rows, as lists
abbrev pub both_outs : RowTree → RowTree → List OutTree
both_outs first second = out_list first.out ++ out_list second.out

pub option_after : (P Q : OutTree → OutTree) (o : Option OutTree) → option_map Q (option_map P o) ≡ option_map (λ p. Q (P p)) o
option_after P Q None = refl
option_after P Q (Some o) = refl

-- a row made of parts that pass
pub row_passed : (ρ : Substitution) (s s' : Side) (f f' : FormTree) (o o' : Option OutTree) → s ≡ s' → renamed_form ρ f ≡ bare_form f' → option_map (renamed_out ρ) o ≡ option_map bare_out o' → bare_row (substituted_row ρ (record { side = s; form = f; out = o })) ≡ bare_row (record { side = s'; form = f'; out = o' })
row_passed ρ s s' f f' o o' a b c =
    ap (λ (z : Side). made z (renamed_form ρ f) (option_map bare_out (option_map (substituted_out ρ) o))) a
    ∙ (ap (λ (z : FormTree). made s' z (option_map bare_out (option_map (substituted_out ρ) o))) b
    ∙ ap (made s' (bare_form f')) (option_after (substituted_out ρ) bare_out o ∙ c))
  where
    made : Side → FormTree → Option OutTree → RowTree
    made s f o = record { side = s; form = f; out = o }

module _ (vars : List Var) (σ τ : Substitution) (over : Var → Var) (w : Passes vars σ τ over) (m : Moving vars over) where
  abbrev ρ : Substitution
  ρ = w.renaming

  abbrev moved : Substitution
  moved = renaming_by over vars

  abbrev AmongOut : OutTree → Type 0
  AmongOut o = AreAmong (out_vars o) vars

  module _ (r s : RowTree) (h : IsMoved vars over r s) where
    pub side_moved : r.side ≡ s.side
    side_moved = ap (λ (z : RowTree). z.side) h.is

    pub form_among : AreAmong (form_vars r.form) vars
    form_among v c = h.among v (Contains-append_left (form_vars r.form) (option_map_or out_vars r.out []) v c)

    pub form_moved : renamed_form moved r.form ≡ bare_form s.form
    form_moved = ap (λ (z : RowTree). z.form) h.is

    pub row_form_passed : renamed_form ρ (substituted_form σ r.form) ≡ bare_form (substituted_form τ s.form)
    row_form_passed = form_passed vars σ τ over w m r.form s.form form_among form_moved

    out_moved : option_map bare_out (option_map (substituted_out moved) r.out) ≡ option_map bare_out s.out
    out_moved = ap (λ (z : RowTree). z.out) h.is

    pub still_there : there s.out ≡ there r.out
    still_there = sym (there_still bare_out s.out) ∙ (ap there (sym out_moved) ∙ (there_still bare_out (option_map (substituted_out moved) r.out) ∙ there_still (substituted_out moved) r.out))

    outs_among_at : (o : Option OutTree) → AreAmong (option_map_or out_vars o []) vars → All AmongOut (out_list o)
    outs_among_at None k = All-nil AmongOut
    outs_among_at (Some o) k = All-cons AmongOut o [] k (All-nil AmongOut)

    pub outs_among : All AmongOut (out_list r.out)
    outs_among = outs_among_at r.out (λ v c. h.among v (Contains-append_right (form_vars r.form) (option_map_or out_vars r.out []) v c))

    lists_moved : (o p : Option OutTree) → option_map bare_out (option_map (substituted_out moved) o) ≡ option_map bare_out p → map (renamed_out moved) (out_list o) ≡ map bare_out (out_list p)
    lists_moved None None e = refl
    lists_moved None (Some p) e = absurd (cc)
    lists_moved (Some o) None e = absurd (cc)
    lists_moved (Some o) (Some p) e = let k : renamed_out moved o ≡ bare_out p = cc in ap (λ (z : OutTree). z ∷ []) k

    pub list_moved : map (renamed_out moved) (out_list r.out) ≡ map bare_out (out_list s.out)
    list_moved = lists_moved r.out s.out out_moved

    options_passed : (o p : Option OutTree) → AreAmong (option_map_or out_vars o []) vars → option_map bare_out (option_map (substituted_out moved) o) ≡ option_map bare_out p → option_map (renamed_out ρ) (option_map (substituted_out σ) o) ≡ option_map bare_out (option_map (substituted_out τ) p)
    options_passed None None k e = refl
    options_passed None (Some p) k e = absurd (cc)
    options_passed (Some o) None k e = absurd (cc)
    options_passed (Some o) (Some p) k e = let i : renamed_out moved o ≡ bare_out p = cc in ap Some (out_passed vars σ τ over w m o p k i)

    pub row_out_passed : option_map (renamed_out ρ) (option_map (substituted_out σ) r.out) ≡ option_map bare_out (option_map (substituted_out τ) s.out)
    row_out_passed = options_passed r.out s.out (λ v c. h.among v (Contains-append_right (form_vars r.form) (option_map_or out_vars r.out []) v c)) out_moved

  module _ (first first' second second' : RowTree) (h : IsMoved vars over first first') (k : IsMoved vars over second second') where
    pair_list_moved : map (renamed_out moved) (both_outs first second) ≡ map bare_out (both_outs first' second')
    pair_list_moved =
        map-append (renamed_out moved) (out_list first.out) (out_list second.out)
        ∙ (ap (λ (z : List OutTree). z ++ map (renamed_out moved) (out_list second.out)) (list_moved first first' h)
        ∙ (ap (λ (z : List OutTree). map bare_out (out_list first'.out) ++ z) (list_moved second second' k) ∙ sym (map-append bare_out (out_list first'.out) (out_list second'.out))))

    pair_among : All AmongOut (both_outs first second)
    pair_among = All-append AmongOut (out_list first.out) (out_list second.out) (outs_among first first' h) (outs_among second second' k)

    pub pair_outs_passed : map (renamed_out ρ) (map (substituted_out σ) (both_outs first second)) ≡ map bare_out (map (substituted_out τ) (both_outs first' second'))
    pair_outs_passed = outs_passed vars σ τ over w m (both_outs first second) (both_outs first' second') pair_among pair_list_moved

    pub pair_guards_passed : (table : SymbolTable) (rule : Option GuardRule) → IfSome rule (IsGuardRule table) → (p p' : FormTree) → renamed_form ρ p ≡ bare_form p'
        → map (renamed_form ρ) (guards_of rule (λ f. brought σ (both_outs first second) f ++ test_calls first.out second.out p f)) ≡ map bare_form (guards_of rule (λ f. brought τ (both_outs first' second') f ++ test_calls first'.out second'.out p' f))
    pair_guards_passed table rule is p p' e =
        guards_passed vars σ τ over w m table rule is (λ f. brought σ (both_outs first second) f ++ test_calls first.out second.out p f) (λ f. brought τ (both_outs first' second') f ++ test_calls first'.out second'.out p' f)
        (λ f.
        map-append (λ t. bare (substituted ρ t)) (brought σ (both_outs first second) f) (test_calls first.out second.out p f)
        ∙ (ap (λ (z : List TermTree). z ++ map (λ t. bare (substituted ρ t)) (test_calls first.out second.out p f)) (brought_passed vars σ τ over w m f (both_outs first second) (both_outs first' second') pair_among pair_list_moved)
        ∙ (ap (λ (z : List TermTree). map bare (brought τ (both_outs first' second') f) ++ z) (test_passed vars σ τ over w m f first.out second.out first'.out second'.out p p' (still_there first first' h) (still_there second second' k) e)
        ∙ sym (map-append bare (brought τ (both_outs first' second') f) (test_calls first'.out second'.out p' f)))))
