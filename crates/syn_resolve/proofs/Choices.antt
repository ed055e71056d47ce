-- The choices of reflexivity and of nonclausal resolution, and that the figures of two choices are alike.
use Rattle.std.proofs.Common.{◌≡◌, ℕ, true, false, List, [], ◌∷◌, ◌++◌, Option, Some, All, Contains, IfSome, map, refl, sym, ◌∙◌, ap}
use Rattle.std.specs.Option.{option_map, option_map_or}
use Rattle.std.proofs.lemmas.List.{map-append}
use Rattle.std.proofs.lemmas.List.Elements.{All-append, All-contains, Contains-append_left}
use Rattle.syn_term.specs.declared.sorts.Var.{Var}
use Rattle.syn_term.specs.Symbols.{SymbolTable}
use Rattle.syn_term.specs.Terms.{TermTree, bare}
use Rattle.syn_form.specs.declared.trees.Form.TheVariants as form
use Rattle.syn_form.specs.declared.trees.Side.{Side}
use Rattle.syn_form.specs.Positions.{at_position, formula}
use Rattle.syn_form.specs.Replacing.{replaced_all}
use Rattle.syn_form.specs.Substitutions.{IsUnifierOfForms, IsUnifierOfTerms, Substitution, substituted, substituted_form, substituted_out}
use Rattle.syn_form.specs.Trees.{FormTree, bare_form, form_terms, form_vars, out_vars}
use Rattle.syn_form.proofs.Lists.{Contains-head}
use Rattle.syn_row.specs.declared.guards.GuardRule.{GuardRule}
use Rattle.syn_row.specs.Guards.{IsGuardRule, brought}
use Rattle.syn_row.specs.Results.{AreApart, joined_form, joined_side, out_list}
use Rattle.syn_row.specs.Rows.{IsPlain, RowTree, row_vars}
use Rattle.syn_row.proofs.Changes.{changes_substituted}
use Rattle.syn_row.proofs.Renaming.{Within, renaming_by, substituted-blind}
use Rattle.syn_row.proofs.Telling.{form-along}
use Rattle.syn_resolve.specs.Resolution.{AreAt, reflexed, resolved}
use Rattle.syn_row.proofs.Agreeing.{AreAmong}
use Rattle.syn_row.proofs.Alike.{AreAlike, renamed_form}
use Rattle.syn_row.proofs.General.{Passes, image_vars}
use Rattle.syn_row.proofs.Leading.{Moving, form_trees, partner, term_trees, unifiers_pass}
use Rattle.syn_row.proofs.Pairs.{first_moved, form_among, list_moved, outs_among, pair_guards_passed, pair_known, pair_moving, pair_outs_passed, pair_over, pair_vars, row_form_passed, row_out_passed, row_passed, second_moved, side_moved}
use Rattle.syn_row.proofs.PartsMoved.{all_among, form_at_both, form_idle, inside_along, parts_among, parts_at_both, row_idle, sides_among, sides_moved}
use Rattle.syn_row.proofs.Passed.{IsMoved, brought_passed, form_passed, guarded_passed, guards_passed, instance_inside, joined_passed, chosen_passed, outs_passed, replaced_passed}
use Rattle.syn_row.proofs.SortedVars.{row_known}
use Rattle.syn_row.proofs.Still.{Related, idle, moved_idle, part_among, related_alike}

-- what reflexivity chooses: a most general unifier of the two sides
pub record ReflexChoice (table : SymbolTable) (r : RowTree) (at : List ℕ) : Type 0 where
  pub left : TermTree
  pub right : TermTree
  pub there : at_position at (formula r.form) ≡ Some (formula (form.Equal left right))
  pub unifier : Substitution
  pub general : IsUnifierOfTerms table (left ∷ right ∷ []) unifier

module _ (table : SymbolTable) (rule : Option GuardRule) (is : IfSome rule (IsGuardRule table)) where
  -- the figures of reflexivity, where one unifier passes to another
  reflex_related : (vars : List Var) (σ τ : Substitution) (over : Var → Var) (w : Passes vars σ τ over) (m : Moving vars over) (r : RowTree) → IsMoved vars over r r → Related w.renaming (reflexed rule σ r) (reflexed rule τ r)
  reflex_related vars σ τ over w m r h =
      let guards = guards_passed vars σ τ over w m table rule is (brought σ (out_list r.out)) (brought τ (out_list r.out))
      (λ f. brought_passed vars σ τ over w m f (out_list r.out) (out_list r.out) (outs_among vars σ τ over w m r r h) (list_moved vars σ τ over w m r r h)) in
      record {
        forms = ap (λ (z : FormTree). z ∷ []) (row_form_passed vars σ τ over w m r r h);
        outs = outs_passed vars σ τ over w m (out_list r.out) (out_list r.out) (outs_among vars σ τ over w m r r h) (list_moved vars σ τ over w m r r h);
        guards = guards;
        row = row_passed w.renaming r.side r.side (reflexed rule σ r).row.form (reflexed rule τ r).row.form (reflexed rule σ r).row.out (reflexed rule τ r).row.out refl
            (guarded_passed vars σ τ over w m r.side (substituted_form σ r.form) (substituted_form τ r.form) (reflexed rule σ r).guards (reflexed rule τ r).guards (row_form_passed vars σ τ over w m r r h) guards)
            (row_out_passed vars σ τ over w m r r h);
      }

  module _ (r : RowTree) (plain : IsPlain table r) (at : List ℕ) (a b : ReflexChoice table r at) where
    sides : renamed_form (renaming_by (λ v. v) (row_vars r)) (form.Equal a.left a.right) ≡ bare_form (form.Equal b.left b.right)
    sides = form_at_both (row_vars r) (λ v. v) at r.form r.form (form.Equal a.left a.right) (form.Equal b.left b.right) (ap (λ (z : RowTree). z.form) (moved_idle r).is) a.there b.there

    reflex_passes : Passes (row_vars r) a.unifier b.unifier (λ v. v)
    reflex_passes =
        let both = sides_moved (row_vars r) (λ v. v) a.left a.right b.left b.right sides in
        unifiers_pass term_trees (row_vars r) (λ v. v) (idle (row_vars r)) table (row_known table r plain) (a.left ∷ a.right ∷ []) (b.left ∷ b.right ∷ [])
        (sides_among (row_vars r) (λ v. v) a.left a.right (part_among (row_vars r) at r.form (form.Equal a.left a.right) a.there (λ v c. Contains-append_left (form_vars r.form) (option_map_or out_vars r.out []) v c)))
        (ap (λ (z : TermTree). z ∷ bare (substituted (renaming_by (λ v. v) (row_vars r)) a.right) ∷ []) both.0 ∙ ap (λ (z : TermTree). bare b.left ∷ z ∷ []) both.1)
        a.unifier b.unifier a.general b.general

    -- the figures of two choices of reflexivity are alike
    pub reflex_alike : AreAlike (reflexed rule a.unifier r) (reflexed rule b.unifier r)
    reflex_alike = related_alike (row_vars r) a.unifier b.unifier (λ v. v) reflex_passes (reflexed rule a.unifier r) (reflexed rule b.unifier r)
        (reflex_related (row_vars r) a.unifier b.unifier (λ v. v) reflex_passes (idle (row_vars r)) r (moved_idle r))
        (λ u. reflex_related (row_vars r) a.unifier a.unifier (λ v. v) u (idle (row_vars r)) r (moved_idle r))

-- what resolution chooses: rows kept apart, a most general unifier of the parts, and the formula that they become
pub record ResolveChoice (table : SymbolTable) (r : RowTree) (ps : List (List ℕ)) (s : RowTree) (qs : List (List ℕ)) : Type 0 where
  pub first : RowTree
  pub second : RowTree
  pub apart : AreApart r s first second
  pub first_parts : List FormTree
  pub second_parts : List FormTree
  pub first_there : AreAt ps first.form first_parts
  pub second_there : AreAt qs second.form second_parts
  pub unifier : Substitution
  pub general : IsUnifierOfForms table (first_parts ++ second_parts) unifier
  pub one : FormTree
  pub one_is : All (λ f. bare_form (substituted_form unifier f) ≡ bare_form one) (first_parts ++ second_parts)

-- some part stands there
some_part : (places : List (List ℕ)) (f : FormTree) (parts : List FormTree) → AreAt places f parts → (g : FormTree) × Contains parts g
some_part [] f parts h = absurd (h.some refl)
some_part (p ∷ ps) f [] h = let e = h.there in absurd (cc)
some_part (p ∷ ps) f (g ∷ gs) h = (g, Contains-head g gs)

module _ (table : SymbolTable) (rule : Option GuardRule) (is : IfSome rule (IsGuardRule table)) where
  -- the figures of resolution, where one unifier passes to another, and the one formula with it
  resolve_related : (vars : List Var) (σ τ : Substitution) (over : Var → Var) (w : Passes vars σ τ over) (m : Moving vars over) (first first' second second' : RowTree) → IsMoved vars over first first' → IsMoved vars over second second' → (p p' : FormTree) → All (Within (image_vars σ vars)) (form_terms p) → renamed_form w.renaming p ≡ bare_form p' → Related w.renaming (resolved rule σ p first second) (resolved rule τ p' first' second')
  resolve_related vars σ τ over w m first first' second second' h k p p' inside e =
      let guards = pair_guards_passed vars σ τ over w m first first' second second' h k table rule is p p' e in
      let one_form = row_form_passed vars σ τ over w m first first' h in
      let other_form = row_form_passed vars σ τ over w m second second' k in
      let x = resolved rule σ p first second in
      let y = resolved rule τ p' first' second' in
      let first_side = side_moved vars σ τ over w m first first' h in
      let second_side = side_moved vars σ τ over w m second second' k in
      record {
        forms = ap (λ (z : FormTree). z ∷ renamed_form w.renaming (substituted_form σ second.form) ∷ []) one_form ∙ ap (λ (z : FormTree). bare_form (substituted_form τ first'.form) ∷ z ∷ []) other_form;
        outs = pair_outs_passed vars σ τ over w m first first' second second' h k;
        guards = guards;
        row = row_passed w.renaming x.row.side y.row.side x.row.form y.row.form x.row.out y.row.out
            (ap (λ (z : Side). joined_side z second.side) first_side ∙ ap (joined_side first'.side) second_side)
            (joined_passed vars σ τ over w m first.side second.side (replaced_all p true (substituted_form σ first.form)) (replaced_all p false (substituted_form σ second.form)) (replaced_all p' true (substituted_form τ first'.form)) (replaced_all p' false (substituted_form τ second'.form)) x.guards y.guards
            (replaced_passed vars σ τ over w m p p' (substituted_form σ first.form) (substituted_form τ first'.form) true inside (instance_inside vars σ τ over w m first.form (form_among vars σ τ over w m first first' h)) e one_form)
            (replaced_passed vars σ τ over w m p p' (substituted_form σ second.form) (substituted_form τ second'.form) false inside (instance_inside vars σ τ over w m second.form (form_among vars σ τ over w m second second' k)) e other_form)
            guards
            ∙ (ap (λ (z : Side). bare_form (joined_form z (replaced_all p' true (substituted_form τ first'.form)) second.side (replaced_all p' false (substituted_form τ second'.form)) y.guards)) first_side
            ∙ ap (λ (z : Side). bare_form (joined_form first'.side (replaced_all p' true (substituted_form τ first'.form)) z (replaced_all p' false (substituted_form τ second'.form)) y.guards)) second_side))
            (chosen_passed vars σ τ over w m p p' (option_map (substituted_out σ) first.out) (option_map (substituted_out σ) second.out) (option_map (substituted_out τ) first'.out) (option_map (substituted_out τ) second'.out) e (row_out_passed vars σ τ over w m first first' h) (row_out_passed vars σ τ over w m second second' k));
      }

  -- the formula that parts become
  one_passed : (vars : List Var) (σ τ : Substitution) (over : Var → Var) (w : Passes vars σ τ over) (m : Moving vars over) (g g' p p' : FormTree) → AreAmong (form_vars g) vars → renamed_form (renaming_by over vars) g ≡ bare_form g' → bare_form (substituted_form σ g) ≡ bare_form p → bare_form (substituted_form τ g') ≡ bare_form p' → renamed_form w.renaming p ≡ bare_form p'
  one_passed vars σ τ over w m g g' p p' h e a b =
      form-along (substituted_form w.renaming) (substituted w.renaming) (changes_substituted w.renaming) (substituted-blind w.renaming) p (substituted_form σ g) (sym a)
      ∙ (form_passed vars σ τ over w m g g' h e ∙ b)

  module _ (r s : RowTree) (plain_r : IsPlain table r) (plain_s : IsPlain table s) (ps qs : List (List ℕ)) where
    module _ (a b : ResolveChoice table r ps s qs) where
      abbrev vars : List Var
      vars = pair_vars a.first a.second

      abbrev over : Var → Var
      over = pair_over r s a.first a.second b.first b.second a.apart b.apart

      abbrev moved : Substitution
      moved = renaming_by over vars

      moving : Moving vars over
      moving = pair_moving r s a.first a.second b.first b.second a.apart b.apart

      one_moved : IsMoved vars over a.first b.first
      one_moved = first_moved r s a.first a.second b.first b.second a.apart b.apart

      other_moved : IsMoved vars over a.second b.second
      other_moved = second_moved r s a.first a.second b.first b.second a.apart b.apart

      row_form_among : (x y : RowTree) → IsMoved vars over x y → AreAmong (form_vars x.form) vars
      row_form_among x y h v c = h.among v (Contains-append_left (form_vars x.form) (option_map_or out_vars x.out []) v c)

      among : All (λ f. AreAmong (form_vars f) vars) (a.first_parts ++ a.second_parts)
      among = All-append (λ f. AreAmong (form_vars f) vars) a.first_parts a.second_parts
          (parts_among vars over a.first.form (row_form_among a.first b.first one_moved) ps a.first_parts a.first_there.there)
          (parts_among vars over a.second.form (row_form_among a.second b.second other_moved) qs a.second_parts a.second_there.there)

      parts : map (renamed_form moved) (a.first_parts ++ a.second_parts) ≡ map bare_form (b.first_parts ++ b.second_parts)
      parts =
          map-append (renamed_form moved) a.first_parts a.second_parts
          ∙ (ap (λ (z : List FormTree). z ++ map (renamed_form moved) a.second_parts) (parts_at_both vars over a.first.form b.first.form (ap (λ (z : RowTree). z.form) one_moved.is) ps a.first_parts b.first_parts a.first_there.there b.first_there.there)
          ∙ (ap (λ (z : List FormTree). map bare_form b.first_parts ++ z) (parts_at_both vars over a.second.form b.second.form (ap (λ (z : RowTree). z.form) other_moved.is) qs a.second_parts b.second_parts a.second_there.there b.second_there.there)
          ∙ sym (map-append bare_form b.first_parts b.second_parts)))

      resolve_passes : Passes vars a.unifier b.unifier over
      resolve_passes = unifiers_pass form_trees vars over moving table (pair_known table r s a.first a.second a.apart plain_r plain_s) (a.first_parts ++ a.second_parts) (b.first_parts ++ b.second_parts) (all_among vars over (a.first_parts ++ a.second_parts) among) parts a.unifier b.unifier a.general b.general

      some : (g : FormTree) × Contains (a.first_parts ++ a.second_parts) g
      some = let p = some_part ps a.first.form a.first_parts a.first_there in (p.0, Contains-append_left a.first_parts a.second_parts p.0 p.1)

      some_among : AreAmong (form_vars some.0) vars
      some_among = All-contains (λ f. AreAmong (form_vars f) vars) (a.first_parts ++ a.second_parts) some.0 among some.1

      some_one : bare_form (substituted_form a.unifier some.0) ≡ bare_form a.one
      some_one = All-contains (λ f. bare_form (substituted_form a.unifier f) ≡ bare_form a.one) (a.first_parts ++ a.second_parts) some.0 a.one_is some.1

      inside : All (Within (image_vars a.unifier vars)) (form_terms a.one)
      inside = inside_along (image_vars a.unifier vars) (substituted_form a.unifier some.0) a.one some_one (instance_inside vars a.unifier b.unifier over resolve_passes moving some.0 some_among)

      one : renamed_form resolve_passes.renaming a.one ≡ bare_form b.one
      one =
          let p = partner (renamed_form moved) bare_form (a.first_parts ++ a.second_parts) (b.first_parts ++ b.second_parts) parts some.0 some.1 in
          one_passed vars a.unifier b.unifier over resolve_passes moving some.0 p.0 a.one b.one some_among p.2 some_one
          (All-contains (λ f. bare_form (substituted_form b.unifier f) ≡ bare_form b.one) (b.first_parts ++ b.second_parts) p.0 b.one_is p.1)

      own : (u : Passes vars a.unifier a.unifier (λ v. v)) → Related u.renaming (resolved rule a.unifier a.one a.first a.second) (resolved rule a.unifier a.one a.first a.second)
      own u = resolve_related vars a.unifier a.unifier (λ v. v) u (idle vars) a.first a.first a.second a.second (row_idle vars a.first one_moved.among) (row_idle vars a.second other_moved.among) a.one a.one inside
          (one_passed vars a.unifier a.unifier (λ v. v) u (idle vars) some.0 some.0 a.one a.one some_among (form_idle vars some.0 some_among) some_one some_one)

      -- the figures of two choices of resolution are alike
      pub resolve_alike : AreAlike (resolved rule a.unifier a.one a.first a.second) (resolved rule b.unifier b.one b.first b.second)
      resolve_alike = related_alike vars a.unifier b.unifier over resolve_passes (resolved rule a.unifier a.one a.first a.second) (resolved rule b.unifier b.one b.first b.second)
          (resolve_related vars a.unifier b.unifier over resolve_passes moving a.first b.first a.second b.second one_moved other_moved a.one b.one inside one)
          own
