-- A unifier of the parts of rows that are kept apart in one way makes one of those of the rows kept apart in another.
use Rattle.std.proofs.Common.{◌≡◌, ℕ, List, [], ◌++◌, Some, All, Contains, map, get_or, sym, ◌∙◌, ap, subst}
use Rattle.std.specs.Option.{option_map_or}
use Rattle.std.proofs.lemmas.List.{map-append}
use Rattle.std.proofs.lemmas.List.Elements.{All-append, All-contains, Contains-append_left, Contains-get_or}
use Rattle.syn_term.specs.declared.sorts.Var.{Var}
use Rattle.syn_term.specs.Symbols.{IsSort, SymbolTable}
use Rattle.syn_term.specs.Terms.{TermTree, bare, nowhere}
use Rattle.syn_form.specs.Substitutions.{KeepsSorts, Substitution, UnifiesForms, image, substituted}
use Rattle.syn_form.specs.Trees.{FormTree, bare_form, form_vars, out_vars}
use Rattle.syn_row.specs.Results.{AreApart}
use Rattle.syn_row.specs.Rows.{IsPlain, RowTree}
use Rattle.syn_row.proofs.Agreeing.{AreAmong}
use Rattle.syn_row.proofs.Alike.{renamed_form}
use Rattle.syn_row.proofs.Leading.{AreMoved, Moving, TreesOf, Unifying, form_trees, partner}
use Rattle.syn_row.proofs.Pairs.{first_moved, pair_known, pair_moving, pair_over, pair_vars, second_moved}
use Rattle.syn_row.proofs.Passed.{IsMoved}
use Rattle.syn_row.proofs.PartsMoved.{parts_among, parts_at_both}
use Rattle.syn_row.proofs.Renaming.{image_by, renaming_by, substituted-Var}
use Rattle.syn_row.proofs.Taking.{Fits, image_sort, image_sorted, image_taking, keeps_taking, taking}
use Rattle.syn_resolve.specs.inner.Standing.{Stand}

module _ (vars : List Var) (over : Var → Var) (τ : Substitution) where
  abbrev pub both : Substitution
  both = taking (λ v. image τ (over v)) vars

  abbrev way_over : Substitution
  way_over = renaming_by over vars

  same_way : (v : Var) → Contains vars v → bare (substituted both (image [] v)) ≡ bare (substituted τ (image way_over v))
  same_way v c =
      ap bare (substituted-Var both nowhere v ∙ image_taking (λ v. image τ (over v)) vars v c)
      ∙ sym (ap (λ (z : TermTree). bare (substituted τ z)) (image_by over vars v c) ∙ ap bare (substituted-Var τ nowhere (over v)))

  module _ {A : Type 0} (k : TreesOf A) where
    -- what both do to a tree, the other unifier does to its partner
    partners : (x y : A) → AreAmong (k.vars_of x) vars → k.bare_of (k.put way_over x) ≡ k.bare_of y → k.bare_of (k.put both x) ≡ k.bare_of (k.put τ y)
    partners x y h e =
        k.along both x (k.put [] x) (sym (k.none x))
        ∙ (k.agree [] both way_over τ vars same_way x h ∙ k.along τ (k.put way_over x) y e)

    pub both_unify : (xs ys : List A) → All (λ x. AreAmong (k.vars_of x) vars) xs → AreMoved k way_over xs ys → Unifying k ys τ → Unifying k xs both
    both_unify xs ys among moved unifies s t c d =
        let p = partner (λ x. k.bare_of (k.put way_over x)) k.bare_of xs ys moved s c in
        let q = partner (λ x. k.bare_of (k.put way_over x)) k.bare_of xs ys moved t d in
        partners s p.0 (All-contains (λ x. AreAmong (k.vars_of x) vars) xs s among c) p.2
        ∙ (unifies p.0 q.0 p.1 q.1 ∙ sym (partners t q.0 (All-contains (λ x. AreAmong (k.vars_of x) vars) xs t among d) q.2))

  pub both_keeps : (table : SymbolTable) → ((v : Var) → Contains vars v → IsSort table v.sort) → Moving vars over → KeepsSorts table τ → KeepsSorts table both
  both_keeps table sorted m keeps = keeps_taking table (λ v. image τ (over v)) vars (λ k d lt. fits (get_or vars k d) (Contains-get_or vars k d lt))
    where
      fits : (v : Var) → Contains vars v → Fits table v (image τ (over v))
      fits v c = (
        image_sorted table τ (over v) keeps (subst (IsSort table) (sym (m.sorts v c)) (sorted v c)),
        image_sort table τ (over v) keeps ∙ ap Some (m.sorts v c),
      )

-- two ways of keeping rows apart, with the parts of both
module _ (table : SymbolTable) (r s : RowTree) (plain_r : IsPlain table r) (plain_s : IsPlain table s) (first second first' second' : RowTree) (a : AreApart r s first second) (b : AreApart r s first' second') (ps qs : List (List ℕ)) (fs gs fs' gs' : List FormTree) (one : Stand first.form ps fs) (other : Stand second.form qs gs) (one' : Stand first'.form ps fs') (other' : Stand second'.form qs gs') where
  abbrev vars : List Var
  vars = pair_vars first second

  abbrev over : Var → Var
  over = pair_over r s first second first' second' a b

  abbrev moved : Substitution
  moved = renaming_by over vars

  row_form_among : (x y : RowTree) → IsMoved vars over x y → AreAmong (form_vars x.form) vars
  row_form_among x y h v c = h.among v (Contains-append_left (form_vars x.form) (option_map_or out_vars x.out []) v c)

  one_moved : IsMoved vars over first first'
  one_moved = first_moved r s first second first' second' a b

  other_moved : IsMoved vars over second second'
  other_moved = second_moved r s first second first' second' a b

  among : All (λ f. AreAmong (form_vars f) vars) (fs ++ gs)
  among = All-append (λ f. AreAmong (form_vars f) vars) fs gs
      (parts_among vars over first.form (row_form_among first first' one_moved) ps fs one)
      (parts_among vars over second.form (row_form_among second second' other_moved) qs gs other)

  parts : map (renamed_form moved) (fs ++ gs) ≡ map bare_form (fs' ++ gs')
  parts =
      map-append (renamed_form moved) fs gs
      ∙ (ap (λ (z : List FormTree). z ++ map (renamed_form moved) gs) (parts_at_both vars over first.form first'.form (ap (λ (z : RowTree). z.form) one_moved.is) ps fs fs' one one')
      ∙ (ap (λ (z : List FormTree). map bare_form fs' ++ z) (parts_at_both vars over second.form second'.form (ap (λ (z : RowTree). z.form) other_moved.is) qs gs gs' other other')
      ∙ sym (map-append bare_form fs' gs')))

  -- one that keeps sorts
  pub moved_unifier : (τ : Substitution) → KeepsSorts table τ → UnifiesForms (fs' ++ gs') τ → (κ : Substitution) × KeepsSorts table κ × UnifiesForms (fs ++ gs) κ
  moved_unifier τ keeps unifies = (
    both vars over τ,
    both_keeps vars over τ table (pair_known table r s first second a plain_r plain_s) (pair_moving r s first second first' second' a b) keeps,
    both_unify vars over τ form_trees (fs ++ gs) (fs' ++ gs') among parts unifies,
  )
