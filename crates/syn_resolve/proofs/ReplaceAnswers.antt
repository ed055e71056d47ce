-- What is answered of an equality in one row and a term in another one: of rows kept apart, and of the two rows that they were.
use Rattle.std.proofs.Common.{◌≡◌, ◌≤◌, ◌+◌, ℕ, inl, inr, List, [], ◌∷◌, ◌++◌, Option, None, Some, All, Contains, IfSome, MatchOption, refl, sym, ◌∙◌, ap, subst}
use Rattle.std.specs.Option.{option_map_or}
use Rattle.std.proofs.lemmas.List.Elements.{Contains-append_left, Contains-append_right}
use Rattle.syn_term.specs.Bank.{Belongs, Kept}
use Rattle.syn_term.specs.declared.sorts.Var.{Var}
use Rattle.syn_term.specs.Symbols.{SymbolTable}
use Rattle.syn_term.specs.Terms.{TermTree, bare, sort_of}
use Rattle.syn_form.specs.declared.trees.Form.TheVariants as form
use Rattle.syn_form.specs.Plain.{IsFormed, IsSorted}
use Rattle.syn_form.specs.Positions.{at_position, formula, term}
use Rattle.syn_form.specs.Replacing.{MayReplaceTerm}
use Rattle.syn_form.specs.Substitutions.{Binding, IsUnifierOfTerms, KeepsSorts, Substitution, UnifiesTerms, substituted, substituted_form}
use Rattle.syn_form.specs.Trees.{FormTree, bare_form, form_terms, form_vars, out_terms, out_vars, term_vars}
use Rattle.syn_form.proofs.Equations.{Equal-injective, bare_form-Equal-injective, form_terms-Equal}
use Rattle.syn_form.proofs.FormedForms.{equality_formed}
use Rattle.syn_form.proofs.Lists.{Contains-flat_map, Contains-head, Contains-tail}
use Rattle.syn_form.proofs.Owned.{All-left}
use Rattle.syn_form.proofs.Sorting.{sort_bare}
use Rattle.syn_form.proofs.TreeParts.{formula_is}
use Rattle.syn_row.specs.declared.direction.Dir.{Dir}
use Rattle.syn_row.specs.declared.direction.Dir.TheVariants as dir
use Rattle.syn_row.specs.declared.guards.GuardRule.{GuardRule}
use Rattle.syn_row.specs.Guards.{IsGuardRule, joined_guards}
use Rattle.syn_row.specs.Results.{AreApart}
use Rattle.syn_row.specs.Rows.{IsPlain, RowTree, row_nodes, row_terms, row_vars}
use Rattle.syn_row.proofs.Agreeing.{AreAmong, within_each}
use Rattle.syn_row.proofs.Changes.{changes_substituted}
use Rattle.syn_row.proofs.Leading.{term_trees}
use Rattle.syn_row.proofs.Pairs.{firsts, pair_known, seconds}
use Rattle.syn_row.proofs.Still.{part_among}
use Rattle.syn_unify.specs.Bindings.{HasNoUnifier}
use Rattle.syn_resolve.specs.Replacement.{EqualGives, looked_for, put_there, replaced}
use Rattle.syn_resolve.specs.inner.Instances.{FitsRow}
use Rattle.syn_resolve.specs.inner.Reflexing.{AreBoundAmong, FigureGives}
use Rattle.syn_resolve.specs.inner.Replacing.{ApartReplaces, NoneUnifiesSide, PutsSide, SideGives, UnifiesSide}
use Rattle.syn_resolve.specs.inner.Resolving.{IsInstance, IsPair}
use Rattle.syn_resolve.proofs.Grown.{apart_small, light_small}
use Rattle.syn_resolve.proofs.JointAnswers.{both_fit}
use Rattle.syn_resolve.proofs.JointRows.{instance_form_among, sort_put}
use Rattle.syn_resolve.proofs.MovedUnifier.{both, both_keeps, both_unify}
use Rattle.syn_resolve.proofs.PartsAt.{form_belongs, sides_belong, sides_sorted}
use Rattle.syn_resolve.proofs.PartsFormed.{formed_at}
use Rattle.syn_resolve.proofs.PartsStill.{form_at_along}
use Rattle.syn_resolve.proofs.ReplaceLaws.{ReplaceSite, either_side, equal_any, given_site, moving, over, pair_among, pair_moved, site_terms, terms_among, vars}
use Rattle.syn_resolve.proofs.ReplaceRows.{replaced_alike}
use Rattle.syn_resolve.proofs.SidesStill.{equality_at_along, term_at_along, term_is}

-- the side that is looked for, in a formed formula of the bank
module _ (at : List ℕ) (way : Dir) (f : FormTree) (s t x : TermTree) (there : at_position at (formula f) ≡ Some (formula (form.Equal s t))) (is : x ≡ looked_for way s t) where
  pub sought_sorted : (table : SymbolTable) → IsFormed table f → IsSorted table x
  sought_sorted table h = let k = sides_sorted table at f s t there h in subst (IsSorted table) (sym is) (either_side (λ u v. IsSorted table u) way s t s t k.0 k.1).0

  pub sought_belongs : (bank : Kept) → All (Belongs bank) (form_terms f) → Belongs bank x
  sought_belongs bank h = let k = sides_belong bank at f s t there h in subst (Belongs bank) (sym is) (either_side (λ u v. Belongs bank u) way s t s t k.0 k.1).0

  -- what is answered of it and the term
  pub side_answer : (table : SymbolTable) (place : List ℕ) (g : FormTree) (old : TermTree) → at_position place (formula g) ≡ Some (term old) → (o : Option Substitution)
      → MatchOption o (HasNoUnifier table (UnifiesTerms (x ∷ old ∷ []))) (IsUnifierOfTerms table (x ∷ old ∷ [])) → MatchOption o (NoneUnifiesSide table at way place f g) (UnifiesSide table at way place f g)
  side_answer table place g old old_there None none = λ l r u e d τ keeps unifies.
      let sides = Equal-injective l r s t (formula_is (form.Equal l r) (form.Equal s t) (sym e ∙ there)) in
      let one : looked_for way l r ≡ x = (either_side (λ u v. u ≡ v) way l r s t sides.0 sides.1).0 ∙ sym is in
      let other : u ≡ old = term_is u old (sym d ∙ old_there) in
      none τ keeps (subst (λ (z : List TermTree). UnifiesTerms z τ) (ap (λ (z : TermTree). z ∷ u ∷ []) one ∙ ap (λ (z : TermTree). x ∷ z ∷ []) other) unifies)
  side_answer table place g old old_there (Some σ) general = record {
    left = s;
    right = t;
    there = there;
    old = old;
    old_there = old_there;
    general = subst (λ (z : TermTree). IsUnifierOfTerms table (z ∷ old ∷ []) σ) is general;
  }

-- where there is no equality, and where there is no term
pub no_equality : (table : SymbolTable) (at : List ℕ) (way : Dir) (place : List ℕ) (f g : FormTree) → ((s t : TermTree) → at_position at (formula f) ≡ Some (formula (form.Equal s t)) → ⊥) → NoneUnifiesSide table at way place f g
no_equality table at way place f g none = λ l r u e d τ keeps unifies. none l r e

pub no_term_there : (table : SymbolTable) (at : List ℕ) (way : Dir) (place : List ℕ) (f g : FormTree) → ((t : TermTree) → at_position place (formula g) ≡ Some (term t) → ⊥) → NoneUnifiesSide table at way place f g
no_term_there table at way place f g none = λ l r u e d τ keeps unifies. none u d

-- an equality that stands there, and its side, as the code finds them
pub puts_side : (at : List ℕ) (way : Dir) (f e : FormTree) (s t new : TermTree) → at_position at (formula f) ≡ Some (formula e) → e ≡ form.Equal s t → new ≡ put_there way s t → PutsSide at way f e new
puts_side at way f e s t new there equal side = record { left = s; right = t; equal = equal; there = there; side = side }

pub no_equality_there : (at : List ℕ) (f e : FormTree) → at_position at (formula f) ≡ Some (formula e) → ((s t : TermTree) → e ≡ form.Equal s t → ⊥) → (s t : TermTree) → at_position at (formula f) ≡ Some (formula (form.Equal s t)) → ⊥
no_equality_there at f e there none s t k = none s t (formula_is e (form.Equal s t) (sym there ∙ k))

module _ (table : SymbolTable) (at : List ℕ) (way : Dir) (place : List ℕ) (first second : RowTree) (σ : Substitution) (u : UnifiesSide table at way place first.form second.form σ) where
  abbrev pair : List Var
  pair = row_vars first ++ row_vars second

  form_among : (r : RowTree) → AreAmong (row_vars r) pair → AreAmong (form_vars r.form) pair
  form_among r h v c = h v (Contains-append_left (form_vars r.form) (option_map_or out_vars r.out []) v c)

  -- what is put in has variables of the two rows alone
  pub side_bound : AreBoundAmong pair σ
  side_bound v c =
      let p = Contains-flat_map (λ (b : Binding). term_vars b.term) σ v c in
      terms_among pair at way place first.form second.form u.left u.right u.old u.there u.old_there (form_among first (Contains-append_left (row_vars first) (row_vars second))) (form_among second (Contains-append_right (row_vars first) (row_vars second))) v ((u.general.own p.0 p.1).1 v p.2)

  -- an instance that is too large gives none
  pub side_large : (rule : Option GuardRule) → (FitsRow σ first × FitsRow σ second → ⊥) → SideGives table rule at way place first second σ None
  side_large rule large =
      let gs = joined_guards rule σ (substituted_form σ (form.Equal u.left u.right)) first.out second.out in (u, λ q g. large (both_fit σ first second gs g.light))

  module _ (a : RowTree) (i : IsInstance table σ first a) where
    form_same : bare_form a.form ≡ bare_form (substituted_form σ first.form)
    form_same = ap (λ (z : RowTree). z.form) i.is

    pub equality_there : ((s t : TermTree) → at_position at (formula a.form) ≡ Some (formula (form.Equal s t)) → ⊥) → ⊥
    equality_there none = let x = equality_at_along σ first.form a.form form_same at u.left u.right u.there in none x.0 x.1 x.2

    module _ (e : FormTree) (new : TermTree) (x : PutsSide at way a.form e new) where
      equal_is : bare_form e ≡ bare_form (substituted_form σ (form.Equal u.left u.right))
      equal_is =
          let y = form_at_along (substituted_form σ) (substituted σ) (changes_substituted σ) first.form a.form form_same at (form.Equal u.left u.right) u.there in
          ap bare_form (formula_is e y.0 (sym x.there ∙ y.1)) ∙ y.2

      sides_are : (bare x.left ≡ bare (substituted σ u.left)) × (bare x.right ≡ bare (substituted σ u.right))
      sides_are = bare_form-Equal-injective x.left x.right (substituted σ u.left) (substituted σ u.right) (ap bare_form (sym x.equal) ∙ (equal_is ∙ ap bare_form ((changes_substituted σ).at_equal u.left u.right)))

      put_is : bare new ≡ bare (substituted σ (put_there way u.left u.right))
      put_is = ap bare x.side ∙ (either_side (λ s t. bare s ≡ bare (substituted σ t)) way x.left x.right u.left u.right sides_are.0 sides_are.1).1

      pub equal_formed : IsFormed table e
      equal_formed = formed_at table at a.form e x.there i.formed

      pub equal_belongs : (bank : Kept) → All (Belongs bank) (row_terms a) → All (Belongs bank) (form_terms e)
      equal_belongs bank h = form_belongs bank at a.form e x.there (All-left (Belongs bank) (form_terms a.form) (option_map_or out_terms a.out []) h)

      pub equal_among : (w : Var) → Contains (form_vars e) w → Contains pair w
      equal_among = part_among pair at a.form e x.there (instance_form_among σ pair side_bound first a i.is (Contains-append_left (row_vars first) (row_vars second)))

      pub side_contained : Contains (form_terms e) new
      side_contained = subst (λ (z : List TermTree). Contains z new) (sym (ap form_terms x.equal ∙ form_terms-Equal x.left x.right)) (subst (Contains (x.left ∷ x.right ∷ [])) (sym x.side) (go way))
        where
          go : (d : Dir) → Contains (x.left ∷ x.right ∷ []) (put_there d x.left x.right)
          go dir.Lr = Contains-tail x.left (x.right ∷ []) x.right (Contains-head x.right [])
          go dir.Rl = Contains-head x.left (x.right ∷ [])

      pub side_given : (rule : Option GuardRule) → IfSome rule (IsGuardRule table) → (o : Option RowTree) → FigureGives (replaced rule σ e place new first second) o → SideGives table rule at way place first second σ o
      side_given rule is o h = (u, replaced_alike table rule is σ e (substituted_form σ (form.Equal u.left u.right)) place new (substituted σ (put_there way u.left u.right)) first second equal_is put_is o h)

      -- the side has the sort of the term that it is put for
      pub side_may : (b : RowTree) → IsInstance table σ second b → IsPair table first second → MayReplaceTerm table b.form place new
      side_may b j two =
          let old = term_at_along σ second.form b.form (ap (λ (z : RowTree). z.form) j.is) place u.old u.old_there in
          let equality = formed_at table at first.form (form.Equal u.left u.right) u.there two.first_plain.form in
          let one : sort_of table u.left ≡ sort_of table u.right = ((equality_formed table (form.Equal u.left u.right) u.left u.right refl).0 equality).2 in
          let looked = looked_for way u.left u.right in
          let put = put_there way u.left u.right in
          let unified : bare (substituted σ u.old) ≡ bare (substituted σ looked) = u.general.unifies u.old looked (Contains-tail looked (u.old ∷ []) u.old (Contains-head u.old [])) (Contains-head looked (u.old ∷ [])) in
          let keeps = u.general.sorts in
          record {
            old = old.0;
            there = old.1;
            sorts = sym (sort_bare table old.0)
                ∙ (ap (sort_of table) (old.2 ∙ unified)
                ∙ (sort_bare table (substituted σ looked) ∙ (sort_put table σ keeps looked
                ∙ (one_sort way u.left u.right one ∙ (sym (sort_put table σ keeps put)
                ∙ (sym (sort_bare table (substituted σ put)) ∙ (ap (sort_of table) (sym put_is) ∙ sort_bare table new)))))));
          }
        where
          one_sort : (d : Dir) (s t : TermTree) → sort_of table s ≡ sort_of table t → sort_of table (looked_for d s t) ≡ sort_of table (put_there d s t)
          one_sort dir.Lr s t h = h
          one_sort dir.Rl s t h = sym h

-- a unifier gives what the rows kept apart give
pub apart_given : (table : SymbolTable) (rule : Option GuardRule) (at : List ℕ) (way : Dir) (place : List ℕ) (first second : RowTree) (σ : Substitution) (o : Option RowTree) → SideGives table rule at way place first second σ o → ApartReplaces table rule at way place first second o
apart_given table rule at way place first second σ None h = inl (σ, h)
apart_given table rule at way place first second σ (Some q) h = (σ, h)

-- a unifier of the one site's side and term makes one of the other's
module _ (table : SymbolTable) (r : RowTree) (at : List ℕ) (way : Dir) (s : RowTree) (place : List ℕ) (plain_r : IsPlain table r) (plain_s : IsPlain table s) where
  moved_side : (a b : ReplaceSite r at s place) (τ : Substitution) → KeepsSorts table τ → UnifiesTerms (site_terms r at way s place b) τ → (κ : Substitution) × KeepsSorts table κ × UnifiesTerms (site_terms r at way s place a) κ
  moved_side a b τ keeps unifies =
      let named = vars r at way s place a b in
      let passed = over r at way s place a b in
      (both named passed τ, both_keeps named passed τ table (pair_known table r s a.first a.second a.apart plain_r plain_s) (moving r at way s place a b) keeps, both_unify named passed τ term_trees (site_terms r at way s place a) (site_terms r at way s place b) (within_each named (site_terms r at way s place a) (pair_among r at way s place a b)) (pair_moved r at way s place a b) unifies)

  module _ (rule : Option GuardRule) (is : IfSome rule (IsGuardRule table)) (first second : RowTree) (a : AreApart r s first second) where
    -- the other rows' equality and term stand in these
    site_here : (g : ReplaceSite r at s place) → (left right old : TermTree) × (at_position at (formula first.form) ≡ Some (formula (form.Equal left right))) × (at_position place (formula second.form) ≡ Some (term old))
    site_here g =
        let v = firsts r s g.first g.second first second g.apart a in
        let w = seconds r s g.first g.second first second g.apart a in
        let x = equality_at_along v.renaming g.first.form first.form (sym (ap (λ (z : RowTree). z.form) v.is)) at g.left g.right g.there in
        let y = term_at_along w.renaming g.second.form second.form (sym (ap (λ (z : RowTree). z.form) w.is)) place g.old g.old_there in (x.0, x.1, y.0, x.2, y.1)

    none_given : ApartReplaces table rule at way place first second None → (q : RowTree) → EqualGives table rule r at way s place q → ⊥
    none_given (inl h) q g =
        let u = h.1.0 in
        h.1.1 q (equal_any table rule is r at way s place plain_r plain_s q (record { site = record { first = first; second = second; apart = a; left = u.left; right = u.right; there = u.there; old = u.old; old_there = u.old_there }; unifier = h.0; general = u.general }) g)
    none_given (inr none) q g =
        let theirs = given_site table rule is r at way s place plain_r plain_s q g in
        let x = site_here theirs in
        let ours : ReplaceSite r at s place = record { first = first; second = second; apart = a; left = x.0; right = x.1; there = x.3; old = x.2; old_there = x.4 } in
        let κ = moved_side ours theirs g.unifier g.general.sorts g.general.unifies in none x.0 x.1 x.2 x.3 x.4 κ.0 κ.1 κ.2

    pub equal_answer : (o : Option RowTree) → ApartReplaces table rule at way place first second o → MatchOption o ((q : RowTree) → EqualGives table rule r at way s place q → ⊥) (EqualGives table rule r at way s place)
    equal_answer None h = none_given h
    equal_answer (Some q) h =
        let u = h.1.0 in
        record {
          first = first;
          second = second;
          apart = a;
          left = u.left;
          right = u.right;
          there = u.there;
          old = u.old;
          old_there = u.old_there;
          unifier = h.0;
          general = u.general;
          gives = h.1.1;
        }

-- rows that are too large together give none
pub equal_small : (table : SymbolTable) (rule : Option GuardRule) (r : RowTree) (at : List ℕ) (way : Dir) (s : RowTree) (place : List ℕ) → (row_nodes r + row_nodes s ≤ 65536 → ⊥) → (q : RowTree) → EqualGives table rule r at way s place q → ⊥
equal_small table rule r at way s place large q g = large (apart_small r s g.first g.second g.apart (light_small g.unifier g.first g.second _ g.gives.light))
