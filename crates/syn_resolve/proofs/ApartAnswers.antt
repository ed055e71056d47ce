-- What is answered of two rows kept apart, and of the two rows that they were.
use Rattle.std.proofs.Common.{◌≡◌, ◌≤◌, ◌<◌, ◌+◌, ◌^◌, ℕ, inl, inr, ◌⊎◌, List, [], ◌∷◌, ◌++◌, Option, None, Some, All, Contains, IfSome, MatchOption, get_or, length, sym, ◌∙◌, ap, subst, arith}
use Rattle.std.specs.Option.{option_map, option_map_or}
use Rattle.std.proofs.lemmas.List.Elements.{All-append, Contains-append_cases, Contains-append_left, Contains-append_right, Contains-get_or}
use Rattle.syn_term.specs.declared.sorts.Var.{Var}
use Rattle.syn_term.specs.Symbols.{IsSort, SymbolTable}
use Rattle.syn_term.specs.Terms.{bare, variable_tree}
use Rattle.syn_form.specs.Plain.{HasOneSortEach}
use Rattle.syn_form.specs.Positions.{at_position, formula}
use Rattle.syn_form.specs.Substitutions.{Binding, KeepsSorts, Substitution, UnifiesForms, substituted, substituted_form, substituted_out}
use Rattle.syn_form.specs.Trees.{FormTree, OutTree, bare_form, bare_out, form_vars, out_vars, term_vars}
use Rattle.syn_form.proofs.Lists.{Contains-flat_map, Contains-head}
use Rattle.syn_form.proofs.TreeParts.{formula_is}
use Rattle.syn_row.specs.declared.guards.GuardRule.{GuardRule}
use Rattle.syn_row.specs.Guards.{IsGuardRule}
use Rattle.syn_row.specs.JoinLaws.{GiveOneSort}
use Rattle.syn_row.specs.Results.{AreApart}
use Rattle.syn_row.specs.Rows.{IsPlain, IsRenaming, RowTree, bare_row, row_nodes, row_vars, substituted_row}
use Rattle.syn_row.proofs.Agreeing.{AreAmong}
use Rattle.syn_row.proofs.Changes.{changes_substituted}
use Rattle.syn_row.proofs.Numbers.{bare-variable}
use Rattle.syn_row.proofs.Pairs.{firsts, row_alike, seconds}
use Rattle.syn_row.proofs.PartsMoved.{all_among, parts_among}
use Rattle.syn_row.proofs.SortedVars.{row_known}
use Rattle.syn_row.proofs.Taking.{Fits, image_sort, image_sorted, image_taking, keeps_taking, taking}
use Rattle.syn_resolve.specs.Resolution.{AreAt, ResolveGives}
use Rattle.syn_resolve.specs.inner.Reflexing.{AreBoundAmong}
use Rattle.syn_resolve.specs.inner.Resolving.{ApartGives, HasPart, IsPair, PartGives, Unified, UnifiesParts}
use Rattle.syn_resolve.specs.inner.Standing.{Stand}
use Rattle.syn_resolve.proofs.Choices.{ResolveChoice}
use Rattle.syn_resolve.proofs.Grown.{apart_small, light_small}
use Rattle.syn_resolve.proofs.JointRows.{given_along}
use Rattle.syn_resolve.proofs.Laws.{resolve_any}
use Rattle.syn_resolve.proofs.MovedUnifier.{moved_unifier}
use Rattle.syn_resolve.proofs.PartsStill.{at_along}
use Rattle.syn_resolve.proofs.Standing.{first_and_rest, rest_of}

-- the first of the parts
part_first : (f : FormTree) (k : List ℕ) (ks : List (List ℕ)) (hs : List FormTree) → Stand f (k ∷ ks) hs → (h : FormTree) × (at_position k (formula f) ≡ Some (formula h)) × Contains hs h
part_first f k ks [] e = absurd (cc)
part_first f k ks (h ∷ hs) e = let a : at_position k (formula f) ≡ Some (formula h) = cc in (h, a, Contains-head h hs)

module _ (table : SymbolTable) (ps qs : List (List ℕ)) (first second : RowTree) (σ : Substitution) (u : UnifiesParts table ps qs first second σ) where
  abbrev pair : List Var
  pair = row_vars first ++ row_vars second

  abbrev parts : List FormTree
  parts = u.first_parts ++ u.second_parts

  form_among : (r : RowTree) → AreAmong (row_vars r) pair → AreAmong (form_vars r.form) pair
  form_among r h v c = h v (Contains-append_left (form_vars r.form) (option_map_or out_vars r.out []) v c)

  among : All (λ f. AreAmong (form_vars f) pair) parts
  among = All-append (λ f. AreAmong (form_vars f) pair) u.first_parts u.second_parts
      (parts_among pair (λ v. v) first.form (form_among first (Contains-append_left (row_vars first) (row_vars second))) ps u.first_parts u.first_there.there)
      (parts_among pair (λ v. v) second.form (form_among second (Contains-append_right (row_vars first) (row_vars second))) qs u.second_parts u.second_there.there)

  -- what is put in has variables of the two rows alone
  pub unifier_among : AreBoundAmong pair σ
  unifier_among v c =
      let p = Contains-flat_map (λ (b : Binding). term_vars b.term) σ v c in
      all_among pair (λ v. v) parts among v ((u.general.own p.0 p.1).1 v p.2)

  module _ (at : List ℕ) (few : 1 ≤ length ps) (is : at ≡ get_or ps 0 at) where
    first_part : (h : FormTree) × (at_position at (formula first.form) ≡ Some (formula h)) × Contains u.first_parts h
    first_part = part_first first.form at (rest_of ps) u.first_parts (subst (λ (z : List (List ℕ)). Stand first.form z u.first_parts) (first_and_rest ps at few is) u.first_there.there)

    pub has_part : HasPart at first.form
    has_part = (first_part.0, first_part.1)

    module _ (h p : FormTree) (there : at_position at (formula first.form) ≡ Some (formula h)) (one : bare_form (substituted_form σ h) ≡ bare_form p) where
      contained : Contains parts h
      contained = Contains-append_left u.first_parts u.second_parts h (subst (Contains u.first_parts) (formula_is first_part.0 h (sym first_part.1 ∙ there)) first_part.2)

      abbrev unified : Unified table ps qs first second
      unified = record {
        first_parts = u.first_parts;
        second_parts = u.second_parts;
        first_there = u.first_there;
        second_there = u.second_there;
        unifier = σ;
        general = u.general;
        one = p;
        one_is = λ k d lt. u.general.unifies (get_or parts k d) h (Contains-get_or parts k d lt) contained ∙ one;
      }

    pub apart_gives : (rule : Option GuardRule) (o : Option RowTree) → PartGives rule σ at first second o → ApartGives table rule ps qs first second o
    apart_gives rule None x = λ fs gs a b τ keeps unifies. (unified x.0 x.1 x.2 x.3, x.4)
    apart_gives rule (Some q) x = (unified x.0 x.1 x.2 x.3, x.4)

-- A renaming of a row's variables by a substitution that keeps sorts.
record Kept (table : SymbolTable) (r q : RowTree) : Type 0 where
  by : Substitution
  keeps : KeepsSorts table by
  is : bare_row q ≡ bare_row (substituted_row by r)

kept_by : (table : SymbolTable) (r q : RowTree) (σ : Substitution) → IsPlain table r → IsRenaming (row_vars r) σ → bare_row (substituted_row σ r) ≡ bare_row q → Kept table r q
kept_by table r q σ plain n e = record {
  by = taking (λ v. variable_tree (n.to v)) (row_vars r);
  keeps = keeps_taking table (λ v. variable_tree (n.to v)) (row_vars r) (λ k d lt. fits (get_or (row_vars r) k d) (Contains-get_or (row_vars r) k d lt));
  is = sym (row_alike (taking (λ v. variable_tree (n.to v)) (row_vars r)) σ r (λ v c. ap bare (image_taking (λ v. variable_tree (n.to v)) (row_vars r) v c) ∙ (bare-variable (n.to v) ∙ sym (n.is v c))) ∙ e);
}
  where
    none : KeepsSorts table []
    none k d lt = absurd (omega arith)

    fits : (v : Var) → Contains (row_vars r) v → Fits table v (variable_tree (n.to v))
    fits v c = (image_sorted table [] (n.to v) none (subst (IsSort table) (sym (n.sorts v c)) (row_known table r plain v c)), image_sort table [] (n.to v) none ∙ ap Some (n.sorts v c))

module _ (table : SymbolTable) (r s first second : RowTree) (plain_r : IsPlain table r) (plain_s : IsPlain table s) (a : AreApart r s first second) where
  kept_sorts : (κ μ : Substitution) → KeepsSorts table κ → KeepsSorts table μ → (o u o' u' : Option OutTree) → option_map bare_out o' ≡ option_map bare_out (option_map (substituted_out κ) o) → option_map bare_out u' ≡ option_map bare_out (option_map (substituted_out μ) u) → GiveOneSort table o u → GiveOneSort table o' u'
  kept_sorts κ μ keep also (Some o) (Some u) (Some o') (Some u') d e h =
      let i : bare_out o' ≡ bare_out (substituted_out κ o) = cc in
      let j : bare_out u' ≡ bare_out (substituted_out μ u) = cc in
      given_along table κ keep o o' i ∙ (h ∙ sym (given_along table μ also u u' j))
  kept_sorts κ μ keep also o u (Some o') None d e h = tt
  kept_sorts κ μ keep also o u None u' d e h = tt
  kept_sorts κ μ keep also None u (Some o') (Some u') d e h = absurd (cc)
  kept_sorts κ μ keep also (Some o) None (Some o') (Some u') d e h = absurd (cc)

  one_sort_each : IsPlain table first → IsPlain table second → HasOneSortEach (row_vars first ++ row_vars second)
  one_sort_each h k v w c d e = go (Contains-append_cases (row_vars first) (row_vars second) v c) (Contains-append_cases (row_vars first) (row_vars second) w d)
    where
      go : Contains (row_vars first) v ⊎ Contains (row_vars second) v → Contains (row_vars first) w ⊎ Contains (row_vars second) w → v.sort ≡ w.sort
      go (inl i) (inl j) = h.sorts v w i j e
      go (inr i) (inr j) = k.sorts v w i j e
      go (inl i) (inr j) = absurd (a.none_shared v w i j e)
      go (inr i) (inl j) = absurd (a.none_shared w v j i (sym e))

  -- rows kept apart of plain rows
  pub pair_of : GiveOneSort table r.out s.out → IsPlain table first → IsPlain table second → IsPair table first second
  pair_of given h k =
      let x = kept_by table r first a.left plain_r a.renames_left a.first_is in
      let y = kept_by table s second a.right plain_s a.renames_right a.second_is in
      record {
        first_plain = h;
        second_plain = k;
        sorts = one_sort_each h k;
        given = kept_sorts x.by y.by x.keeps y.keeps r.out s.out first.out second.out (ap (λ (z : RowTree). z.out) x.is) (ap (λ (z : RowTree). z.out) y.is) given;
      }

  module _ (rule : Option GuardRule) (is : IfSome rule (IsGuardRule table)) (ps qs : List (List ℕ)) where
    abbrev choice_of : Unified table ps qs first second → ResolveChoice table r ps s qs
    choice_of u = record {
      first = first;
      second = second;
      apart = a;
      first_parts = u.first_parts;
      second_parts = u.second_parts;
      first_there = u.first_there;
      second_there = u.second_there;
      unifier = u.unifier;
      general = u.general;
      one = u.one;
      one_is = u.one_is;
    }

    none_gives : ApartGives table rule ps qs first second None → (q : RowTree) → ResolveGives table rule r ps s qs q → ⊥
    none_gives h q g =
        let v = firsts r s g.first g.second first second g.apart a in
        let w = seconds r s g.first g.second first second g.apart a in
        let x = at_along (substituted_form v.renaming) (substituted v.renaming) (changes_substituted v.renaming) g.first.form first.form (sym (ap (λ (z : RowTree). z.form) v.is)) ps g.first_parts g.first_there in
        let y = at_along (substituted_form w.renaming) (substituted w.renaming) (changes_substituted w.renaming) g.second.form second.form (sym (ap (λ (z : RowTree). z.form) w.is)) qs g.second_parts g.second_there in
        let κ = moved_unifier table r s plain_r plain_s first second g.first g.second a g.apart ps qs x.0 y.0 g.first_parts g.second_parts x.1.there y.1.there g.first_there.there g.second_there.there g.unifier g.general.sorts g.general.unifies in
        let z = h x.0 y.0 x.1 y.1 κ.0 κ.1 κ.2 in
        z.1 q (resolve_any table rule is r s plain_r plain_s ps qs q (choice_of z.0) g)

    pub resolve_answer : (o : Option RowTree) → ApartGives table rule ps qs first second o → MatchOption o ((q : RowTree) → ResolveGives table rule r ps s qs q → ⊥) (λ q. ResolveGives table rule r ps s qs q)
    resolve_answer None h = none_gives h
    resolve_answer (Some q) h =
        let u = h.0 in
        record {
          first = first;
          second = second;
          apart = a;
          first_parts = u.first_parts;
          second_parts = u.second_parts;
          first_there = u.first_there;
          second_there = u.second_there;
          unifier = u.unifier;
          general = u.general;
          one = u.one;
          one_is = u.one_is;
          gives = h.1;
        }

-- rows that are too large together give none
pub never_small : (table : SymbolTable) (rule : Option GuardRule) (r s : RowTree) (ps qs : List (List ℕ)) → (row_nodes r + row_nodes s ≤ 65536 → ⊥) → (q : RowTree) → ResolveGives table rule r ps s qs q → ⊥
never_small table rule r s ps qs large q g = large (apart_small r s g.first g.second g.apart (light_small g.unifier g.first g.second _ g.gives.light))

pub small_fits : (r s : RowTree) → row_nodes r + row_nodes s ≤ 65536 → row_nodes r + row_nodes s < 2 ^ 32
small_fits r s h = omega arith

-- where no unifier is there
pub no_unified : (table : SymbolTable) (rule : Option GuardRule) (ps qs : List (List ℕ)) (first second : RowTree) → ((fs gs : List FormTree) → AreAt ps first.form fs → AreAt qs second.form gs → (τ : Substitution) → KeepsSorts table τ → UnifiesForms (fs ++ gs) τ → ⊥) → ApartGives table rule ps qs first second None
no_unified table rule ps qs first second none = λ fs gs a b τ keeps unifies. absurd (none fs gs a b τ keeps unifies)
