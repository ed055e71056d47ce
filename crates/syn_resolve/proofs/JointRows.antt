-- The row that comes of two instances: it is that of the definition but for places, it is plain, and its terms are of the bank.
use Rattle.std.proofs.Common.{◌≡◌, ◌⊎◌, inl, inr, true, false, List, [], ◌∷◌, ◌++◌, Option, None, Some, All, Contains, IfSome, map, refl, sym, ◌∙◌, ap, subst}
use Rattle.std.specs.List.{flat_map}
use Rattle.std.specs.Option.{option_map, option_map_or}
use Rattle.std.proofs.lemmas.List.{map-append}
use Rattle.std.proofs.lemmas.List.Elements.{Contains-append_cases, Contains-append_left, Contains-append_right}
use Rattle.syn_term.specs.Bank.{Belongs, Kept}
use Rattle.syn_term.specs.declared.sorts.Var.{Var}
use Rattle.syn_term.specs.Symbols.{SymbolTable}
use Rattle.syn_term.specs.Terms.{TermTree, sort_of}
use Rattle.syn_form.specs.Plain.{HasOneSortEach, IsFormed, IsFormedOut, given_sort, given_sort_step}
use Rattle.syn_form.specs.Replacing.{replaced_all}
use Rattle.syn_form.specs.Substitutions.{KeepsSorts, Substitution, image, substituted, substituted_form, substituted_out}
use Rattle.syn_form.specs.Trees.{FormTree, OutTree, bare_form, bare_out, form_terms, form_vars, out_terms, out_vars}
use Rattle.syn_form.proofs.BareVars.{given_bare}
use Rattle.syn_form.proofs.Equations.{fold-Give, fold-If}
use Rattle.syn_form.proofs.Inductions.{by_out_cases}
use Rattle.syn_form.proofs.Lists.{All-within, none_in_nil}
use Rattle.syn_form.proofs.Owned.{All-left, All-right}
use Rattle.syn_form.proofs.ReplacingAll.{replaces_all}
use Rattle.syn_form.proofs.Sorting.{sort_bare}
use Rattle.syn_row.specs.declared.guards.GuardRule.{GuardRule}
use Rattle.syn_row.specs.Calls.{forms_terms}
use Rattle.syn_row.specs.Guards.{joined_guards}
use Rattle.syn_row.specs.JoinLaws.{GiveOneSort}
use Rattle.syn_row.specs.Results.{out_list}
use Rattle.syn_row.specs.Rows.{IsPlain, RowTree, bare_row, row_terms, row_vars, substituted_row}
use Rattle.syn_row.proofs.Agreeing.{AreAmong}
use Rattle.syn_row.proofs.Changes.{out_changes_substituted}
use Rattle.syn_unify.specs.Bindings.{bound_vars}
use Rattle.syn_unify.proofs.FormEnds.{substituted_form_under}
use Rattle.syn_unify.proofs.FormsApplied.{form_vars_from, out_vars_from, substituted_out_under}
use Rattle.syn_unify.proofs.Sorts.{image_holds, sort_under}
use Rattle.syn_unify.proofs.Under.{substituted_under}
use Rattle.syn_resolve.specs.Resolution.{resolved}
use Rattle.syn_resolve.specs.inner.Resolving.{figure_of, figure_of_both, row_of_both}
use Rattle.syn_resolve.proofs.JoinedRows.{AreJoinedAmong, joined_belongs, joined_plain, joined_row_same, replaced_same}
use Rattle.syn_resolve.proofs.SameFigures.{SameFigures, outs_same}

-- an instance of an output gives a term of the same sort
module _ (table : SymbolTable) (σ : Substitution) (keeps : KeepsSorts table σ) where
  pub sort_put : (t : TermTree) → sort_of table (substituted σ t) ≡ sort_of table t
  sort_put t = sym (sort_bare table (substituted σ t)) ∙ (ap (sort_of table) (substituted_under σ t) ∙ sort_under table (image σ) (image_holds table σ keeps) t)

  given_put : (o : OutTree) → given_sort table (substituted_out σ o) ≡ given_sort table o
  given_put = by_out_cases (λ o. given_sort table (substituted_out σ o) ≡ given_sort table o) record {
    at_give = λ t. ap (given_sort table) ((out_changes_substituted σ).at_give t) ∙ (fold-Give (given_sort_step table) (substituted σ t) ∙ (sort_put t ∙ sym (fold-Give (given_sort_step table) t)));
    at_if = λ f u v h k. ap (given_sort table) ((out_changes_substituted σ).at_if f u v) ∙ (fold-If (given_sort_step table) (substituted_form σ f) (substituted_out σ u) (substituted_out σ v) ∙ (h ∙ sym (fold-If (given_sort_step table) f u v)));
  }

  pub given_along : (o p : OutTree) → bare_out p ≡ bare_out (substituted_out σ o) → given_sort table p ≡ given_sort table o
  given_along o p e = sym (given_bare table p) ∙ (ap (given_sort table) e ∙ (given_bare table (substituted_out σ o) ∙ given_put o))

  pub sorts_along : (o u o' u' : Option OutTree) → option_map bare_out o' ≡ option_map bare_out (option_map (substituted_out σ) o) → option_map bare_out u' ≡ option_map bare_out (option_map (substituted_out σ) u) → GiveOneSort table o u → GiveOneSort table o' u'
  sorts_along (Some o) (Some u) (Some o') (Some u') a b h =
      let c : bare_out o' ≡ bare_out (substituted_out σ o) = cc in
      let d : bare_out u' ≡ bare_out (substituted_out σ u) = cc in
      given_along o o' c ∙ (h ∙ sym (given_along u u' d))
  sorts_along o u (Some o') None a b h = tt
  sorts_along o u None u' a b h = tt
  sorts_along None u (Some o') (Some u') a b h = absurd (cc)
  sorts_along (Some o) None (Some o') (Some u') a b h = absurd (cc)

-- the variables of an instance of a row are among these
module _ (σ : Substitution) (vars : List Var) (bound : AreAmong (bound_vars σ) vars) (r m : RowTree) (made : bare_row m ≡ bare_row (substituted_row σ r)) (among : AreAmong (row_vars r) vars) where
  pub instance_form_among : AreAmong (form_vars m.form) vars
  instance_form_among w c = go (Contains-append_cases (form_vars r.form) (bound_vars σ) w (form_vars_from σ σ refl r.form m.form (ap (λ (z : RowTree). z.form) made ∙ substituted_form_under σ r.form) w c))
    where
      go : Contains (form_vars r.form) w ⊎ Contains (bound_vars σ) w → Contains vars w
      go (inl d) = among w (Contains-append_left (form_vars r.form) (option_map_or out_vars r.out []) w d)
      go (inr d) = bound w d

  pub instance_out_among : AreAmong (option_map_or out_vars m.out []) vars
  instance_out_among w c = go (Contains-append_cases (option_map_or out_vars r.out []) (bound_vars σ) w (from r.out m.out (ap (λ (z : RowTree). z.out) made) c))
    where
      go : Contains (option_map_or out_vars r.out []) w ⊎ Contains (bound_vars σ) w → Contains vars w
      go (inl d) = among w (Contains-append_right (form_vars r.form) (option_map_or out_vars r.out []) w d)
      go (inr d) = bound w d

      from : (o p : Option OutTree) → option_map bare_out p ≡ option_map bare_out (option_map (substituted_out σ) o) → Contains (option_map_or out_vars p []) w → Contains (option_map_or out_vars o [] ++ bound_vars σ) w
      from o None e d = absurd (none_in_nil w d)
      from None (Some p) e d = absurd (cc)
      from (Some o) (Some p) e d = let k : bare_out p ≡ bare_out (substituted_out σ o) = cc in out_vars_from σ σ refl o p (k ∙ substituted_out_under σ o) w d

-- the instances of two rows
module _ (σ : Substitution) (first second a b : RowTree) (made_a : bare_row a ≡ bare_row (substituted_row σ first)) (made_b : bare_row b ≡ bare_row (substituted_row σ second)) where
  form_a : bare_form a.form ≡ bare_form (substituted_form σ first.form)
  form_a = ap (λ (z : RowTree). z.form) made_a

  form_b : bare_form b.form ≡ bare_form (substituted_form σ second.form)
  form_b = ap (λ (z : RowTree). z.form) made_b

  out_a : option_map bare_out a.out ≡ option_map bare_out (option_map (substituted_out σ) first.out)
  out_a = ap (λ (z : RowTree). z.out) made_a

  out_b : option_map bare_out b.out ≡ option_map bare_out (option_map (substituted_out σ) second.out)
  out_b = ap (λ (z : RowTree). z.out) made_b

  both_outs_same : map bare_out (out_list a.out ++ out_list b.out) ≡ map bare_out (map (substituted_out σ) (out_list first.out ++ out_list second.out))
  both_outs_same =
      map-append bare_out (out_list a.out) (out_list b.out)
      ∙ (ap (λ (z : List OutTree). z ++ map bare_out (out_list b.out)) (outs_same σ first.out a.out out_a)
      ∙ (ap (λ (z : List OutTree). map bare_out (map (substituted_out σ) (out_list first.out)) ++ z) (outs_same σ second.out b.out out_b)
      ∙ (sym (map-append bare_out (map (substituted_out σ) (out_list first.out)) (map (substituted_out σ) (out_list second.out)))
      ∙ ap (map bare_out) (sym (map-append (substituted_out σ) (out_list first.out) (out_list second.out))))))

  -- what is made of both is what the rule makes, where the guards and the rows under the line are
  pub figure_same : (gs hs : List FormTree) (x y : RowTree) → map bare_form gs ≡ map bare_form hs → bare_row x ≡ bare_row y
      → SameFigures (figure_of a b gs x) (record { forms = substituted_form σ first.form ∷ substituted_form σ second.form ∷ []; outs = map (substituted_out σ) (out_list first.out ++ out_list second.out); guards = hs; row = y })
  figure_same gs hs x y d e = record {
    forms = ap (λ (z : FormTree). z ∷ bare_form b.form ∷ []) form_a ∙ ap (λ (z : FormTree). bare_form (substituted_form σ first.form) ∷ z ∷ []) form_b;
    outs = both_outs_same;
    guards = d;
    row = e;
  }

  pub resolved_same : (p : FormTree) (rule : Option GuardRule) (gs : List FormTree) → map bare_form gs ≡ map bare_form (joined_guards rule σ p first.out second.out) → SameFigures (figure_of_both p a b gs) (resolved rule σ p first second)
  resolved_same p rule gs e =
      figure_same gs (joined_guards rule σ p first.out second.out) (row_of_both p a b gs) (resolved rule σ p first second).row e
      (joined_row_same p p true a (substituted_row σ first) b (substituted_row σ second) (replaced_all p false b.form) (replaced_all p false (substituted_form σ second.form)) gs (joined_guards rule σ p first.out second.out) a.out (option_map (substituted_out σ) first.out) b.out (option_map (substituted_out σ) second.out)
      refl made_a made_b (replaced_same p p false b.form (substituted_form σ second.form) refl form_b) e out_a out_b)

  abbrev pair : List Var
  pair = row_vars first ++ row_vars second

  module _ (p : FormTree) (gs : List FormTree) (bound : AreAmong (bound_vars σ) pair) (part : AreAmong (form_vars p) pair) (brings : AreAmong (flat_map form_vars gs) (bound_vars σ ++ form_vars p)) where
    first_among : AreAmong (row_vars first) pair
    first_among = Contains-append_left (row_vars first) (row_vars second)

    second_among : AreAmong (row_vars second) pair
    second_among = Contains-append_right (row_vars first) (row_vars second)

    guards_among : AreAmong (flat_map form_vars gs) pair
    guards_among w c = go (Contains-append_cases (bound_vars σ) (form_vars p) w (brings w c))
      where
        go : Contains (bound_vars σ) w ⊎ Contains (form_vars p) w → Contains pair w
        go (inl d) = bound w d
        go (inr d) = part w d

    -- the variables of what both are joined of, whichever formula the second becomes, and the outputs in either order
    pub joined_among : (g : FormTree) → AreAmong (form_vars g) pair → AreJoinedAmong pair p a g gs a.out b.out × AreJoinedAmong pair p a g gs b.out a.out
    joined_among g among =
        let of_first = instance_form_among σ pair bound first a made_a first_among in
        let one = instance_out_among σ pair bound first a made_a first_among in
        let other = instance_out_among σ pair bound second b made_b second_among in
        (record { part = part; first = of_first; second = among; guards = guards_among; one = one; other = other }, record { part = part; first = of_first; second = among; guards = guards_among; one = other; other = one })

    pub second_form_among : AreAmong (form_vars b.form) pair
    second_form_among = instance_form_among σ pair bound second b made_b second_among

    -- the row is plain, since no variable comes in
    pub whole_plain : (table : SymbolTable) → KeepsSorts table σ → HasOneSortEach pair → GiveOneSort table first.out second.out → IsFormed table p → IsFormed table a.form × IfSome a.out (IsFormedOut table) → IsFormed table b.form × IfSome b.out (IsFormedOut table) → All (IsFormed table) gs → IsPlain table (row_of_both p a b gs)
    whole_plain table keeps sorts one formed ha hb hg =
        let h = replaced_all p false b.form in
        joined_plain pair p true a b h gs a.out b.out (joined_among h (λ w d. second_form_among w ((replaces_all p false b.form).variables w d))).0 table sorts formed ha.0 ((replaces_all p false b.form).formed table hb.0) hg ha.1 hb.1
        (sorts_along table σ keeps first.out second.out a.out b.out out_a out_b one)

-- its terms are of the bank
pub joint_belongs : (bank : Kept) (p : FormTree) (a b : RowTree) (gs xs : List FormTree) → xs ≡ gs → All (Belongs bank) (form_terms p) → All (Belongs bank) (row_terms a) → All (Belongs bank) (row_terms b) → All (Belongs bank) (forms_terms gs) → All (Belongs bank) (row_terms (row_of_both p a b xs))
joint_belongs bank p a b gs xs same part ha hb hg =
    let of_form = λ (r : RowTree) (h : All (Belongs bank) (row_terms r)). All-left (Belongs bank) (form_terms r.form) (option_map_or out_terms r.out []) h in
    let of_out = λ (r : RowTree) (h : All (Belongs bank) (row_terms r)). All-right (Belongs bank) (form_terms r.form) (option_map_or out_terms r.out []) h in
    subst (λ (z : List FormTree). All (Belongs bank) (row_terms (row_of_both p a b z))) (sym same)
    (joined_belongs bank p true a b (replaced_all p false b.form) gs a.out b.out part (of_form a ha) (All-within (Belongs bank) (form_terms (replaced_all p false b.form)) (form_terms b.form) (replaces_all p false b.form).terms (of_form b hb)) hg (of_out a ha) (of_out b hb))
