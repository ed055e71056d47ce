-- A row that is joined of parts: it is one where its parts are, but for places, it is plain where its parts are formed and their variables
-- have one sort each, and its terms are those of its parts.
use Rattle.std.proofs.Common.{◌≡◌, ◌⊎◌, ℕ, inl, inr, Bool, List, [], ◌++◌, Option, All, Contains, IfSome, map, sym, ◌∙◌, ap}
use Rattle.std.specs.List.{flat_map}
use Rattle.std.specs.Option.{option_map, option_map_or}
use Rattle.std.proofs.lemmas.List.Elements.{All-append, Contains-append_cases}
use Rattle.syn_term.specs.Bank.{Belongs, Kept}
use Rattle.syn_term.specs.declared.sorts.Var.{Var}
use Rattle.syn_term.specs.Symbols.{SymbolTable}
use Rattle.syn_term.specs.Terms.{TermTree, bare}
use Rattle.syn_form.specs.declared.trees.Side.{Side}
use Rattle.syn_form.specs.Plain.{HasOneSortEach, IsFormed, IsFormedOut}
use Rattle.syn_form.specs.Replacing.{form_replaced_at, replaced_all}
use Rattle.syn_form.specs.Same.{same_form}
use Rattle.syn_form.specs.Trees.{FormTree, OutTree, bare_form, bare_out, form_terms, form_vars, out_terms, out_vars}
use Rattle.syn_form.proofs.Lists.{All-within}
use Rattle.syn_form.proofs.ReplacingAll.{replaces_all}
use Rattle.syn_row.specs.Calls.{forms_terms}
use Rattle.syn_row.specs.JoinLaws.{GiveOneSort}
use Rattle.syn_row.specs.Results.{chosen_out, joined_form, joined_side}
use Rattle.syn_row.specs.Rows.{IsPlain, RowTree, bare_row, row_terms, row_vars}
use Rattle.syn_row.proofs.Agreeing.{AreAmong}
use Rattle.syn_row.proofs.AllChanged.{all_changed}
use Rattle.syn_row.proofs.Changes.{changes_bare, changes_none, out_changes_bare}
use Rattle.syn_row.proofs.Joins.{join_laws}
use Rattle.syn_row.proofs.PartsChanged.{form_changed}
use Rattle.syn_row.proofs.Passed.{chosen_changed, joined_changed}
use Rattle.syn_row.proofs.Shape.{shape_bare}
use Rattle.syn_row.proofs.Telling.{bare-twice, forms_told}
use Rattle.syn_resolve.specs.inner.Resolving.{row_joined}
use Rattle.syn_resolve.proofs.SameFigures.{row_same}

abbrev Any : TermTree → Type 0
Any t = Unit {0}

told_bare : (f h : FormTree) → All Any (form_terms f) → All Any (form_terms h) → same_form (bare_form f) (bare_form h) ≡ same_form f h
told_bare = forms_told bare_form (λ f. f) bare (λ t. t) changes_bare changes_none (λ t. ap bare (bare-twice t)) bare-twice Any (λ t h. bare-twice t)

pub replaced_same : (p q : FormTree) (by : Bool) (f g : FormTree) → bare_form p ≡ bare_form q → bare_form f ≡ bare_form g → bare_form (replaced_all p by f) ≡ bare_form (replaced_all q by g)
replaced_same p q by f g d e =
    sym (all_changed bare_form bare changes_bare Any told_bare p (λ i a lt. tt) by f (λ i a lt. tt))
    ∙ (ap (λ (z : FormTree). replaced_all z by (bare_form f)) d
    ∙ (ap (replaced_all (bare_form q) by) e ∙ all_changed bare_form bare changes_bare Any told_bare q (λ i a lt. tt) by g (λ i a lt. tt)))

pub placed_same : (place : List ℕ) (s t : TermTree) (f g : FormTree) → bare s ≡ bare t → bare_form f ≡ bare_form g → bare_form (form_replaced_at place s f) ≡ bare_form (form_replaced_at place t g)
placed_same place s t f g d e =
    form_changed bare shape_bare bare_form changes_bare place s f
    ∙ (ap (λ (z : TermTree). form_replaced_at place z (bare_form f)) d
    ∙ (ap (form_replaced_at place (bare t)) e ∙ sym (form_changed bare shape_bare bare_form changes_bare place t g)))

joined_same : (s t : Side) (f h f' h' : FormTree) (gs gs' : List FormTree) → bare_form f ≡ bare_form f' → bare_form h ≡ bare_form h' → map bare_form gs ≡ map bare_form gs' → bare_form (joined_form s f t h gs) ≡ bare_form (joined_form s f' t h' gs')
joined_same s t f h f' h' gs gs' a b e =
    joined_changed bare_form bare changes_bare s t f h gs
    ∙ (ap (λ (z : FormTree). joined_form s z t (bare_form h) (map bare_form gs)) a
    ∙ (ap (λ (z : FormTree). joined_form s (bare_form f') t z (map bare_form gs)) b
    ∙ (ap (joined_form s (bare_form f') t (bare_form h')) e ∙ sym (joined_changed bare_form bare changes_bare s t f' h' gs'))))

chosen_same : (p q : FormTree) (o u o' u' : Option OutTree) → bare_form p ≡ bare_form q → option_map bare_out o ≡ option_map bare_out o' → option_map bare_out u ≡ option_map bare_out u' → option_map bare_out (chosen_out p o u) ≡ option_map bare_out (chosen_out q o' u')
chosen_same p q o u o' u' d a b =
    chosen_changed bare_form bare changes_bare bare_out out_changes_bare p o u
    ∙ (ap (λ (z : FormTree). chosen_out z (option_map bare_out o) (option_map bare_out u)) d
    ∙ (ap (λ (z : Option OutTree). chosen_out (bare_form q) z (option_map bare_out u)) a
    ∙ (ap (chosen_out (bare_form q) (option_map bare_out o')) b ∙ sym (chosen_changed bare_form bare changes_bare bare_out out_changes_bare q o' u'))))

pub joined_row_same : (p q : FormTree) (by : Bool) (a a' b b' : RowTree) (g g' : FormTree) (gs gs' : List FormTree) (u u' v v' : Option OutTree) → bare_form p ≡ bare_form q → bare_row a ≡ bare_row a' → bare_row b ≡ bare_row b' → bare_form g ≡ bare_form g' → map bare_form gs ≡ map bare_form gs' → option_map bare_out u ≡ option_map bare_out u' → option_map bare_out v ≡ option_map bare_out v' → bare_row (row_joined p by a b g gs u v) ≡ bare_row (row_joined q by a' b' g' gs' u' v')
joined_row_same p q by a a' b b' g g' gs gs' u u' v v' d i j k l m n =
    let s : a.side ≡ a'.side = ap (λ (z : RowTree). z.side) i in
    let t : b.side ≡ b'.side = ap (λ (z : RowTree). z.side) j in
    let f = replaced_all p by a.form in
    let f' = replaced_all q by a'.form in
    let joined : bare_form (joined_form a.side f b.side g gs) ≡ bare_form (joined_form a'.side f' b'.side g' gs') =
    ap (λ (z : Side). bare_form (joined_form z f b.side g gs)) s
    ∙ (ap (λ (z : Side). bare_form (joined_form a'.side f z g gs)) t
    ∙ joined_same a'.side b'.side f g f' g' gs gs' (replaced_same p q by a.form a'.form d (ap (λ (z : RowTree). z.form) i)) k l) in
    row_same (joined_side a.side b.side) (joined_side a'.side b'.side) (bare_form (joined_form a.side f b.side g gs)) (bare_form (joined_form a'.side f' b'.side g' gs')) (option_map bare_out (chosen_out p u v)) (option_map bare_out (chosen_out q u' v'))
    (ap (λ (z : Side). joined_side z b.side) s ∙ ap (joined_side a'.side) t) joined (chosen_same p q u v u' v' d m n)

-- the parts have these variables alone
pub record AreJoinedAmong (vars : List Var) (p : FormTree) (a : RowTree) (g : FormTree) (gs : List FormTree) (u v : Option OutTree) : Type 0 where
  pub part : AreAmong (form_vars p) vars
  pub first : AreAmong (form_vars a.form) vars
  pub second : AreAmong (form_vars g) vars
  pub guards : AreAmong (flat_map form_vars gs) vars
  pub one : AreAmong (option_map_or out_vars u []) vars
  pub other : AreAmong (option_map_or out_vars v []) vars

module _ (vars : List Var) (p : FormTree) (by : Bool) (a b : RowTree) (g : FormTree) (gs : List FormTree) (u v : Option OutTree) (h : AreJoinedAmong vars p a g gs u v) where
  abbrev f_part : FormTree
  f_part = replaced_all p by a.form

  form_among : AreAmong (form_vars (joined_form a.side f_part b.side g gs)) vars
  form_among w c = go (Contains-append_cases (form_vars f_part) (form_vars g ++ flat_map form_vars gs) w (join_laws.joined_vars a.side f_part b.side g gs w c))
    where
      rest : Contains (form_vars g) w ⊎ Contains (flat_map form_vars gs) w → Contains vars w
      rest (inl d) = h.second w d
      rest (inr d) = h.guards w d

      go : Contains (form_vars f_part) w ⊎ Contains (form_vars g ++ flat_map form_vars gs) w → Contains vars w
      go (inl d) = h.first w ((replaces_all p by a.form).variables w d)
      go (inr d) = rest (Contains-append_cases (form_vars g) (flat_map form_vars gs) w d)

  out_among : AreAmong (option_map_or out_vars (chosen_out p u v) []) vars
  out_among w c = go (Contains-append_cases (form_vars p) (option_map_or out_vars u [] ++ option_map_or out_vars v []) w (join_laws.chosen_vars p u v w c))
    where
      rest : Contains (option_map_or out_vars u []) w ⊎ Contains (option_map_or out_vars v []) w → Contains vars w
      rest (inl d) = h.one w d
      rest (inr d) = h.other w d

      go : Contains (form_vars p) w ⊎ Contains (option_map_or out_vars u [] ++ option_map_or out_vars v []) w → Contains vars w
      go (inl d) = h.part w d
      go (inr d) = rest (Contains-append_cases (option_map_or out_vars u []) (option_map_or out_vars v []) w d)

  whole_among : AreAmong (row_vars (row_joined p by a b g gs u v)) vars
  whole_among w c = go (Contains-append_cases (form_vars (joined_form a.side f_part b.side g gs)) (option_map_or out_vars (chosen_out p u v) []) w c)
    where
      go : Contains (form_vars (joined_form a.side f_part b.side g gs)) w ⊎ Contains (option_map_or out_vars (chosen_out p u v) []) w → Contains vars w
      go (inl d) = form_among w d
      go (inr d) = out_among w d

  pub joined_plain : (table : SymbolTable) → HasOneSortEach vars → IsFormed table p → IsFormed table a.form → IsFormed table g → All (IsFormed table) gs → IfSome u (IsFormedOut table) → IfSome v (IsFormedOut table) → GiveOneSort table u v → IsPlain table (row_joined p by a b g gs u v)
  joined_plain table sorts hp ha hg hgs hu hv one = record {
    form = join_laws.joined_formed table a.side f_part b.side g gs ((replaces_all p by a.form).formed table ha) hg hgs;
    out = join_laws.chosen_formed table p u v hp hu hv one;
    sorts = λ v w c d. sorts v w (whole_among v c) (whole_among w d);
  }

pub joined_belongs : (bank : Kept) (p : FormTree) (by : Bool) (a b : RowTree) (g : FormTree) (gs : List FormTree) (u v : Option OutTree) → All (Belongs bank) (form_terms p) → All (Belongs bank) (form_terms a.form) → All (Belongs bank) (form_terms g) → All (Belongs bank) (forms_terms gs) → All (Belongs bank) (option_map_or out_terms u []) → All (Belongs bank) (option_map_or out_terms v []) → All (Belongs bank) (row_terms (row_joined p by a b g gs u v))
joined_belongs bank p by a b g gs u v hp ha hg hgs hu hv =
    let f = replaced_all p by a.form in
    let whole = row_joined p by a b g gs u v in
    All-append (Belongs bank) (form_terms whole.form) (option_map_or out_terms whole.out [])
    (All-within (Belongs bank) (form_terms whole.form) (form_terms f ++ (form_terms g ++ forms_terms gs)) (join_laws.joined_terms a.side f b.side g gs)
    (All-append (Belongs bank) (form_terms f) (form_terms g ++ forms_terms gs) (All-within (Belongs bank) (form_terms f) (form_terms a.form) (replaces_all p by a.form).terms ha) (All-append (Belongs bank) (form_terms g) (forms_terms gs) hg hgs)))
    (All-within (Belongs bank) (option_map_or out_terms whole.out []) (form_terms p ++ (option_map_or out_terms u [] ++ option_map_or out_terms v [])) (join_laws.chosen_terms p u v)
    (All-append (Belongs bank) (form_terms p) (option_map_or out_terms u [] ++ option_map_or out_terms v []) hp (All-append (Belongs bank) (option_map_or out_terms u []) (option_map_or out_terms v []) hu hv)))
