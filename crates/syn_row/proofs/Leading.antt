-- Most general unifiers of trees, and of the same trees with their variables renamed: each is the other one and then a renaming.
use Rattle.std.proofs.Common.{◌≡◌, ◌⊎◌, inl, inr, List, [], ◌∷◌, ◌++◌, All, Contains, map, refl, sym, ◌∙◌, ap, subst}
use Rattle.std.specs.List.{flat_map}
use Rattle.std.proofs.lemmas.List.{map-append}
use Rattle.std.proofs.lemmas.List.Elements.{All-head, All-tail, Contains-append_left, Contains-append_right}
use Rattle.syn_term.specs.declared.sorts.Var.{Var}
use Rattle.syn_term.specs.Symbols.{SymbolTable, IsSort}
use Rattle.syn_term.specs.Terms.{TermTree, bare, nowhere, variable_tree}
use Rattle.syn_form.specs.Substitutions.{IsMostGeneral, Substitution, image, substituted, substituted_form}
use Rattle.syn_form.specs.Trees.{FormTree, bare_form, form_terms, form_vars, term_vars}
use Rattle.syn_form.proofs.BareVars.{form_vars_bare, term_vars_bare}
use Rattle.syn_form.proofs.Lists.{Contains-along, Contains-cons_cases, Contains-flat_map_from, Contains-head, Contains-tail, none_in_nil}
use Rattle.syn_row.specs.Rows.{IsRenaming}
use Rattle.syn_row.proofs.Changes.{changes_alike, changes_bare, changes_substituted}
use Rattle.syn_row.proofs.Numbers.{bare-variable}
use Rattle.syn_row.proofs.Renaming.{Contains-map, Within, comes_from, comes_from_one, found_back, image_by, renaming_by, substituted-Var, substituted-blind, substituted-none, vars_renamed}
use Rattle.syn_row.proofs.Shape.{changes_renamed, form_terms-changed}
use Rattle.syn_row.proofs.Telling.{blind-along, form-along}
use Rattle.syn_row.proofs.Agreeing.{AreAmong, forms_agree, terms_agree, within_each}
use Rattle.syn_row.proofs.General.{Leads, Passes, leads_pass}
use Rattle.syn_row.proofs.Taking.{image_free, image_taking, taking}

-- Trees in which variables are replaced: their variables, the tree with variables replaced, and the tree without places.
pub record TreesOf (A : Type 0) : Type 0 where
  pub vars_of : A → List Var
  pub put : Substitution → A → A
  pub bare_of : A → A
  pub agree : (σ τ κ ρ : Substitution) (vars : List Var) → ((v : Var) → Contains vars v → bare (substituted τ (image σ v)) ≡ bare (substituted ρ (image κ v))) → (a : A) → AreAmong (vars_of a) vars → bare_of (put τ (put σ a)) ≡ bare_of (put ρ (put κ a))
  pub along : (σ : Substitution) (a b : A) → bare_of a ≡ bare_of b → bare_of (put σ a) ≡ bare_of (put σ b)
  pub none : (a : A) → bare_of (put [] a) ≡ bare_of a
  pub vars_bare : (a : A) → vars_of (bare_of a) ≡ vars_of a
  pub vars_put : (σ : Substitution) (vars : List Var) (n : IsRenaming vars σ) (a : A) → AreAmong (vars_of a) vars → vars_of (put σ a) ≡ map n.to (vars_of a)

abbrev pub term_trees : TreesOf TermTree
term_trees = record {
  vars_of = term_vars;
  put = substituted;
  bare_of = bare;
  agree = terms_agree;
  along = λ σ. blind-along (substituted σ) (substituted-blind σ);
  none = substituted-none;
  vars_bare = term_vars_bare;
  vars_put = vars_renamed;
}

pub form-none : (f : FormTree) → bare_form (substituted_form [] f) ≡ bare_form f
form-none = changes_alike (λ f. bare_form (substituted_form [] f)) bare_form (λ t. bare (substituted [] t)) bare (changes_renamed []) changes_bare substituted-none

pub terms_vars : (σ : Substitution) (vars : List Var) (n : IsRenaming vars σ) (ts : List TermTree) → All (Within vars) ts → flat_map term_vars (map (substituted σ) ts) ≡ map n.to (flat_map term_vars ts)
terms_vars σ vars n [] h = refl
terms_vars σ vars n (t ∷ ts) h =
    ap (λ (z : List Var). z ++ flat_map term_vars (map (substituted σ) ts)) (vars_renamed σ vars n t (All-head (Within vars) t ts h))
    ∙ (ap (λ (z : List Var). map n.to (term_vars t) ++ z) (terms_vars σ vars n ts (All-tail (Within vars) t ts h)) ∙ sym (map-append n.to (term_vars t) (flat_map term_vars ts)))

pub form_vars_put : (σ : Substitution) (vars : List Var) (n : IsRenaming vars σ) (f : FormTree) → AreAmong (form_vars f) vars → form_vars (substituted_form σ f) ≡ map n.to (form_vars f)
form_vars_put σ vars n f h = ap (flat_map term_vars) (form_terms-changed (substituted_form σ) (substituted σ) (changes_substituted σ) f) ∙ terms_vars σ vars n (form_terms f) (within_each vars (form_terms f) h)

abbrev pub form_trees : TreesOf FormTree
form_trees = record {
  vars_of = form_vars;
  put = substituted_form;
  bare_of = bare_form;
  agree = forms_agree;
  along = λ σ. form-along (substituted_form σ) (substituted σ) (changes_substituted σ) (substituted-blind σ);
  none = form-none;
  vars_bare = form_vars_bare;
  vars_put = form_vars_put;
}

-- the variables of a list are moved: each keeps its sort, and no two become one
pub record Moving (vars : List Var) (over : Var → Var) : Type 0 where
  pub sorts : (v : Var) → Contains vars v → (over v).sort ≡ v.sort
  pub one : (v w : Var) → Contains vars v → Contains vars w → over v ≡ over w → v ≡ w

abbrev pub moving_renames : (vars : List Var) (over : Var → Var) → Moving vars over → IsRenaming vars (renaming_by over vars)
moving_renames vars over m = record {
  to = over;
  is = λ v c. ap bare (image_by over vars v c) ∙ bare-variable (over v);
  sorts = m.sorts;
  one = m.one;
}

-- an item of a list, and the one that is the same of another list
pub partner : {X Y Z : Type 0} (f : X → Z) (g : Y → Z) (xs : List X) (ys : List Y) → map f xs ≡ map g ys → (x : X) → Contains xs x → (y : Y) × Contains ys y × (f x ≡ g y)
partner f g [] ys e x c = absurd (none_in_nil x c)
partner f g (z ∷ zs) [] e x c = absurd (cc)
partner {X} {Y} {Z} f g (z ∷ zs) (w ∷ ws) e x c =
    let first : f z ≡ g w = cc in
    let rest : map f zs ≡ map g ws = cc in
    go first (Contains-cons_cases z zs x c) (partner f g zs ws rest x)
  where
    go : f z ≡ g w → (z ≡ x) ⊎ Contains zs x → (Contains zs x → (y : Y) × Contains ws y × (f x ≡ g y)) → (y : Y) × Contains (w ∷ ws) y × (f x ≡ g y)
    go first (inl k) h = (w, Contains-head w ws, subst (λ (u : X). f u ≡ g w) k first)
    go first (inr k) h = let p = h k in (p.0, Contains-tail w ws p.0 p.1, p.2)

-- a list that becomes another, item by item
each_along : {X Y : Type 0} (f : X → Y) (g : X → Y) (h k : X → Y) (xs ys : List X) → map f xs ≡ map g ys → ((x y : X) → Contains xs x → f x ≡ g y → h y ≡ k x) → map h ys ≡ map k xs
each_along f g h k [] [] e step = refl
each_along f g h k [] (y ∷ ys) e step = absurd (cc)
each_along f g h k (x ∷ xs) [] e step = absurd (cc)
each_along {X} {Y} f g h k (x ∷ xs) (y ∷ ys) e step =
    let first : f x ≡ g y = cc in
    let rest : map f xs ≡ map g ys = cc in
    ap (λ (z : Y). z ∷ map h ys) (step x y (Contains-head x xs) first) ∙ ap (λ (z : List Y). k x ∷ z) (each_along f g h k xs ys rest (λ u v c. step u v (Contains-tail x xs u c)))

module _ {A : Type 0} (k : TreesOf A) where
  abbrev pub Unifying : List A → Substitution → Type 0
  Unifying xs σ = (s t : A) → Contains xs s → Contains xs t → k.bare_of (k.put σ s) ≡ k.bare_of (k.put σ t)

  abbrev pub all_vars : List A → List Var
  all_vars xs = flat_map k.vars_of xs

  abbrev pub AreMoved : Substitution → List A → List A → Type 0
  AreMoved ρ xs ys = map (λ x. k.bare_of (k.put ρ x)) xs ≡ map k.bare_of ys

  module _ (vars : List Var) (over : Var → Var) (m : Moving vars over) where
    abbrev way_over : Substitution
    way_over = renaming_by over vars

    moved_vars : (xs ys : List A) → AreAmong (all_vars xs) vars → AreMoved way_over xs ys → all_vars ys ≡ map over (all_vars xs)
    moved_vars [] [] h e = refl
    moved_vars [] (y ∷ ys) h e = absurd (cc)
    moved_vars (x ∷ xs) [] h e = absurd (cc)
    moved_vars (x ∷ xs) (y ∷ ys) h e =
        let first : k.bare_of (k.put way_over x) ≡ k.bare_of y = cc in
        let rest : AreMoved way_over xs ys = cc in
        let one : k.vars_of y ≡ map over (k.vars_of x) = sym (k.vars_bare y) ∙ (ap k.vars_of (sym first) ∙ (k.vars_bare (k.put way_over x) ∙ k.vars_put way_over vars (moving_renames vars over m) x (λ v c. h v (Contains-append_left (k.vars_of x) (all_vars xs) v c)))) in
        ap (λ (z : List Var). z ++ all_vars ys) one
        ∙ (ap (λ (z : List Var). map over (k.vars_of x) ++ z) (moved_vars xs ys (λ v c. h v (Contains-append_right (k.vars_of x) (all_vars xs) v c)) rest) ∙ sym (map-append over (k.vars_of x) (all_vars xs)))

    module _ (table : SymbolTable) (sorted : (v : Var) → Contains vars v → IsSort table v.sort) (xs ys : List A) (among : AreAmong (all_vars xs) vars) (moved : AreMoved way_over xs ys) (σ τ : Substitution) (first : IsMostGeneral table (Unifying xs) (all_vars xs) σ) (second : IsMostGeneral table (Unifying ys) (all_vars ys) τ) where
      abbrev both : Substitution
      both = taking (λ v. image τ (over v)) vars

      same_way : (v : Var) → Contains vars v → bare (substituted both (image [] v)) ≡ bare (substituted τ (image way_over v))
      same_way v c =
          ap bare (substituted-Var both nowhere v ∙ image_taking (λ v. image τ (over v)) vars v c)
          ∙ sym (ap (λ (z : TermTree). bare (substituted τ z)) (image_by over vars v c) ∙ ap bare (substituted-Var τ nowhere (over v)))

      -- what both do to a tree, the second unifier does to its partner
      partners : (x y : A) → Contains xs x → k.bare_of (k.put way_over x) ≡ k.bare_of y → k.bare_of (k.put both x) ≡ k.bare_of (k.put τ y)
      partners x y c e =
          k.along both x (k.put [] x) (sym (k.none x))
          ∙ (k.agree [] both way_over τ vars same_way x (λ v d. among v (Contains-flat_map_from k.vars_of xs x v c d)) ∙ k.along τ (k.put way_over x) y e)

      unify_both : Unifying xs both
      unify_both s t c d =
          let p = partner (λ x. k.bare_of (k.put way_over x)) k.bare_of xs ys moved s c in
          let q = partner (λ x. k.bare_of (k.put way_over x)) k.bare_of xs ys moved t d in
          partners s p.0 c p.2 ∙ (second.unifies p.0 q.0 p.1 q.1 ∙ sym (partners t q.0 d q.2))

      came_from : (v w : Var) → Contains vars v → (Contains (all_vars xs) v → ⊥) → Contains (all_vars ys) w → w ≡ over v → ⊥
      came_from v w c out d e =
          let p = comes_from_one over (all_vars xs) w (Contains-along (all_vars ys) (map over (all_vars xs)) w (moved_vars xs ys among moved) d) in
          out (subst (Contains (all_vars xs)) (m.one (comes_from over (all_vars xs) w) v (among (comes_from over (all_vars xs) w) p.0) c (p.1 ∙ e)) p.0)

      pub leads : Leads table (Unifying xs) (all_vars xs) vars σ τ over
      leads = record {
        general = first;
        among = among;
        sorted = sorted;
        sorts = m.sorts;
        keeps = second.sorts;
        idle = λ v c out. image_free τ (over v) (λ b d e. came_from v b.var c out (second.own b d).0 e);
        unifies = unify_both;
      }

  -- the way back
  module _ (vars : List Var) (over : Var → Var) (m : Moving vars over) where
    abbrev back : Var → Var
    back = comes_from over vars

    abbrev moved_list : List Var
    moved_list = map over vars

    moving_back : Moving moved_list back
    moving_back = record {
      sorts = λ w c. let p = comes_from_one over vars w c in sym (m.sorts (comes_from over vars w) p.0) ∙ ap (λ (z : Var). z.sort) p.1;
      one = λ v w c d e. let p = comes_from_one over vars v c in let q = comes_from_one over vars w d in sym p.1 ∙ (ap over e ∙ q.1);
    }

    returns : (v : Var) → Contains vars v → back (over v) ≡ v
    returns = found_back (renaming_by over vars) vars (moving_renames vars over m)

    module _ (table : SymbolTable) (sorted : (v : Var) → Contains vars v → IsSort table v.sort) (xs ys : List A) (among : AreAmong (all_vars xs) vars) (moved : AreMoved (renaming_by over vars) xs ys) (σ τ : Substitution) (first : IsMostGeneral table (Unifying xs) (all_vars xs) σ) (second : IsMostGeneral table (Unifying ys) (all_vars ys) τ) where
      sorted_back : (w : Var) → Contains moved_list w → IsSort table w.sort
      sorted_back w c = let p = comes_from_one over vars w c in subst (IsSort table) (sym (m.sorts (comes_from over vars w) p.0) ∙ ap (λ (z : Var). z.sort) p.1) (sorted (comes_from over vars w) p.0)

      among_back : AreAmong (all_vars ys) moved_list
      among_back w c =
          let p = comes_from_one over (all_vars xs) w (Contains-along (all_vars ys) (map over (all_vars xs)) w (moved_vars vars over m xs ys among moved) c) in
          subst (Contains moved_list) p.1 (Contains-map over vars (comes_from over (all_vars xs) w) (among (comes_from over (all_vars xs) w) p.0))

      there_and_back : (v : Var) → Contains vars v → bare (substituted (renaming_by back moved_list) (image (renaming_by over vars) v)) ≡ bare (substituted [] (image [] v))
      there_and_back v c =
          ap (λ (z : TermTree). bare (substituted (renaming_by back moved_list) z)) (image_by over vars v c)
          ∙ (ap bare (substituted-Var (renaming_by back moved_list) nowhere (over v) ∙ image_by back moved_list (over v) (Contains-map over vars v c))
          ∙ (ap (λ (w : Var). bare (variable_tree w)) (returns v c) ∙ sym (substituted-none (variable_tree v))))

      came_back : AreMoved (renaming_by back moved_list) ys xs
      came_back = each_along (λ x. k.bare_of (k.put (renaming_by over vars) x)) k.bare_of (λ y. k.bare_of (k.put (renaming_by back moved_list) y)) k.bare_of xs ys moved
          (λ x y c e.
          k.along (renaming_by back moved_list) y (k.put (renaming_by over vars) x) (sym e)
          ∙ (k.agree (renaming_by over vars) (renaming_by back moved_list) [] [] vars there_and_back x (λ v d. among v (Contains-flat_map_from k.vars_of xs x v c d))
          ∙ (k.none (k.put [] x) ∙ k.none x)))

      -- on the variables that are moved, the second unifier is the first one and then a renaming
      pub unifiers_pass : Passes vars σ τ over
      unifiers_pass = leads_pass table (Unifying xs) (Unifying ys) (all_vars xs) (all_vars ys) vars moved_list σ τ over back
          (leads vars over m table sorted xs ys among moved σ τ first second)
          (leads moved_list back moving_back table sorted_back ys xs among_back came_back τ σ second first)
          (λ v c. Contains-map over vars v c) returns
