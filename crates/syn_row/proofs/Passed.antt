-- What a figure is made of, where the second unifier of the rows moved is the first one and then a renaming.
use Rattle.std.proofs.Common.{◌≡◌, ℕ, Bool, true, false, ◌&&◌, cond, List, [], ◌∷◌, ◌++◌, Option, None, Some, All, Contains, IfSome, map, get_or, refl, sym, ◌∙◌, ap, subst}
use Rattle.std.specs.List.{flat_map}
use Rattle.std.specs.Option.{option_map}
use Rattle.std.proofs.lemmas.List.{map-append}
use Rattle.std.proofs.lemmas.List.Elements.{All-head, All-tail, All-map, All-contains}
use Rattle.syn_term.specs.declared.sorts.SymId.{SymId}
use Rattle.syn_term.specs.declared.sorts.Var.{Var}
use Rattle.syn_term.specs.declared.term.Place.{Place}
use Rattle.syn_term.specs.declared.term.Node.TheVariants as node
use Rattle.syn_term.specs.declared.term.Node.TheViews as node_view
use Rattle.syn_term.specs.Symbols.{SymbolTable}
use Rattle.syn_term.specs.Terms.{TermTree, bare, nowhere}
use Rattle.syn_form.specs.declared.trees.Form.TheViews as view
use Rattle.syn_form.specs.declared.trees.Side.{Side}
use Rattle.syn_form.specs.declared.trees.Side.TheVariants as side
use Rattle.syn_form.specs.Replacing.{form_replaced_at, replaced_all}
use Rattle.syn_form.specs.Same.{same_form}
use Rattle.syn_form.specs.Simplification.{conjunction, disjunction}
use Rattle.syn_form.specs.Substitutions.{Substitution, image, substituted, substituted_form, substituted_out}
use Rattle.syn_form.specs.Trees.{FormTree, OutTree, bare_form, bare_out, form_terms, form_vars, out_terms, out_vars, term_vars}
use Rattle.syn_form.proofs.BareVars.{out_vars_bare}
use Rattle.syn_form.proofs.Lists.{Contains-along, Contains-flat_map, Contains-flat_map_from, Contains-head, Contains-tail}
use Rattle.syn_form.proofs.TermNodes.{by_term_cases}
use Rattle.syn_row.specs.declared.guards.GuardRule.{GuardRule}
use Rattle.syn_row.specs.Guards.{IsGuardRule, brought, calls_brought, calls_in, calls_in_form, guards_of, test_calls}
use Rattle.syn_row.specs.Results.{all_and, all_or, chosen_out, guarded, joined_form, part_of}
use Rattle.syn_row.specs.Rows.{RowTree, bare_row, first_occurrences, row_vars, substituted_row}
use Rattle.syn_row.proofs.Changes.{Changes, OutChanges, changes_bare, changes_none, changes_substituted, out_changes_bare, out_changes_substituted}
use Rattle.syn_row.proofs.Occurring.{occurrences_renamed, occurs}
use Rattle.syn_row.proofs.Renaming.{Within, back_by, image_by, renaming_by, substituted-App, substituted-Var, substituted-blind, substituted_back}
use Rattle.syn_row.proofs.RowChanges.{changed_out_terms}
use Rattle.syn_row.proofs.Telling.{bare-twice, blind-along, form-along, forms_told, out-along}
use Rattle.syn_row.proofs.Agreeing.{AreAmong, forms_agree, outs_agree, terms_agree, vars-App, within_args, within_each, within_var}
use Rattle.syn_row.proofs.Alike.{out_changes_renamed, renamed_form, renamed_out}
use Rattle.syn_row.proofs.AllChanged.{all_changed}
use Rattle.syn_row.proofs.General.{Passes, image_vars}
use Rattle.syn_row.proofs.GuardsChanged.{guards_alike}
use Rattle.syn_row.proofs.Leading.{Moving, moving_renames, terms_vars}
use Rattle.syn_row.proofs.PartsChanged.{form_changed}
use Rattle.syn_row.proofs.Shape.{KeepsShape, calls_changed, changes_renamed, form_calls_changed, form_terms-changed, shape-blind, shape_bare, shape_renamed}

-- how the parts of a row are put together, once they are changed
module _ (F : FormTree → FormTree) (g : TermTree → TermTree) (c : Changes F g) where
  part_changed : (s : Side) (f : FormTree) → F (part_of s f) ≡ part_of s (F f)
  part_changed side.Goal f = refl
  part_changed side.Assertion f = c.at_not f

  nots_changed : (fs : List FormTree) → map F (map view.Not fs) ≡ map view.Not (map F fs)
  nots_changed [] = refl
  nots_changed (f ∷ fs) = ap (λ (z : FormTree). z ∷ map F (map view.Not fs)) (c.at_not f) ∙ ap (λ (z : List FormTree). view.Not (F f) ∷ z) (nots_changed fs)

  goal_joined : (s t : Side) (f h : FormTree) (gs : List FormTree) → F (view.And (part_of s f ∷ part_of t h ∷ gs)) ≡ view.And (part_of s (F f) ∷ part_of t (F h) ∷ map F gs)
  goal_joined s t f h gs =
      c.at_chain conjunction (part_of s f ∷ part_of t h ∷ gs)
      ∙ (ap (λ (z : FormTree). view.And (z ∷ F (part_of t h) ∷ map F gs)) (part_changed s f) ∙ ap (λ (z : FormTree). view.And (part_of s (F f) ∷ z ∷ map F gs)) (part_changed t h))

  pub joined_changed : (s t : Side) (f h : FormTree) (gs : List FormTree) → F (joined_form s f t h gs) ≡ joined_form s (F f) t (F h) (map F gs)
  joined_changed side.Assertion side.Assertion f h gs = c.at_chain disjunction (f ∷ h ∷ map view.Not gs) ∙ ap (λ (z : List FormTree). view.Or (F f ∷ F h ∷ z)) (nots_changed gs)
  joined_changed side.Assertion side.Goal f h gs = goal_joined side.Assertion side.Goal f h gs
  joined_changed side.Goal side.Assertion f h gs = goal_joined side.Goal side.Assertion f h gs
  joined_changed side.Goal side.Goal f h gs = goal_joined side.Goal side.Goal f h gs

  and_changed : (f : FormTree) (gs : List FormTree) → F (all_and f gs) ≡ all_and (F f) (map F gs)
  and_changed f [] = refl
  and_changed f (h ∷ hs) = c.at_chain conjunction (f ∷ h ∷ hs)

  or_changed : (f : FormTree) (gs : List FormTree) → F (all_or f gs) ≡ all_or (F f) (map F gs)
  or_changed f [] = refl
  or_changed f (h ∷ hs) = c.at_chain disjunction (f ∷ h ∷ hs)

  pub guarded_changed : (s : Side) (f : FormTree) (gs : List FormTree) → F (guarded s f gs) ≡ guarded s (F f) (map F gs)
  guarded_changed side.Goal f gs = and_changed f gs
  guarded_changed side.Assertion f gs = or_changed f (map view.Not gs) ∙ ap (all_or (F f)) (nots_changed gs)

  module _ (Q : OutTree → OutTree) (q : OutChanges Q F g) where
    pub chosen_changed : (p : FormTree) (o u : Option OutTree) → option_map Q (chosen_out p o u) ≡ chosen_out (F p) (option_map Q o) (option_map Q u)
    chosen_changed p (Some o) (Some u) = ap Some (q.at_if p o u)
    chosen_changed p (Some o) None = refl
    chosen_changed p None (Some u) = refl
    chosen_changed p None None = refl

-- whether an output is there
abbrev pub there : Option OutTree → Bool
there None = false
there (Some o) = true

pub there_still : (Q : OutTree → OutTree) (o : Option OutTree) → there (option_map Q o) ≡ there o
there_still Q None = refl
there_still Q (Some o) = refl

test_is : (o u : Option OutTree) (p : FormTree) (f : SymId) → test_calls o u p f ≡ cond (there o && there u) (calls_in_form f p) []
test_is (Some o) (Some u) p f = refl
test_is (Some o) None p f = refl
test_is None (Some u) p f = refl
test_is None None p f = refl

pub within_App : (vars : List Var) (p : Place) (f : SymId) (args : List TermTree) → All (Within vars) args → Within vars (node_view.App p f args)
within_App vars p f args h v c =
    let q = Contains-flat_map term_vars args v (Contains-along (term_vars (node_view.App p f args)) (flat_map term_vars args) v (vars-App p f args) c) in
    All-contains (Within vars) args q.0 h q.1 v q.2

-- a row is another one with its variables moved
pub record IsMoved (vars : List Var) (over : Var → Var) (r s : RowTree) : Type 0 where
  pub among : AreAmong (row_vars r) vars
  pub is : bare_row (substituted_row (renaming_by over vars) r) ≡ bare_row s

module _ (vars : List Var) (σ τ : Substitution) (over : Var → Var) (w : Passes vars σ τ over) (m : Moving vars over) where
  abbrev ρ : Substitution
  ρ = w.renaming

  abbrev moved : Substitution
  moved = renaming_by over vars

  abbrev g : TermTree → TermTree
  g t = bare (substituted w.renaming t)

  shape : KeepsShape (λ t. bare (substituted w.renaming t))
  shape = shape_renamed w.renaming w.to w.is

  same_way : (v : Var) → Contains vars v → bare (substituted w.renaming (image σ v)) ≡ bare (substituted τ (image (renaming_by over vars) v))
  same_way v c = w.passes v c ∙ sym (ap (λ (z : TermTree). bare (substituted τ z)) (image_by over vars v c) ∙ ap bare (substituted-Var τ nowhere (over v)))

  pub term_passed : (t u : TermTree) → Within vars t → bare (substituted moved t) ≡ bare u → bare (substituted ρ (substituted σ t)) ≡ bare (substituted τ u)
  term_passed t u h e = terms_agree σ ρ moved τ vars same_way t h ∙ blind-along (substituted τ) (substituted-blind τ) (substituted moved t) u e

  pub form_passed : (f h : FormTree) → AreAmong (form_vars f) vars → renamed_form moved f ≡ bare_form h → renamed_form ρ (substituted_form σ f) ≡ bare_form (substituted_form τ h)
  form_passed f h k e = forms_agree σ ρ moved τ vars same_way f k ∙ form-along (substituted_form τ) (substituted τ) (changes_substituted τ) (substituted-blind τ) (substituted_form moved f) h e

  pub out_passed : (o p : OutTree) → AreAmong (out_vars o) vars → renamed_out moved o ≡ bare_out p → renamed_out ρ (substituted_out σ o) ≡ bare_out (substituted_out τ p)
  out_passed o p k e = outs_agree σ ρ moved τ vars same_way o k ∙ out-along (substituted_form τ) (substituted τ) (changes_substituted τ) (substituted-blind τ) (substituted_out τ) (out_changes_substituted τ) (substituted_out moved o) p e

  abbrev AmongOut : OutTree → Type 0
  AmongOut o = AreAmong (out_vars o) vars

  pub outs_passed : (os ps : List OutTree) → All AmongOut os → map (renamed_out moved) os ≡ map bare_out ps → map (renamed_out ρ) (map (substituted_out σ) os) ≡ map bare_out (map (substituted_out τ) ps)
  outs_passed [] [] h e = refl
  outs_passed [] (p ∷ ps) h e = absurd (cc)
  outs_passed (o ∷ os) [] h e = absurd (cc)
  outs_passed (o ∷ os) (p ∷ ps) h e =
      let first : renamed_out moved o ≡ bare_out p = cc in
      let rest : map (renamed_out moved) os ≡ map bare_out ps = cc in
      ap (λ (z : OutTree). z ∷ map (renamed_out ρ) (map (substituted_out σ) os)) (out_passed o p (All-head AmongOut o os h) first)
      ∙ ap (λ (z : List OutTree). bare_out (substituted_out τ p) ∷ z) (outs_passed os ps (All-tail AmongOut o os h) rest)

  -- the calls that are brought in
  calls_alike : (f : SymId) (t u : TermTree) → g t ≡ bare u → map g (calls_in f t) ≡ map bare (calls_in f u)
  calls_alike f t u e = sym (calls_changed g shape f t) ∙ (ap (calls_in f) e ∙ calls_changed bare shape_bare f u)

  calls_each : (f : SymId) (vs : List Var) → AreAmong vs vars → map g (flat_map (λ v. calls_in f (image σ v)) vs) ≡ map bare (flat_map (λ v. calls_in f (image τ v)) (map over vs))
  calls_each f [] h = refl
  calls_each f (v ∷ vs) h =
      map-append g (calls_in f (image σ v)) (flat_map (λ v. calls_in f (image σ v)) vs)
      ∙ (ap (λ (z : List TermTree). z ++ map g (flat_map (λ v. calls_in f (image σ v)) vs)) (calls_alike f (image σ v) (image τ (over v)) (w.passes v (h v (Contains-head v vs))))
      ∙ (ap (λ (z : List TermTree). map bare (calls_in f (image τ (over v))) ++ z) (calls_each f vs (λ u c. h u (Contains-tail v vs u c)))
      ∙ sym (map-append bare (calls_in f (image τ (over v))) (flat_map (λ v. calls_in f (image τ v)) (map over vs)))))

  out_vars_moved : (o p : OutTree) → AmongOut o → renamed_out moved o ≡ bare_out p → out_vars p ≡ map over (out_vars o)
  out_vars_moved o p h e =
      sym (out_vars_bare p) ∙ (ap out_vars (sym e) ∙ (out_vars_bare (substituted_out moved o)
      ∙ (ap (flat_map term_vars) (changed_out_terms (substituted_form moved) (substituted moved) (changes_substituted moved) (substituted_out moved) (out_changes_substituted moved) o)
      ∙ terms_vars moved vars (moving_renames vars over m) (out_terms o) (within_each vars (out_terms o) h))))

  brought_one : (f : SymId) (o p : OutTree) → AmongOut o → renamed_out moved o ≡ bare_out p → map g (calls_brought f σ o) ≡ map bare (calls_brought f τ p)
  brought_one f o p h e =
      calls_each f (first_occurrences (out_vars o)) (λ v c. h v (occurs (out_vars o) v c))
      ∙ ap (λ (z : List Var). map bare (flat_map (λ v. calls_in f (image τ v)) z)) (sym (ap first_occurrences (out_vars_moved o p h e) ∙ occurrences_renamed over vars m.one (out_vars o) h))

  pub brought_passed : (f : SymId) (os ps : List OutTree) → All AmongOut os → map (renamed_out moved) os ≡ map bare_out ps → map g (brought σ os f) ≡ map bare (brought τ ps f)
  brought_passed f [] [] h e = refl
  brought_passed f [] (p ∷ ps) h e = absurd (cc)
  brought_passed f (o ∷ os) [] h e = absurd (cc)
  brought_passed f (o ∷ os) (p ∷ ps) h e =
      let first : renamed_out moved o ≡ bare_out p = cc in
      let rest : map (renamed_out moved) os ≡ map bare_out ps = cc in
      map-append g (calls_brought f σ o) (brought σ os f)
      ∙ (ap (λ (z : List TermTree). z ++ map g (brought σ os f)) (brought_one f o p (All-head AmongOut o os h) first)
      ∙ (ap (λ (z : List TermTree). map bare (calls_brought f τ p) ++ z) (brought_passed f os ps (All-tail AmongOut o os h) rest)
      ∙ sym (map-append bare (calls_brought f τ p) (brought τ ps f))))

  pub test_passed : (f : SymId) (o u o' u' : Option OutTree) (p p' : FormTree) → there o' ≡ there o → there u' ≡ there u → renamed_form ρ p ≡ bare_form p' → map g (test_calls o u p f) ≡ map bare (test_calls o' u' p' f)
  test_passed f o u o' u' p p' a b e =
      ap (map g) (test_is o u p f)
      ∙ (go (there o && there u)
      ∙ (ap (λ (t : Bool). map bare (cond (t && there u) (calls_in_form f p') [])) (sym a)
      ∙ (ap (λ (t : Bool). map bare (cond (there o' && t) (calls_in_form f p') [])) (sym b) ∙ sym (ap (map bare) (test_is o' u' p' f)))))
    where
      go : (t : Bool) → map g (cond t (calls_in_form f p) []) ≡ map bare (cond t (calls_in_form f p') [])
      go true = sym (form_calls_changed g shape (renamed_form ρ) (changes_renamed ρ) f p) ∙ (ap (calls_in_form f) e ∙ form_calls_changed bare shape_bare bare_form changes_bare f p')
      go false = refl

  pub guards_passed : (table : SymbolTable) (rule : Option GuardRule) → IfSome rule (IsGuardRule table) → (calls others : SymId → List TermTree) → ((f : SymId) → map g (calls f) ≡ map bare (others f)) → map (renamed_form ρ) (guards_of rule calls) ≡ map bare_form (guards_of rule others)
  guards_passed table None h calls others e = refl
  guards_passed table (Some rule) h calls others e = guards_alike (renamed_form ρ) bare_form g bare shape shape_bare (changes_renamed ρ) changes_bare table rule h (calls rule.program) (others rule.program) (e rule.program)

  -- the terms of an instance have the variables of the images alone
  put_within : (t : TermTree) → Within vars t → Within (image_vars σ vars) (substituted σ t)
  put_within = by_term_cases (λ t. Within vars t → Within (image_vars σ vars) (substituted σ t))
      (λ p v h u c. Contains-flat_map_from (λ v. term_vars (image σ v)) vars v u (within_var vars p v h) (Contains-along (term_vars (substituted σ (node.Var p v))) (term_vars (image σ v)) u (ap term_vars (substituted-Var σ p v)) c))
      (λ p f args held h.
      let parts = within_args vars p f args h in
      subst (Within (image_vars σ vars)) (sym (substituted-App σ p f args)) (within_App (image_vars σ vars) nowhere f (map (substituted σ) args) (All-map (Within (image_vars σ vars)) (substituted σ) args (λ k d lt. held k d lt (parts k d lt)))))

  abbrev Inside : FormTree → Type 0
  Inside f = All (Within (image_vars σ vars)) (form_terms f)

  pub instance_inside : (f : FormTree) → AreAmong (form_vars f) vars → Inside (substituted_form σ f)
  instance_inside f h =
      subst (All (Within (image_vars σ vars))) (sym (form_terms-changed (substituted_form σ) (substituted σ) (changes_substituted σ) f))
      (All-map (Within (image_vars σ vars)) (substituted σ) (form_terms f) (λ k d lt. put_within (get_or (form_terms f) k d) (within_each vars (form_terms f) h k d lt)))

  abbrev Any : TermTree → Type 0
  Any t = Unit {0}

  told : (f h : FormTree) → Inside f → Inside h → same_form (renamed_form ρ f) (renamed_form ρ h) ≡ same_form f h
  told =
      let back = back_by ρ (image_vars σ vars) w.renames in
      forms_told (renamed_form ρ) (substituted_form back) g (substituted back) (changes_renamed ρ) (changes_substituted back) (λ t. ap bare (shape-blind g shape t)) (substituted-blind back) (Within (image_vars σ vars))
      (λ t h. substituted-blind back (substituted ρ t) ∙ substituted_back ρ (image_vars σ vars) w.renames t h)

  told_bare : (f h : FormTree) → All Any (form_terms f) → All Any (form_terms h) → same_form (bare_form f) (bare_form h) ≡ same_form f h
  told_bare = forms_told bare_form (λ f. f) bare (λ t. t) changes_bare changes_none (λ t. ap bare (bare-twice t)) bare-twice Any (λ t h. bare-twice t)

  pub replaced_passed : (p p' f f' : FormTree) (by : Bool) → Inside p → Inside f → renamed_form ρ p ≡ bare_form p' → renamed_form ρ f ≡ bare_form f' → renamed_form ρ (replaced_all p by f) ≡ bare_form (replaced_all p' by f')
  replaced_passed p p' f f' by h k d e =
      sym (all_changed (renamed_form ρ) g (changes_renamed ρ) (Within (image_vars σ vars)) told p h by f k)
      ∙ (ap (λ (z : FormTree). replaced_all z by (renamed_form ρ f)) d ∙ (ap (replaced_all (bare_form p') by) e
      ∙ all_changed bare_form bare changes_bare Any told_bare p' (λ i a lt. tt) by f' (λ i a lt. tt)))

  pub placed_passed : (place : List ℕ) (new new' : TermTree) (f f' : FormTree) → g new ≡ bare new' → renamed_form ρ f ≡ bare_form f' → renamed_form ρ (form_replaced_at place new f) ≡ bare_form (form_replaced_at place new' f')
  placed_passed place new new' f f' d e =
      form_changed g shape (renamed_form ρ) (changes_renamed ρ) place new f
      ∙ (ap (λ (z : TermTree). form_replaced_at place z (renamed_form ρ f)) d ∙ (ap (form_replaced_at place (bare new')) e
      ∙ sym (form_changed bare shape_bare bare_form changes_bare place new' f')))

  pub joined_passed : (s t : Side) (f h f' h' : FormTree) (gs gs' : List FormTree) → renamed_form ρ f ≡ bare_form f' → renamed_form ρ h ≡ bare_form h' → map (renamed_form ρ) gs ≡ map bare_form gs' → renamed_form ρ (joined_form s f t h gs) ≡ bare_form (joined_form s f' t h' gs')
  joined_passed s t f h f' h' gs gs' a b e =
      joined_changed (renamed_form ρ) g (changes_renamed ρ) s t f h gs
      ∙ (ap (λ (z : FormTree). joined_form s z t (renamed_form ρ h) (map (renamed_form ρ) gs)) a
      ∙ (ap (λ (z : FormTree). joined_form s (bare_form f') t z (map (renamed_form ρ) gs)) b
      ∙ (ap (joined_form s (bare_form f') t (bare_form h')) e ∙ sym (joined_changed bare_form bare changes_bare s t f' h' gs'))))

  pub guarded_passed : (s : Side) (f f' : FormTree) (gs gs' : List FormTree) → renamed_form ρ f ≡ bare_form f' → map (renamed_form ρ) gs ≡ map bare_form gs' → renamed_form ρ (guarded s f gs) ≡ bare_form (guarded s f' gs')
  guarded_passed s f f' gs gs' a e =
      guarded_changed (renamed_form ρ) g (changes_renamed ρ) s f gs
      ∙ (ap (λ (z : FormTree). guarded s z (map (renamed_form ρ) gs)) a ∙ (ap (guarded s (bare_form f')) e ∙ sym (guarded_changed bare_form bare changes_bare s f' gs')))

  pub chosen_passed : (p p' : FormTree) (o u o' u' : Option OutTree) → renamed_form ρ p ≡ bare_form p' → option_map (renamed_out ρ) o ≡ option_map bare_out o' → option_map (renamed_out ρ) u ≡ option_map bare_out u' → option_map (renamed_out ρ) (chosen_out p o u) ≡ option_map bare_out (chosen_out p' o' u')
  chosen_passed p p' o u o' u' d a b =
      chosen_changed (renamed_form ρ) g (changes_renamed ρ) (renamed_out ρ) (out_changes_renamed ρ) p o u
      ∙ (ap (λ (z : FormTree). chosen_out z (option_map (renamed_out ρ) o) (option_map (renamed_out ρ) u)) d
      ∙ (ap (λ (z : Option OutTree). chosen_out (bare_form p') z (option_map (renamed_out ρ) u)) a
      ∙ (ap (chosen_out (bare_form p') (option_map bare_out o')) b ∙ sym (chosen_changed bare_form bare changes_bare bare_out out_changes_bare p' o' u'))))
