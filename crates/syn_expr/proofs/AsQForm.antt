-- A formula without quantifiers as one of those that may have them: it is formed and can be read where the formula is, it has no
-- binders, prints as the formula does, and is the same formula without quantifiers.
use Rattle.std.proofs.Common.{◌≡◌, ℕ, ◌≤◌, List, [], ◌∷◌, ◌++◌, Option, Some, All, map, length, refl, sym, ◌∙◌, ap, subst, codes}
use Rattle.std.specs.Option.{option_and_then, option_map}
use Rattle.std.specs.List.{flat_map}
use Rattle.std.proofs.lemmas.List.{length-map}
use Rattle.std.proofs.lemmas.List.Elements.{All-nil, All-cons, All-head, All-tail, All-append}
use Rattle.syn_term.specs.declared.sorts.SymId.{SymId}
use Rattle.syn_term.specs.Symbols.{SymbolTable}
use Rattle.syn_term.specs.Terms.{TermTree}
use Rattle.syn_form.specs.declared.trees.Binder.{Binder}
use Rattle.syn_form.specs.declared.trees.Form.{every_here-Form}
use Rattle.syn_form.specs.declared.trees.Form.TheVariants as form
use Rattle.syn_form.specs.declared.trees.Form.TheViews as view
use Rattle.syn_form.specs.declared.trees.QForm.TheVariants as qform
use Rattle.syn_form.specs.declared.trees.QForm.TheViews as qview
use Rattle.syn_form.specs.Lists.{all_there}
use Rattle.syn_form.specs.Trees.{FormTree, QFormTree, all_of, bare_form}
use Rattle.syn_form.specs.Plain.{IsFormed, PlainFormNode}
use Rattle.syn_form.specs.PlainQuantified.{IsFormedQ, binders_of, binders_step}
use Rattle.syn_form.specs.Quantified.{as_qform, as_qform_step, bare_qform, unquantified, unquantified_step}
use Rattle.syn_form.specs.Scopes.{TextScope}
use Rattle.syn_form.specs.Simplification.{conjunction, disjunction}
use Rattle.syn_form.specs.Printing.{PrintedForm, implication_text, inner, joined, loose_text, print_form_step, print_qform_step, printing_of_form, printing_of_qform, tight_text}
use Rattle.syn_expr.specs.Readable.{CanReadForm, CanReadFormNode, CanReadLeaf, CanReadQForm, Placed, atom, equality, leaves, leaves_step, placed}
use Rattle.syn_form.proofs.Equations.{fold-True, fold-False, fold-Atom, fold-Equal, fold-Not, fold-And, fold-Or, fold-Implies, out-Atom}
use Rattle.syn_form.proofs.Induction.{by_forms}
use Rattle.syn_form.proofs.Nodes.{node-Equal, node-chain, part-Not, parts-chain, parts-Implies}
use Rattle.syn_form.proofs.QNodes.{every-True, every-False, every-Atom, every-Equal, every-Not, every-And, every-Or, every-Implies}
use Rattle.syn_form.proofs.QForms.{qfold-True, qfold-False, qfold-Atom, qfold-Equal, qfold-Not, qfold-And, qfold-Or, qfold-Implies}
use Rattle.syn_expr.proofs.Unquantifying.{unquantified_bare}

-- what it is at each case
as-True : as_qform form.True ≡ qform.True
as-True = fold-True as_qform_step

as-False : as_qform form.False ≡ qform.False
as-False = fold-False as_qform_step

as-Atom : (r : SymId) (args : List TermTree) → as_qform (form.Atom r args) ≡ qform.Atom r args
as-Atom = fold-Atom as_qform_step

as-Equal : (s t : TermTree) → as_qform (form.Equal s t) ≡ qform.Equal s t
as-Equal = fold-Equal as_qform_step

as-Not : (a : FormTree) → as_qform (view.Not a) ≡ qview.Not (as_qform a)
as-Not = fold-Not as_qform_step

as-And : (all : List FormTree) → as_qform (view.And all) ≡ qview.And (map as_qform all)
as-And = fold-And as_qform_step

as-Or : (all : List FormTree) → as_qform (view.Or all) ≡ qview.Or (map as_qform all)
as-Or = fold-Or as_qform_step

as-Implies : (a b : FormTree) → as_qform (view.Implies a b) ≡ qview.Implies (as_qform a) (as_qform b)
as-Implies = fold-Implies as_qform_step

-- what holds of each member passes on to what is made of it
all_along : {A B : Type 0} (P : A → Type 0) (Q : B → Type 0) (g : A → B) (xs : List A) → All (λ x. P x → Q (g x)) xs → All P xs → All Q (map g xs)
all_along P Q g [] h k = All-nil Q
all_along P Q g (x ∷ xs) h k = All-cons Q (g x) (map g xs) (All-head (λ x. P x → Q (g x)) x xs h (All-head P x xs k)) (all_along P Q g xs (All-tail (λ x. P x → Q (g x)) x xs h) (All-tail P x xs k))

two_still : (all : List FormTree) → 2 ≤ length all → 2 ≤ length (map as_qform all)
two_still all h = subst (λ n. 2 ≤ n) (sym (length-map all as_qform)) h

module _ (table : SymbolTable) where
  abbrev FormedToo : FormTree → Type 0
  FormedToo f = IsFormed table f → IsFormedQ table (as_qform f)

  -- it is formed where the formula is
  pub as_qform_formed : (f : FormTree) → FormedToo f
  as_qform_formed = by_forms FormedToo
      (λ h. subst (IsFormedQ table) (sym as-True) (every-True _ tt))
      (λ h. subst (IsFormedQ table) (sym as-False) (every-False _ tt))
      (λ r args h. subst (IsFormedQ table) (sym (as-Atom r args)) (every-Atom _ r args (subst (PlainFormNode table) (out-Atom r args) (every_here-Form (PlainFormNode table) (form.Atom r args) h))))
      (λ s t h. subst (IsFormedQ table) (sym (as-Equal s t)) (every-Equal _ s t (node-Equal (PlainFormNode table) s t h)))
      (λ a f h. subst (IsFormedQ table) (sym (as-Not a)) (every-Not _ (as_qform a) tt (f (part-Not (PlainFormNode table) a h))))
      (λ all f h. subst (IsFormedQ table) (sym (as-And all)) (every-And _ (map as_qform all) (two_still all (node-chain (PlainFormNode table) conjunction all h)) (all_along (IsFormed table) (IsFormedQ table) as_qform all f (parts-chain (PlainFormNode table) conjunction all h))))
      (λ all f h. subst (IsFormedQ table) (sym (as-Or all)) (every-Or _ (map as_qform all) (two_still all (node-chain (PlainFormNode table) disjunction all h)) (all_along (IsFormed table) (IsFormedQ table) as_qform all f (parts-chain (PlainFormNode table) disjunction all h))))
      (λ a b f g h. let p = parts-Implies (PlainFormNode table) a b h in subst (IsFormedQ table) (sym (as-Implies a b)) (every-Implies _ (as_qform a) (as_qform b) tt (f p.0) (g p.1)))

module _ (scope : TextScope) where
  abbrev CanLeaf : Placed → Type 0
  CanLeaf p = CanReadLeaf p.at p.leaf

  abbrev CanToo : FormTree → Type 0
  CanToo f = CanReadForm scope f → CanReadQForm scope (as_qform f)

  -- what can be read at each leaf of a formula whose leaves are these
  from_leaves : (g h : QFormTree) (ps : List Placed) → g ≡ h → leaves h scope ≡ ps → All CanLeaf ps → CanReadQForm scope g
  from_leaves g h ps is e k = subst (CanReadQForm scope) (sym is) (subst (All CanLeaf) (sym e) k)

  one_leaf : (p : Placed) → CanLeaf p → All CanLeaf (p ∷ [])
  one_leaf p h = All-cons CanLeaf p [] h (All-nil CanLeaf)

  all_leaves : (fs : List QFormTree) → All (CanReadQForm scope) fs → All CanLeaf (flat_map (λ (p : TextScope → List Placed). p scope) (map leaves fs))
  all_leaves [] h = All-nil CanLeaf
  all_leaves (f ∷ fs) h = All-append CanLeaf (leaves f scope) (flat_map (λ (p : TextScope → List Placed). p scope) (map leaves fs)) (All-head (CanReadQForm scope) f fs h) (all_leaves fs (All-tail (CanReadQForm scope) f fs h))

  abbrev here : {A : Type 0} → (TextScope → A) → A
  here g = g scope

  -- the scope can read it where it can read the formula
  pub as_qform_can : (f : FormTree) → CanToo f
  as_qform_can = by_forms CanToo
      (λ h. from_leaves (as_qform form.True) qform.True [] as-True (ap here (qfold-True leaves_step)) (All-nil CanLeaf))
      (λ h. from_leaves (as_qform form.False) qform.False [] as-False (ap here (qfold-False leaves_step)) (All-nil CanLeaf))
      (λ r args h. from_leaves (as_qform (form.Atom r args)) (qform.Atom r args) (placed scope (atom r args)) (as-Atom r args) (ap here (qfold-Atom leaves_step r args)) (one_leaf (record { at = scope; leaf = atom r args }) (subst (CanReadFormNode scope) (out-Atom r args) (every_here-Form (CanReadFormNode scope) (form.Atom r args) h))))
      (λ s t h. from_leaves (as_qform (form.Equal s t)) (qform.Equal s t) (placed scope (equality s t)) (as-Equal s t) (ap here (qfold-Equal leaves_step s t)) (one_leaf (record { at = scope; leaf = equality s t }) (node-Equal (CanReadFormNode scope) s t h)))
      (λ a f h. from_leaves (as_qform (view.Not a)) (qview.Not (as_qform a)) (leaves (as_qform a) scope) (as-Not a) (ap here (qfold-Not leaves_step (as_qform a))) (f (part-Not (CanReadFormNode scope) a h)))
      (λ all f h. let fs = map as_qform all in from_leaves (as_qform (view.And all)) (qview.And fs) (flat_map (λ (p : TextScope → List Placed). p scope) (map leaves fs)) (as-And all) (ap here (qfold-And leaves_step fs)) (all_leaves fs (all_along (CanReadForm scope) (CanReadQForm scope) as_qform all f (parts-chain (CanReadFormNode scope) conjunction all h))))
      (λ all f h. let fs = map as_qform all in from_leaves (as_qform (view.Or all)) (qview.Or fs) (flat_map (λ (p : TextScope → List Placed). p scope) (map leaves fs)) (as-Or all) (ap here (qfold-Or leaves_step fs)) (all_leaves fs (all_along (CanReadForm scope) (CanReadQForm scope) as_qform all f (parts-chain (CanReadFormNode scope) disjunction all h))))
      (λ a b f g h.
      let p = parts-Implies (CanReadFormNode scope) a b h in
      from_leaves (as_qform (view.Implies a b)) (qview.Implies (as_qform a) (as_qform b)) (leaves (as_qform a) scope ++ leaves (as_qform b) scope) (as-Implies a b) (ap here (qfold-Implies leaves_step (as_qform a) (as_qform b))) (All-append CanLeaf (leaves (as_qform a) scope) (leaves (as_qform b) scope) (f p.0) (g p.1)))

abbrev NoBinders : FormTree → Type 0
NoBinders f = binders_of (as_qform f) ≡ []

none_bound : (all : List FormTree) → All NoBinders all → all_of (map binders_of (map as_qform all)) ≡ []
none_bound [] h = refl
none_bound (f ∷ fs) h =
    ap (λ (z : List Binder). z ++ all_of (map binders_of (map as_qform fs))) (All-head NoBinders f fs h) ∙ none_bound fs (All-tail NoBinders f fs h)

-- it binds nothing
pub as_qform_binders : (f : FormTree) → binders_of (as_qform f) ≡ []
as_qform_binders = by_forms NoBinders
    (ap binders_of as-True ∙ qfold-True binders_step)
    (ap binders_of as-False ∙ qfold-False binders_step)
    (λ r args. ap binders_of (as-Atom r args) ∙ qfold-Atom binders_step r args)
    (λ s t. ap binders_of (as-Equal s t) ∙ qfold-Equal binders_step s t)
    (λ a h. ap binders_of (as-Not a) ∙ (qfold-Not binders_step (as_qform a) ∙ h))
    (λ all h. ap binders_of (as-And all) ∙ (qfold-And binders_step (map as_qform all) ∙ none_bound all h))
    (λ all h. ap binders_of (as-Or all) ∙ (qfold-Or binders_step (map as_qform all) ∙ none_bound all h))
    (λ a b h k. ap binders_of (as-Implies a b) ∙ (qfold-Implies binders_step (as_qform a) (as_qform b) ∙ (ap (λ (z : List Binder). z ++ binders_of (as_qform b)) h ∙ k)))

module _ (scope : TextScope) where
  abbrev PrintsSame : FormTree → Type 0
  PrintsSame f = printing_of_qform (as_qform f) scope ≡ printing_of_form scope f

  -- as a formula that may have quantifiers prints here
  abbrev print : QFormTree → PrintedForm
  print f = printing_of_qform f scope

  abbrev inner_here : (TextScope → PrintedForm) → List ℕ
  inner_here p = inner (p scope)

  members_print : (all : List FormTree) → All PrintsSame all → map inner_here (map printing_of_qform (map as_qform all)) ≡ map inner (map (printing_of_form scope) all)
  members_print [] h = refl
  members_print (f ∷ fs) h =
      ap (λ (z : PrintedForm). inner z ∷ map inner_here (map printing_of_qform (map as_qform fs))) (All-head PrintsSame f fs h)
      ∙ ap (λ (z : List (List ℕ)). inner (printing_of_form scope f) ∷ z) (members_print fs (All-tail PrintsSame f fs h))

  abbrev step_here : {A : Type 0} → (TextScope → A) → A
  step_here g = g scope

  -- it prints as the formula does
  pub as_qform_printing : (f : FormTree) → printing_of_qform (as_qform f) scope ≡ printing_of_form scope f
  as_qform_printing = by_forms PrintsSame
      (ap print as-True ∙ (ap step_here (qfold-True print_qform_step) ∙ sym (fold-True (print_form_step scope))))
      (ap print as-False ∙ (ap step_here (qfold-False print_qform_step) ∙ sym (fold-False (print_form_step scope))))
      (λ r args. ap print (as-Atom r args) ∙ (ap step_here (qfold-Atom print_qform_step r args) ∙ sym (fold-Atom (print_form_step scope) r args)))
      (λ s t. ap print (as-Equal s t) ∙ (ap step_here (qfold-Equal print_qform_step s t) ∙ sym (fold-Equal (print_form_step scope) s t)))
      (λ a h. ap print (as-Not a) ∙ (ap step_here (qfold-Not print_qform_step (as_qform a)) ∙ (ap (λ (z : PrintedForm). tight_text (codes "not " ++ inner z)) h ∙ sym (fold-Not (print_form_step scope) a))))
      (λ all h. ap print (as-And all) ∙ (ap step_here (qfold-And print_qform_step (map as_qform all)) ∙ (ap (λ (z : List (List ℕ)). loose_text (joined (codes " and ") z)) (members_print all h) ∙ sym (fold-And (print_form_step scope) all))))
      (λ all h. ap print (as-Or all) ∙ (ap step_here (qfold-Or print_qform_step (map as_qform all)) ∙ (ap (λ (z : List (List ℕ)). loose_text (joined (codes " or ") z)) (members_print all h) ∙ sym (fold-Or (print_form_step scope) all))))
      (λ a b h k. ap print (as-Implies a b) ∙ (ap step_here (qfold-Implies print_qform_step (as_qform a) (as_qform b))
      ∙ (ap (λ (z : PrintedForm). loose_text (implication_text z (print (as_qform b)))) h
      ∙ (ap (λ (z : PrintedForm). loose_text (implication_text (printing_of_form scope a) z)) k
      ∙ sym (fold-Implies (print_form_step scope) a b)))))

abbrev ComesBack : FormTree → Type 0
ComesBack f = unquantified (as_qform f) ≡ Some f

members_back : (all : List FormTree) → All ComesBack all → all_there (map unquantified (map as_qform all)) ≡ Some all
members_back [] h = refl
members_back (f ∷ fs) h =
    ap (λ (o : Option FormTree). option_and_then (λ a. option_map (λ rest. a ∷ rest) (all_there (map unquantified (map as_qform fs)))) o) (All-head ComesBack f fs h)
    ∙ ap (option_map (λ (rest : List FormTree). f ∷ rest)) (members_back fs (All-tail ComesBack f fs h))

comes_back : (f : FormTree) → ComesBack f
comes_back = by_forms ComesBack
    (ap unquantified as-True ∙ qfold-True unquantified_step)
    (ap unquantified as-False ∙ qfold-False unquantified_step)
    (λ r args. ap unquantified (as-Atom r args) ∙ qfold-Atom unquantified_step r args)
    (λ s t. ap unquantified (as-Equal s t) ∙ qfold-Equal unquantified_step s t)
    (λ a h. ap unquantified (as-Not a) ∙ (qfold-Not unquantified_step (as_qform a) ∙ ap (option_map view.Not) h))
    (λ all h. ap unquantified (as-And all) ∙ (qfold-And unquantified_step (map as_qform all) ∙ ap (option_map view.And) (members_back all h)))
    (λ all h. ap unquantified (as-Or all) ∙ (qfold-Or unquantified_step (map as_qform all) ∙ ap (option_map view.Or) (members_back all h)))
    (λ a b h k. ap unquantified (as-Implies a b) ∙ (qfold-Implies unquantified_step (as_qform a) (as_qform b)
    ∙ (ap (λ (o : Option FormTree). option_and_then (λ x. option_map (view.Implies x) (unquantified (as_qform b))) o) h
    ∙ ap (option_map (view.Implies a)) k)))

-- without its places it is the formula without them
pub as_qform_back : (f : FormTree) → unquantified (bare_qform (as_qform f)) ≡ Some (bare_form f)
as_qform_back f = unquantified_bare (as_qform f) ∙ ap (option_map bare_form) (comes_back f)
