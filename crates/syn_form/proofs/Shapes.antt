-- What each step of simplification gives, by cases.
use Rattle.std.proofs.Common.{◌≡◌, Bool, true, false, ◌||◌, List, [], ◌∷◌, cond, refl, sym, ◌∙◌, ap}
use denote.Hole.Carrier.{roll}
use Rattle.syn_term.specs.Same.{same_tree}
use Rattle.syn_term.specs.Terms.{TermTree}
use Rattle.syn_form.specs.declared.trees.Form.{out-Form, roll-Form, roll-out-Form}
use Rattle.syn_form.specs.declared.trees.Form.TheOpen.{Form-F}
use Rattle.syn_form.specs.declared.trees.Form.TheVariants as form
use Rattle.syn_form.specs.declared.trees.Form.TheViews as view
use Rattle.syn_form.specs.declared.trees.Out.TheViews as out_view
use Rattle.syn_form.specs.Trees.{FormTree, OutTree}
use Rattle.syn_form.specs.Same.{same_form, same_out}
use Rattle.syn_form.specs.Simplification.{Junction, conjunction, disjunction, chain, deciding, opened, has_form, has_both, members_left, chain_of, joined, negated, negated_layer, opened_layer, implied, implied_layer, equated, chosen, chosen_layer}

rolled : (f : FormTree) (x : Form-F FormTree) → out-Form f ≡ x → f ≡ roll-Form x
rolled f x e = sym (roll-out-Form f) ∙ ap roll-Form e

-- `not A`
pub data Negated (f : FormTree) : FormTree → Type 0 where
  of_true : f ≡ form.True → Negated f form.False
  of_false : f ≡ form.False → Negated f form.True
  of_not : (a : FormTree) → f ≡ view.Not a → Negated f a
  kept : negated f ≡ view.Not f → Negated f (view.Not f)

negated_case : (f : FormTree) (x : Form-F FormTree) → out-Form f ≡ x → Negated f (negated_layer f x)
unfolding roll-Form roll
negated_case f Form-F.True e = of_true (rolled f Form-F.True e)
negated_case f Form-F.False e = of_false (rolled f Form-F.False e)
negated_case f (Form-F.Not a) e = of_not a (rolled f (Form-F.Not a) e)
negated_case f x e = kept (ap (negated_layer f) e)

pub negated_is : (f : FormTree) → Negated f (negated f)
negated_is f = negated_case f (out-Form f) refl

-- a member of a chain, opened
pub data Opened (j : Junction) (f : FormTree) : List FormTree → Type 0 where
  a_chain : (all : List FormTree) → f ≡ chain j all → Opened j f all
  single : opened j f ≡ f ∷ [] → Opened j f (f ∷ [])

opened_case : (j : Junction) (f : FormTree) (x : Form-F FormTree) → out-Form f ≡ x → Opened j f (opened_layer j f x)
unfolding roll-Form roll
opened_case conjunction f (Form-F.And all) e = a_chain all (rolled f (Form-F.And all) e)
opened_case disjunction f (Form-F.Or all) e = a_chain all (rolled f (Form-F.Or all) e)
opened_case conjunction f x e = single (ap (opened_layer conjunction f) e)
opened_case disjunction f x e = single (ap (opened_layer disjunction f) e)

pub opened_is : (j : Junction) (f : FormTree) → Opened j f (opened j f)
opened_is conjunction f = opened_case conjunction f (out-Form f) refl
opened_is disjunction f = opened_case disjunction f (out-Form f) refl

-- `A -> B`
pub data Implied (a b : FormTree) : FormTree → Type 0 where
  left_true : a ≡ form.True → Implied a b b
  left_false : a ≡ form.False → Implied a b form.True
  right_true : b ≡ form.True → Implied a b form.True
  right_false : b ≡ form.False → Implied a b (negated a)
  one : same_form a b ≡ true → Implied a b form.True
  kept : implied a b ≡ view.Implies a b → Implied a b (view.Implies a b)

implied_end : (a b : FormTree) (t : Bool) → same_form a b ≡ t → implied a b ≡ cond t form.True (view.Implies a b) → Implied a b (cond t form.True (view.Implies a b))
implied_end a b true same e = one same
implied_end a b false same e = kept e

implied_case : (a b : FormTree) (x y : Form-F FormTree) → out-Form a ≡ x → out-Form b ≡ y → Implied a b (implied_layer a b x y)
unfolding roll-Form roll
implied_case a b Form-F.True y d e = left_true (rolled a Form-F.True d)
implied_case a b Form-F.False y d e = left_false (rolled a Form-F.False d)
implied_case a b x Form-F.True d e = right_true (rolled b Form-F.True e)
implied_case a b x Form-F.False d e = right_false (rolled b Form-F.False e)
implied_case a b x y d e = implied_end a b (same_form a b) refl (ap (λ (z : Form-F FormTree). implied_layer a b z (out-Form b)) d ∙ ap (implied_layer a b x) e)

pub implied_is : (a b : FormTree) → Implied a b (implied a b)
implied_is a b = implied_case a b (out-Form a) (out-Form b) refl refl

-- `s = t`
pub data Equated (s t : TermTree) : FormTree → Type 0 where
  one : same_tree s t ≡ true → Equated s t form.True
  kept : same_tree s t ≡ false → Equated s t (form.Equal s t)

equated_end : (s t : TermTree) (b : Bool) → same_tree s t ≡ b → Equated s t (cond b form.True (form.Equal s t))
equated_end s t true same = one same
equated_end s t false same = kept same

pub equated_is : (s t : TermTree) → Equated s t (equated s t)
equated_is s t = equated_end s t (same_tree s t) refl

-- `if F then U else V`
pub data Chosen (f : FormTree) (u v : OutTree) : OutTree → Type 0 where
  first : f ≡ form.True → Chosen f u v u
  second : f ≡ form.False → Chosen f u v v
  one : same_out u v ≡ true → Chosen f u v u
  kept : chosen f u v ≡ out_view.If f u v → Chosen f u v (out_view.If f u v)

chosen_end : (f : FormTree) (u v : OutTree) (t : Bool) → same_out u v ≡ t → chosen f u v ≡ cond t u (out_view.If f u v) → Chosen f u v (cond t u (out_view.If f u v))
chosen_end f u v true same e = one same
chosen_end f u v false same e = kept e

chosen_case : (f : FormTree) (u v : OutTree) (x : Form-F FormTree) → out-Form f ≡ x → Chosen f u v (chosen_layer f x u v)
unfolding roll-Form roll
chosen_case f u v Form-F.True e = first (rolled f Form-F.True e)
chosen_case f u v Form-F.False e = second (rolled f Form-F.False e)
chosen_case f u v x e = chosen_end f u v (same_out u v) refl (ap (λ (z : Form-F FormTree). chosen_layer f z u v) e)

pub chosen_is : (f : FormTree) (u v : OutTree) → Chosen f u v (chosen f u v)
chosen_is f u v = chosen_case f u v (out-Form f) refl

-- a chain of members
pub data Joined (j : Junction) (fs : List FormTree) : FormTree → Type 0 where
  by_member : has_form (members_left j fs) (deciding j) ≡ true → Joined j fs (deciding j)
  by_pair : has_both (members_left j fs) ≡ true → Joined j fs (deciding j)
  open_still : has_form (members_left j fs) (deciding j) ≡ false → has_both (members_left j fs) ≡ false → Joined j fs (chain_of j (members_left j fs))

joined_end : (j : Junction) (fs : List FormTree) (s t : Bool) → has_form (members_left j fs) (deciding j) ≡ s → has_both (members_left j fs) ≡ t → Joined j fs (cond (s || t) (deciding j) (chain_of j (members_left j fs)))
joined_end j fs true t d e = by_member d
joined_end j fs false true d e = by_pair e
joined_end j fs false false d e = open_still d e

pub joined_is : (j : Junction) (fs : List FormTree) → Joined j fs (joined j fs)
joined_is j fs = joined_end j fs (has_form (members_left j fs) (deciding j)) (has_both (members_left j fs)) refl refl
