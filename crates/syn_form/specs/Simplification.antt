-- Public. Simplification from the inside out: what a tree becomes once its parts are simplified.
use Rattle.std.specs.Prelude.{Bool, not, ◌||◌, List, [], ◌∷◌, ◌++◌, if◌then◌else◌}
use Rattle.std.specs.List.{list_any, filter, flat_map}
use Rattle.syn_term.specs.Same.{same_tree}
use Rattle.syn_term.specs.Terms.{TermTree}
use Rattle.syn_form.specs.declared.trees.Form.{out-Form, fold-Form}
use Rattle.syn_form.specs.declared.trees.Form.TheOpen.{Form-F}
use Rattle.syn_form.specs.declared.trees.Form.TheVariants as form
use Rattle.syn_form.specs.declared.trees.Form.TheViews as view
use Rattle.syn_form.specs.declared.trees.Out.{fold-Out}
use Rattle.syn_form.specs.declared.trees.Out.TheOpen.{Out-F}
use Rattle.syn_form.specs.declared.trees.Out.TheVariants as out
use Rattle.syn_form.specs.declared.trees.Out.TheViews as out_view
use Rattle.syn_form.specs.Trees.{FormTree, OutTree}
use Rattle.syn_form.specs.Same.{same_form, same_out}

-- the two connectives that join a chain of members
pub data Junction : Type 0 where
  conjunction : Junction
  disjunction : Junction

-- what a chain without members is: `true` of an `and`, `false` of an `or`
abbrev pub neutral : Junction → FormTree
neutral conjunction = form.True
neutral disjunction = form.False

-- the member that decides a chain: `false` in an `and`, `true` in an `or`
abbrev pub deciding : Junction → FormTree
deciding conjunction = form.False
deciding disjunction = form.True

abbrev pub chain : Junction → List FormTree → FormTree
chain conjunction all = view.And all
chain disjunction all = view.Or all

abbrev pub opened_layer : Junction → FormTree → Form-F FormTree → List FormTree
opened_layer conjunction f (Form-F.And all) = all
opened_layer disjunction f (Form-F.Or all) = all
opened_layer j f _ = f ∷ []

-- a member that is a chain of the same kind gives its members in place
abbrev pub opened : Junction → FormTree → List FormTree
opened j f = opened_layer j f (out-Form f)

-- whether a formula of the list is this one
abbrev pub has_form : List FormTree → FormTree → Bool
has_form fs f = list_any (λ g. same_form g f) fs

-- the members without those that repeat an earlier one
abbrev pub without_repeats : List FormTree → List FormTree → List FormTree
without_repeats done [] = done
without_repeats done (f ∷ fs) = without_repeats (if has_form done f then done else done ++ f ∷ []) fs

-- whether some formula and its negation are both members
abbrev pub has_both : List FormTree → Bool
has_both fs = list_any (λ f. has_form fs (view.Not f)) fs

-- the members that are left of a chain
abbrev pub members_left : Junction → List FormTree → List FormTree
members_left j fs = without_repeats [] (filter (λ f. not (same_form f (neutral j))) (flat_map (opened j) fs))

-- no member, one, or more
abbrev pub chain_of : Junction → List FormTree → FormTree
chain_of j [] = neutral j
chain_of j (f ∷ []) = f
chain_of j (f ∷ g ∷ fs) = chain j (f ∷ g ∷ fs)

-- a chain is decided where the deciding member, or both a formula and its negation, are left
abbrev pub joined : Junction → List FormTree → FormTree
joined j fs = if has_form (members_left j fs) (deciding j) || has_both (members_left j fs) then deciding j else chain_of j (members_left j fs)

abbrev pub negated_layer : FormTree → Form-F FormTree → FormTree
negated_layer f Form-F.True = form.False
negated_layer f Form-F.False = form.True
negated_layer f (Form-F.Not a) = a
negated_layer f _ = view.Not f

-- `not A`
abbrev pub negated : FormTree → FormTree
negated f = negated_layer f (out-Form f)

-- `A -> B` where neither is `true` or `false`
abbrev pub implied_open : FormTree → FormTree → FormTree
implied_open a b = if same_form a b then form.True else view.Implies a b

abbrev pub implied_layer : FormTree → FormTree → Form-F FormTree → Form-F FormTree → FormTree
implied_layer a b Form-F.True y = b
implied_layer a b Form-F.False y = form.True
implied_layer a b x Form-F.True = form.True
implied_layer a b x Form-F.False = negated a
implied_layer a b x y = implied_open a b

-- `A -> B`
abbrev pub implied : FormTree → FormTree → FormTree
implied a b = implied_layer a b (out-Form a) (out-Form b)

-- `s = t`
abbrev pub equated : TermTree → TermTree → FormTree
equated s t = if same_tree s t then form.True else form.Equal s t

abbrev pub simplified_form_step : Form-F FormTree → FormTree
simplified_form_step Form-F.True = form.True
simplified_form_step Form-F.False = form.False
simplified_form_step (Form-F.Atom r args) = form.Atom r args
simplified_form_step (Form-F.Equal s t) = equated s t
simplified_form_step (Form-F.Not a) = negated a
simplified_form_step (Form-F.And all) = joined conjunction all
simplified_form_step (Form-F.Or all) = joined disjunction all
simplified_form_step (Form-F.Implies a b) = implied a b

-- the formula simplified: each part first
abbrev pub simplified_form : FormTree → FormTree
simplified_form = fold-Form FormTree simplified_form_step

-- `if F then U else V` where F is neither `true` nor `false`
abbrev pub chosen_open : FormTree → OutTree → OutTree → OutTree
chosen_open f u v = if same_out u v then u else out_view.If f u v

abbrev pub chosen_layer : FormTree → Form-F FormTree → OutTree → OutTree → OutTree
chosen_layer f Form-F.True u v = u
chosen_layer f Form-F.False u v = v
chosen_layer f _ u v = chosen_open f u v

-- `if F then U else V`
abbrev pub chosen : FormTree → OutTree → OutTree → OutTree
chosen f u v = chosen_layer f (out-Form f) u v

abbrev pub simplified_out_step : Out-F OutTree → OutTree
simplified_out_step (Out-F.Give t) = out.Give t
simplified_out_step (Out-F.If f u v) = chosen (simplified_form f) u v

-- the output simplified: its tests and arms first
abbrev pub simplified_out : OutTree → OutTree
simplified_out = fold-Out OutTree simplified_out_step
