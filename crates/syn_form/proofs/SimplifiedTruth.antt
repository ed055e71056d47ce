-- Simplification keeps the truth of a formula, and the term that an output gives, but for its places.
use Rattle.std.proofs.Common.{◌≡◌, ◌⊎◌, Bool, true, false, not, ◌&&◌, ◌||◌, List, [], ◌∷◌, ◌++◌, All, map, cond, filter, refl, sym, ◌∙◌, ap}
use Rattle.std.specs.List.{flat_map, list_all, list_any}
use Rattle.std.proofs.lemmas.Bool.{or_cases}
use Rattle.std.proofs.lemmas.List.Elements.{All-head, All-tail}
use Rattle.std.proofs.lemmas.List.Folds.{Any-from_list_any, list_any-from_Any}
use mathlib.Core.Logic.{inl, inr}
use Rattle.syn_term.specs.declared.term.Node.{Node}
use Rattle.syn_term.specs.Terms.{TermTree, bare, bare_step}
use Rattle.syn_term.proofs.Same.{same_tree-to}
use Rattle.syn_term.proofs.Trees.{fold-bare}
use Rattle.syn_form.specs.declared.trees.Form.TheViews as view
use Rattle.syn_form.specs.Trees.{FormTree, OutTree, bare_form, bare_form_step, bare_out, bare_out_step}
use Rattle.syn_form.specs.Same.{same_form, same_out}
use Rattle.syn_form.specs.Truth.{Assignment, IsReflexive, truth_value, truth_value_step, given, given_step}
use Rattle.syn_form.specs.Simplification.{Junction, conjunction, disjunction, chain, neutral, deciding, opened, has_form, has_both, without_repeats, members_left, chain_of, joined, negated, implied, equated, chosen, simplified_form, simplified_form_step, simplified_out, simplified_out_step}
use Rattle.syn_form.proofs.Equations.{fold-True, fold-False, fold-Atom, fold-Equal, fold-Not, fold-And, fold-Or, fold-Implies, fold-Give, fold-If}
use Rattle.syn_form.proofs.Same.{same_form-to, same_form-from, same_out-to}
use Rattle.syn_form.proofs.Inductions.{by_form_cases, by_out_cases}
use Rattle.syn_form.proofs.Shapes.{Negated, of_true, of_false, of_not, Opened, a_chain, single, Implied, left_true, left_false, right_true, right_false, Equated, Chosen, first, second, Joined, by_member, by_pair, open_still, negated_is, opened_is, implied_is, equated_is, chosen_is, joined_is}
use Rattle.syn_form.proofs.Shapes as shape
use Rattle.syn_form.proofs.SimplifiedTerms.{simplified_form-chain}

-- a term without its places has none to leave out
pub bare-bare : (t : TermTree) → bare (bare t) ≡ bare t
bare-bare = fold-bare {A = Node} bare_step (λ p v. refl) (λ p f xs. refl)

bare_all : (ts : List TermTree) → map bare (map bare ts) ≡ map bare ts
bare_all [] = refl
bare_all (t ∷ ts) = let e = bare-bare t in let h = bare_all ts in cc

-- the truth of a chain without members, and of two parts together
abbrev unit_of : Junction → Bool
unit_of conjunction = true
unit_of disjunction = false

abbrev meets : Junction → Bool → Bool → Bool
meets conjunction x y = x && y
meets disjunction x y = x || y

meets-unit : (j : Junction) (x : Bool) → meets j x (unit_of j) ≡ x
meets-unit conjunction true = refl
meets-unit conjunction false = refl
meets-unit disjunction true = refl
meets-unit disjunction false = refl

meets-other : (j : Junction) (x : Bool) → meets j x (not (unit_of j)) ≡ not (unit_of j)
meets-other conjunction true = refl
meets-other conjunction false = refl
meets-other disjunction true = refl
meets-other disjunction false = refl

meets-assoc : (j : Junction) (x y z : Bool) → meets j (meets j x y) z ≡ meets j x (meets j y z)
meets-assoc conjunction true y z = refl
meets-assoc conjunction false y z = refl
meets-assoc disjunction true y z = refl
meets-assoc disjunction false y z = refl

unit-meets : (j : Junction) (x : Bool) → meets j (unit_of j) x ≡ x
unit-meets conjunction x = refl
unit-meets disjunction x = refl

meets-again : (j : Junction) (x y : Bool) → meets j (meets j x y) x ≡ meets j x y
meets-again conjunction true true = refl
meets-again conjunction true false = refl
meets-again conjunction false y = refl
meets-again disjunction true y = refl
meets-again disjunction false true = refl
meets-again disjunction false false = refl

meets-not : (j : Junction) (x : Bool) → meets j x (not x) ≡ not (unit_of j)
meets-not conjunction true = refl
meets-not conjunction false = refl
meets-not disjunction true = refl
meets-not disjunction false = refl

-- a choice between two terms, where each is the same tree as another
bare_arms : (b : Bool) (s t u v : TermTree) → bare s ≡ bare u → bare t ≡ bare v → bare (cond b s t) ≡ bare (cond b u v)
bare_arms true s t u v h k = h
bare_arms false s t u v h k = k

module _ (a : Assignment) where
  abbrev truths : Junction → List FormTree → Bool
  truths j [] = unit_of j
  truths j (f ∷ fs) = meets j (truth_value a f) (truths j fs)

  all_true : (fs : List FormTree) → list_all (λ x. x) (map (truth_value a) fs) ≡ truths conjunction fs
  all_true [] = refl
  all_true (f ∷ fs) = ap (λ (z : Bool). truth_value a f && z) (all_true fs)

  any_true : (fs : List FormTree) → list_any (λ x. x) (map (truth_value a) fs) ≡ truths disjunction fs
  any_true [] = refl
  any_true (f ∷ fs) = ap (λ (z : Bool). truth_value a f || z) (any_true fs)

  truth-chain : (j : Junction) (all : List FormTree) → truth_value a (chain j all) ≡ truths j all
  truth-chain conjunction all = fold-And (truth_value_step a) all ∙ all_true all
  truth-chain disjunction all = fold-Or (truth_value_step a) all ∙ any_true all

  truth-neutral : (j : Junction) → truth_value a (neutral j) ≡ unit_of j
  truth-neutral conjunction = fold-True (truth_value_step a)
  truth-neutral disjunction = fold-False (truth_value_step a)

  truth-deciding : (j : Junction) → truth_value a (deciding j) ≡ not (unit_of j)
  truth-deciding conjunction = fold-False (truth_value_step a)
  truth-deciding disjunction = fold-True (truth_value_step a)

  truths-append : (j : Junction) (fs gs : List FormTree) → truths j (fs ++ gs) ≡ meets j (truths j fs) (truths j gs)
  truths-append j [] gs = sym (unit-meets j (truths j gs))
  truths-append j (f ∷ fs) gs = ap (meets j (truth_value a f)) (truths-append j fs gs) ∙ sym (meets-assoc j (truth_value a f) (truths j fs) (truths j gs))

  members_bare : (j : Junction) (fs : List FormTree) → All (λ f. truth_value a (bare_form f) ≡ truth_value a f) fs → truths j (map bare_form fs) ≡ truths j fs
  members_bare j [] h = refl
  members_bare j (f ∷ fs) h =
      let e : truth_value a (bare_form f) ≡ truth_value a f = All-head (λ (g : FormTree). truth_value a (bare_form g) ≡ truth_value a g) f fs h in
      let k : truths j (map bare_form fs) ≡ truths j fs = members_bare j fs (All-tail (λ (g : FormTree). truth_value a (bare_form g) ≡ truth_value a g) f fs h) in
      ap (λ (z : Bool). meets j z (truths j (map bare_form fs))) e ∙ ap (meets j (truth_value a f)) k

  chain_bare : (j : Junction) (all : List FormTree) → bare_form (chain j all) ≡ chain j (map bare_form all)
  chain_bare conjunction all = fold-And bare_form_step all
  chain_bare disjunction all = fold-Or bare_form_step all

  -- truth doesn't look at places
  pub truth-bare : (f : FormTree) → truth_value a (bare_form f) ≡ truth_value a f
  truth-bare = by_form_cases (λ f. truth_value a (bare_form f) ≡ truth_value a f) record {
    at_true = ap (truth_value a) (fold-True bare_form_step);
    at_false = ap (truth_value a) (fold-False bare_form_step);
    at_atom = λ r args. ap (truth_value a) (fold-Atom bare_form_step r args) ∙ (fold-Atom (truth_value_step a) r (map bare args) ∙ (ap (a.atom r) (bare_all args) ∙ sym (fold-Atom (truth_value_step a) r args)));
    at_equal = λ s t. ap (truth_value a) (fold-Equal bare_form_step s t) ∙ (fold-Equal (truth_value_step a) (bare s) (bare t) ∙ (ap (λ (z : TermTree). a.equality z (bare (bare t))) (bare-bare s) ∙ (ap (a.equality (bare s)) (bare-bare t) ∙ sym (fold-Equal (truth_value_step a) s t))));
    at_not = λ x h. ap (truth_value a) (fold-Not bare_form_step x) ∙ (fold-Not (truth_value_step a) (bare_form x) ∙ (ap not h ∙ sym (fold-Not (truth_value_step a) x)));
    at_chain = λ j all h. ap (truth_value a) (chain_bare j all) ∙ (truth-chain j (map bare_form all) ∙ (members_bare j all h ∙ sym (truth-chain j all)));
    at_implies = λ x y h k. ap (truth_value a) (fold-Implies bare_form_step x y) ∙ (fold-Implies (truth_value_step a) (bare_form x) (bare_form y) ∙ (ap (λ (z : Bool). not z || truth_value a (bare_form y)) h ∙ (ap (λ (z : Bool). not (truth_value a x) || z) k ∙ sym (fold-Implies (truth_value_step a) x y))));
  }

  -- two formulas that are one tree are true together
  pub truth-same : (f g : FormTree) → same_form f g ≡ true → truth_value a f ≡ truth_value a g
  truth-same f g e = sym (truth-bare f) ∙ (ap (truth_value a) (same_form-to f g e) ∙ truth-bare g)

  opened_case : (j : Junction) (f : FormTree) (gs : List FormTree) → Opened j f gs → truths j gs ≡ truth_value a f
  opened_case j f gs (a_chain all e) = sym (ap (truth_value a) e ∙ truth-chain j all)
  opened_case j f gs (single e) = meets-unit j (truth_value a f)

  all_opened-truth : (j : Junction) (fs : List FormTree) → truths j (flat_map (opened j) fs) ≡ truths j fs
  all_opened-truth j [] = refl
  all_opened-truth j (f ∷ fs) = truths-append j (opened j f) (flat_map (opened j) fs) ∙ (ap (λ (z : Bool). meets j z (truths j (flat_map (opened j) fs))) (opened_case j f (opened j f) (opened_is j f)) ∙ ap (meets j (truth_value a f)) (all_opened-truth j fs))

  filter-truth : (j : Junction) (fs : List FormTree) → truths j (filter (λ f. not (same_form f (neutral j))) fs) ≡ truths j fs
  filter-truth j [] = refl
  filter-truth j (f ∷ fs) = go (same_form f (neutral j)) refl (filter-truth j fs)
    where
      go : (b : Bool) → same_form f (neutral j) ≡ b → truths j (filter (λ g. not (same_form g (neutral j))) fs) ≡ truths j fs → truths j (cond (not b) (f ∷ filter (λ g. not (same_form g (neutral j))) fs) (filter (λ g. not (same_form g (neutral j))) fs)) ≡ meets j (truth_value a f) (truths j fs)
      go true e h = h ∙ (sym (unit-meets j (truths j fs)) ∙ ap (λ (z : Bool). meets j z (truths j fs)) (sym (truth-same f (neutral j) e ∙ truth-neutral j)))
      go false e h = ap (meets j (truth_value a f)) h

  -- a member that is there already changes nothing
  absorbed : (j : Junction) (fs : List FormTree) (f : FormTree) → has_form fs f ≡ true → meets j (truths j fs) (truth_value a f) ≡ truths j fs
  absorbed j [] f e = absurd (cc)
  absorbed j (g ∷ gs) f e = go (or_cases (same_form g f) (has_form gs f) e) (absorbed j gs f)
    where
      go : (same_form g f ≡ true) ⊎ (has_form gs f ≡ true) → (has_form gs f ≡ true → meets j (truths j gs) (truth_value a f) ≡ truths j gs) → meets j (meets j (truth_value a g) (truths j gs)) (truth_value a f) ≡ meets j (truth_value a g) (truths j gs)
      go (inl h) k = ap (meets j (meets j (truth_value a g) (truths j gs))) (sym (truth-same g f h)) ∙ meets-again j (truth_value a g) (truths j gs)
      go (inr h) k = meets-assoc j (truth_value a g) (truths j gs) (truth_value a f) ∙ ap (meets j (truth_value a g)) (k h)

  without_repeats-truth : (j : Junction) (done fs : List FormTree) → truths j (without_repeats done fs) ≡ meets j (truths j done) (truths j fs)
  without_repeats-truth j done [] = sym (meets-unit j (truths j done))
  without_repeats-truth j done (f ∷ fs) = without_repeats-truth j (cond (has_form done f) done (done ++ f ∷ [])) fs ∙ go (has_form done f) refl
    where
      go : (b : Bool) → has_form done f ≡ b → meets j (truths j (cond b done (done ++ f ∷ []))) (truths j fs) ≡ meets j (truths j done) (meets j (truth_value a f) (truths j fs))
      go true e = ap (λ (z : Bool). meets j z (truths j fs)) (sym (absorbed j done f e)) ∙ meets-assoc j (truths j done) (truth_value a f) (truths j fs)
      go false e = ap (λ (z : Bool). meets j z (truths j fs)) (truths-append j done (f ∷ []) ∙ ap (meets j (truths j done)) (meets-unit j (truth_value a f))) ∙ meets-assoc j (truths j done) (truth_value a f) (truths j fs)

  members_left-truth : (j : Junction) (fs : List FormTree) → truths j (members_left j fs) ≡ truths j fs
  members_left-truth j fs = without_repeats-truth j [] (filter (λ f. not (same_form f (neutral j))) (flat_map (opened j) fs)) ∙ (unit-meets j (truths j (filter (λ f. not (same_form f (neutral j))) (flat_map (opened j) fs))) ∙ (filter-truth j (flat_map (opened j) fs) ∙ all_opened-truth j fs))

  chain_of-truth : (j : Junction) (fs : List FormTree) → truth_value a (chain_of j fs) ≡ truths j fs
  chain_of-truth j [] = truth-neutral j
  chain_of-truth j (f ∷ []) = sym (meets-unit j (truth_value a f))
  chain_of-truth j (f ∷ g ∷ fs) = truth-chain j (f ∷ g ∷ fs)

  -- a chain with the deciding member is decided
  decided : (j : Junction) (fs : List FormTree) → has_form fs (deciding j) ≡ true → truths j fs ≡ not (unit_of j)
  decided j fs e = sym (absorbed j fs (deciding j) e) ∙ (ap (meets j (truths j fs)) (truth-deciding j) ∙ meets-other j (truths j fs))

  both_there : (j : Junction) (fs : List FormTree) (f : FormTree) → has_form fs f ≡ true → has_form fs (view.Not f) ≡ true → truths j fs ≡ not (unit_of j)
  both_there j fs f e h =
      sym (absorbed j fs (view.Not f) h) ∙ (ap (λ (z : Bool). meets j z (truth_value a (view.Not f))) (sym (absorbed j fs f e)) ∙ (meets-assoc j (truths j fs) (truth_value a f) (truth_value a (view.Not f)) ∙ (ap (λ (z : Bool). meets j (truths j fs) (meets j (truth_value a f) z)) (fold-Not (truth_value_step a) f) ∙ (ap (meets j (truths j fs)) (meets-not j (truth_value a f)) ∙ meets-other j (truths j fs)))))

  -- and so is one with a formula and its negation
  decided_by_pair : (j : Junction) (fs : List FormTree) → has_both fs ≡ true → truths j fs ≡ not (unit_of j)
  decided_by_pair j fs e =
      let p = Any-from_list_any (λ (f : FormTree). has_form fs (view.Not f)) fs e in
      both_there j fs p.1 (list_any-from_Any (λ (g : FormTree). same_form g p.1) fs (p.0, p.1, p.2, p.3, same_form-from p.1 p.1 refl)) p.4

  joined_case : (j : Junction) (fs : List FormTree) (g : FormTree) → Joined j fs g → truth_value a g ≡ truths j fs
  joined_case j fs g (by_member e) = truth-deciding j ∙ (sym (decided j (members_left j fs) e) ∙ members_left-truth j fs)
  joined_case j fs g (by_pair e) = truth-deciding j ∙ (sym (decided_by_pair j (members_left j fs) e) ∙ members_left-truth j fs)
  joined_case j fs g (open_still d e) = chain_of-truth j (members_left j fs) ∙ members_left-truth j fs

  joined-truth : (j : Junction) (fs : List FormTree) → truth_value a (joined j fs) ≡ truths j fs
  joined-truth j fs = joined_case j fs (joined j fs) (joined_is j fs)

  negated_case : (f g : FormTree) → Negated f g → truth_value a g ≡ not (truth_value a f)
  negated_case f g (of_true e) = fold-False (truth_value_step a) ∙ sym (ap not (ap (truth_value a) e ∙ fold-True (truth_value_step a)))
  negated_case f g (of_false e) = fold-True (truth_value_step a) ∙ sym (ap not (ap (truth_value a) e ∙ fold-False (truth_value_step a)))
  negated_case f g (of_not x e) = sym (ap not (ap (truth_value a) e ∙ fold-Not (truth_value_step a) x) ∙ twice (truth_value a x))
    where
      twice : (b : Bool) → not (not b) ≡ b
      twice true = refl
      twice false = refl
  negated_case f g (shape.kept e) = fold-Not (truth_value_step a) f

  negated-truth : (f : FormTree) → truth_value a (negated f) ≡ not (truth_value a f)
  negated-truth f = negated_case f (negated f) (negated_is f)

  implies_self : (x y : Bool) → x ≡ y → (not x || y) ≡ true
  implies_self true y e = sym e
  implies_self false y e = refl

  implies_true : (x : Bool) → (not x || true) ≡ true
  implies_true true = refl
  implies_true false = refl

  implies_false : (x : Bool) → (not x || false) ≡ not x
  implies_false true = refl
  implies_false false = refl

  implied_case : (f g h : FormTree) → Implied f g h → truth_value a h ≡ (not (truth_value a f) || truth_value a g)
  implied_case f g h (left_true e) = sym (ap (λ (z : Bool). not z || truth_value a g) (ap (truth_value a) e ∙ fold-True (truth_value_step a)))
  implied_case f g h (left_false e) = fold-True (truth_value_step a) ∙ sym (ap (λ (z : Bool). not z || truth_value a g) (ap (truth_value a) e ∙ fold-False (truth_value_step a)))
  implied_case f g h (right_true e) = fold-True (truth_value_step a) ∙ sym (ap (λ (z : Bool). not (truth_value a f) || z) (ap (truth_value a) e ∙ fold-True (truth_value_step a)) ∙ implies_true (truth_value a f))
  implied_case f g h (right_false e) = negated-truth f ∙ sym (ap (λ (z : Bool). not (truth_value a f) || z) (ap (truth_value a) e ∙ fold-False (truth_value_step a)) ∙ implies_false (truth_value a f))
  implied_case f g h (shape.one e) = fold-True (truth_value_step a) ∙ sym (implies_self (truth_value a f) (truth_value a g) (truth-same f g e))
  implied_case f g h (shape.kept e) = fold-Implies (truth_value_step a) f g

  implied-truth : (f g : FormTree) → truth_value a (implied f g) ≡ (not (truth_value a f) || truth_value a g)
  implied-truth f g = implied_case f g (implied f g) (implied_is f g)

  parts-truth : (j : Junction) (fs : List FormTree) → All (λ f. truth_value a (simplified_form f) ≡ truth_value a f) fs → truths j (map simplified_form fs) ≡ truths j fs
  parts-truth j [] h = refl
  parts-truth j (f ∷ fs) h =
      let e : truth_value a (simplified_form f) ≡ truth_value a f = All-head (λ (g : FormTree). truth_value a (simplified_form g) ≡ truth_value a g) f fs h in
      let k : truths j (map simplified_form fs) ≡ truths j fs = parts-truth j fs (All-tail (λ (g : FormTree). truth_value a (simplified_form g) ≡ truth_value a g) f fs h) in
      ap (λ (z : Bool). meets j z (truths j (map simplified_form fs))) e ∙ ap (meets j (truth_value a f)) k

  -- an output gives the same term when places are left out, but for places
  given-bare : (o : OutTree) → bare (given a (bare_out o)) ≡ bare (given a o)
  given-bare = by_out_cases (λ o. bare (given a (bare_out o)) ≡ bare (given a o)) record {
    at_give = λ t. ap bare (ap (given a) (fold-Give bare_out_step t) ∙ fold-Give (given_step a) (bare t)) ∙ (bare-bare t ∙ sym (ap bare (fold-Give (given_step a) t)));
    at_if = λ f u v h k. ap bare (ap (given a) (fold-If bare_out_step f u v) ∙ (fold-If (given_step a) (bare_form f) (bare_out u) (bare_out v) ∙ ap (λ (z : Bool). cond z (given a (bare_out u)) (given a (bare_out v))) (truth-bare f))) ∙ (bare_arms (truth_value a f) (given a (bare_out u)) (given a (bare_out v)) (given a u) (given a v) h k ∙ sym (ap bare (fold-If (given_step a) f u v)));
  }

  pub given-same : (u v : OutTree) → same_out u v ≡ true → bare (given a u) ≡ bare (given a v)
  given-same u v e = sym (given-bare u) ∙ (ap (λ (z : OutTree). bare (given a z)) (same_out-to u v e) ∙ given-bare v)

  -- where both terms are one, so is the one that is chosen
  no_choice : (b : Bool) (s t : TermTree) → bare s ≡ bare t → bare s ≡ bare (cond b s t)
  no_choice true s t e = refl
  no_choice false s t e = e

  chosen_case : (f : FormTree) (u v o : OutTree) → Chosen f u v o → bare (given a o) ≡ bare (cond (truth_value a f) (given a u) (given a v))
  chosen_case f u v o (first e) = sym (ap (λ (z : Bool). bare (cond z (given a u) (given a v))) (ap (truth_value a) e ∙ fold-True (truth_value_step a)))
  chosen_case f u v o (second e) = sym (ap (λ (z : Bool). bare (cond z (given a u) (given a v))) (ap (truth_value a) e ∙ fold-False (truth_value_step a)))
  chosen_case f u v o (shape.one e) = no_choice (truth_value a f) (given a u) (given a v) (given-same u v e)
  chosen_case f u v o (shape.kept e) = ap bare (fold-If (given_step a) f u v)

  chosen-given : (f : FormTree) (u v : OutTree) → bare (given a (chosen f u v)) ≡ bare (cond (truth_value a f) (given a u) (given a v))
  chosen-given f u v = chosen_case f u v (chosen f u v) (chosen_is f u v)

  module _ (reflexive : IsReflexive a) where
    equated_case : (s t : TermTree) (g : FormTree) → Equated s t g → truth_value a g ≡ a.equality (bare s) (bare t)
    equated_case s t g (shape.one e) = fold-True (truth_value_step a) ∙ sym (ap (a.equality (bare s)) (sym (same_tree-to s t e)) ∙ reflexive (bare s))
    equated_case s t g (shape.kept e) = fold-Equal (truth_value_step a) s t

    -- a formula and the formula simplified are true together
    pub simplified_form-truth : (f : FormTree) → truth_value a (simplified_form f) ≡ truth_value a f
    simplified_form-truth = by_form_cases (λ f. truth_value a (simplified_form f) ≡ truth_value a f) record {
      at_true = ap (truth_value a) (fold-True simplified_form_step);
      at_false = ap (truth_value a) (fold-False simplified_form_step);
      at_atom = λ r args. ap (truth_value a) (fold-Atom simplified_form_step r args);
      at_equal = λ s t. ap (truth_value a) (fold-Equal simplified_form_step s t) ∙ (equated_case s t (equated s t) (equated_is s t) ∙ sym (fold-Equal (truth_value_step a) s t));
      at_not = λ x h. ap (truth_value a) (fold-Not simplified_form_step x) ∙ (negated-truth (simplified_form x) ∙ (ap not h ∙ sym (fold-Not (truth_value_step a) x)));
      at_chain = λ j all h. ap (truth_value a) (simplified_form-chain j all) ∙ (joined-truth j (map simplified_form all) ∙ (parts-truth j all h ∙ sym (truth-chain j all)));
      at_implies = λ x y h k. ap (truth_value a) (fold-Implies simplified_form_step x y) ∙ (implied-truth (simplified_form x) (simplified_form y) ∙ (ap (λ (z : Bool). not z || truth_value a (simplified_form y)) h ∙ (ap (λ (z : Bool). not (truth_value a x) || z) k ∙ sym (fold-Implies (truth_value_step a) x y))));
    }

    -- an output and the output simplified give the same term, but for places
    pub simplified_out-given : (o : OutTree) → bare (given a (simplified_out o)) ≡ bare (given a o)
    simplified_out-given = by_out_cases (λ o. bare (given a (simplified_out o)) ≡ bare (given a o)) record {
      at_give = λ t. ap (λ (z : OutTree). bare (given a z)) (fold-Give simplified_out_step t);
      at_if = λ f u v h k. ap (λ (z : OutTree). bare (given a z)) (fold-If simplified_out_step f u v) ∙ (chosen-given (simplified_form f) (simplified_out u) (simplified_out v) ∙ (ap (λ (z : Bool). bare (cond z (given a (simplified_out u)) (given a (simplified_out v)))) (simplified_form-truth f) ∙ (bare_arms (truth_value a f) (given a (simplified_out u)) (given a (simplified_out v)) (given a u) (given a v) h k ∙ sym (ap bare (fold-If (given_step a) f u v)))));
    }
