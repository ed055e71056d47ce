-- Simplification makes no term and no variable: each one that it leaves was there before.
use Rattle.std.proofs.Common.{◌≡◌, ◌⊎◌, Bool, true, false, List, [], ◌∷◌, ◌++◌, Contains, All, map, not, cond, filter, refl, sym, ◌∙◌, ap, append_assoc, append-nil, get_or}
use Rattle.std.specs.List.{flat_map}
use Rattle.std.proofs.lemmas.List.Concat.{flat_map-append}
use Rattle.std.proofs.lemmas.List.Elements.{Contains-append_left, Contains-append_right, Contains-append_cases, All-head, All-tail, All-contains, Contains-get_or}
use mathlib.Core.Logic.{inl, inr}
use Rattle.syn_term.specs.declared.sorts.Var.{Var}
use Rattle.syn_term.specs.Bank.{Kept, Belongs}
use Rattle.syn_term.specs.Terms.{TermTree}
use Rattle.syn_form.specs.declared.trees.Form.TheVariants as form
use Rattle.syn_form.specs.declared.trees.Form.TheViews as view
use Rattle.syn_form.specs.declared.trees.Out.TheVariants as out
use Rattle.syn_form.specs.declared.trees.Out.TheViews as out_view
use Rattle.syn_form.specs.Trees.{FormTree, OutTree, form_terms, form_terms_step, form_vars, out_terms, out_terms_step, out_vars, term_vars}
use Rattle.syn_form.specs.Same.{same_form, OfOneBank, OfOneBank-from, OfOneBank-to}
use Rattle.syn_form.specs.Simplification.{Junction, conjunction, disjunction, chain, neutral, deciding, opened, has_form, without_repeats, members_left, chain_of, joined, negated, implied, equated, chosen, simplified_form, simplified_form_step, simplified_out, simplified_out_step}
use Rattle.syn_form.proofs.Equations.{fold-True, fold-False, fold-Atom, fold-Equal, fold-Not, fold-And, fold-Or, fold-Implies, fold-Give, fold-If}
use Rattle.syn_form.proofs.Inductions.{by_form_cases, by_out_cases}
use Rattle.syn_form.proofs.Lists.{none_in_nil, Contains-append_both, Contains-tail, Contains-along, flat_map_within, all_of-map, Contains-filter}
use Rattle.syn_form.proofs.Shapes.{Negated, of_true, of_false, of_not, Opened, a_chain, single, Implied, left_true, left_false, right_true, right_false, Equated, Chosen, first, second, Joined, by_member, by_pair, open_still, negated_is, opened_is, implied_is, equated_is, chosen_is, joined_is}
use Rattle.syn_form.proofs.Shapes as shape

-- a list of terms that has no others than another list
abbrev pub Among : List TermTree → List TermTree → Type 0
Among xs ys = (t : TermTree) → Contains xs t → Contains ys t

-- terms are of one bank where they are among terms of one bank
pub OfOneBank-among : (xs ys : List TermTree) → Among xs ys → OfOneBank ys → OfOneBank xs
OfOneBank-among xs ys sub one = within (OfOneBank-to ys one)
  where
    within : (b : Kept) × All (Belongs b) ys → OfOneBank xs
    within p = OfOneBank-from p.0 xs (λ k d lt. All-contains (Belongs p.0) ys (get_or xs k d) p.1 (sub (get_or xs k d) (Contains-get_or xs k d lt)))

pub form_terms-chain : (j : Junction) (all : List FormTree) → form_terms (chain j all) ≡ flat_map form_terms all
form_terms-chain conjunction all = fold-And form_terms_step all ∙ all_of-map form_terms all
form_terms-chain disjunction all = fold-Or form_terms_step all ∙ all_of-map form_terms all

form_terms-neutral : (j : Junction) → form_terms (neutral j) ≡ []
form_terms-neutral conjunction = fold-True form_terms_step
form_terms-neutral disjunction = fold-False form_terms_step

form_terms-deciding : (j : Junction) → form_terms (deciding j) ≡ []
form_terms-deciding conjunction = fold-False form_terms_step
form_terms-deciding disjunction = fold-True form_terms_step

-- nothing stands in a formula without terms
pub no_terms : (f : FormTree) (ts : List TermTree) → form_terms f ≡ [] → Among (form_terms f) ts
no_terms f ts e t c = absurd (none_in_nil t (Contains-along (form_terms f) [] t e c))

opened_case : (j : Junction) (f : FormTree) (gs : List FormTree) → Opened j f gs → flat_map form_terms gs ≡ form_terms f
opened_case j f gs (a_chain all e) = sym (ap form_terms e ∙ form_terms-chain j all)
opened_case j f gs (single e) = append-nil (form_terms f)

-- a member, opened, has the terms that it had
pub opened-terms : (j : Junction) (f : FormTree) → flat_map form_terms (opened j f) ≡ form_terms f
opened-terms j f = opened_case j f (opened j f) (opened_is j f)

pub all_opened-terms : (j : Junction) (fs : List FormTree) → flat_map form_terms (flat_map (opened j) fs) ≡ flat_map form_terms fs
all_opened-terms j [] = refl
all_opened-terms j (f ∷ fs) = flat_map-append form_terms (opened j f) (flat_map (opened j) fs) ∙ (ap (λ (z : List TermTree). z ++ flat_map form_terms (flat_map (opened j) fs)) (opened-terms j f) ∙ ap (λ (z : List TermTree). form_terms f ++ z) (all_opened-terms j fs))

-- what is left without repeats was there before
pub Contains-without_repeats : (done fs : List FormTree) (f : FormTree) → Contains (without_repeats done fs) f → Contains (done ++ fs) f
Contains-without_repeats done [] f c = Contains-append_left done [] f c
Contains-without_repeats done (g ∷ gs) f c = go (has_form done g) (Contains-without_repeats (cond (has_form done g) done (done ++ g ∷ [])) gs f c)
  where
    go : (b : Bool) → Contains (cond b done (done ++ g ∷ []) ++ gs) f → Contains (done ++ g ∷ gs) f
    go true h = more (Contains-append_cases done gs f h)
      where
        more : Contains done f ⊎ Contains gs f → Contains (done ++ g ∷ gs) f
        more (inl k) = Contains-append_left done (g ∷ gs) f k
        more (inr k) = Contains-append_right done (g ∷ gs) f (Contains-tail g gs f k)
    go false h = Contains-along ((done ++ g ∷ []) ++ gs) (done ++ g ∷ gs) f (append_assoc done (g ∷ []) gs) h

-- each member that is left is one of the opened members
pub Contains-members_left : (j : Junction) (fs : List FormTree) (f : FormTree) → Contains (members_left j fs) f → Contains (flat_map (opened j) fs) f
Contains-members_left j fs f c = Contains-filter (λ g. not (same_form g (neutral j))) (flat_map (opened j) fs) f (Contains-without_repeats [] (filter (λ g. not (same_form g (neutral j))) (flat_map (opened j) fs)) f c)

pub members_left-terms : (j : Junction) (fs : List FormTree) → Among (flat_map form_terms (members_left j fs)) (flat_map form_terms fs)
members_left-terms j fs t c = Contains-along (flat_map form_terms (flat_map (opened j) fs)) (flat_map form_terms fs) t (all_opened-terms j fs) (flat_map_within form_terms (members_left j fs) (flat_map (opened j) fs) (Contains-members_left j fs) t c)

pub chain_of-terms : (j : Junction) (fs : List FormTree) → form_terms (chain_of j fs) ≡ flat_map form_terms fs
chain_of-terms j [] = form_terms-neutral j
chain_of-terms j (f ∷ []) = sym (append-nil (form_terms f))
chain_of-terms j (f ∷ g ∷ fs) = form_terms-chain j (f ∷ g ∷ fs)

joined_case : (j : Junction) (fs : List FormTree) (g : FormTree) → Joined j fs g → Among (form_terms g) (flat_map form_terms fs)
joined_case j fs g (by_member e) = no_terms (deciding j) (flat_map form_terms fs) (form_terms-deciding j)
joined_case j fs g (by_pair e) = no_terms (deciding j) (flat_map form_terms fs) (form_terms-deciding j)
joined_case j fs g (open_still d e) = λ t c. members_left-terms j fs t (Contains-along (form_terms (chain_of j (members_left j fs))) (flat_map form_terms (members_left j fs)) t (chain_of-terms j (members_left j fs)) c)

pub joined-terms : (j : Junction) (fs : List FormTree) → Among (form_terms (joined j fs)) (flat_map form_terms fs)
joined-terms j fs = joined_case j fs (joined j fs) (joined_is j fs)

negated_case : (f g : FormTree) → Negated f g → Among (form_terms g) (form_terms f)
negated_case f g (of_true e) = no_terms form.False (form_terms f) (fold-False form_terms_step)
negated_case f g (of_false e) = no_terms form.True (form_terms f) (fold-True form_terms_step)
negated_case f g (of_not a e) = λ t c. Contains-along (form_terms a) (form_terms f) t (sym (ap form_terms e ∙ fold-Not form_terms_step a)) c
negated_case f g (shape.kept e) = λ t c. Contains-along (form_terms (view.Not f)) (form_terms f) t (fold-Not form_terms_step f) c

pub negated-terms : (f : FormTree) → Among (form_terms (negated f)) (form_terms f)
negated-terms f = negated_case f (negated f) (negated_is f)

implied_case : (a b g : FormTree) → Implied a b g → Among (form_terms g) (form_terms a ++ form_terms b)
implied_case a b g (left_true e) = Contains-append_right (form_terms a) (form_terms b)
implied_case a b g (left_false e) = no_terms form.True (form_terms a ++ form_terms b) (fold-True form_terms_step)
implied_case a b g (right_true e) = no_terms form.True (form_terms a ++ form_terms b) (fold-True form_terms_step)
implied_case a b g (right_false e) = λ t c. Contains-append_left (form_terms a) (form_terms b) t (negated-terms a t c)
implied_case a b g (shape.one e) = no_terms form.True (form_terms a ++ form_terms b) (fold-True form_terms_step)
implied_case a b g (shape.kept e) = λ t c. Contains-along (form_terms (view.Implies a b)) (form_terms a ++ form_terms b) t (fold-Implies form_terms_step a b) c

pub implied-terms : (a b : FormTree) → Among (form_terms (implied a b)) (form_terms a ++ form_terms b)
implied-terms a b = implied_case a b (implied a b) (implied_is a b)

equated_case : (s t : TermTree) (g : FormTree) → Equated s t g → Among (form_terms g) (s ∷ t ∷ [])
equated_case s t g (shape.one e) = no_terms form.True (s ∷ t ∷ []) (fold-True form_terms_step)
equated_case s t g (shape.kept e) = λ u c. Contains-along (form_terms (form.Equal s t)) (s ∷ t ∷ []) u (fold-Equal form_terms_step s t) c

pub equated-terms : (s t : TermTree) → Among (form_terms (equated s t)) (s ∷ t ∷ [])
equated-terms s t = equated_case s t (equated s t) (equated_is s t)

-- two lists in a row, each among another
pub Among-append : (xs ys vs ws : List TermTree) → Among xs vs → Among ys ws → Among (xs ++ ys) (vs ++ ws)
Among-append xs ys vs ws a b = Contains-append_both xs ys vs ws a b

pub Among-same : (xs ys : List TermTree) → xs ≡ ys → Among xs ys
Among-same xs ys e t c = Contains-along xs ys t e c

pub Among-trans : (xs ys zs : List TermTree) → Among xs ys → Among ys zs → Among xs zs
Among-trans xs ys zs a b t c = b t (a t c)

chosen_case : (f : FormTree) (u v o : OutTree) → Chosen f u v o → Among (out_terms o) (form_terms f ++ (out_terms u ++ out_terms v))
chosen_case f u v o (first e) = λ t c. Contains-append_right (form_terms f) (out_terms u ++ out_terms v) t (Contains-append_left (out_terms u) (out_terms v) t c)
chosen_case f u v o (second e) = λ t c. Contains-append_right (form_terms f) (out_terms u ++ out_terms v) t (Contains-append_right (out_terms u) (out_terms v) t c)
chosen_case f u v o (shape.one e) = λ t c. Contains-append_right (form_terms f) (out_terms u ++ out_terms v) t (Contains-append_left (out_terms u) (out_terms v) t c)
chosen_case f u v o (shape.kept e) = Among-same (out_terms (out_view.If f u v)) (form_terms f ++ (out_terms u ++ out_terms v)) (fold-If out_terms_step f u v)

pub chosen-terms : (f : FormTree) (u v : OutTree) → Among (out_terms (chosen f u v)) (form_terms f ++ (out_terms u ++ out_terms v))
chosen-terms f u v = chosen_case f u v (chosen f u v) (chosen_is f u v)

-- what a simplified formula is, at each case
pub simplified_form-chain : (j : Junction) (all : List FormTree) → simplified_form (chain j all) ≡ joined j (map simplified_form all)
simplified_form-chain conjunction all = fold-And simplified_form_step all
simplified_form-chain disjunction all = fold-Or simplified_form_step all

abbrev NoNewTerm : FormTree → Type 0
NoNewTerm f = Among (form_terms (simplified_form f)) (form_terms f)

-- the terms of the members, each simplified
pub parts-terms : (fs : List FormTree) → All NoNewTerm fs → Among (flat_map form_terms (map simplified_form fs)) (flat_map form_terms fs)
parts-terms [] h = λ t c. c
parts-terms (f ∷ fs) h = Among-append (form_terms (simplified_form f)) (flat_map form_terms (map simplified_form fs)) (form_terms f) (flat_map form_terms fs) (All-head NoNewTerm f fs h) (parts-terms fs (All-tail NoNewTerm f fs h))

module _ (f g : FormTree) (xs ys : List TermTree) where
  -- from what the simplified formula and the formula are
  across : simplified_form f ≡ g → form_terms f ≡ ys → Among (form_terms g) xs → Among xs ys → NoNewTerm f
  across is terms a b t c = Contains-along ys (form_terms f) t (sym terms) (b t (a t (Contains-along (form_terms (simplified_form f)) (form_terms g) t (ap form_terms is) c)))

-- a simplified formula has no term that the formula doesn't have
pub simplified_form-terms : (f : FormTree) (t : TermTree) → Contains (form_terms (simplified_form f)) t → Contains (form_terms f) t
simplified_form-terms = by_form_cases NoNewTerm record {
  at_true = Among-same (form_terms (simplified_form form.True)) (form_terms form.True) (ap form_terms (fold-True simplified_form_step));
  at_false = Among-same (form_terms (simplified_form form.False)) (form_terms form.False) (ap form_terms (fold-False simplified_form_step));
  at_atom = λ r args. Among-same (form_terms (simplified_form (form.Atom r args))) (form_terms (form.Atom r args)) (ap form_terms (fold-Atom simplified_form_step r args));
  at_equal = λ s t. across (form.Equal s t) (equated s t) (s ∷ t ∷ []) (s ∷ t ∷ []) (fold-Equal simplified_form_step s t) (fold-Equal form_terms_step s t) (equated-terms s t) (λ u c. c);
  at_not = λ a h. across (view.Not a) (negated (simplified_form a)) (form_terms (simplified_form a)) (form_terms a) (fold-Not simplified_form_step a) (fold-Not form_terms_step a) (negated-terms (simplified_form a)) h;
  at_chain = λ j all h. across (chain j all) (joined j (map simplified_form all)) (flat_map form_terms (map simplified_form all)) (flat_map form_terms all) (simplified_form-chain j all) (form_terms-chain j all) (joined-terms j (map simplified_form all)) (parts-terms all h);
  at_implies = λ a b h k. across (view.Implies a b) (implied (simplified_form a) (simplified_form b)) (form_terms (simplified_form a) ++ form_terms (simplified_form b)) (form_terms a ++ form_terms b) (fold-Implies simplified_form_step a b) (fold-Implies form_terms_step a b) (implied-terms (simplified_form a) (simplified_form b)) (Among-append (form_terms (simplified_form a)) (form_terms (simplified_form b)) (form_terms a) (form_terms b) h k);
}

-- nor a variable that it doesn't have
pub simplified_form-vars : (f : FormTree) (v : Var) → Contains (form_vars (simplified_form f)) v → Contains (form_vars f) v
simplified_form-vars f v c = flat_map_within term_vars (form_terms (simplified_form f)) (form_terms f) (simplified_form-terms f) v c

abbrev NoNewOutTerm : OutTree → Type 0
NoNewOutTerm o = Among (out_terms (simplified_out o)) (out_terms o)

module _ (o p : OutTree) (xs ys : List TermTree) where
  across_out : simplified_out o ≡ p → out_terms o ≡ ys → Among (out_terms p) xs → Among xs ys → NoNewOutTerm o
  across_out is terms a b t c = Contains-along ys (out_terms o) t (sym terms) (b t (a t (Contains-along (out_terms (simplified_out o)) (out_terms p) t (ap out_terms is) c)))

pub simplified_out-terms : (o : OutTree) (t : TermTree) → Contains (out_terms (simplified_out o)) t → Contains (out_terms o) t
simplified_out-terms = by_out_cases NoNewOutTerm record {
  at_give = λ t. Among-same (out_terms (simplified_out (out.Give t))) (out_terms (out.Give t)) (ap out_terms (fold-Give simplified_out_step t));
  at_if = λ f u v h k. across_out (out_view.If f u v) (chosen (simplified_form f) (simplified_out u) (simplified_out v)) (form_terms (simplified_form f) ++ (out_terms (simplified_out u) ++ out_terms (simplified_out v))) (form_terms f ++ (out_terms u ++ out_terms v)) (fold-If simplified_out_step f u v) (fold-If out_terms_step f u v) (chosen-terms (simplified_form f) (simplified_out u) (simplified_out v)) (Among-append (form_terms (simplified_form f)) (out_terms (simplified_out u) ++ out_terms (simplified_out v)) (form_terms f) (out_terms u ++ out_terms v) (simplified_form-terms f) (Among-append (out_terms (simplified_out u)) (out_terms (simplified_out v)) (out_terms u) (out_terms v) h k));
}

pub simplified_out-vars : (o : OutTree) (v : Var) → Contains (out_vars (simplified_out o)) v → Contains (out_vars o) v
simplified_out-vars o v c = flat_map_within term_vars (out_terms (simplified_out o)) (out_terms o) (simplified_out-terms o) v c
