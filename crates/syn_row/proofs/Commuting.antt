-- Simplification and a change of terms that keeps equal terms equal and other terms apart: one before the other, or after it.
use Rattle.std.proofs.Common.{◌≡◌, ◌⊎◌, inl, inr, Bool, true, false, not, ◌||◌, cond, List, [], ◌∷◌, ◌++◌, All, map, filter, get_or, refl, sym, ◌∙◌, ap, subst}
use Rattle.std.specs.List.{flat_map, list_any}
use Rattle.std.proofs.lemmas.List.{map-append}
use Rattle.std.proofs.lemmas.List.Elements.{All-nil, All-cons, All-head, All-tail, All-append, All-map}
use Rattle.syn_term.specs.Same.{same_tree}
use Rattle.syn_term.specs.declared.sorts.SymId.{SymId}
use Rattle.syn_term.specs.Terms.{TermTree}
use Rattle.syn_form.specs.declared.trees.Form.{out-Form}
use Rattle.syn_form.specs.declared.trees.Form.TheOpen.{Form-F}
use Rattle.syn_form.specs.declared.trees.Form.TheVariants as form
use Rattle.syn_form.specs.declared.trees.Form.TheViews as view
use Rattle.syn_form.specs.declared.trees.Out.TheViews as out_view
use Rattle.syn_form.specs.Same.{same_form, same_out}
use Rattle.syn_form.specs.Simplification.{Junction, conjunction, disjunction, chain, neutral, deciding, opened, opened_layer, has_form, has_both, without_repeats, members_left, chain_of, joined, negated, negated_layer, implied, implied_layer, implied_open, equated, chosen, chosen_layer, chosen_open, simplified_form, simplified_form_step, simplified_out, simplified_out_step}
use Rattle.syn_form.specs.Trees.{FormTree, OutTree, form_terms, out_terms}
use Rattle.syn_form.proofs.Equations.{fold-True, fold-False, fold-Atom, fold-Equal, fold-Not, fold-Implies, fold-Give, fold-If, form_terms-True, form_terms-False, form_terms-Equal, form_terms-Not, form_terms-Implies, out_terms-If, out-True, out-False, out-Atom, out-Equal, out-Not, out-And, out-Or, out-Implies}
use Rattle.syn_form.proofs.Inductions.{by_form_cases, by_out_cases}
use Rattle.syn_form.proofs.Lists.{All-within, All-flat_map, Contains-filter}
use Rattle.syn_form.proofs.Owned.{All-left, All-right}
use Rattle.syn_form.proofs.SimplifiedTerms.{form_terms-chain, opened-terms, members_left-terms, simplified_form-chain, simplified_form-terms, simplified_out-terms}
use Rattle.syn_row.proofs.Changes.{Changes, OutChanges}

-- neither `true` nor `false`
abbrev Open : Form-F FormTree → Type 0
Open Form-F.True = ⊥
Open Form-F.False = ⊥
Open _ = Unit {0}

abbrev IsOpen : FormTree → Type 0
IsOpen f = Open (out-Form f)

abbrev Kind : FormTree → Type 0
Kind f = (f ≡ form.True) ⊎ ((f ≡ form.False) ⊎ IsOpen f)

out-chain-open : (j : Junction) (all : List FormTree) → IsOpen (chain j all)
out-chain-open conjunction all = subst Open (sym (out-And all)) tt
out-chain-open disjunction all = subst Open (sym (out-Or all)) tt

atom-open : (r : SymId) (args : List TermTree) → IsOpen (form.Atom r args)
atom-open r args = subst Open (sym (out-Atom r args)) tt

equal-open : (s t : TermTree) → IsOpen (form.Equal s t)
equal-open s t = subst Open (sym (out-Equal s t)) tt

not-open : (a : FormTree) → IsOpen (view.Not a)
not-open a = subst Open (sym (out-Not a)) tt

implies-open : (a b : FormTree) → IsOpen (view.Implies a b)
implies-open a b = subst Open (sym (out-Implies a b)) tt

kind_of : (f : FormTree) → Kind f
kind_of = by_form_cases Kind record {
  at_true = inl refl;
  at_false = inr (inl refl);
  at_atom = λ r args. inr (inr (atom-open r args));
  at_equal = λ s t. inr (inr (equal-open s t));
  at_not = λ a h. inr (inr (not-open a));
  at_chain = λ j all h. inr (inr (out-chain-open j all));
  at_implies = λ a b h k. inr (inr (implies-open a b));
}

-- what each rule gives at each kind
implied-true : (b : FormTree) → implied form.True b ≡ b
implied-true b = ap (λ (x : Form-F FormTree). implied_layer form.True b x (out-Form b)) out-True

implied-false : (b : FormTree) → implied form.False b ≡ form.True
implied-false b = ap (λ (x : Form-F FormTree). implied_layer form.False b x (out-Form b)) out-False

right_true_at : (a b : FormTree) (x : Form-F FormTree) → Open x → implied_layer a b x Form-F.True ≡ form.True
right_true_at a b Form-F.True h = absurd h
right_true_at a b Form-F.False h = absurd h
right_true_at a b x h = refl

right_false_at : (a b : FormTree) (x : Form-F FormTree) → Open x → implied_layer a b x Form-F.False ≡ negated a
right_false_at a b Form-F.True h = absurd h
right_false_at a b Form-F.False h = absurd h
right_false_at a b x h = refl

both_open_at : (a b : FormTree) (x y : Form-F FormTree) → Open x → Open y → implied_layer a b x y ≡ implied_open a b
both_open_at a b Form-F.True y h k = absurd h
both_open_at a b Form-F.False y h k = absurd h
both_open_at a b x Form-F.True h k = absurd k
both_open_at a b x Form-F.False h k = absurd k
both_open_at a b x y h k = refl

implied-right_true : (a : FormTree) → IsOpen a → implied a form.True ≡ form.True
implied-right_true a h = ap (implied_layer a form.True (out-Form a)) out-True ∙ right_true_at a form.True (out-Form a) h

implied-right_false : (a : FormTree) → IsOpen a → implied a form.False ≡ negated a
implied-right_false a h = ap (implied_layer a form.False (out-Form a)) out-False ∙ right_false_at a form.False (out-Form a) h

implied-open : (a b : FormTree) → IsOpen a → IsOpen b → implied a b ≡ implied_open a b
implied-open a b h k = both_open_at a b (out-Form a) (out-Form b) h k

chosen-true : (u v : OutTree) → chosen form.True u v ≡ u
chosen-true u v = ap (λ (x : Form-F FormTree). chosen_layer form.True x u v) out-True

chosen-false : (u v : OutTree) → chosen form.False u v ≡ v
chosen-false u v = ap (λ (x : Form-F FormTree). chosen_layer form.False x u v) out-False

chosen_open_at : (f : FormTree) (u v : OutTree) (x : Form-F FormTree) → Open x → chosen_layer f x u v ≡ chosen_open f u v
chosen_open_at f u v Form-F.True h = absurd h
chosen_open_at f u v Form-F.False h = absurd h
chosen_open_at f u v x h = refl

chosen-open : (f : FormTree) (u v : OutTree) → IsOpen f → chosen f u v ≡ chosen_open f u v
chosen-open f u v h = chosen_open_at f u v (out-Form f) h

negated-chain : (j : Junction) (all : List FormTree) → negated (chain j all) ≡ view.Not (chain j all)
negated-chain conjunction all = ap (negated_layer (view.And all)) (out-And all)
negated-chain disjunction all = ap (negated_layer (view.Or all)) (out-Or all)

opened-at : (j : Junction) (f : FormTree) → opened_layer j f (out-Form f) ≡ opened j f
opened-at j f = refl

opened-True : (j : Junction) → opened j form.True ≡ form.True ∷ []
opened-True conjunction = ap (opened_layer conjunction form.True) out-True
opened-True disjunction = ap (opened_layer disjunction form.True) out-True

opened-False : (j : Junction) → opened j form.False ≡ form.False ∷ []
opened-False conjunction = ap (opened_layer conjunction form.False) out-False
opened-False disjunction = ap (opened_layer disjunction form.False) out-False

opened-Atom : (j : Junction) (r : SymId) (args : List TermTree) → opened j (form.Atom r args) ≡ form.Atom r args ∷ []
opened-Atom conjunction r args = ap (opened_layer conjunction (form.Atom r args)) (out-Atom r args)
opened-Atom disjunction r args = ap (opened_layer disjunction (form.Atom r args)) (out-Atom r args)

opened-Equal : (j : Junction) (s t : TermTree) → opened j (form.Equal s t) ≡ form.Equal s t ∷ []
opened-Equal conjunction s t = ap (opened_layer conjunction (form.Equal s t)) (out-Equal s t)
opened-Equal disjunction s t = ap (opened_layer disjunction (form.Equal s t)) (out-Equal s t)

opened-Not : (j : Junction) (a : FormTree) → opened j (view.Not a) ≡ view.Not a ∷ []
opened-Not conjunction a = ap (opened_layer conjunction (view.Not a)) (out-Not a)
opened-Not disjunction a = ap (opened_layer disjunction (view.Not a)) (out-Not a)

opened-Implies : (j : Junction) (a b : FormTree) → opened j (view.Implies a b) ≡ view.Implies a b ∷ []
opened-Implies conjunction a b = ap (opened_layer conjunction (view.Implies a b)) (out-Implies a b)
opened-Implies disjunction a b = ap (opened_layer disjunction (view.Implies a b)) (out-Implies a b)

opened-And : (all : List FormTree) → opened conjunction (view.And all) ≡ all
opened-And all = ap (opened_layer conjunction (view.And all)) (out-And all)

opened-Or : (all : List FormTree) → opened disjunction (view.Or all) ≡ all
opened-Or all = ap (opened_layer disjunction (view.Or all)) (out-Or all)

opened-And-or : (all : List FormTree) → opened disjunction (view.And all) ≡ view.And all ∷ []
opened-And-or all = ap (opened_layer disjunction (view.And all)) (out-And all)

opened-Or-and : (all : List FormTree) → opened conjunction (view.Or all) ≡ view.Or all ∷ []
opened-Or-and all = ap (opened_layer conjunction (view.Or all)) (out-Or all)

flat_map_changed : {X : Type 0} (F : X → X) (p : X → List X) (xs : List X) → All (λ x. p (F x) ≡ map F (p x)) xs → flat_map p (map F xs) ≡ map F (flat_map p xs)
flat_map_changed F p [] h = refl
flat_map_changed {X} F p (x ∷ xs) h =
    ap (λ (z : List X). z ++ flat_map p (map F xs)) (All-head (λ (y : X). p (F y) ≡ map F (p y)) x xs h)
    ∙ (ap (λ (z : List X). map F (p x) ++ z) (flat_map_changed F p xs (All-tail (λ (y : X). p (F y) ≡ map F (p y)) x xs h)) ∙ sym (map-append F (p x) (flat_map p xs)))

module _ (F : FormTree → FormTree) (g : TermTree → TermTree) (c : Changes F g) where
  open_still : (f : FormTree) → IsOpen f → IsOpen (F f)
  open_still = by_form_cases (λ f. IsOpen f → IsOpen (F f)) record {
    at_true = λ h. absurd (subst Open out-True h);
    at_false = λ h. absurd (subst Open out-False h);
    at_atom = λ r args h. subst IsOpen (sym (c.at_atom r args)) (atom-open r (map g args));
    at_equal = λ s t h. subst IsOpen (sym (c.at_equal s t)) (equal-open (g s) (g t));
    at_not = λ a k h. subst IsOpen (sym (c.at_not a)) (not-open (F a));
    at_chain = λ j all k h. subst IsOpen (sym (c.at_chain j all)) (out-chain-open j (map F all));
    at_implies = λ a b k l h. subst IsOpen (sym (c.at_implies a b)) (implies-open (F a) (F b));
  }

  not_kept : (f h : FormTree) → F f ≡ h → negated f ≡ view.Not f → negated h ≡ view.Not h → negated (F f) ≡ F (negated f)
  not_kept f h is e k = ap negated is ∙ (k ∙ (ap (λ (z : FormTree). view.Not z) (sym is) ∙ (sym (c.at_not f) ∙ ap F (sym e))))

  pub negated_changed : (f : FormTree) → negated (F f) ≡ F (negated f)
  negated_changed = by_form_cases (λ f. negated (F f) ≡ F (negated f)) record {
    at_true = ap negated c.at_true ∙ (ap (negated_layer form.True) out-True ∙ (sym c.at_false ∙ ap F (sym (ap (negated_layer form.True) out-True))));
    at_false = ap negated c.at_false ∙ (ap (negated_layer form.False) out-False ∙ (sym c.at_true ∙ ap F (sym (ap (negated_layer form.False) out-False))));
    at_atom = λ r args. not_kept (form.Atom r args) (form.Atom r (map g args)) (c.at_atom r args) (ap (negated_layer (form.Atom r args)) (out-Atom r args)) (ap (negated_layer (form.Atom r (map g args))) (out-Atom r (map g args)));
    at_equal = λ s t. not_kept (form.Equal s t) (form.Equal (g s) (g t)) (c.at_equal s t) (ap (negated_layer (form.Equal s t)) (out-Equal s t)) (ap (negated_layer (form.Equal (g s) (g t))) (out-Equal (g s) (g t)));
    at_not = λ a h. ap negated (c.at_not a) ∙ (ap (negated_layer (view.Not (F a))) (out-Not (F a)) ∙ ap F (sym (ap (negated_layer (view.Not a)) (out-Not a))));
    at_chain = λ j all h. not_kept (chain j all) (chain j (map F all)) (c.at_chain j all) (negated-chain j all) (negated-chain j (map F all));
    at_implies = λ a b h k. not_kept (view.Implies a b) (view.Implies (F a) (F b)) (c.at_implies a b) (ap (negated_layer (view.Implies a b)) (out-Implies a b)) (ap (negated_layer (view.Implies (F a) (F b))) (out-Implies (F a) (F b)));
  }

  single : (j : Junction) (f h : FormTree) → F f ≡ h → opened j f ≡ f ∷ [] → opened j h ≡ h ∷ [] → opened j (F f) ≡ map F (opened j f)
  single j f h is e k = ap (opened j) is ∙ (k ∙ (ap (λ (z : FormTree). z ∷ []) (sym is) ∙ ap (map F) (sym e)))

  opened_chain : (j k : Junction) (all : List FormTree) → opened j (F (chain k all)) ≡ map F (opened j (chain k all))
  opened_chain conjunction conjunction all = ap (opened conjunction) (c.at_chain conjunction all) ∙ (opened-And (map F all) ∙ ap (map F) (sym (opened-And all)))
  opened_chain disjunction disjunction all = ap (opened disjunction) (c.at_chain disjunction all) ∙ (opened-Or (map F all) ∙ ap (map F) (sym (opened-Or all)))
  opened_chain conjunction disjunction all = single conjunction (view.Or all) (view.Or (map F all)) (c.at_chain disjunction all) (opened-Or-and all) (opened-Or-and (map F all))
  opened_chain disjunction conjunction all = single disjunction (view.And all) (view.And (map F all)) (c.at_chain conjunction all) (opened-And-or all) (opened-And-or (map F all))

  opened_changed : (j : Junction) (f : FormTree) → opened j (F f) ≡ map F (opened j f)
  opened_changed j = by_form_cases (λ f. opened j (F f) ≡ map F (opened j f)) record {
    at_true = single j form.True form.True c.at_true (opened-True j) (opened-True j);
    at_false = single j form.False form.False c.at_false (opened-False j) (opened-False j);
    at_atom = λ r args. single j (form.Atom r args) (form.Atom r (map g args)) (c.at_atom r args) (opened-Atom j r args) (opened-Atom j r (map g args));
    at_equal = λ s t. single j (form.Equal s t) (form.Equal (g s) (g t)) (c.at_equal s t) (opened-Equal j s t) (opened-Equal j (g s) (g t));
    at_not = λ a h. single j (view.Not a) (view.Not (F a)) (c.at_not a) (opened-Not j a) (opened-Not j (F a));
    at_chain = λ k all h. opened_chain j k all;
    at_implies = λ a b h k. single j (view.Implies a b) (view.Implies (F a) (F b)) (c.at_implies a b) (opened-Implies j a b) (opened-Implies j (F a) (F b));
  }

  neutral_changed : (j : Junction) → F (neutral j) ≡ neutral j
  neutral_changed conjunction = c.at_true
  neutral_changed disjunction = c.at_false

  deciding_changed : (j : Junction) → F (deciding j) ≡ deciding j
  deciding_changed conjunction = c.at_false
  deciding_changed disjunction = c.at_true

  chain_of_changed : (j : Junction) (fs : List FormTree) → chain_of j (map F fs) ≡ F (chain_of j fs)
  chain_of_changed j [] = sym (neutral_changed j)
  chain_of_changed j (f ∷ []) = refl
  chain_of_changed j (f ∷ h ∷ fs) = sym (c.at_chain j (f ∷ h ∷ fs))

  -- on formulas over terms that P holds of, where the change tells apart just what was apart
  module _ (P : TermTree → Type 0) (trees : (s t : TermTree) → P s → P t → same_tree (g s) (g t) ≡ same_tree s t) (forms : (f h : FormTree) → All P (form_terms f) → All P (form_terms h) → same_form (F f) (F h) ≡ same_form f h) where
    abbrev Over : FormTree → Type 0
    Over f = All P (form_terms f)

    over-none : (f : FormTree) → form_terms f ≡ [] → Over f
    over-none f e = subst (All P) (sym e) (All-nil P)

    over-neutral : (j : Junction) → Over (neutral j)
    over-neutral conjunction = over-none form.True form_terms-True
    over-neutral disjunction = over-none form.False form_terms-False

    over-deciding : (j : Junction) → Over (deciding j)
    over-deciding conjunction = over-none form.False form_terms-False
    over-deciding disjunction = over-none form.True form_terms-True

    over-not : (f : FormTree) → Over f → Over (view.Not f)
    over-not f h = subst (All P) (sym (form_terms-Not f)) h

    -- over its terms is each formula of a list just where the list is
    over_each : (fs : List FormTree) → All P (flat_map form_terms fs) → All Over fs
    over_each [] h = All-nil Over
    over_each (f ∷ fs) h = All-cons Over f fs (All-left P (form_terms f) (flat_map form_terms fs) h) (over_each fs (All-right P (form_terms f) (flat_map form_terms fs) h))

    over_all : (fs : List FormTree) → All Over fs → All P (flat_map form_terms fs)
    over_all fs h = All-flat_map P form_terms fs h

    over-opened : (j : Junction) (f : FormTree) → Over f → All Over (opened j f)
    over-opened j f h = over_each (opened j f) (subst (All P) (sym (opened-terms j f)) h)

    over-all_opened : (j : Junction) (fs : List FormTree) → All Over fs → All Over (flat_map (opened j) fs)
    over-all_opened j fs h = All-flat_map Over (opened j) fs (λ k d lt. over-opened j (get_or fs k d) (h k d lt))

    over-left : (j : Junction) (fs : List FormTree) → All Over fs → All Over (members_left j fs)
    over-left j fs h = over_each (members_left j fs) (All-within P (flat_map form_terms (members_left j fs)) (flat_map form_terms fs) (members_left-terms j fs) (over_all fs h))

    has_changed : (fs : List FormTree) (f : FormTree) → All Over fs → Over f → has_form (map F fs) (F f) ≡ has_form fs f
    has_changed [] f h k = refl
    has_changed (x ∷ xs) f h k =
        ap (λ (b : Bool). b || has_form (map F xs) (F f)) (forms x f (All-head Over x xs h) k)
        ∙ ap (λ (b : Bool). same_form x f || b) (has_changed xs f (All-tail Over x xs h) k)

    paired_changed : (fs xs : List FormTree) → All Over fs → All Over xs → list_any (λ f. has_form (map F fs) (view.Not f)) (map F xs) ≡ list_any (λ f. has_form fs (view.Not f)) xs
    paired_changed fs [] h k = refl
    paired_changed fs (x ∷ xs) h k =
        ap (λ (b : Bool). b || list_any (λ f. has_form (map F fs) (view.Not f)) (map F xs)) (ap (has_form (map F fs)) (sym (c.at_not x)) ∙ has_changed fs (view.Not x) h (over-not x (All-head Over x xs k)))
        ∙ ap (λ (b : Bool). has_form fs (view.Not x) || b) (paired_changed fs xs h (All-tail Over x xs k))

    counts_changed : (j : Junction) (f : FormTree) → Over f → same_form (F f) (neutral j) ≡ same_form f (neutral j)
    counts_changed j f h = ap (same_form (F f)) (sym (neutral_changed j)) ∙ forms f (neutral j) h (over-neutral j)

    counting_changed : (j : Junction) (fs : List FormTree) → All Over fs → filter (λ f. not (same_form f (neutral j))) (map F fs) ≡ map F (filter (λ f. not (same_form f (neutral j))) fs)
    counting_changed j [] h = refl
    counting_changed j (x ∷ xs) h =
        ap (λ (b : Bool). cond (not b) (F x ∷ filter (λ f. not (same_form f (neutral j))) (map F xs)) (filter (λ f. not (same_form f (neutral j))) (map F xs))) (counts_changed j x (All-head Over x xs h))
        ∙ go (not (same_form x (neutral j))) (counting_changed j xs (All-tail Over x xs h))
      where
        go : (b : Bool) → filter (λ f. not (same_form f (neutral j))) (map F xs) ≡ map F (filter (λ f. not (same_form f (neutral j))) xs) → cond b (F x ∷ filter (λ f. not (same_form f (neutral j))) (map F xs)) (filter (λ f. not (same_form f (neutral j))) (map F xs)) ≡ map F (cond b (x ∷ filter (λ f. not (same_form f (neutral j))) xs) (filter (λ f. not (same_form f (neutral j))) xs))
        go true e = ap (λ (z : List FormTree). F x ∷ z) e
        go false e = e

    kept_changed : (done : List FormTree) (f : FormTree) (b : Bool) → cond b (map F done) (map F done ++ F f ∷ []) ≡ map F (cond b done (done ++ f ∷ []))
    kept_changed done f true = refl
    kept_changed done f false = sym (map-append F done (f ∷ []))

    over-kept : (done : List FormTree) (f : FormTree) (b : Bool) → All Over done → Over f → All Over (cond b done (done ++ f ∷ []))
    over-kept done f true h k = h
    over-kept done f false h k = All-append Over done (f ∷ []) h (All-cons Over f [] k (All-nil Over))

    repeats_changed : (done fs : List FormTree) → All Over done → All Over fs → without_repeats (map F done) (map F fs) ≡ map F (without_repeats done fs)
    repeats_changed done [] h k = refl
    repeats_changed done (f ∷ fs) h k =
        ap (λ (b : Bool). without_repeats (cond b (map F done) (map F done ++ F f ∷ [])) (map F fs)) (has_changed done f h (All-head Over f fs k))
        ∙ (ap (λ (z : List FormTree). without_repeats z (map F fs)) (kept_changed done f (has_form done f))
        ∙ repeats_changed (cond (has_form done f) done (done ++ f ∷ [])) fs (over-kept done f (has_form done f) h (All-head Over f fs k)) (All-tail Over f fs k))

    over-counting : (j : Junction) (fs : List FormTree) → All Over fs → All Over (filter (λ f. not (same_form f (neutral j))) fs)
    over-counting j fs h = All-within Over (filter (λ f. not (same_form f (neutral j))) fs) fs (Contains-filter (λ f. not (same_form f (neutral j))) fs) h

    left_changed : (j : Junction) (fs : List FormTree) → All Over fs → members_left j (map F fs) ≡ map F (members_left j fs)
    left_changed j fs h =
        ap (λ (z : List FormTree). without_repeats [] (filter (λ f. not (same_form f (neutral j))) z)) (flat_map_changed F (opened j) fs (λ k d lt. opened_changed j (get_or fs k d)))
        ∙ (ap (without_repeats []) (counting_changed j (flat_map (opened j) fs) (over-all_opened j fs h))
        ∙ repeats_changed [] (filter (λ f. not (same_form f (neutral j))) (flat_map (opened j) fs)) (All-nil Over) (over-counting j (flat_map (opened j) fs) (over-all_opened j fs h)))

    end_changed : (j : Junction) (m : List FormTree) (b : Bool) → cond b (deciding j) (chain_of j (map F m)) ≡ F (cond b (deciding j) (chain_of j m))
    end_changed j m true = sym (deciding_changed j)
    end_changed j m false = chain_of_changed j m

    joined_changed : (j : Junction) (fs : List FormTree) → All Over fs → joined j (map F fs) ≡ F (joined j fs)
    joined_changed j fs h =
        let m = members_left j fs in
        let k : All Over m = over-left j fs h in
        ap (λ (z : List FormTree). cond (has_form z (deciding j) || has_both z) (deciding j) (chain_of j z)) (left_changed j fs h)
        ∙ (ap (λ (b : Bool). cond (b || has_both (map F m)) (deciding j) (chain_of j (map F m))) (ap (has_form (map F m)) (sym (deciding_changed j)) ∙ has_changed m (deciding j) k (over-deciding j))
        ∙ (ap (λ (b : Bool). cond (has_form m (deciding j) || b) (deciding j) (chain_of j (map F m))) (paired_changed m m k k)
        ∙ end_changed j m (has_form m (deciding j) || has_both m)))

    equated_end : (s t : TermTree) (b : Bool) → cond b form.True (form.Equal (g s) (g t)) ≡ F (cond b form.True (form.Equal s t))
    equated_end s t true = sym c.at_true
    equated_end s t false = sym (c.at_equal s t)

    equated_changed : (s t : TermTree) → P s → P t → equated (g s) (g t) ≡ F (equated s t)
    equated_changed s t h k = ap (λ (b : Bool). cond b form.True (form.Equal (g s) (g t))) (trees s t h k) ∙ equated_end s t (same_tree s t)

    implied_end : (a b : FormTree) (t : Bool) → cond t form.True (view.Implies (F a) (F b)) ≡ F (cond t form.True (view.Implies a b))
    implied_end a b true = sym c.at_true
    implied_end a b false = sym (c.at_implies a b)

    implied_by_right : (a b : FormTree) → IsOpen a → Over a → Over b → Kind b → implied (F a) (F b) ≡ F (implied a b)
    implied_by_right a b o h k (inl e) =
        ap (λ (z : FormTree). implied (F a) (F z)) e ∙ (ap (implied (F a)) c.at_true ∙ (implied-right_true (F a) (open_still a o)
        ∙ (sym c.at_true ∙ ap F (sym (ap (implied a) e ∙ implied-right_true a o)))))
    implied_by_right a b o h k (inr (inl e)) =
        ap (λ (z : FormTree). implied (F a) (F z)) e ∙ (ap (implied (F a)) c.at_false ∙ (implied-right_false (F a) (open_still a o)
        ∙ (negated_changed a ∙ ap F (sym (ap (implied a) e ∙ implied-right_false a o)))))
    implied_by_right a b o h k (inr (inr p)) =
        implied-open (F a) (F b) (open_still a o) (open_still b p)
        ∙ (ap (λ (t : Bool). cond t form.True (view.Implies (F a) (F b))) (forms a b h k)
        ∙ (implied_end a b (same_form a b) ∙ ap F (sym (implied-open a b o p))))

    implied_by_left : (a b : FormTree) → Over a → Over b → Kind a → implied (F a) (F b) ≡ F (implied a b)
    implied_by_left a b h k (inl e) =
        ap (λ (z : FormTree). implied (F z) (F b)) e ∙ (ap (λ (z : FormTree). implied z (F b)) c.at_true ∙ (implied-true (F b)
        ∙ ap F (sym (ap (λ (z : FormTree). implied z b) e ∙ implied-true b))))
    implied_by_left a b h k (inr (inl e)) =
        ap (λ (z : FormTree). implied (F z) (F b)) e ∙ (ap (λ (z : FormTree). implied z (F b)) c.at_false ∙ (implied-false (F b)
        ∙ (sym c.at_true ∙ ap F (sym (ap (λ (z : FormTree). implied z b) e ∙ implied-false b)))))
    implied_by_left a b h k (inr (inr o)) = implied_by_right a b o h k (kind_of b)

    implied_changed : (a b : FormTree) → Over a → Over b → implied (F a) (F b) ≡ F (implied a b)
    implied_changed a b h k = implied_by_left a b h k (kind_of a)

    over-simplified : (f : FormTree) → Over f → Over (simplified_form f)
    over-simplified f h = All-within P (form_terms (simplified_form f)) (form_terms f) (simplified_form-terms f) h

    abbrev Commutes : FormTree → Type 0
    Commutes f = Over f → simplified_form (F f) ≡ F (simplified_form f)

    members_commute : (all : List FormTree) → All Commutes all → All Over all → map simplified_form (map F all) ≡ map F (map simplified_form all)
    members_commute [] h k = refl
    members_commute (f ∷ fs) h k =
        ap (λ (z : FormTree). z ∷ map simplified_form (map F fs)) (All-head Commutes f fs h (All-head Over f fs k))
        ∙ ap (λ (z : List FormTree). F (simplified_form f) ∷ z) (members_commute fs (All-tail Commutes f fs h) (All-tail Over f fs k))

    -- a formula simplified once its terms are changed, or changed once it is simplified
    pub simplified_changed : (f : FormTree) → All P (form_terms f) → simplified_form (F f) ≡ F (simplified_form f)
    simplified_changed = by_form_cases Commutes record {
      at_true = λ h. ap simplified_form c.at_true ∙ (fold-True simplified_form_step ∙ (sym c.at_true ∙ ap F (sym (fold-True simplified_form_step))));
      at_false = λ h. ap simplified_form c.at_false ∙ (fold-False simplified_form_step ∙ (sym c.at_false ∙ ap F (sym (fold-False simplified_form_step))));
      at_atom = λ r args h. ap simplified_form (c.at_atom r args) ∙ (fold-Atom simplified_form_step r (map g args) ∙ (sym (c.at_atom r args) ∙ ap F (sym (fold-Atom simplified_form_step r args))));
      at_equal = λ s t h.
          let k = subst (All P) (form_terms-Equal s t) h in
          ap simplified_form (c.at_equal s t) ∙ (fold-Equal simplified_form_step (g s) (g t)
          ∙ (equated_changed s t (All-head P s (t ∷ []) k) (All-head P t [] (All-tail P s (t ∷ []) k)) ∙ ap F (sym (fold-Equal simplified_form_step s t))));
      at_not = λ a same h.
          ap simplified_form (c.at_not a) ∙ (fold-Not simplified_form_step (F a)
          ∙ (ap negated (same (subst (All P) (form_terms-Not a) h)) ∙ (negated_changed (simplified_form a) ∙ ap F (sym (fold-Not simplified_form_step a)))));
      at_chain = λ j all held h.
          let k : All Over all = over_each all (subst (All P) (form_terms-chain j all) h) in
          ap simplified_form (c.at_chain j all) ∙ (simplified_form-chain j (map F all)
          ∙ (ap (joined j) (members_commute all held k)
          ∙ (joined_changed j (map simplified_form all) (All-map Over simplified_form all (λ i d lt. over-simplified (get_or all i d) (k i d lt))) ∙ ap F (sym (simplified_form-chain j all)))));
      at_implies = λ a b first second h.
          let k = subst (All P) (form_terms-Implies a b) h in
          let l : Over a = All-left P (form_terms a) (form_terms b) k in
          let r : Over b = All-right P (form_terms a) (form_terms b) k in
          ap simplified_form (c.at_implies a b) ∙ (fold-Implies simplified_form_step (F a) (F b)
          ∙ (ap (λ (z : FormTree). implied z (simplified_form (F b))) (first l)
          ∙ (ap (implied (F (simplified_form a))) (second r)
          ∙ (implied_changed (simplified_form a) (simplified_form b) (over-simplified a l) (over-simplified b r) ∙ ap F (sym (fold-Implies simplified_form_step a b))))));
    }

    module _ (Q : OutTree → OutTree) (q : OutChanges Q F g) (outs : (o p : OutTree) → All P (out_terms o) → All P (out_terms p) → same_out (Q o) (Q p) ≡ same_out o p) where
      abbrev OverOut : OutTree → Type 0
      OverOut o = All P (out_terms o)

      chosen_end : (f : FormTree) (u v : OutTree) (t : Bool) → cond t (Q u) (out_view.If (F f) (Q u) (Q v)) ≡ Q (cond t u (out_view.If f u v))
      chosen_end f u v true = refl
      chosen_end f u v false = sym (q.at_if f u v)

      chosen_by_test : (f : FormTree) (u v : OutTree) → OverOut u → OverOut v → Kind f → chosen (F f) (Q u) (Q v) ≡ Q (chosen f u v)
      chosen_by_test f u v h k (inl e) =
          ap (λ (z : FormTree). chosen (F z) (Q u) (Q v)) e ∙ (ap (λ (z : FormTree). chosen z (Q u) (Q v)) c.at_true ∙ (chosen-true (Q u) (Q v)
          ∙ ap Q (sym (ap (λ (z : FormTree). chosen z u v) e ∙ chosen-true u v))))
      chosen_by_test f u v h k (inr (inl e)) =
          ap (λ (z : FormTree). chosen (F z) (Q u) (Q v)) e ∙ (ap (λ (z : FormTree). chosen z (Q u) (Q v)) c.at_false ∙ (chosen-false (Q u) (Q v)
          ∙ ap Q (sym (ap (λ (z : FormTree). chosen z u v) e ∙ chosen-false u v))))
      chosen_by_test f u v h k (inr (inr o)) =
          chosen-open (F f) (Q u) (Q v) (open_still f o)
          ∙ (ap (λ (t : Bool). cond t (Q u) (out_view.If (F f) (Q u) (Q v))) (outs u v h k)
          ∙ (chosen_end f u v (same_out u v) ∙ ap Q (sym (chosen-open f u v o))))

      over-simplified_out : (o : OutTree) → OverOut o → OverOut (simplified_out o)
      over-simplified_out o h = All-within P (out_terms (simplified_out o)) (out_terms o) (simplified_out-terms o) h

      -- the same for outputs
      pub simplified_out_changed : (o : OutTree) → All P (out_terms o) → simplified_out (Q o) ≡ Q (simplified_out o)
      simplified_out_changed = by_out_cases (λ o. OverOut o → simplified_out (Q o) ≡ Q (simplified_out o)) record {
        at_give = λ t h. ap simplified_out (q.at_give t) ∙ (fold-Give simplified_out_step (g t) ∙ (sym (q.at_give t) ∙ ap Q (sym (fold-Give simplified_out_step t))));
        at_if = λ f u v first second h.
            let k = subst (All P) (out_terms-If f u v) h in
            let arms = All-right P (form_terms f) (out_terms u ++ out_terms v) k in
            let x : OverOut u = All-left P (out_terms u) (out_terms v) arms in
            let y : OverOut v = All-right P (out_terms u) (out_terms v) arms in
            ap simplified_out (q.at_if f u v) ∙ (fold-If simplified_out_step (F f) (Q u) (Q v)
            ∙ (ap (λ (z : FormTree). chosen z (simplified_out (Q u)) (simplified_out (Q v))) (simplified_changed f (All-left P (form_terms f) (out_terms u ++ out_terms v) k))
            ∙ (ap (λ (z : OutTree). chosen (F (simplified_form f)) z (simplified_out (Q v))) (first x)
            ∙ (ap (chosen (F (simplified_form f)) (Q (simplified_out u))) (second y)
            ∙ (chosen_by_test (simplified_form f) (simplified_out u) (simplified_out v) (over-simplified_out u x) (over-simplified_out v y) (kind_of (simplified_form f)) ∙ ap Q (sym (fold-If simplified_out_step f u v)))))));
      }
