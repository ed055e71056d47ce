-- The tests and steps of the code of chains, and what the rules say.
use Rattle.std.proofs.Common.{◌≡◌, ℕ, ◌+◌, ◌<◌, ◌⊎◌, Bool, true, false, cond, IsTrue, List, [], ◌∷◌, ◌++◌, Contains, take, drop, length, get_or, filter, refl, sym, ◌∙◌, ap, subst, arith, append-nil}
use Rattle.std.specs.List.{flat_map}
use Rattle.std.proofs.lemmas.List.{take_more, take-append-drop}
use Rattle.std.proofs.lemmas.List.Concat.{flat_map-append}
use Rattle.std.proofs.lemmas.List.Elements.{Contains-append_left, Contains-append_right, Contains-append_cases, filter-append}
use mathlib.Core.Logic.{inl, inr}
use denote.Hole.Carrier.{roll}
use Rattle.syn_term.specs.Terms.{TermTree, bare}
use Rattle.syn_term.specs.Same.{same_tree}
use Rattle.syn_term.proofs.Same.{same_tree-to, same_tree-from}
use Rattle.syn_form.specs.declared.trees.Form.{out-Form, roll-Form, roll-out-Form}
use Rattle.syn_form.specs.declared.trees.Form.TheOpen.{Form-F}
use Rattle.syn_form.specs.declared.trees.Form.TheViews as view
use Rattle.syn_form.specs.inner.Joining.{stays, terms_of}
use Rattle.syn_form.specs.Same.{OfOneBank, same_form, same_out}
use Rattle.syn_form.specs.Simplification.{Junction, conjunction, disjunction, neutral, opened, has_form, without_repeats, members_left}
use Rattle.syn_form.specs.Trees.{FormTree, OutTree, bare_form, bare_out, form_terms}
use Rattle.syn_form.proofs.Equations.{bare_form-Not, bare_form-Not-injective, out-Not, form_terms-True, form_terms-False}
use Rattle.syn_form.proofs.Lists.{Contains-flat_map_from, Contains-along, Contains-filter, flat_map_within, none_in_nil}
use Rattle.syn_form.proofs.Induction.{cases_same}
use Rattle.syn_form.proofs.Same.{same_form-to, same_form-from, same_out-to, same_out-from}
use Rattle.syn_form.proofs.SimplifiedTerms.{Among, OfOneBank-among, Among-append, opened-terms, members_left-terms, Contains-without_repeats}

-- a test that means the same as another is that test
one_test : (a b : Bool) (P : Type 0) → (IsTrue a → P) → (P → IsTrue a) → (b ≡ true → P) → (P → b ≡ true) → a ≡ b
one_test true true P h k m n = refl
one_test true false P h k m n = let e = n (h refl) in absurd (cc)
one_test false true P h k m n = let e = k (m refl) in absurd (cc)
one_test false false P h k m n = refl

pub tested_form : (f g : FormTree) (r : Bool) → (IsTrue r → bare_form f ≡ bare_form g) × (bare_form f ≡ bare_form g → IsTrue r) → r ≡ same_form f g
tested_form f g r h = one_test r (same_form f g) (bare_form f ≡ bare_form g) h.0 h.1 (same_form-to f g) (same_form-from f g)

pub tested_out : (o p : OutTree) (r : Bool) → (IsTrue r → bare_out o ≡ bare_out p) × (bare_out o ≡ bare_out p → IsTrue r) → r ≡ same_out o p
tested_out o p r h = one_test r (same_out o p) (bare_out o ≡ bare_out p) h.0 h.1 (same_out-to o p) (same_out-from o p)

pub tested_tree : (s t : TermTree) (r : Bool) → (IsTrue r → bare s ≡ bare t) × (bare s ≡ bare t → IsTrue r) → r ≡ same_tree s t
tested_tree s t r h = one_test r (same_tree s t) (bare s ≡ bare t) h.0 h.1 (same_tree-to s t) (same_tree-from s t)

-- what stands in a list of formulas has terms of theirs
pub item_among : (fs : List FormTree) (i : ℕ) (g : FormTree) → i < length fs → g ≡ get_or fs i g → Among (form_terms g) (terms_of fs)
item_among fs i g lt is t c = Contains-flat_map_from form_terms fs g t (i, lt, sym is) c

pub item_and : (fs : List FormTree) (i : ℕ) (g f : FormTree) → i < length fs → g ≡ get_or fs i g → OfOneBank (terms_of fs ++ form_terms f) → OfOneBank (form_terms g ++ form_terms f)
item_and fs i g f lt is = OfOneBank-among (form_terms g ++ form_terms f) (terms_of fs ++ form_terms f) (Among-append (form_terms g) (form_terms f) (terms_of fs) (form_terms f) (item_among fs i g lt is) (λ t c. c))

abbrev case_layer : Form-F FormTree → ℕ
case_layer Form-F.True = 0
case_layer Form-F.False = 1
case_layer (Form-F.Atom r args) = 2
case_layer (Form-F.Equal s t) = 3
case_layer (Form-F.Not a) = 4
case_layer (Form-F.And all) = 5
case_layer (Form-F.Or all) = 6
case_layer (Form-F.Implies a b) = 7

not_at : (g : FormTree) (x : Form-F FormTree) → out-Form g ≡ x → case_layer x ≡ 4 → (a : FormTree) × (g ≡ view.Not a)
unfolding roll-Form roll
not_at g (Form-F.Not a) e k = (a, sym (roll-out-Form g) ∙ ap roll-Form e)
not_at g x e k = absurd (omega arith)

-- what is one tree with a negation is a negation
is_not : (g f : FormTree) → bare_form g ≡ bare_form (view.Not f) → (a : FormTree) × (g ≡ view.Not a)
is_not g f e = not_at g (out-Form g) refl (cases_same g (view.Not f) e ∙ ap case_layer (out-Not f))

pub no_negation : (g f : FormTree) → ((a : FormTree) → g ≡ view.Not a → ⊥) → false ≡ same_form g (view.Not f)
no_negation g f ne = go (same_form g (view.Not f)) refl
  where
    go : (b : Bool) → same_form g (view.Not f) ≡ b → false ≡ b
    go true e = let a = is_not g f (same_form-to g (view.Not f) e) in absurd (ne a.0 a.1)
    go false e = refl

pub is_negation : (g a f : FormTree) (r : Bool) → g ≡ view.Not a → r ≡ same_form a f → r ≡ same_form g (view.Not f)
is_negation g a f r is e = e ∙ (one_test (same_form a f) (same_form (view.Not a) (view.Not f)) (bare_form a ≡ bare_form f) (same_form-to a f) (same_form-from a f) (λ h. bare_form-Not-injective a f (same_form-to (view.Not a) (view.Not f) h)) (λ h. same_form-from (view.Not a) (view.Not f) (bare_form-Not a ∙ (ap (λ (z : FormTree). view.Not z) h ∙ sym (bare_form-Not f)))) ∙ ap (λ (z : FormTree). same_form z (view.Not f)) (sym is))

-- two lists in a row are among a third where both are
Among-both : (xs ys zs : List TermTree) → Among xs zs → Among ys zs → Among (xs ++ ys) zs
Among-both xs ys zs a b t c = go (Contains-append_cases xs ys t c)
  where
    go : Contains xs t ⊎ Contains ys t → Contains zs t
    go (inl h) = a t h
    go (inr h) = b t h

pub item_itself : (fs : List FormTree) (i : ℕ) (f : FormTree) → i < length fs → f ≡ get_or fs i f → OfOneBank (terms_of fs) → OfOneBank (terms_of fs ++ form_terms f)
item_itself fs i f lt is = OfOneBank-among (terms_of fs ++ form_terms f) (terms_of fs) (Among-both (terms_of fs) (form_terms f) (terms_of fs) (λ t c. c) (item_among fs i f lt is))

neutral_terms : (j : Junction) → form_terms (neutral j) ≡ []
neutral_terms conjunction = form_terms-True
neutral_terms disjunction = form_terms-False

pub with_neutral : (j : Junction) (f g : FormTree) → g ≡ neutral j → OfOneBank (form_terms f) → OfOneBank (form_terms f ++ form_terms g)
with_neutral j f g is = OfOneBank-among (form_terms f ++ form_terms g) (form_terms f)
    (Among-both (form_terms f) (form_terms g) (form_terms f) (λ t c. c)
    (λ t c. absurd (none_in_nil t (Contains-along (form_terms g) [] t (ap form_terms is ∙ neutral_terms j) c))))

Contains-take : {X : Type 0} (i : ℕ) (xs : List X) (x : X) → Contains (take i xs) x → Contains xs x
Contains-take i xs x c = Contains-along (take i xs ++ drop i xs) xs x (take-append-drop i xs) (Contains-append_left (take i xs) (drop i xs) x c)

pub take_among : (i : ℕ) (fs : List FormTree) → Among (terms_of (take i fs)) (terms_of fs)
take_among i fs = flat_map_within form_terms (take i fs) fs (Contains-take i fs)

-- without repeats, one list after another
without_repeats-append : (done xs ys : List FormTree) → without_repeats done (xs ++ ys) ≡ without_repeats (without_repeats done xs) ys
without_repeats-append done [] ys = refl
without_repeats-append done (x ∷ xs) ys = without_repeats-append (cond (has_form done x) done (done ++ x ∷ [])) xs ys

module _ (j : Junction) (start done : List FormTree) (fs : List FormTree) (i : ℕ) (f : FormTree) (lt : i < length fs) (is : f ≡ get_or fs i f) where
  more : take (i + 1) fs ≡ take i fs ++ f ∷ []
  more = take_more fs i f lt ∙ ap (λ (z : FormTree). take i fs ++ z ∷ []) (sym is)

  pub push_more : (new : List FormTree) → done ≡ without_repeats start (filter (stays j) (take i fs)) → new ≡ without_repeats done (filter (stays j) (f ∷ [])) → new ≡ without_repeats start (filter (stays j) (take (i + 1) fs))
  push_more new e h =
      h ∙ (ap (λ (z : List FormTree). without_repeats z (filter (stays j) (f ∷ []))) e
      ∙ (sym (without_repeats-append start (filter (stays j) (take i fs)) (filter (stays j) (f ∷ [])))
      ∙ ap (without_repeats start) (sym (filter-append (stays j) (take i fs) (f ∷ [])) ∙ ap (filter (stays j)) (sym more))))

  pub push_terms : done ≡ without_repeats start (filter (stays j) (take i fs)) → OfOneBank (terms_of start ++ terms_of fs) → OfOneBank (terms_of done ++ form_terms f)
  push_terms e = OfOneBank-among (terms_of done ++ form_terms f) (terms_of start ++ terms_of fs)
      (Among-both (terms_of done) (form_terms f) (terms_of start ++ terms_of fs)
      (λ t c. Contains-along (terms_of (start ++ fs)) (terms_of start ++ terms_of fs) t (flat_map-append form_terms start fs) (flat_map_within form_terms done (start ++ fs) inside t c))
      (λ t c. Contains-append_right (terms_of start) (terms_of fs) t (item_among fs i f lt is t c)))
    where
      inside : (g : FormTree) → Contains done g → Contains (start ++ fs) g
      inside g c = go (Contains-append_cases start (filter (stays j) (take i fs)) g (Contains-without_repeats start (filter (stays j) (take i fs)) g (Contains-along done (without_repeats start (filter (stays j) (take i fs))) g e c)))
        where
          go : Contains start g ⊎ Contains (filter (stays j) (take i fs)) g → Contains (start ++ fs) g
          go (inl h) = Contains-append_left start fs g h
          go (inr h) = Contains-append_right start fs g (Contains-take i fs g (Contains-filter (stays j) (take i fs) g h))

  pub left_more : (new : List FormTree) → done ≡ members_left j (take i fs) → new ≡ without_repeats done (filter (stays j) (opened j f)) → new ≡ members_left j (take (i + 1) fs)
  left_more new e h =
      h ∙ (ap (λ (z : List FormTree). without_repeats z (filter (stays j) (opened j f))) e
      ∙ (sym (without_repeats-append [] (filter (stays j) (flat_map (opened j) (take i fs))) (filter (stays j) (opened j f)))
      ∙ ap (without_repeats []) (sym (filter-append (stays j) (flat_map (opened j) (take i fs)) (opened j f))
      ∙ ap (filter (stays j)) (sym (ap (flat_map (opened j)) more ∙ (flat_map-append (opened j) (take i fs) (f ∷ []) ∙ ap (λ (z : List FormTree). flat_map (opened j) (take i fs) ++ z) (append-nil (opened j f))))))))

  pub left_terms : done ≡ members_left j (take i fs) → OfOneBank (terms_of fs) → OfOneBank (terms_of done ++ form_terms f)
  left_terms e = OfOneBank-among (terms_of done ++ form_terms f) (terms_of fs)
      (Among-both (terms_of done) (form_terms f) (terms_of fs)
      (λ t c. take_among i fs t (members_left-terms j (take i fs) t (Contains-along (terms_of done) (terms_of (members_left j (take i fs))) t (ap terms_of e) c)))
      (item_among fs i f lt is))

pub opened_bank : (j : Junction) (done members : List FormTree) (f : FormTree) → opened j f ≡ members → OfOneBank (terms_of done ++ form_terms f) → OfOneBank (terms_of done ++ terms_of members)
opened_bank j done members f e = subst (λ (z : List TermTree). OfOneBank (terms_of done ++ z)) (sym (opened-terms j f) ∙ ap terms_of e)

pub left_bank : (j : Junction) (fs left : List FormTree) → left ≡ members_left j fs → OfOneBank (terms_of fs) → OfOneBank (terms_of left)
left_bank j fs left e = OfOneBank-among (terms_of left) (terms_of fs) (λ t c. members_left-terms j fs t (Contains-along (terms_of left) (terms_of (members_left j fs)) t (ap terms_of e) c))
