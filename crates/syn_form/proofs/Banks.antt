-- Parts of trees, and parts simplified, have terms of one bank where the tree does.
use Rattle.std.proofs.Common.{◌≡◌, ℕ, ◌<◌, List, [], ◌∷◌, ◌++◌, map, take, length, get_or, sym, ◌∙◌, ap, arith}
use Rattle.std.proofs.lemmas.List.Elements.{Contains-append_left, Contains-append_right}
use Rattle.syn_term.specs.Bank.{Agree, Agree-belongs}
use Rattle.syn_term.specs.Terms.{TermTree}
use Rattle.syn_form.specs.declared.trees.Form.TheViews as view
use Rattle.syn_form.specs.declared.trees.Out.TheViews as out_view
use Rattle.syn_form.specs.inner.Joining.{terms_of}
use Rattle.syn_form.specs.Same.{OfOneBank, OfOneBank-to}
use Rattle.syn_form.specs.Simplification.{Junction, chain, simplified_form, simplified_out}
use Rattle.syn_form.specs.Trees.{FormTree, OutTree, form_terms, out_terms}
use Rattle.syn_form.proofs.Equations.{form_terms-Implies, form_terms-Not, out_terms-If}
use Rattle.syn_form.proofs.Lists.{Contains-along}
use Rattle.syn_form.proofs.Members.{item_among, take_among}
use Rattle.syn_form.proofs.SimplifiedTerms.{Among, OfOneBank-among, Among-append, Among-same, form_terms-chain, parts-terms, simplified_form-terms, simplified_out-terms}

-- two terms of one bank agree
pub agree_of : (s t : TermTree) → OfOneBank (s ∷ t ∷ []) → Agree s t
agree_of s t one = let p = OfOneBank-to (s ∷ t ∷ []) one in Agree-belongs p.0 s t (p.1 0 s (omega arith)) (p.1 1 t (omega arith))

simple_among : (a b : FormTree) → b ≡ simplified_form a → Among (form_terms b) (form_terms a)
simple_among a b e t c = simplified_form-terms a t (Contains-along (form_terms b) (form_terms (simplified_form a)) t (ap form_terms e) c)

simple_out_among : (o p : OutTree) → p ≡ simplified_out o → Among (out_terms p) (out_terms o)
simple_out_among o p e t c = simplified_out-terms o t (Contains-along (out_terms p) (out_terms (simplified_out o)) t (ap out_terms e) c)

pub negation_bank : (f a a' : FormTree) → f ≡ view.Not a → a' ≡ a → OfOneBank (form_terms f) → OfOneBank (form_terms a')
negation_bank f a a' is is_a = OfOneBank-among (form_terms a') (form_terms f) (Among-same (form_terms a') (form_terms f) (ap form_terms is_a ∙ sym (ap form_terms is ∙ form_terms-Not a)))

module _ (f a b a' b' : FormTree) (is : f ≡ view.Implies a b) (is_a : a' ≡ a) (is_b : b' ≡ b) where
  terms_are : form_terms f ≡ form_terms a' ++ form_terms b'
  terms_are = ap form_terms is ∙ (form_terms-Implies a b ∙ (ap (λ (z : FormTree). form_terms z ++ form_terms b) (sym is_a) ∙ ap (λ (z : FormTree). form_terms a' ++ form_terms z) (sym is_b)))

  pub sides_bank : OfOneBank (form_terms f) → OfOneBank (form_terms a' ++ form_terms b')
  sides_bank = OfOneBank-among (form_terms a' ++ form_terms b') (form_terms f) (Among-same (form_terms a' ++ form_terms b') (form_terms f) (sym terms_are))

-- terms of two lists in a row, and of one of them
pub first_of : (xs ys : List TermTree) → OfOneBank (xs ++ ys) → OfOneBank xs
first_of xs ys = OfOneBank-among xs (xs ++ ys) (Contains-append_left xs ys)

pub second_of : (xs ys : List TermTree) → OfOneBank (xs ++ ys) → OfOneBank ys
second_of xs ys = OfOneBank-among ys (xs ++ ys) (Contains-append_right xs ys)

pub implied_bank : (a b x y : FormTree) → x ≡ simplified_form a → y ≡ simplified_form b → OfOneBank (form_terms a ++ form_terms b) → OfOneBank (form_terms x ++ form_terms y)
implied_bank a b x y ex ey = OfOneBank-among (form_terms x ++ form_terms y) (form_terms a ++ form_terms b) (Among-append (form_terms x) (form_terms y) (form_terms a) (form_terms b) (simple_among a x ex) (simple_among b y ey))

pub members_bank : (j : Junction) (f : FormTree) (all items : List FormTree) → f ≡ chain j all → items ≡ all → OfOneBank (form_terms f) → OfOneBank (terms_of items)
members_bank j f all items is same = OfOneBank-among (terms_of items) (form_terms f) (Among-same (terms_of items) (form_terms f) (ap terms_of same ∙ (sym (form_terms-chain j all) ∙ sym (ap form_terms is))))

module _ (items : List FormTree) where
  pub item_bank : (i : ℕ) (part : FormTree) → i < length items → part ≡ get_or items i part → OfOneBank (terms_of items) → OfOneBank (form_terms part)
  item_bank i part lt at = OfOneBank-among (form_terms part) (terms_of items) (item_among items i part lt at)

  pub parts_bank : (i : ℕ) (parts : List FormTree) → parts ≡ map simplified_form (take i items) → OfOneBank (terms_of items) → OfOneBank (terms_of parts)
  parts_bank i parts e = OfOneBank-among (terms_of parts) (terms_of items)
      (λ t c. take_among i items t (parts-terms (take i items) (λ k d lt. simplified_form-terms (get_or (take i items) k d)) t (Contains-along (terms_of parts) (terms_of (map simplified_form (take i items))) t (ap terms_of e) c)))

module _ (o : OutTree) (f f' : FormTree) (u v u' v' : OutTree) (is : o ≡ out_view.If f u v) (is_f : f' ≡ f) (is_u : u' ≡ u) (is_v : v' ≡ v) where
  out_terms_are : out_terms o ≡ form_terms f' ++ (out_terms u' ++ out_terms v')
  out_terms_are =
      ap out_terms is ∙ (out_terms-If f u v ∙ (ap (λ (z : FormTree). form_terms z ++ (out_terms u ++ out_terms v)) (sym is_f)
      ∙ (ap (λ (z : OutTree). form_terms f' ++ (out_terms z ++ out_terms v)) (sym is_u) ∙ ap (λ (z : OutTree). form_terms f' ++ (out_terms u' ++ out_terms z)) (sym is_v))))

  choice_bank : OfOneBank (out_terms o) → OfOneBank (form_terms f' ++ (out_terms u' ++ out_terms v'))
  choice_bank = OfOneBank-among (form_terms f' ++ (out_terms u' ++ out_terms v')) (out_terms o) (Among-same (form_terms f' ++ (out_terms u' ++ out_terms v')) (out_terms o) (sym out_terms_are))

  pub test_bank : OfOneBank (out_terms o) → OfOneBank (form_terms f')
  test_bank one = first_of (form_terms f') (out_terms u' ++ out_terms v') (choice_bank one)

  pub arms_bank : OfOneBank (out_terms o) → OfOneBank (out_terms u' ++ out_terms v')
  arms_bank one = second_of (form_terms f') (out_terms u' ++ out_terms v') (choice_bank one)

pub simple_arms_bank : (u v x y : OutTree) → x ≡ simplified_out u → y ≡ simplified_out v → OfOneBank (out_terms u ++ out_terms v) → OfOneBank (out_terms x ++ out_terms y)
simple_arms_bank u v x y ex ey = OfOneBank-among (out_terms x ++ out_terms y) (out_terms u ++ out_terms v) (Among-append (out_terms x) (out_terms y) (out_terms u) (out_terms v) (simple_out_among u x ex) (simple_out_among v y ey))
