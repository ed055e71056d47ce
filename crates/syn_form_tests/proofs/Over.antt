-- What the formulas of codes are made of stays over the pair, and what is over a pair of one bank is of one bank.
use Rattle.std.proofs.Common.{◌≡◌, ◌⊎◌, inl, inr, List, [], ◌∷◌, ◌++◌, All, Contains, refl, sym, ◌∙◌, ap, subst}
use Rattle.std.specs.List.{flat_map}
use Rattle.std.proofs.lemmas.List.Elements.{All-nil, All-cons, All-head, All-tail, All-append, Contains-append_cases, Contains-append_left, Contains-append_right}
use Rattle.syn_term.specs.Bank.{Kept, Belongs, Belongs-extends, Extends, new_bank}
use Rattle.syn_term.specs.Terms.{TermTree}
use Rattle.syn_form.specs.declared.trees.Form.TheVariants as form
use Rattle.syn_form.specs.declared.trees.Form.TheViews as view
use Rattle.syn_form.specs.declared.trees.Out.TheVariants as out
use Rattle.syn_form.specs.declared.trees.Out.TheViews as out_view
use Rattle.syn_form.specs.Same.{OfOneBank, OfOneBank-from}
use Rattle.syn_form.specs.Simplification.{Junction, chain}
use Rattle.syn_form.specs.Trees.{FormTree, OutTree, form_terms, out_terms}
use Rattle.syn_form.proofs.Equations.{form_terms-True, form_terms-False, form_terms-Not, form_terms-Implies, out_terms-Give, out_terms-If}
use Rattle.syn_form.proofs.Lists.{Contains-along, Contains-cons_cases, Contains-head, none_in_nil}
use Rattle.syn_form.proofs.Owned.{All-left, All-right}
use Rattle.syn_form.proofs.SimplifiedTerms.{OfOneBank-among, form_terms-chain}
use Rattle.syn_form_tests.specs.declared.codes.Pair.{Pair}
use Rattle.syn_form_tests.specs.Over.{IsOver, IsOverOut}

-- a list with one item more
module _ {X : Type 0} (P : X → Type 0) (old new : List X) (x : X) where
  pub one_more : new ≡ old ++ x ∷ [] → All P old → P x → All P new
  one_more e h p = subst (All P) (sym e) (All-append P old (x ∷ []) h (All-cons P x [] p (All-nil P)))

  pub one_less : old ≡ new ++ x ∷ [] → All P old → All P new
  one_less e h = All-left P new (x ∷ []) (subst (All P) e h)

  pub last_one : old ≡ new ++ x ∷ [] → All P old → P x
  last_one e h = All-head P x [] (All-right P new (x ∷ []) (subst (All P) e h))

module _ (pair : Pair) where
  abbrev Two : List TermTree
  Two = pair.a ∷ pair.b ∷ []

  abbrev Within : List TermTree → Type 0
  Within ts = (t : TermTree) → Contains ts t → Contains Two t

  along : (ts us : List TermTree) → ts ≡ us → Within us → Within ts
  along ts us e w t c = w t (Contains-along ts us t e c)

  pub none_within : (ts : List TermTree) → ts ≡ [] → Within ts
  none_within ts e t c = absurd (none_in_nil t (Contains-along ts [] t e c))

  both_within : (ts us : List TermTree) → Within ts → Within us → Within (ts ++ us)
  both_within ts us v w t c = go (Contains-append_cases ts us t c)
    where
      go : Contains ts t ⊎ Contains us t → Contains Two t
      go (inl h) = v t h
      go (inr h) = w t h

  first : Contains Two pair.a
  first = Contains-head pair.a (pair.b ∷ [])

  pub two_within : (ts : List TermTree) → ts ≡ Two → Within ts
  two_within ts e = along ts Two e (λ t c. c)

  pub twice_within : (ts : List TermTree) → ts ≡ pair.a ∷ pair.a ∷ [] → Within ts
  twice_within ts e = along ts (pair.a ∷ pair.a ∷ []) e (both_within (pair.a ∷ []) (pair.a ∷ []) one_first one_first)
    where
      one_first : Within (pair.a ∷ [])
      one_first t c = Contains-append_left (pair.a ∷ []) (pair.b ∷ []) t c

  pub true_over : IsOver pair form.True
  true_over = none_within (form_terms form.True) form_terms-True

  pub false_over : IsOver pair form.False
  false_over = none_within (form_terms form.False) form_terms-False

  pub not_over : (f : FormTree) → IsOver pair f → IsOver pair (view.Not f)
  not_over f = along (form_terms (view.Not f)) (form_terms f) (form_terms-Not f)

  pub implies_over : (f g : FormTree) → IsOver pair f → IsOver pair g → IsOver pair (view.Implies f g)
  implies_over f g v w = along (form_terms (view.Implies f g)) (form_terms f ++ form_terms g) (form_terms-Implies f g) (both_within (form_terms f) (form_terms g) v w)

  all_within : (fs : List FormTree) → All (IsOver pair) fs → Within (flat_map form_terms fs)
  all_within [] h = none_within [] refl
  all_within (f ∷ fs) h = both_within (form_terms f) (flat_map form_terms fs) (All-head (IsOver pair) f fs h) (all_within fs (All-tail (IsOver pair) f fs h))

  pub chain_over : (j : Junction) (fs : List FormTree) → All (IsOver pair) fs → IsOver pair (chain j fs)
  chain_over j fs h = along (form_terms (chain j fs)) (flat_map form_terms fs) (form_terms-chain j fs) (all_within fs h)

  pub give_over : (t : TermTree) → Contains Two t → IsOverOut pair (out.Give t)
  give_over t c = along (out_terms (out.Give t)) (t ∷ []) (out_terms-Give t) (λ u d. go u (Contains-cons_cases t [] u d))
    where
      go : (u : TermTree) → (t ≡ u) ⊎ Contains [] u → Contains Two u
      go u (inl e) = subst (Contains Two) e c
      go u (inr d) = absurd (none_in_nil u d)

  pub first_over : IsOverOut pair (out.Give pair.a)
  first_over = give_over pair.a first

  pub second_over : IsOverOut pair (out.Give pair.b)
  second_over = give_over pair.b (Contains-append_right (pair.a ∷ []) (pair.b ∷ []) pair.b (Contains-head pair.b []))

  pub given_first : (o : OutTree) (t : TermTree) → o ≡ out.Give t → t ≡ pair.a → IsOverOut pair o
  given_first o t e is = along (out_terms o) (out_terms (out.Give pair.a)) (ap out_terms (e ∙ ap out.Give is)) first_over

  pub given_second : (o : OutTree) (t : TermTree) → o ≡ out.Give t → t ≡ pair.b → IsOverOut pair o
  given_second o t e is = along (out_terms o) (out_terms (out.Give pair.b)) (ap out_terms (e ∙ ap out.Give is)) second_over

  pub same_over : (f g : FormTree) → f ≡ g → IsOver pair g → IsOver pair f
  same_over f g e = along (form_terms f) (form_terms g) (ap form_terms e)

  pub same_out_over : (o p : OutTree) → o ≡ p → IsOverOut pair p → IsOverOut pair o
  same_out_over o p e = along (out_terms o) (out_terms p) (ap out_terms e)

  pub choice_over : (f : FormTree) (u v : OutTree) → IsOver pair f → IsOverOut pair u → IsOverOut pair v → IsOverOut pair (out_view.If f u v)
  choice_over f u v h k l = along (out_terms (out_view.If f u v)) (form_terms f ++ (out_terms u ++ out_terms v)) (out_terms-If f u v) (both_within (form_terms f) (out_terms u ++ out_terms v) h (both_within (out_terms u) (out_terms v) k l))

  -- terms of two trees over a pair of one bank are of one bank
  pub two_owned : (ts us : List TermTree) → Within ts → Within us → OfOneBank Two → OfOneBank (ts ++ us)
  two_owned ts us v w = OfOneBank-among (ts ++ us) Two (both_within ts us v w)

-- and so are those of what is simplified
module _ (ts us : List TermTree) where
  abbrev Among : List TermTree → List TermTree → Type 0
  Among xs ys = (t : TermTree) → Contains xs t → Contains ys t

  pub simple_owned : (vs : List TermTree) → Among ts vs → OfOneBank (vs ++ us) → OfOneBank (ts ++ us)
  simple_owned vs sub = OfOneBank-among (ts ++ us) (vs ++ us) inside
    where
      inside : Among (ts ++ us) (vs ++ us)
      inside t c = go (Contains-append_cases ts us t c)
        where
          go : Contains ts t ⊎ Contains us t → Contains (vs ++ us) t
          go (inl h) = Contains-append_left vs us t (sub t h)
          go (inr h) = Contains-append_right vs us t h

-- two variables of one bank
pub pair_owned : (k l : Kept) (a b : TermTree) → Belongs k a → Extends k l → Belongs l b → OfOneBank (a ∷ b ∷ [])
pair_owned k l a b h e g = OfOneBank-from l (a ∷ b ∷ []) (All-cons (Belongs l) a (b ∷ []) (Belongs-extends k l a e h) (All-cons (Belongs l) b [] g (All-nil (Belongs l))))

-- trees without terms
pub no_terms : (ts : List TermTree) → ts ≡ [] → OfOneBank ts
no_terms ts e = subst OfOneBank (sym e) (OfOneBank-from new_bank [] (All-nil (Belongs new_bank)))

pub none_owned : (ts us : List TermTree) → ts ≡ [] → us ≡ [] → OfOneBank (ts ++ us)
none_owned ts us e k = no_terms (ts ++ us) (ap (λ (z : List TermTree). z ++ us) e ∙ k)

-- an output twice
pub given_owned : (b : Kept) (t u : TermTree) (p : OutTree) → Belongs b t → u ≡ t → p ≡ out.Give u → OfOneBank (out_terms (out.Give u) ++ out_terms p)
given_owned b t u p h is e =
    let one : All (Belongs b) (u ∷ []) = All-cons (Belongs b) u [] (subst (Belongs b) (sym is) h) (All-nil (Belongs b)) in
    OfOneBank-from b (out_terms (out.Give u) ++ out_terms p) (All-append (Belongs b) (out_terms (out.Give u)) (out_terms p) (subst (All (Belongs b)) (sym (out_terms-Give u)) one) (subst (All (Belongs b)) (sym (ap out_terms e ∙ out_terms-Give u)) one))
