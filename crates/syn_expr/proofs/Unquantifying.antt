-- The same formula without quantifiers, and its places left out.
use Rattle.std.proofs.Common.{◌≡◌, List, [], ◌∷◌, Option, None, Some, All, map, refl, sym, ◌∙◌, ap}
use Rattle.std.specs.Option.{option_and_then, option_map}
use Rattle.std.proofs.lemmas.List.Elements.{All-head, All-tail}
use Rattle.syn_term.specs.Terms.{bare}
use Rattle.syn_form.specs.declared.trees.Form.TheViews as view
use Rattle.syn_form.specs.Lists.{all_there}
use Rattle.syn_form.specs.Quantified.{bare_qform, bare_qform_step, unquantified, unquantified_step}
use Rattle.syn_form.specs.Trees.{FormTree, QFormTree, bare_form}
use Rattle.syn_form.proofs.Equations.{bare_form-True, bare_form-False, bare_form-Atom, bare_form-Equal, bare_form-Not, bare_form-And, bare_form-Or, bare_form-Implies}
use Rattle.syn_form.proofs.QForms.{by_qform_cases, qfold-True, qfold-False, qfold-Atom, qfold-Equal, qfold-Not, qfold-And, qfold-Or, qfold-Implies, qfold-All, qfold-Exists}

abbrev SameBare : QFormTree → Type 0
SameBare f = unquantified (bare_qform f) ≡ option_map bare_form (unquantified f)

-- what each connective does to parts without places is what it does to the parts
one_bare : (f : FormTree → FormTree) → ((a : FormTree) → bare_form (f a) ≡ f (bare_form a)) → (o : Option FormTree) → option_map f (option_map bare_form o) ≡ option_map bare_form (option_map f o)
one_bare f h None = refl
one_bare f h (Some a) = ap Some (sym (h a))

all_bare : (f : List FormTree → FormTree) → ((xs : List FormTree) → bare_form (f xs) ≡ f (map bare_form xs)) → (o : Option (List FormTree)) → option_map f (option_map (map bare_form) o) ≡ option_map bare_form (option_map f o)
all_bare f h None = refl
all_bare f h (Some a) = ap Some (sym (h a))

two_bare : (o p : Option FormTree) → option_and_then (λ x. option_map (view.Implies x) (option_map bare_form p)) (option_map bare_form o) ≡ option_map bare_form (option_and_then (λ x. option_map (view.Implies x) p) o)
two_bare None p = refl
two_bare (Some a) None = refl
two_bare (Some a) (Some b) = ap Some (sym (bare_form-Implies a b))

cons_bare : (o : Option FormTree) (os : Option (List FormTree)) → option_and_then (λ a. option_map (λ rest. a ∷ rest) (option_map (map bare_form) os)) (option_map bare_form o) ≡ option_map (map bare_form) (option_and_then (λ a. option_map (λ rest. a ∷ rest) os) o)
cons_bare None os = refl
cons_bare (Some a) None = refl
cons_bare (Some a) (Some rest) = refl

list_bare : (all : List QFormTree) → All SameBare all → all_there (map unquantified (map bare_qform all)) ≡ option_map (map bare_form) (all_there (map unquantified all))
list_bare [] h = refl
list_bare (f ∷ fs) h =
    let here : SameBare f = All-head SameBare f fs h in
    let there = list_bare fs (All-tail SameBare f fs h) in
    ap (λ (o : Option FormTree). option_and_then (λ a. option_map (λ rest. a ∷ rest) (all_there (map unquantified (map bare_qform fs)))) o) here
    ∙ (ap (λ (os : Option (List FormTree)). option_and_then (λ a. option_map (λ rest. a ∷ rest) os) (option_map bare_form (unquantified f))) there
    ∙ cons_bare (unquantified f) (all_there (map unquantified fs)))

-- places make no difference
pub unquantified_bare : (f : QFormTree) → unquantified (bare_qform f) ≡ option_map bare_form (unquantified f)
unquantified_bare = by_qform_cases SameBare record {
  at_true = ap unquantified (qfold-True bare_qform_step) ∙ (qfold-True unquantified_step ∙ (ap Some (sym bare_form-True) ∙ ap (option_map bare_form) (sym (qfold-True unquantified_step))));
  at_false = ap unquantified (qfold-False bare_qform_step) ∙ (qfold-False unquantified_step ∙ (ap Some (sym bare_form-False) ∙ ap (option_map bare_form) (sym (qfold-False unquantified_step))));
  at_atom = λ r args. ap unquantified (qfold-Atom bare_qform_step r args) ∙ (qfold-Atom unquantified_step r (map bare args) ∙ (ap Some (sym (bare_form-Atom r args)) ∙ ap (option_map bare_form) (sym (qfold-Atom unquantified_step r args))));
  at_equal = λ s t. ap unquantified (qfold-Equal bare_qform_step s t) ∙ (qfold-Equal unquantified_step (bare s) (bare t) ∙ (ap Some (sym (bare_form-Equal s t)) ∙ ap (option_map bare_form) (sym (qfold-Equal unquantified_step s t))));
  at_not = λ a h. ap unquantified (qfold-Not bare_qform_step a) ∙ (qfold-Not unquantified_step (bare_qform a) ∙ (ap (option_map view.Not) h ∙ (one_bare view.Not bare_form-Not (unquantified a) ∙ ap (option_map bare_form) (sym (qfold-Not unquantified_step a)))));
  at_and = λ all h. ap unquantified (qfold-And bare_qform_step all) ∙ (qfold-And unquantified_step (map bare_qform all) ∙ (ap (option_map view.And) (list_bare all h) ∙ (all_bare view.And bare_form-And (all_there (map unquantified all)) ∙ ap (option_map bare_form) (sym (qfold-And unquantified_step all)))));
  at_or = λ all h. ap unquantified (qfold-Or bare_qform_step all) ∙ (qfold-Or unquantified_step (map bare_qform all) ∙ (ap (option_map view.Or) (list_bare all h) ∙ (all_bare view.Or bare_form-Or (all_there (map unquantified all)) ∙ ap (option_map bare_form) (sym (qfold-Or unquantified_step all)))));
  at_implies = λ a b h k. ap unquantified (qfold-Implies bare_qform_step a b) ∙ (qfold-Implies unquantified_step (bare_qform a) (bare_qform b)
      ∙ (ap (λ (o : Option FormTree). option_and_then (λ x. option_map (view.Implies x) (unquantified (bare_qform b))) o) h
      ∙ (ap (λ (p : Option FormTree). option_and_then (λ x. option_map (view.Implies x) p) (option_map bare_form (unquantified a))) k
      ∙ (two_bare (unquantified a) (unquantified b) ∙ ap (option_map bare_form) (sym (qfold-Implies unquantified_step a b))))));
  at_all = λ b a h. ap unquantified (qfold-All bare_qform_step b a) ∙ (qfold-All unquantified_step b (bare_qform a) ∙ ap (option_map bare_form) (sym (qfold-All unquantified_step b a)));
  at_exists = λ b a h. ap unquantified (qfold-Exists bare_qform_step b a) ∙ (qfold-Exists unquantified_step b (bare_qform a) ∙ ap (option_map bare_form) (sym (qfold-Exists unquantified_step b a)));
}
