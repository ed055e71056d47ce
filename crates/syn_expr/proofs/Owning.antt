-- What is made belongs to the bank.
use Rattle.std.proofs.Common.{◌≡◌, ℕ, Option, None, Some, IfSome, map, ap, ◌∙◌, List, [], ◌∷◌, ◌++◌, All, sym, subst}
use Rattle.std.proofs.lemmas.List.Elements.{All-append, All-cons, All-head, All-nil, All-tail, All-weaker}
use Rattle.std.specs.Option.{option_map}
use Rattle.syn_term.specs.Bank.{Kept, Belongs, Extends, Extends-refl, Extends-trans, Belongs-extends}
use Rattle.syn_term.specs.Terms.{TermTree}
use Rattle.syn_form.specs.declared.trees.Form.TheVariants as form
use Rattle.syn_form.specs.declared.trees.Form.TheViews as view
use Rattle.syn_form.specs.declared.trees.QForm.TheVariants as qform
use Rattle.syn_form.specs.Lists.{all_there}
use Rattle.syn_form.specs.Quantified.{qform_terms, qform_terms_step, unquantified, unquantified_step}
use Rattle.syn_form.specs.Trees.{FormTree, QFormTree, all_of, form_terms}
use Rattle.syn_form.proofs.Equations.{form_terms-True, form_terms-False, form_terms-Atom, form_terms-Equal, form_terms-Not, form_terms-And, form_terms-Or, form_terms-Implies}
use Rattle.syn_form.proofs.QForms.{by_qform_cases, qfold-True, qfold-False, qfold-Atom, qfold-Equal, qfold-Not, qfold-And, qfold-Or, qfold-Implies, qfold-All, qfold-Exists}
use Rattle.syn_expr.proofs.TermCounts.{step_there, value_there}
use Rattle.syn_expr.proofs.FormMaking.{both}
use Rattle.syn_expr.specs.Belonging.{FormBelongs, FormBelongs-extends, FormBelongs-from, OutBelongs-extends, OutBelongs-Give, OutBelongs-If, QFormBelongs-terms, QFormBelongs, QFormBelongs-extends, QFormBelongs-True, QFormBelongs-False, QFormBelongs-Atom, QFormBelongs-Equal, QFormBelongs-Not, QFormBelongs-And, QFormBelongs-Or, QFormBelongs-Implies, QFormBelongs-quantifier}

pub two_belong : (b : Kept) (f g : QFormTree) → QFormBelongs b f → QFormBelongs b g → All (QFormBelongs b) (f ∷ g ∷ [])
two_belong b f g h k = All-cons (QFormBelongs b) f (g ∷ []) h (All-cons (QFormBelongs b) g [] k (All-nil (QFormBelongs b)))

-- what belonged belongs still, with one formula more
pub all_own : (a b : Kept) (done new : List QFormTree) (f : QFormTree) → Extends a b → All (QFormBelongs a) done → QFormBelongs b f → new ≡ done ++ f ∷ [] → All (QFormBelongs b) new
all_own a b done new f more old belongs pushed =
    subst (λ (z : List QFormTree). All (QFormBelongs b) z) (sym pushed) (All-append (QFormBelongs b) done (f ∷ []) (All-weaker (QFormBelongs a) (QFormBelongs b) (λ x h. QFormBelongs-extends a b x more h) done old) (All-cons (QFormBelongs b) f [] belongs (All-nil (QFormBelongs b))))

-- what was read belongs
pub some_owned : (b : Kept) (o : Option (QFormTree × ℕ)) (f : QFormTree) (n : ℕ) → o ≡ Some (both f n) → IfSome o (λ r. QFormBelongs b r.0) → QFormBelongs b f
some_owned b o f n e h = subst (λ (z : Option (QFormTree × ℕ)). IfSome z (λ r. QFormBelongs b r.0)) e h

abbrev SameTerms : QFormTree → Type 0
SameTerms f = (g : FormTree) → unquantified f ≡ Some g → form_terms g ≡ qform_terms f

all_same : (all : List QFormTree) (gs : List FormTree) → All SameTerms all → all_there (map unquantified all) ≡ Some gs → all_of (map form_terms gs) ≡ all_of (map qform_terms all)
all_same [] gs h e = let k : [] ≡ gs = cc in ap (λ (z : List FormTree). all_of (map form_terms z)) (sym k)
all_same (f ∷ fs) gs h e =
    let p = step_there (λ a. option_map (λ rest. a ∷ rest) (all_there (map unquantified fs))) (unquantified f) gs e in
    let q = value_there (λ rest. p.0 ∷ rest) (all_there (map unquantified fs)) gs p.2 in
    let here : form_terms p.0 ≡ qform_terms f = All-head SameTerms f fs h p.0 p.1 in
    let there = all_same fs q.0 (All-tail SameTerms f fs h) q.1 in
    ap (λ (z : List FormTree). all_of (map form_terms z)) (sym q.2) ∙ (ap (λ (z : List TermTree). z ++ all_of (map form_terms q.0)) here ∙ ap (λ (z : List TermTree). qform_terms f ++ z) there)

leaf_same : (f : QFormTree) (a g : FormTree) (ts : List TermTree) → unquantified f ≡ Some a → form_terms a ≡ ts → qform_terms f ≡ ts → unquantified f ≡ Some g → form_terms g ≡ qform_terms f
leaf_same f a g ts is m q e = let k : a ≡ g = cc in ap form_terms (sym k) ∙ (m ∙ sym q)

-- the formula without quantifiers has the same terms
pub same_terms : (f : QFormTree) → SameTerms f
same_terms = by_qform_cases SameTerms record {
  at_true = λ g e. leaf_same qform.True form.True g [] (qfold-True unquantified_step) form_terms-True (qfold-True qform_terms_step) e;
  at_false = λ g e. leaf_same qform.False form.False g [] (qfold-False unquantified_step) form_terms-False (qfold-False qform_terms_step) e;
  at_atom = λ r args g e. leaf_same (qform.Atom r args) (form.Atom r args) g args (qfold-Atom unquantified_step r args) (form_terms-Atom r args) (qfold-Atom qform_terms_step r args) e;
  at_equal = λ s t g e. leaf_same (qform.Equal s t) (form.Equal s t) g (s ∷ t ∷ []) (qfold-Equal unquantified_step s t) (form_terms-Equal s t) (qfold-Equal qform_terms_step s t) e;
  at_not = λ a h g e. let p = value_there view.Not (unquantified a) g (sym (qfold-Not unquantified_step a) ∙ e) in ap form_terms (sym p.2) ∙ (form_terms-Not p.0 ∙ (h p.0 p.1 ∙ sym (qfold-Not qform_terms_step a)));
  at_and = λ all h g e. let p = value_there view.And (all_there (map unquantified all)) g (sym (qfold-And unquantified_step all) ∙ e) in ap form_terms (sym p.2) ∙ (form_terms-And p.0 ∙ (all_same all p.0 h p.1 ∙ sym (qfold-And qform_terms_step all)));
  at_or = λ all h g e. let p = value_there view.Or (all_there (map unquantified all)) g (sym (qfold-Or unquantified_step all) ∙ e) in ap form_terms (sym p.2) ∙ (form_terms-Or p.0 ∙ (all_same all p.0 h p.1 ∙ sym (qfold-Or qform_terms_step all)));
  at_implies = λ a b h k g e.
      let p = step_there (λ x. option_map (view.Implies x) (unquantified b)) (unquantified a) g (sym (qfold-Implies unquantified_step a b) ∙ e) in
      let q = value_there (view.Implies p.0) (unquantified b) g p.2 in
      ap form_terms (sym q.2) ∙ (form_terms-Implies p.0 q.0 ∙ (ap (λ (z : List TermTree). z ++ form_terms q.0) (h p.0 p.1) ∙ (ap (λ (z : List TermTree). qform_terms a ++ z) (k q.0 q.1) ∙ sym (qfold-Implies qform_terms_step a b))));
  at_all = λ b a h g e. let n : None ≡ Some g = sym (qfold-All unquantified_step b a) ∙ e in absurd (cc);
  at_exists = λ b a h g e. let n : None ≡ Some g = sym (qfold-Exists unquantified_step b a) ∙ e in absurd (cc);
}

-- so it belongs where the other does
plain_belongs : (b : Kept) (f : QFormTree) (o : Option FormTree) → o ≡ unquantified f → QFormBelongs b f → IfSome o (FormBelongs b)
plain_belongs b f None e h = tt
plain_belongs b f (Some g) e h = FormBelongs-from b g (subst (λ (z : List TermTree). All (Belongs b) z) (sym (same_terms f g (sym e))) (QFormBelongs-terms b f h))

pub plain_owned : (b : Kept) (o : Option (QFormTree × ℕ)) (f : QFormTree) (n : ℕ) (r : Option FormTree) → IfSome o (λ r. QFormBelongs b r.0) → o ≡ Some (both f n) → r ≡ unquantified f → IfSome r (FormBelongs b)
plain_owned b o f n r h is e = plain_belongs b f r e (some_owned b o f n is h)

pub ruleset owning_outs = (Extends-refl, Extends-trans, Belongs-extends, FormBelongs-extends, OutBelongs-extends, OutBelongs-Give, OutBelongs-If)

pub ruleset owning = (Extends-refl, Extends-trans, Belongs-extends, QFormBelongs-extends, QFormBelongs-True, QFormBelongs-False, QFormBelongs-Atom, QFormBelongs-Equal, QFormBelongs-Not, QFormBelongs-And, QFormBelongs-Or, QFormBelongs-Implies, QFormBelongs-quantifier, two_belong)
