-- A tree without its places has the same variables, and an output gives a term of the same sort.
use Rattle.std.proofs.Common.{◌≡◌, List, [], ◌∷◌, ◌++◌, All, map, refl, sym, ◌∙◌, ap}
use Rattle.std.specs.List.{flat_map}
use Rattle.std.proofs.lemmas.List.{map-append}
use Rattle.std.proofs.lemmas.List.Elements.{All-head, All-tail}
use Rattle.syn_term.specs.declared.sorts.Var.{Var}
use Rattle.syn_term.specs.Symbols.{SymbolTable}
use Rattle.syn_term.specs.Terms.{TermTree, bare}
use Rattle.syn_term.proofs.Trees.{fold-bare}
use Rattle.syn_form.specs.Trees.{FormTree, OutTree, QFormTree, all_of, bare_form, bare_out, form_terms, form_vars, out_terms, out_vars, term_vars, term_vars_step}
use Rattle.syn_form.specs.Plain.{given_sort, given_sort_step}
use Rattle.syn_form.specs.Quantified.{bare_qform, bare_qform_step, qform_vars, qform_vars_step}
use Rattle.syn_form.proofs.Equations.{bare_form-True, bare_form-False, bare_form-Atom, bare_form-Equal, bare_form-Not, bare_form-And, bare_form-Or, bare_form-Implies, bare_out-Give, bare_out-If, form_terms-True, form_terms-False, form_terms-Atom, form_terms-Equal, form_terms-Not, form_terms-And, form_terms-Or, form_terms-Implies, out_terms-Give, out_terms-If, fold-Give, fold-If}
use Rattle.syn_form.proofs.Induction.{by_forms, by_outs}
use Rattle.syn_form.proofs.Sorting.{sort_bare}
use Rattle.syn_form.proofs.QForms.{qfold-True, qfold-False, qfold-Atom, qfold-Equal, qfold-Not, qfold-And, qfold-Or, qfold-Implies, qfold-All, qfold-Exists, by_qform_cases}

pub term_vars_bare : (t : TermTree) → term_vars (bare t) ≡ term_vars t
term_vars_bare = fold-bare term_vars_step (λ p v. refl) (λ p f xs. refl)

pub vars_bare : (ts : List TermTree) → flat_map term_vars (map bare ts) ≡ flat_map term_vars ts
vars_bare [] = refl
vars_bare (t ∷ ts) = ap (λ (z : List Var). z ++ flat_map term_vars (map bare ts)) (term_vars_bare t) ∙ ap (λ (z : List Var). term_vars t ++ z) (vars_bare ts)

two_lists : {A : Type 0} (ws xs ys zs : List A) → ws ≡ ys → xs ≡ zs → ws ++ xs ≡ ys ++ zs
two_lists {A} ws xs ys zs e h = ap (λ (z : List A). z ++ xs) e ∙ ap (λ (z : List A). ys ++ z) h

abbrev SameTerms : FormTree → Type 0
SameTerms f = form_terms (bare_form f) ≡ map bare (form_terms f)

all_terms : (all : List FormTree) → All SameTerms all → all_of (map form_terms (map bare_form all)) ≡ map bare (all_of (map form_terms all))
all_terms [] h = refl
all_terms (f ∷ fs) h =
    two_lists (form_terms (bare_form f)) (all_of (map form_terms (map bare_form fs))) (map bare (form_terms f)) (map bare (all_of (map form_terms fs))) (All-head SameTerms f fs h) (all_terms fs (All-tail SameTerms f fs h))
    ∙ sym (map-append bare (form_terms f) (all_of (map form_terms fs)))

form_terms_bare : (f : FormTree) → SameTerms f
form_terms_bare = by_forms SameTerms
    (ap form_terms bare_form-True ∙ (form_terms-True ∙ ap (map bare) (sym form_terms-True)))
    (ap form_terms bare_form-False ∙ (form_terms-False ∙ ap (map bare) (sym form_terms-False)))
    (λ r args. ap form_terms (bare_form-Atom r args) ∙ (form_terms-Atom r (map bare args) ∙ ap (map bare) (sym (form_terms-Atom r args))))
    (λ s t. ap form_terms (bare_form-Equal s t) ∙ (form_terms-Equal (bare s) (bare t) ∙ ap (map bare) (sym (form_terms-Equal s t))))
    (λ a h. ap form_terms (bare_form-Not a) ∙ (form_terms-Not (bare_form a) ∙ (h ∙ ap (map bare) (sym (form_terms-Not a)))))
    (λ all h. ap form_terms (bare_form-And all) ∙ (form_terms-And (map bare_form all) ∙ (all_terms all h ∙ ap (map bare) (sym (form_terms-And all)))))
    (λ all h. ap form_terms (bare_form-Or all) ∙ (form_terms-Or (map bare_form all) ∙ (all_terms all h ∙ ap (map bare) (sym (form_terms-Or all)))))
    (λ a b h k. ap form_terms (bare_form-Implies a b) ∙ (form_terms-Implies (bare_form a) (bare_form b) ∙ (two_lists (form_terms (bare_form a)) (form_terms (bare_form b)) (map bare (form_terms a)) (map bare (form_terms b)) h k ∙ (sym (map-append bare (form_terms a) (form_terms b)) ∙ ap (map bare) (sym (form_terms-Implies a b))))))

pub form_vars_bare : (f : FormTree) → form_vars (bare_form f) ≡ form_vars f
form_vars_bare f = ap (flat_map term_vars) (form_terms_bare f) ∙ vars_bare (form_terms f)

abbrev SameOutTerms : OutTree → Type 0
SameOutTerms o = out_terms (bare_out o) ≡ map bare (out_terms o)

three_lists : (f : FormTree) (u v : OutTree) → SameOutTerms u → SameOutTerms v → form_terms (bare_form f) ++ (out_terms (bare_out u) ++ out_terms (bare_out v)) ≡ map bare (form_terms f ++ (out_terms u ++ out_terms v))
three_lists f u v h k =
    two_lists (form_terms (bare_form f)) (out_terms (bare_out u) ++ out_terms (bare_out v)) (map bare (form_terms f)) (map bare (out_terms u ++ out_terms v)) (form_terms_bare f)
    (two_lists (out_terms (bare_out u)) (out_terms (bare_out v)) (map bare (out_terms u)) (map bare (out_terms v)) h k ∙ sym (map-append bare (out_terms u) (out_terms v)))
    ∙ sym (map-append bare (form_terms f) (out_terms u ++ out_terms v))

out_terms_bare : (o : OutTree) → SameOutTerms o
out_terms_bare = by_outs SameOutTerms
    (λ t. ap out_terms (bare_out-Give t) ∙ (out_terms-Give (bare t) ∙ ap (map bare) (sym (out_terms-Give t))))
    (λ f u v h k. ap out_terms (bare_out-If f u v) ∙ (out_terms-If (bare_form f) (bare_out u) (bare_out v) ∙ (three_lists f u v h k ∙ ap (map bare) (sym (out_terms-If f u v)))))

pub out_vars_bare : (o : OutTree) → out_vars (bare_out o) ≡ out_vars o
out_vars_bare o = ap (flat_map term_vars) (out_terms_bare o) ∙ vars_bare (out_terms o)

abbrev SameVars : QFormTree → Type 0
SameVars f = qform_vars (bare_qform f) ≡ qform_vars f

all_vars : (all : List QFormTree) → All SameVars all → all_of (map qform_vars (map bare_qform all)) ≡ all_of (map qform_vars all)
all_vars [] h = refl
all_vars (f ∷ fs) h = two_lists (qform_vars (bare_qform f)) (all_of (map qform_vars (map bare_qform fs))) (qform_vars f) (all_of (map qform_vars fs)) (All-head SameVars f fs h) (all_vars fs (All-tail SameVars f fs h))

pub qform_vars_bare : (f : QFormTree) → qform_vars (bare_qform f) ≡ qform_vars f
qform_vars_bare = by_qform_cases SameVars record {
  at_true = ap qform_vars (qfold-True bare_qform_step);
  at_false = ap qform_vars (qfold-False bare_qform_step);
  at_atom = λ r args. ap qform_vars (qfold-Atom bare_qform_step r args) ∙ (qfold-Atom qform_vars_step r (map bare args) ∙ (vars_bare args ∙ sym (qfold-Atom qform_vars_step r args)));
  at_equal = λ s t. ap qform_vars (qfold-Equal bare_qform_step s t) ∙ (qfold-Equal qform_vars_step (bare s) (bare t) ∙ (two_lists (term_vars (bare s)) (term_vars (bare t)) (term_vars s) (term_vars t) (term_vars_bare s) (term_vars_bare t) ∙ sym (qfold-Equal qform_vars_step s t)));
  at_not = λ a h. ap qform_vars (qfold-Not bare_qform_step a) ∙ (qfold-Not qform_vars_step (bare_qform a) ∙ (h ∙ sym (qfold-Not qform_vars_step a)));
  at_and = λ all h. ap qform_vars (qfold-And bare_qform_step all) ∙ (qfold-And qform_vars_step (map bare_qform all) ∙ (all_vars all h ∙ sym (qfold-And qform_vars_step all)));
  at_or = λ all h. ap qform_vars (qfold-Or bare_qform_step all) ∙ (qfold-Or qform_vars_step (map bare_qform all) ∙ (all_vars all h ∙ sym (qfold-Or qform_vars_step all)));
  at_implies = λ a b h k. ap qform_vars (qfold-Implies bare_qform_step a b) ∙ (qfold-Implies qform_vars_step (bare_qform a) (bare_qform b) ∙ (two_lists (qform_vars (bare_qform a)) (qform_vars (bare_qform b)) (qform_vars a) (qform_vars b) h k ∙ sym (qfold-Implies qform_vars_step a b)));
  at_all = λ b a h. ap qform_vars (qfold-All bare_qform_step b a) ∙ (qfold-All qform_vars_step b (bare_qform a) ∙ (ap (λ (z : List Var). b.var ∷ z) h ∙ sym (qfold-All qform_vars_step b a)));
  at_exists = λ b a h. ap qform_vars (qfold-Exists bare_qform_step b a) ∙ (qfold-Exists qform_vars_step b (bare_qform a) ∙ (ap (λ (z : List Var). b.var ∷ z) h ∙ sym (qfold-Exists qform_vars_step b a)));
}

-- the sort that an output gives doesn't look at places
pub given_bare : (table : SymbolTable) (o : OutTree) → given_sort table (bare_out o) ≡ given_sort table o
given_bare table = by_outs (λ o. given_sort table (bare_out o) ≡ given_sort table o)
    (λ t. ap (given_sort table) (bare_out-Give t) ∙ (fold-Give (given_sort_step table) (bare t) ∙ (sort_bare table t ∙ sym (fold-Give (given_sort_step table) t))))
    (λ f u v h k. ap (given_sort table) (bare_out-If f u v) ∙ (fold-If (given_sort_step table) (bare_form f) (bare_out u) (bare_out v) ∙ (h ∙ sym (fold-If (given_sort_step table) f u v))))
