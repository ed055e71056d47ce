-- Formulas and outputs whose terms are changed: alike where each term is, and the terms that they have then.
use Rattle.std.proofs.Common.{◌≡◌, List, [], ◌∷◌, ◌++◌, map, refl, sym, ◌∙◌, ap, subst, All}
use Rattle.std.specs.List.{flat_map}
use Rattle.std.proofs.lemmas.List.{map-append}
use Rattle.std.proofs.lemmas.List.Elements.{All-head, All-tail}
use Rattle.syn_term.specs.Terms.{TermTree}
use Rattle.syn_form.specs.declared.trees.Form.TheVariants as form
use Rattle.syn_form.specs.declared.trees.Form.TheViews as view
use Rattle.syn_form.specs.declared.trees.Out.TheVariants as out
use Rattle.syn_form.specs.declared.trees.Out.TheViews as out_view
use Rattle.syn_form.specs.Inputs.{on_terms, on_terms_step}
use Rattle.syn_form.specs.Simplification.{chain}
use Rattle.syn_form.specs.Trees.{FormTree, OutTree, form_terms, out_terms}
use Rattle.syn_form.proofs.Equations.{fold-Atom, fold-Equal, fold-False, fold-Give, fold-If, fold-Implies, fold-Not, fold-True, form_terms-Atom, form_terms-Equal, form_terms-Implies, form_terms-Not, out_terms-Give, out_terms-If}
use Rattle.syn_form.proofs.Inductions.{by_form_cases, by_out_cases}
use Rattle.syn_form.proofs.OnTerms.{on_terms-chain}
use Rattle.syn_form.proofs.Owned.{All-left, All-right}
use Rattle.syn_form.proofs.PutInputs.{on_terms-terms}
use Rattle.syn_form.proofs.SimplifiedTerms.{form_terms-chain}
use Rattle.syn_unify.specs.OutTerms.{out_on_terms, out_on_terms_step}
use Rattle.syn_unify.proofs.Under.{each_same}

-- formulas whose terms are changed alike are changed alike
module _ (g h : TermTree → TermTree) where
  abbrev One : TermTree → Type 0
  One t = g t ≡ h t

  abbrev Same : FormTree → Type 0
  Same f = All One (form_terms f) → on_terms g f ≡ on_terms h f

  terms_same : (ts : List TermTree) → All One ts → map g ts ≡ map h ts
  terms_same ts e = each_same g h ts e

  members_same : (all : List FormTree) → All Same all → All One (flat_map form_terms all) → map (on_terms g) all ≡ map (on_terms h) all
  members_same [] held e = refl
  members_same (f ∷ fs) held e =
      ap (λ (z : FormTree). z ∷ map (on_terms g) fs) (All-head Same f fs held (All-left One (form_terms f) (flat_map form_terms fs) e))
      ∙ ap (λ (z : List FormTree). on_terms h f ∷ z) (members_same fs (All-tail Same f fs held) (All-right One (form_terms f) (flat_map form_terms fs) e))

  pub on_terms_same : (f : FormTree) → Same f
  on_terms_same = by_form_cases Same record {
    at_true = λ e. fold-True (on_terms_step g) ∙ sym (fold-True (on_terms_step h));
    at_false = λ e. fold-False (on_terms_step g) ∙ sym (fold-False (on_terms_step h));
    at_atom = λ r args e. fold-Atom (on_terms_step g) r args ∙ (ap (form.Atom r) (terms_same args (subst (All One) (form_terms-Atom r args) e)) ∙ sym (fold-Atom (on_terms_step h) r args));
    at_equal = λ s t e.
        let k = subst (All One) (form_terms-Equal s t) e in
        fold-Equal (on_terms_step g) s t ∙ (ap (λ (z : TermTree). form.Equal z (g t)) (All-head One s (t ∷ []) k) ∙ (ap (form.Equal (h s)) (All-head One t [] (All-tail One s (t ∷ []) k)) ∙ sym (fold-Equal (on_terms_step h) s t)));
    at_not = λ a same e. fold-Not (on_terms_step g) a ∙ (ap (λ (z : FormTree). view.Not z) (same (subst (All One) (form_terms-Not a) e)) ∙ sym (fold-Not (on_terms_step h) a));
    at_chain = λ j all held e. on_terms-chain g j all ∙ (ap (chain j) (members_same all held (subst (All One) (form_terms-chain j all) e)) ∙ sym (on_terms-chain h j all));
    at_implies = λ a b first second e.
        let k = subst (All One) (form_terms-Implies a b) e in
        fold-Implies (on_terms_step g) a b ∙ (ap (λ (z : FormTree). view.Implies z (on_terms g b)) (first (All-left One (form_terms a) (form_terms b) k)) ∙ (ap (λ (z : FormTree). view.Implies (on_terms h a) z) (second (All-right One (form_terms a) (form_terms b) k)) ∙ sym (fold-Implies (on_terms_step h) a b)));
  }

  abbrev SameOut : OutTree → Type 0
  SameOut o = All One (out_terms o) → out_on_terms g o ≡ out_on_terms h o

  -- and outputs
  pub out_on_terms_same : (o : OutTree) → SameOut o
  out_on_terms_same = by_out_cases SameOut record {
    at_give = λ t e. fold-Give (out_on_terms_step g) t ∙ (ap (λ (z : TermTree). out.Give z) (All-head One t [] (subst (All One) (out_terms-Give t) e)) ∙ sym (fold-Give (out_on_terms_step h) t));
    at_if = λ f u v first second e.
        let k = subst (All One) (out_terms-If f u v) e in
        let rest = All-right One (form_terms f) (out_terms u ++ out_terms v) k in
        fold-If (out_on_terms_step g) f u v ∙ (ap (λ (z : FormTree). out_view.If z (out_on_terms g u) (out_on_terms g v)) (on_terms_same f (All-left One (form_terms f) (out_terms u ++ out_terms v) k))
        ∙ (ap (λ (z : OutTree). out_view.If (on_terms h f) z (out_on_terms g v)) (first (All-left One (out_terms u) (out_terms v) rest))
        ∙ (ap (λ (z : OutTree). out_view.If (on_terms h f) (out_on_terms h u) z) (second (All-right One (out_terms u) (out_terms v) rest)) ∙ sym (fold-If (out_on_terms_step h) f u v))));
  }

-- the terms of an output are those that it had, each changed
pub out_on_terms-terms : (g : TermTree → TermTree) (o : OutTree) → out_terms (out_on_terms g o) ≡ map g (out_terms o)
out_on_terms-terms g = by_out_cases (λ o. out_terms (out_on_terms g o) ≡ map g (out_terms o)) record {
  at_give = λ t. ap out_terms (fold-Give (out_on_terms_step g) t) ∙ (out_terms-Give (g t) ∙ ap (map g) (sym (out_terms-Give t)));
  at_if = λ f u v h k.
      ap out_terms (fold-If (out_on_terms_step g) f u v) ∙ (out_terms-If (on_terms g f) (out_on_terms g u) (out_on_terms g v)
      ∙ (ap (λ (zs : List TermTree). zs ++ (out_terms (out_on_terms g u) ++ out_terms (out_on_terms g v))) (on_terms-terms g f)
      ∙ (ap (λ (zs : List TermTree). map g (form_terms f) ++ zs) (ap (λ (zs : List TermTree). zs ++ out_terms (out_on_terms g v)) h ∙ (ap (λ (zs : List TermTree). map g (out_terms u) ++ zs) k ∙ sym (map-append g (out_terms u) (out_terms v))))
      ∙ (sym (map-append g (form_terms f) (out_terms u ++ out_terms v)) ∙ ap (map g) (sym (out_terms-If f u v))))));
}
