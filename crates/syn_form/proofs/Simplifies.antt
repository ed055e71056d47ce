-- The laws of simplification, put together.
use Rattle.std.proofs.Common.{◌≡◌, Result, IfOk, sym, subst}
use Rattle.std.proofs.lemmas.Result.{IfOk-weaker}
use Rattle.syn_form.specs.Trees.{FormTree, OutTree}
use Rattle.syn_form.specs.Simplification.{simplified_form, simplified_out}
use Rattle.syn_form.specs.SimplificationLaws.{SimplifiesForm, SimplifiesOut}
use Rattle.syn_form.proofs.SimplifiedTerms.{simplified_form-terms, simplified_form-vars, simplified_out-terms, simplified_out-vars}
use Rattle.syn_form.proofs.SimplifiedTruth.{simplified_form-truth, simplified_out-given}
use Rattle.syn_form.proofs.SimplifiedSize.{simplified_form-nodes, simplified_form-depth, simplified_out-nodes, simplified_out-depth}
use Rattle.syn_form.proofs.SimplifiedPlain.{simplified_form-plain, simplified_out-plain, simplified_out-formed}
use Rattle.syn_form.proofs.SimplifiedTwice.{simplified_form-twice, simplified_out-twice}

pub simplifies_form : (f : FormTree) → SimplifiesForm f (simplified_form f)
simplifies_form f = record {
  truth = λ a reflexive. simplified_form-truth a reflexive f;
  again = simplified_form-twice f;
  plain = λ table h. simplified_form-plain table f h;
  size = simplified_form-nodes f;
  depth = simplified_form-depth f;
  terms = simplified_form-terms f;
  variables = simplified_form-vars f;
}

pub simplifies_out : (o : OutTree) → SimplifiesOut o (simplified_out o)
simplifies_out o = record {
  given = λ a reflexive. simplified_out-given a reflexive o;
  again = simplified_out-twice o;
  plain = λ table h. simplified_out-plain table o h;
  sort = λ table h. (simplified_out-formed table o h).1;
  size = simplified_out-nodes o;
  depth = simplified_out-depth o;
  terms = simplified_out-terms o;
  variables = simplified_out-vars o;
}

-- what is the formula, or the output, simplified also simplifies it
pub simplifies_form_from : (f g : FormTree) → g ≡ simplified_form f → SimplifiesForm f g
simplifies_form_from f g e = subst (SimplifiesForm f) (sym e) (simplifies_form f)

pub simplifies_out_from : (o p : OutTree) → p ≡ simplified_out o → SimplifiesOut o p
simplifies_out_from o p e = subst (SimplifiesOut o) (sym e) (simplifies_out o)

-- the same for what a call answers that may fail
pub simplifies_form_ok : {E : Type 0} (r : Result FormTree E) (f : FormTree) → IfOk r (λ g. g ≡ simplified_form f) → IfOk r (SimplifiesForm f)
simplifies_form_ok r f h = IfOk-weaker r (λ g. g ≡ simplified_form f) (SimplifiesForm f) (simplifies_form_from f) h

pub simplifies_out_ok : {E : Type 0} (r : Result OutTree E) (o : OutTree) → IfOk r (λ p. p ≡ simplified_out o) → IfOk r (SimplifiesOut o)
simplifies_out_ok r o h = IfOk-weaker r (λ p. p ≡ simplified_out o) (SimplifiesOut o) (simplifies_out_from o) h
