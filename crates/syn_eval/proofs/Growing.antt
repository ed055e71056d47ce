-- What evaluation in a scope and what a symbol gives, it gives where calls may nest deeper.
use Rattle.std.proofs.Common.{List}
use Rattle.syn_term.specs.declared.sorts.SymId.{SymId}
use Rattle.syn_term.specs.Terms.{TermTree}
use Rattle.syn_form.specs.Trees.{FormTree, OutTree}
use Rattle.syn_value.specs.declared.tree.ValueTree.{ValueTree}
use Rattle.syn_model.proofs.DeeperCalls.{deeper, form_deeper, out_deeper, term_deeper}
use Rattle.syn_eval.specs.declared.evaluating.Scope.{Scope}
use Rattle.syn_eval.specs.inner.Scopes.{form_in, forms_in, out_in, term_in, terms_in, truth_in, value_in, variables_in}
use Rattle.syn_eval.proofs.Answers.{Grows, all_grow}

module _ (s : Scope) where
  pub term_grows : (t : TermTree) → Grows (term_in s t)
  term_grows t n k c e = term_deeper s.set.now n k s.inputs.now (variables_in s) t c e

  pub terms_grow : (ts : List TermTree) → Grows (terms_in s ts)
  terms_grow ts = all_grow (λ n t. term_in s t n) term_grows ts

  pub form_grows : (f : FormTree) → Grows (form_in s f)
  form_grows f n k c e = form_deeper s.set.now n k s.inputs.now (variables_in s) f c e

  pub forms_grow : (fs : List FormTree) → Grows (forms_in s fs)
  forms_grow fs = all_grow (λ n f. form_in s f n) form_grows fs

  pub out_grows : (o : OutTree) → Grows (out_in s o)
  out_grows o n k c e = out_deeper s.set.now n k s.inputs.now (variables_in s) o c e

  pub value_grows : (f : SymId) (vs : List ValueTree) → Grows (value_in s f vs)
  value_grows f vs n k c e = (deeper s.set.now n k s.inputs.now).value f vs c e

  pub truth_grows : (r : SymId) (vs : List ValueTree) → Grows (truth_in s r vs)
  truth_grows r vs n k c e = (deeper s.set.now n k s.inputs.now).truth r vs c e
