-- Public. What simplification does to a formula and to an output, for whoever only needs that much.
use Rattle.std.specs.Prelude.{◌≡◌, ◌≤◌, Contains}
use Rattle.syn_term.specs.declared.sorts.Var.{Var}
use Rattle.syn_term.specs.Symbols.{SymbolTable}
use Rattle.syn_term.specs.Terms.{TermTree, bare}
use Rattle.syn_form.specs.Trees.{FormTree, OutTree, form_nodes, form_depth, form_terms, form_vars, out_nodes, out_depth, out_terms, out_vars}
use Rattle.syn_form.specs.Plain.{IsPlainForm, IsPlainOut, IsFormedOut, given_sort}
use Rattle.syn_form.specs.Truth.{Assignment, IsReflexive, truth_value, given}
use Rattle.syn_form.specs.Simplification.{simplified_form, simplified_out}

-- The formula g simplifies f where both have one truth value under every assignment that holds each term equal to itself,
-- where g is left as it is when simplified, where g is plain if f is, and where g has no more nodes, no more depth, no
-- other terms and no other variables than f.
pub record SimplifiesForm (f g : FormTree) : Type 0 where
  pub truth : (a : Assignment) → IsReflexive a → truth_value a g ≡ truth_value a f
  pub again : simplified_form g ≡ g
  pub plain : (table : SymbolTable) → IsPlainForm table f → IsPlainForm table g
  pub size : form_nodes g ≤ form_nodes f
  pub depth : form_depth g ≤ form_depth f
  pub terms : (t : TermTree) → Contains (form_terms g) t → Contains (form_terms f) t
  pub variables : (v : Var) → Contains (form_vars g) v → Contains (form_vars f) v

-- The output p simplifies o where both give one tree under every such assignment, where p is left as it is when simplified,
-- where p is plain and gives a term of the same sort if o is plain, and where p has no more nodes, no more depth, no other
-- terms and no other variables than o.
pub record SimplifiesOut (o p : OutTree) : Type 0 where
  pub given : (a : Assignment) → IsReflexive a → bare (given a p) ≡ bare (given a o)
  pub again : simplified_out p ≡ p
  pub plain : (table : SymbolTable) → IsPlainOut table o → IsPlainOut table p
  pub sort : (table : SymbolTable) → IsFormedOut table o → given_sort table p ≡ given_sort table o
  pub size : out_nodes p ≤ out_nodes o
  pub depth : out_depth p ≤ out_depth o
  pub terms : (t : TermTree) → Contains (out_terms p) t → Contains (out_terms o) t
  pub variables : (v : Var) → Contains (out_vars p) v → Contains (out_vars o) v
