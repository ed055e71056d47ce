-- What a clause says is plain, and a call that was made once more says the same.
use Rattle.std.proofs.Common.{◌≡◌, List, ◌++◌, Some, All, Contains, map, refl, sym, ◌∙◌, ap, subst}
use Rattle.std.specs.List.{flat_map}
use Rattle.std.proofs.lemmas.Grind.{flat_map-append}
use Rattle.std.proofs.lemmas.List.Elements.{Contains-append_left, Contains-append_right}
use Rattle.syn_term.specs.declared.sorts.SymId.{SymId}
use Rattle.syn_term.specs.declared.sorts.Var.{Var}
use Rattle.syn_term.specs.Symbols.{SymbolTable}
use Rattle.syn_term.specs.Terms.{TermTree, application, bare, nowhere, sort_of}
use Rattle.syn_term.proofs.Trees.{bare-App}
use Rattle.syn_form.specs.declared.trees.Form.TheVariants as form
use Rattle.syn_form.specs.Plain.{HasOneSortEach, IsPlainForm, IsSorted}
use Rattle.syn_form.specs.Trees.{FormTree, OutTree, bare_form, form_terms, out_vars, term_vars}
use Rattle.syn_form.proofs.BareFacts.{sorted_bare}
use Rattle.syn_form.proofs.BareVars.{term_vars_bare}
use Rattle.syn_form.proofs.Equations.{form_terms-Atom}
use Rattle.syn_form.proofs.FormedForms.{atom_formed}
use Rattle.syn_form.proofs.SortedTerms.{application_sorted}
use Rattle.syn_form.proofs.Sorting.{sort_bare, sort_of-application}
use Rattle.syn_form.proofs.Variables.{application_vars}
use Rattle.syn_row.specs.Rows.{bare_row}
use Rattle.syn_start.specs.Definitions.{defines_relation, equals_output}
use Rattle.syn_start.specs.Initial.{assertion_of}
use Rattle.syn_start.specs.inner.Fine.{IsFunctionClause, IsRelationClause}
use Rattle.syn_start.proofs.SameOutputs.{all_in, defines_formed, defines_terms, equals_formed, equals_same, equals_sorts, vars_within}

-- the call that was made of arguments that are the same but for places
pub call_is : (f : SymId) (args parts : List TermTree) (call : TermTree) → bare call ≡ application f (map bare parts) → map bare parts ≡ map bare args → bare call ≡ bare (application f args)
call_is f args parts call e m = e ∙ (ap (application f) m ∙ sym (bare-App nowhere f args))

assertions_one : (f g : FormTree) → bare_form f ≡ bare_form g → bare_row (assertion_of f) ≡ bare_row (assertion_of g)
assertions_one f g e = cc

module _ (f : SymId) (args : List TermTree) (body : OutTree) (call : TermTree) (e : bare call ≡ bare (application f args)) where
  pub call_row : bare_row (assertion_of (equals_output call body)) ≡ bare_row (assertion_of (equals_output (application f args) body))
  call_row = assertions_one (equals_output call body) (equals_output (application f args) body) (equals_same call (application f args) e body)

  module _ (table : SymbolTable) (h : IsFunctionClause table f args body) where
    call_sorted : IsSorted table call
    call_sorted =
        let applied : IsSorted table (application f args) = (application_sorted table (application f args) nowhere f args args args refl refl refl).1 ((h.applies, (h.result, h.gives, h.sort)), h.sorted) in
        (sorted_bare table call).0 (subst (IsSorted table) (sym e) ((sorted_bare table (application f args)).1 applied))

    call_sort : sort_of table call ≡ Some h.result
    call_sort = sym (sort_bare table call) ∙ (ap (sort_of table) e ∙ (sort_bare table (application f args) ∙ (sort_of-application table nowhere f args ∙ h.gives)))

    call_vars : term_vars call ≡ flat_map term_vars args
    call_vars = sym (term_vars_bare call) ∙ (ap term_vars e ∙ (term_vars_bare (application f args) ∙ application_vars (application f args) nowhere f args args refl refl))

    pub call_plain : IsPlainForm table (equals_output call body)
    call_plain = record {
      formed = equals_formed table call h.result call_sorted call_sort body h.formed h.of_sort;
      sorts = equals_sorts call body (subst (λ (z : List Var). HasOneSortEach (z ++ out_vars body)) (sym call_vars) h.vars);
    }

pub relation_plain : (table : SymbolTable) (r : SymId) (args : List TermTree) (body : FormTree) → IsRelationClause table r args body → IsPlainForm table (defines_relation (form.Atom r args) body)
relation_plain table r args body h =
    let whole = args ++ form_terms body in
    let first : All (Contains whole) args = all_in whole args (λ x c. Contains-append_left args (form_terms body) x c) in
    let second : All (Contains whole) (form_terms body) = all_in whole (form_terms body) (λ x c. Contains-append_right args (form_terms body) x c) in
    let atom : All (Contains whole) (form_terms (form.Atom r args)) = subst (All (Contains whole)) (sym (form_terms-Atom r args)) first in
    record {
      formed = defines_formed table (form.Atom r args) body ((atom_formed table (form.Atom r args) r args args refl refl).1 (h.atom, h.sorted)) h.formed;
      sorts = vars_within (defines_relation (form.Atom r args) body) whole (defines_terms (Contains whole) (form.Atom r args) body atom second) (subst HasOneSortEach (sym (flat_map-append term_vars args (form_terms body))) h.vars);
    }
