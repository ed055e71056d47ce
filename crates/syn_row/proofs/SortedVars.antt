-- The variables of plain rows have sorts of the table.
use Rattle.std.proofs.Common.{inl, inr, List, [], ◌∷◌, ◌++◌, Option, None, Some, All, Contains, IfSome, get_or, refl, sym, subst}
use Rattle.std.specs.Option.{option_map_or}
use Rattle.std.proofs.lemmas.List.Elements.{All-nil, All-cons, All-append, All-contains}
use Rattle.syn_term.specs.declared.sorts.Var.{Var}
use Rattle.syn_term.specs.Symbols.{SymbolTable, IsSort}
use Rattle.syn_term.specs.Terms.{TermTree}
use Rattle.syn_form.specs.declared.trees.Form.TheVariants as form
use Rattle.syn_form.specs.declared.trees.Form.TheViews as view
use Rattle.syn_form.specs.declared.trees.Out.TheVariants as out
use Rattle.syn_form.specs.declared.trees.Out.TheViews as out_view
use Rattle.syn_form.specs.Plain.{IsFormed, IsFormedOut, IsSorted, SortedNode}
use Rattle.syn_form.specs.Simplification.{Junction, conjunction, disjunction, chain}
use Rattle.syn_form.specs.Trees.{FormTree, OutTree, form_terms, out_terms, term_vars}
use Rattle.syn_form.proofs.Chains.{IsChain}
use Rattle.syn_form.proofs.Equations.{form_terms-Atom, form_terms-Equal, form_terms-False, form_terms-Implies, form_terms-Not, form_terms-True, out_terms-Give, out_terms-If}
use Rattle.syn_form.proofs.FormedForms.{atom_formed, chain_formed, choice_formed, equality_formed, implication_formed, negation_formed, term_formed}
use Rattle.syn_form.proofs.Inductions.{by_form_cases, by_out_cases}
use Rattle.syn_form.proofs.Lists.{All-flat_map}
use Rattle.syn_form.proofs.SimplifiedTerms.{form_terms-chain}
use Rattle.syn_form.proofs.TermNodes.{by_term_cases, node-Var, parts-App}
use Rattle.syn_row.specs.Rows.{IsPlain, RowTree, row_terms, row_vars}
use Rattle.syn_row.proofs.RowChanges.{row_vars-terms}
use Rattle.syn_row.proofs.Agreeing.{vars-App, vars-Var}

module _ (table : SymbolTable) where
  abbrev Known : Var → Type 0
  Known v = IsSort table v.sort

  term_known : (t : TermTree) → IsSorted table t → All Known (term_vars t)
  term_known = by_term_cases (λ t. IsSorted table t → All Known (term_vars t))
      (λ p v h. subst (All Known) (sym (vars-Var p v)) (All-cons Known v [] (node-Var (SortedNode table) p v h) (All-nil Known)))
      (λ p f args held h.
      let k = parts-App (SortedNode table) p f args h in
      subst (All Known) (sym (vars-App p f args)) (All-flat_map Known term_vars args (λ i d lt. held i d lt (k i d lt))))

  abbrev Sorted : List TermTree → Type 0
  Sorted ts = All (IsSorted table) ts

  is_chain : (j : Junction) (all : List FormTree) → IsChain (chain j all) all
  is_chain conjunction all = inl refl
  is_chain disjunction all = inr refl

  form_sorted : (f : FormTree) → IsFormed table f → Sorted (form_terms f)
  form_sorted = by_form_cases (λ f. IsFormed table f → Sorted (form_terms f)) record {
    at_true = λ h. subst Sorted (sym form_terms-True) (All-nil (IsSorted table));
    at_false = λ h. subst Sorted (sym form_terms-False) (All-nil (IsSorted table));
    at_atom = λ r args h. subst Sorted (sym (form_terms-Atom r args)) ((atom_formed table (form.Atom r args) r args args refl refl).0 h).1;
    at_equal = λ s t h.
        let k = (equality_formed table (form.Equal s t) s t refl).0 h in
        subst Sorted (sym (form_terms-Equal s t)) (All-cons (IsSorted table) s (t ∷ []) k.0 (All-cons (IsSorted table) t [] k.1 (All-nil (IsSorted table))));
    at_not = λ a same h. subst Sorted (sym (form_terms-Not a)) (same ((negation_formed table (view.Not a) a a refl refl).0 h));
    at_chain = λ j all held h.
        let k = ((chain_formed table (chain j all) all all (is_chain j all) refl).0 h).1 in
        subst Sorted (sym (form_terms-chain j all)) (All-flat_map (IsSorted table) form_terms all (λ i d lt. held i d lt (k i d lt)));
    at_implies = λ a b first second h.
        let k = (implication_formed table (view.Implies a b) a b a b refl refl refl).0 h in
        subst Sorted (sym (form_terms-Implies a b)) (All-append (IsSorted table) (form_terms a) (form_terms b) (first k.0) (second k.1));
  }

  out_sorted : (o : OutTree) → IsFormedOut table o → Sorted (out_terms o)
  out_sorted = by_out_cases (λ o. IsFormedOut table o → Sorted (out_terms o)) record {
    at_give = λ t h. subst Sorted (sym (out_terms-Give t)) (All-cons (IsSorted table) t [] ((term_formed table (out.Give t) t refl).0 h) (All-nil (IsSorted table)));
    at_if = λ f u v first second h.
        let k = (choice_formed table (out_view.If f u v) f f u v u v u v refl refl refl refl refl refl).0 h in
        subst Sorted (sym (out_terms-If f u v)) (All-append (IsSorted table) (form_terms f) (out_terms u ++ out_terms v) (form_sorted f k.0.0) (All-append (IsSorted table) (out_terms u) (out_terms v) (first k.1.0) (second k.1.1)));
  }

  option_sorted : (o : Option OutTree) → IfSome o (IsFormedOut table) → Sorted (option_map_or out_terms o [])
  option_sorted None h = All-nil (IsSorted table)
  option_sorted (Some o) h = out_sorted o h

  row_sorted : (r : RowTree) → IsPlain table r → Sorted (row_terms r)
  row_sorted r h = All-append (IsSorted table) (form_terms r.form) (option_map_or out_terms r.out []) (form_sorted r.form h.form) (option_sorted r.out h.out)

  pub row_known : (r : RowTree) → IsPlain table r → (v : Var) → Contains (row_vars r) v → IsSort table v.sort
  row_known r h v c =
      All-contains Known (row_vars r) v
      (subst (All Known) (row_vars-terms r) (All-flat_map Known term_vars (row_terms r) (λ i d lt. term_known (get_or (row_terms r) i d) (row_sorted r h i d lt))))
      c
