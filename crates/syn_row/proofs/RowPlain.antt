-- A row renumbered is plain where the row is, and has as many nodes and is as deep; so is a row that is one with it.
use Rattle.std.proofs.Common.{◌≡◌, ℕ, List, Option, None, Some, IfSome, map, refl, sym, ◌∙◌, ap, subst}
use Rattle.std.specs.Option.{option_map}
use Rattle.std.proofs.lemmas.List.Elements.{All-map}
use Rattle.syn_term.specs.declared.sorts.Var.{Var}
use Rattle.syn_term.specs.Symbols.{IsSort, SymbolTable}
use Rattle.syn_term.specs.Terms.{TermTree, IsApplication, nowhere}
use Rattle.syn_form.specs.declared.trees.Out.TheVariants as out
use Rattle.syn_form.specs.Inputs.{on_terms}
use Rattle.syn_form.specs.Plain.{HasOneSortEach, IsFormed, IsFormedOut, IsSorted, PlainOutNode, SortedNode, given_sort, given_sort_step}
use Rattle.syn_form.specs.Substitutions.{substituted_form, substituted_out}
use Rattle.syn_form.specs.Trees.{FormTree, OutTree, bare_out}
use Rattle.syn_form.proofs.BareFacts.{formed_bare, formed_out_bare}
use Rattle.syn_form.proofs.Equations.{fold-Give, fold-If}
use Rattle.syn_form.proofs.Inductions.{by_out_cases}
use Rattle.syn_form.proofs.Nodes.{every-Give, every-If, node-If, parts-If}
use Rattle.syn_form.proofs.FormedForms.{term_formed}
use Rattle.syn_form.proofs.PutInputs.{on_terms-formed}
use Rattle.syn_form.proofs.SimplifiedPlain.{simplified_row-plain}
use Rattle.syn_form.proofs.TermNodes.{by_term_cases, node-App, node-Var, parts-App, every-App, every-Var}
use Rattle.syn_row.specs.Rows.{IsPlain, RowTree, bare_row, canonical_row, first_occurrences, numbered_from, renumbered_row, row_vars, simplified_row, substituted_row}
use Rattle.syn_row.specs.inner.Renumbering.{renumbered}
use Rattle.syn_row.proofs.CanonicalRows.{numbering_from, numbers_rename}
use Rattle.syn_row.proofs.Changes.{changes_alike, changes_on, changes_substituted, out_changes_substituted}
use Rattle.syn_row.proofs.Keeping.{renumbered-App, renumbered-Var, sort_renumbered, sorts_renumbered}
use Rattle.syn_row.proofs.Numbers.{numbered, one_number, sort_numbered}
use Rattle.syn_row.proofs.Occurring.{occurs_first}
use Rattle.syn_row.proofs.Renaming.{comes_from, comes_from_one}
use Rattle.syn_row.proofs.RowChanges.{row_vars-along, row_vars-renamed}

module _ (table : SymbolTable) (n : ℕ) (vars : List Var) where
  -- a term renumbered is sorted
  sorted_renumbered : (t : TermTree) → IsSorted table t → IsSorted table (renumbered n vars t)
  sorted_renumbered = by_term_cases (λ t. IsSorted table t → IsSorted table (renumbered n vars t))
      (λ p v h. subst (IsSorted table) (sym (renumbered-Var n vars p v)) (every-Var (SortedNode table) nowhere (numbered n vars v) (subst (IsSort table) (sym (sort_numbered n vars v)) (node-Var (SortedNode table) p v h))))
      (λ p f args stay h.
      let m = node-App (SortedNode table) p f args h in
      let k = parts-App (SortedNode table) p f args h in
      let applied : IsApplication table f (map (renumbered n vars) args) = record { sym = m.0.sym; is = m.0.is; no_relation = m.0.no_relation; no_order = m.0.no_order; sorts = sorts_renumbered n vars table args ∙ m.0.sorts } in
      subst (IsSorted table) (sym (renumbered-App n vars p f args)) (every-App (SortedNode table) nowhere f (map (renumbered n vars) args) (applied, m.1) (All-map (IsSorted table) (renumbered n vars) args (λ i d lt. stay i d lt (k i d lt)))))

  formed_renumbered : (f : FormTree) → IsFormed table f → IsFormed table (substituted_form (numbered_from n vars) f)
  formed_renumbered f h =
      subst (IsFormed table) (changes_alike (on_terms (renumbered n vars)) (substituted_form (numbered_from n vars)) (renumbered n vars) (renumbered n vars) (changes_on (renumbered n vars)) (changes_substituted (numbered_from n vars)) (λ t. refl) f)
      (on_terms-formed table (renumbered n vars) (sort_renumbered n vars table) sorted_renumbered f h)

  abbrev Q : OutTree → OutTree
  Q = substituted_out (numbered_from n vars)

  given_renumbered : (o : OutTree) → given_sort table (Q o) ≡ given_sort table o
  given_renumbered = by_out_cases (λ o. given_sort table (Q o) ≡ given_sort table o) record {
    at_give = λ t. ap (given_sort table) ((out_changes_substituted (numbered_from n vars)).at_give t) ∙ (fold-Give (given_sort_step table) (renumbered n vars t) ∙ (sort_renumbered n vars table t ∙ sym (fold-Give (given_sort_step table) t)));
    at_if = λ f u v h k. ap (given_sort table) ((out_changes_substituted (numbered_from n vars)).at_if f u v) ∙ (fold-If (given_sort_step table) (substituted_form (numbered_from n vars) f) (Q u) (Q v) ∙ (h ∙ sym (fold-If (given_sort_step table) f u v)));
  }

  out_renumbered : (o : OutTree) → IsFormedOut table o → IsFormedOut table (Q o)
  out_renumbered = by_out_cases (λ o. IsFormedOut table o → IsFormedOut table (Q o)) record {
    at_give = λ t h. subst (IsFormedOut table) (sym ((out_changes_substituted (numbered_from n vars)).at_give t)) (every-Give (PlainOutNode table) (renumbered n vars t) (sorted_renumbered t ((term_formed table (out.Give t) t refl).0 h)));
    at_if = λ f u v h k l.
        let m = node-If (PlainOutNode table) f u v l in
        let p = parts-If (PlainOutNode table) f u v l in
        subst (IsFormedOut table) (sym ((out_changes_substituted (numbered_from n vars)).at_if f u v))
        (every-If (PlainOutNode table) (substituted_form (numbered_from n vars) f) (Q u) (Q v) (formed_renumbered f m.0, given_renumbered u ∙ (m.1 ∙ sym (given_renumbered v))) (h p.0) (k p.1));
  }

  option_renumbered : (o : Option OutTree) → IfSome o (IsFormedOut table) → IfSome (option_map Q o) (IsFormedOut table)
  option_renumbered None h = tt
  option_renumbered (Some o) h = out_renumbered o h

-- no number has two sorts once a row is renumbered
sorts_each : (n : ℕ) (r : RowTree) → HasOneSortEach (row_vars (substituted_row (numbering_from n r) r))
unfolding numbers_rename
sorts_each n r = subst HasOneSortEach (sym (row_vars-renamed (numbering_from n r) r (numbers_rename n r))) each
  where
    each : HasOneSortEach (map (numbered n (first_occurrences (row_vars r))) (row_vars r))
    each v w c d e =
        let to = numbered n (first_occurrences (row_vars r)) in
        let p = comes_from_one to (row_vars r) v c in
        let q = comes_from_one to (row_vars r) w d in
        let x = comes_from to (row_vars r) v in
        let y = comes_from to (row_vars r) w in
        let same : x ≡ y = one_number n (first_occurrences (row_vars r)) x y (occurs_first (row_vars r) x p.0) (occurs_first (row_vars r) y q.0) (ap (λ (z : Var). z.number) p.1 ∙ (e ∙ ap (λ (z : Var). z.number) (sym q.1))) in
        ap (λ (z : Var). z.sort) (sym p.1 ∙ (ap to same ∙ q.1))

pub plain_numbered : (table : SymbolTable) (n : ℕ) (r : RowTree) → IsPlain table r → IsPlain table (substituted_row (numbering_from n r) r)
plain_numbered table n r h = record {
  form = formed_renumbered table n (first_occurrences (row_vars r)) r.form h.form;
  out = option_renumbered table n (first_occurrences (row_vars r)) r.out h.out;
  sorts = sorts_each n r;
}

pub plain_renumbered : (table : SymbolTable) (r : RowTree) → IsPlain table r → IsPlain table (renumbered_row r)
plain_renumbered table r h = plain_numbered table 1 r h

pub plain_simplified : (table : SymbolTable) (r : RowTree) → IsPlain table r → IsPlain table (simplified_row r)
plain_simplified table r h = simplified_row-plain table r.form r.out h

pub canonical_plain : (table : SymbolTable) (r : RowTree) → IsPlain table r → IsPlain table (canonical_row r)
canonical_plain table r h = plain_renumbered table (simplified_row r) (plain_simplified table r h)

-- a row that is one with a plain row is plain
out_along : (table : SymbolTable) (o p : Option OutTree) → option_map bare_out o ≡ option_map bare_out p → IfSome p (IsFormedOut table) → IfSome o (IsFormedOut table)
out_along table None p e h = tt
out_along table (Some o) None e h = absurd (cc)
out_along table (Some o) (Some p) e h = let k : bare_out o ≡ bare_out p = cc in (formed_out_bare table o).0 (subst (IsFormedOut table) (sym k) ((formed_out_bare table p).1 h))

pub plain_along : (table : SymbolTable) (r s : RowTree) → bare_row r ≡ bare_row s → IsPlain table s → IsPlain table r
plain_along table r s e h = record {
  form = (formed_bare table r.form).0 (subst (IsFormed table) (sym (ap (λ (z : RowTree). z.form) e)) ((formed_bare table s.form).1 h.form));
  out = out_along table r.out s.out (ap (λ (z : RowTree). z.out) e) h.out;
  sorts = subst HasOneSortEach (sym (row_vars-along r s e)) h.sorts;
}
