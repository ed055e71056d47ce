-- The ends of the code that renumbers and simplifies a row.
use Rattle.std.proofs.Common.{◌≡◌, ◌↔◌, ℕ, ◌+◌, ◌≤◌, Bool, IsTrue, List, [], Option, None, Some, All, Contains, get_or, refl, sym, ◌∙◌, ap, subst, arith}
use Rattle.std.specs.Option.{option_map, option_map_or}
use Rattle.std.proofs.lemmas.List.Elements.{All-contains, Contains-get_or}
use Rattle.syn_term.specs.Bank.{Kept, Belongs, Extends, Extends-refl, Extends-trans}
use Rattle.syn_term.specs.declared.sorts.Var.{Var}
use Rattle.syn_term.specs.Symbols.{SymbolTable}
use Rattle.syn_term.specs.Terms.{TermTree}
use Rattle.syn_form.specs.Inputs.{on_terms, terms_size}
use Rattle.syn_form.specs.Plain.{HasOneSortEach, IsFormed}
use Rattle.syn_form.specs.Same.{OfOneBank, OfOneBank-from}
use Rattle.syn_form.specs.Simplification.{simplified_form, simplified_out}
use Rattle.syn_form.specs.Substitutions.{substituted_form, substituted_out}
use Rattle.syn_form.specs.Trees.{FormTree, OutTree, bare_form, bare_out, form_terms, out_nodes, out_terms}
use Rattle.syn_form.proofs.Lists.{All-within}
use Rattle.syn_form.proofs.SimplifiedTerms.{Among-append, simplified_form-terms, simplified_out-terms}
use Rattle.syn_row.specs.Rows.{IsPlain, IsSimplified, IsWithinRow, RowTree, bare_row, canonical_row, first_occurrences, numbered_from, renumbered_row, row_nodes, row_terms, row_vars, simplified_row, substituted_row}
use Rattle.syn_row.specs.RowLaws.{CanonicalLaws}
use Rattle.syn_row.specs.inner.Renumbering.{AreLike, IsFormedOutput, out_on_terms, renumbered, renumbered_form, renumbered_out}
use Rattle.syn_row.proofs.Changes.{changes_alike, changes_on, changes_substituted, out_changes_alike, out_changes_on, out_changes_substituted}
use Rattle.syn_row.proofs.CanonicalRows.{canonical_again, canonical_decides, canonical_simplified, simplified-along, variants_renumbered}
use Rattle.syn_row.proofs.Occurring.{occurs, occurs_first}
use Rattle.syn_row.proofs.RowPlain.{canonical_plain, plain_along, plain_renumbered, plain_simplified}
use Rattle.syn_row.proofs.RowSizes.{nodes-along, row_nodes-renumbered, within-along}
use Rattle.syn_row.proofs.Sizes.{terms_fit}
use Rattle.syn_row.proofs.Variants.{variant_laws}

pub canonical_laws : CanonicalLaws
canonical_laws = record {
  variants = variant_laws;
  variant = λ r. variants_renumbered (simplified_row r);
  decides = canonical_decides;
  again = canonical_again;
  simplified = λ r. ap bare_row (canonical_simplified r);
  plain = canonical_plain;
}

pub ruleset canonical_rules = (Extends-refl, Extends-trans, canonical_laws)

-- a row put together of its formula and its output renumbered
module _ (n : ℕ) (vars : List Var) where
  form_is : (f : FormTree) → renumbered_form n vars f ≡ substituted_form (numbered_from n vars) f
  form_is = changes_alike (on_terms (renumbered n vars)) (substituted_form (numbered_from n vars)) (renumbered n vars) (renumbered n vars) (changes_on (renumbered n vars)) (changes_substituted (numbered_from n vars)) (λ t. refl)

  out_is : (o : OutTree) → renumbered_out n vars o ≡ substituted_out (numbered_from n vars) o
  out_is = out_changes_alike (on_terms (renumbered n vars)) (substituted_form (numbered_from n vars)) (renumbered n vars) (renumbered n vars) (changes_on (renumbered n vars)) (changes_substituted (numbered_from n vars))
      (out_on_terms (renumbered n vars)) (substituted_out (numbered_from n vars)) (out_changes_on (renumbered n vars)) (out_changes_substituted (numbered_from n vars)) (λ t. refl)

  option_is : (o : Option OutTree) → option_map (renumbered_out n vars) o ≡ option_map (substituted_out (numbered_from n vars)) o
  option_is None = refl
  option_is (Some o) = ap Some (out_is o)

  pub row_made : (r : RowTree) (f : FormTree) (o : Option OutTree) → bare_form f ≡ bare_form (renumbered_form n vars r.form) → option_map bare_out o ≡ option_map bare_out (option_map (renumbered_out n vars) r.out)
      → bare_row (record { side = r.side; form = f; out = o }) ≡ bare_row (substituted_row (numbered_from n vars) r)
  row_made r f o e h =
      let a : bare_form f ≡ bare_form (substituted_form (numbered_from n vars) r.form) = e ∙ ap bare_form (form_is r.form) in
      let b : option_map bare_out o ≡ option_map bare_out (option_map (substituted_out (numbered_from n vars)) r.out) = h ∙ ap (option_map bare_out) (option_is r.out) in cc

-- no more nodes are made than the row has
pub made_form : (r : RowTree) (m n : ℕ) → n ≤ m + terms_size r.form → n ≤ m + row_nodes r
made_form r m n h = let t = terms_fit r.form in omega arith

pub made_row : (r : RowTree) (m n k : ℕ) → n ≤ m + terms_size r.form → k ≤ n + option_map_or out_nodes r.out 0 → k ≤ m + row_nodes r
made_row r m n k h i = let t = terms_fit r.form in omega arith

-- the terms of a simplified row
simplified_terms : (r : RowTree) (t : TermTree) → Contains (row_terms (simplified_row r)) t → Contains (row_terms r) t
simplified_terms r = Among-append (form_terms (simplified_form r.form)) (option_map_or out_terms (option_map simplified_out r.out) []) (form_terms r.form) (option_map_or out_terms r.out []) (simplified_form-terms r.form) (option_terms r.out)
  where
    option_terms : (o : Option OutTree) (t : TermTree) → Contains (option_map_or out_terms (option_map simplified_out o) []) t → Contains (option_map_or out_terms o []) t
    option_terms None t c = c
    option_terms (Some o) t c = simplified_out-terms o t c

pub simplified_own : (b : Kept) (r s : RowTree) → s ≡ simplified_row r → All (Belongs b) (row_terms r) → All (Belongs b) (row_terms s)
simplified_own b r s e h = subst (λ (z : RowTree). All (Belongs b) (row_terms z)) (sym e) (All-within (Belongs b) (row_terms (simplified_row r)) (row_terms r) (simplified_terms r) h)

pub simplified_plain : (table : SymbolTable) (r s : RowTree) → s ≡ simplified_row r → IsPlain table r → IsPlain table s
simplified_plain table r s e h = subst (IsPlain table) (sym e) (plain_simplified table r h)

pub own_bank : (b : Kept) (r : RowTree) → All (Belongs b) (row_terms r) → OfOneBank (row_terms r)
own_bank b r h = OfOneBank-from b (row_terms r) h

module _ (r s q : RowTree) (is : s ≡ simplified_row r) (made : bare_row q ≡ bare_row (renumbered_row s)) where
  canonical_is : bare_row q ≡ bare_row (canonical_row r)
  canonical_is = made ∙ ap (λ (z : RowTree). bare_row (renumbered_row z)) is

  pub end_row : IsWithinRow s → IsWithinRow (simplified_row r) × (bare_row q ≡ bare_row (canonical_row r))
  end_row h = (subst IsWithinRow is h, canonical_is)

  pub end_made : (m n : ℕ) → n ≤ m + row_nodes s → n ≤ m + row_nodes q
  end_made m n h = let e : row_nodes q ≡ row_nodes s = nodes-along q (renumbered_row s) made ∙ row_nodes-renumbered s 1 in omega arith

  pub end_plain : (table : SymbolTable) → IsPlain table s → IsPlain table q
  end_plain table h = plain_along table q (renumbered_row s) made (plain_renumbered table s h)

  pub end_simplified : IsSimplified q
  end_simplified = simplified-along q (canonical_row r) canonical_is (ap bare_row (canonical_simplified r))

  pub end_within : IsWithinRow s → IsWithinRow q
  end_within h = within-along s q made h

-- the variables of a row have one sort each where its first occurrences have
pub sorts_first : (vars vs : List Var) → vs ≡ first_occurrences vars → (All (λ v. All (AreLike v) vs) vs → HasOneSortEach vars) × (HasOneSortEach vars → All (λ v. All (AreLike v) vs) vs)
sorts_first vars vs is = (
  (λ h v w c d e.
      let first : (x : Var) → Contains vars x → Contains vs x = λ x k. subst (λ (z : List Var). Contains z x) (sym is) (occurs_first vars x k) in
      All-contains (AreLike v) vs w (All-contains (λ x. All (AreLike x) vs) vs v h (first v c)) (first w d) e),
  (λ h i x lt j y gt e.
      let back : (z : Var) → Contains vs z → Contains vars z = λ z k. occurs vars z (subst (λ (zs : List Var). Contains zs z) is k) in
      h (get_or vs i x) (get_or vs j y) (back (get_or vs i x) (Contains-get_or vs i x lt)) (back (get_or vs j y) (Contains-get_or vs j y gt)) e),
)

pub plain_row : (table : SymbolTable) (r : RowTree) (vs zs : List Var) (b : Bool) → vs ≡ first_occurrences (row_vars r) → zs ≡ vs → IsFormed table r.form → IsFormedOutput table r.out → (IsTrue b ↔ All (λ v. All (AreLike v) zs) zs) → IsTrue b ↔ IsPlain table r
plain_row table r vs zs b is same form out test =
    let s = sorts_first (row_vars r) zs (same ∙ is) in (
      (λ e. record { form = form; out = out; sorts = s.0 (test.0 e) }),
      (λ p. test.1 (s.1 p.sorts)),
    )
