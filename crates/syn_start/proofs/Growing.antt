-- What is sorted or formed over a table is so over each table that begins with it.
use Rattle.std.proofs.Common.{◌≡◌, List, [], ◌∷◌, Option, None, Some, All, map, refl, sym, ◌∙◌, ap, ap₂}
use Rattle.std.specs.Option.{option_and_then}
use Rattle.syn_term.specs.declared.sorts.Sort.{Sort}
use Rattle.syn_term.specs.declared.sorts.Sym.{Sym}
use Rattle.syn_term.specs.declared.sorts.SymId.{SymId}
use Rattle.syn_term.specs.Symbols.{IsPrefix, SymbolTable, symbol_at}
use Rattle.syn_term.specs.Terms.{IsApplication, TermTree, sort_of}
use Rattle.syn_term.proofs.SymbolLaws.{IsSort-IsPrefix, symbol_at-IsPrefix}
use Rattle.syn_form.specs.declared.trees.Form.TheVariants as form
use Rattle.syn_form.specs.declared.trees.Out.TheVariants as out
use Rattle.syn_form.specs.Plain.{IsAtom, IsFormed, IsFormedOut, IsKnownSort, IsSorted, PlainFormNode, PlainOutNode, SortedNode, given_sort, given_sort_step, result_of}
use Rattle.syn_form.specs.Simplification.{Junction, conjunction, disjunction}
use Rattle.syn_form.specs.Trees.{FormTree, OutTree}
use Rattle.syn_form.proofs.Equations.{fold-Give, fold-If}
use Rattle.syn_form.proofs.FormedForms.{atom_formed, equality_formed, term_formed}
use Rattle.syn_form.proofs.Inductions.{by_form_cases, by_out_cases}
use Rattle.syn_form.proofs.Nodes.{chain_layer, every-False, every-Give, every-If, every-Implies, every-Not, every-True, every-chain, node-If, node-chain, part-Not, parts-If, parts-Implies, parts-chain}
use Rattle.syn_form.proofs.Sorting.{sort_of-application, sort_of-variable}
use Rattle.syn_form.proofs.TermNodes.{by_term_cases, every-App, every-Var, node-App, node-Var, parts-App}

module _ (table : SymbolTable) where
  known_along : (o p : Option Sort) → o ≡ p → IsKnownSort table p → IsKnownSort table o
  known_along o p e k = (k.0, e ∙ k.1, k.2)

  -- a sorted term has a sort of the table
  pub sorted_known : (t : TermTree) → IsSorted table t → IsKnownSort table (sort_of table t)
  sorted_known = by_term_cases (λ t. IsSorted table t → IsKnownSort table (sort_of table t))
      (λ p v h. (v.sort, sort_of-variable table p v, node-Var (SortedNode table) p v h))
      (λ p f args stay h. known_along (sort_of table _) (result_of table f) (sort_of-application table p f args) (node-App (SortedNode table) p f args h).1)

  -- so has what a formed output gives
  pub given_known : (o : OutTree) → IsFormedOut table o → IsKnownSort table (given_sort table o)
  given_known = by_out_cases (λ o. IsFormedOut table o → IsKnownSort table (given_sort table o)) record {
    at_give = λ t h. known_along (given_sort table (out.Give t)) (sort_of table t) (fold-Give (given_sort_step table) t) (sorted_known t ((term_formed table (out.Give t) t refl).0 h));
    at_if = λ f u v h k l. known_along (given_sort table _) (given_sort table u) (fold-If (given_sort_step table) f u v) (h (parts-If (PlainOutNode table) f u v l).0);
  }

module _ (small great : SymbolTable) (grows : IsPrefix small great) where
  pub result_more : (f : SymId) (s : Sort) → result_of small f ≡ Some s → result_of great f ≡ Some s
  result_more f s e = by (symbol_at small f) refl e
    where
      by : (o : Option Sym) → symbol_at small f ≡ o → option_and_then (λ (x : Sym). x.result) o ≡ Some s → result_of great f ≡ Some s
      by None at h = absurd (cc)
      by (Some x) at h = ap (option_and_then (λ (y : Sym). y.result)) (symbol_at-IsPrefix small great f x at grows) ∙ h

  known_more : (o p : Option Sort) → ((s : Sort) → o ≡ Some s → p ≡ Some s) → IsKnownSort small o → IsKnownSort great p
  known_more o p more k = (k.0, more k.0 k.1, IsSort-IsPrefix small great k.0 k.2 grows)

  sort_more : (t : TermTree) (s : Sort) → sort_of small t ≡ Some s → sort_of great t ≡ Some s
  sort_more = by_term_cases (λ t. (s : Sort) → sort_of small t ≡ Some s → sort_of great t ≡ Some s)
      (λ p v s e. sort_of-variable great p v ∙ (sym (sort_of-variable small p v) ∙ e))
      (λ p f args h s e. sort_of-application great p f args ∙ result_more f s (sym (sort_of-application small p f args) ∙ e))

  sorts_more : (ts : List TermTree) (ss : List Sort) → map (sort_of small) ts ≡ map Some ss → map (sort_of great) ts ≡ map Some ss
  sorts_more [] [] e = refl
  sorts_more [] (s ∷ ss) e = absurd (cc)
  sorts_more (t ∷ ts) [] e = absurd (cc)
  sorts_more (t ∷ ts) (s ∷ ss) e =
      let first : sort_of small t ≡ Some s = cc in
      let others : map (sort_of small) ts ≡ map Some ss = cc in
      ap₂ (λ (x : Option Sort) (xs : List (Option Sort)). x ∷ xs) (sort_more t s first) (sorts_more ts ss others)

  -- two sorts that are one stay so
  same_more : (o p x y : Option Sort) → IsKnownSort small o → o ≡ p → ((s : Sort) → o ≡ Some s → x ≡ Some s) → ((s : Sort) → p ≡ Some s → y ≡ Some s) → x ≡ y
  same_more o p x y k e first second = first k.0 k.1 ∙ sym (second k.0 (sym e ∙ k.1))

  pub applies_more : (f : SymId) (args : List TermTree) → IsApplication small f args → IsApplication great f args
  applies_more f args h = record { sym = h.sym; is = symbol_at-IsPrefix small great f h.sym h.is grows; no_relation = h.no_relation; no_order = h.no_order; sorts = sorts_more args h.sym.args h.sorts }

  pub atom_more : (r : SymId) (args : List TermTree) → IsAtom small r args → IsAtom great r args
  atom_more r args h = record { sym = h.sym; is = symbol_at-IsPrefix small great r h.sym h.is grows; relation = h.relation; sorts = sorts_more args h.sym.args h.sorts }

  pub sorted_more : (t : TermTree) → IsSorted small t → IsSorted great t
  sorted_more = by_term_cases (λ t. IsSorted small t → IsSorted great t)
      (λ p v h. every-Var (SortedNode great) p v (IsSort-IsPrefix small great v.sort (node-Var (SortedNode small) p v h) grows))
      (λ p f args stay h.
      let n = node-App (SortedNode small) p f args h in
      let k = parts-App (SortedNode small) p f args h in
      every-App (SortedNode great) p f args (applies_more f args n.0, known_more (result_of small f) (result_of great f) (result_more f) n.1) (λ i d lt. stay i d lt (k i d lt)))

  pub all_sorted_more : (ts : List TermTree) → All (IsSorted small) ts → All (IsSorted great) ts
  all_sorted_more ts h = λ i d lt. sorted_more _ (h i d lt)

  chain_more : (j : Junction) (all : List FormTree) → PlainFormNode small (chain_layer j all) → PlainFormNode great (chain_layer j all)
  chain_more conjunction all h = h
  chain_more disjunction all h = h

  pub formed_more : (f : FormTree) → IsFormed small f → IsFormed great f
  formed_more = by_form_cases (λ f. IsFormed small f → IsFormed great f) record {
    at_true = λ h. every-True (PlainFormNode great) tt;
    at_false = λ h. every-False (PlainFormNode great) tt;
    at_atom = λ r args h.
        let k = (atom_formed small (form.Atom r args) r args args refl refl).0 h in
        (atom_formed great (form.Atom r args) r args args refl refl).1 (atom_more r args k.0, all_sorted_more args k.1);
    at_equal = λ s t h.
        let k = (equality_formed small (form.Equal s t) s t refl).0 h in
        (equality_formed great (form.Equal s t) s t refl).1
        (sorted_more s k.0, sorted_more t k.1, same_more (sort_of small s) (sort_of small t) (sort_of great s) (sort_of great t) (sorted_known small s k.0) k.2 (sort_more s) (sort_more t));
    at_not = λ a stay h. every-Not (PlainFormNode great) a tt (stay (part-Not (PlainFormNode small) a h));
    at_chain = λ j all stay h.
        let k = parts-chain (PlainFormNode small) j all h in
        every-chain (PlainFormNode great) j all (chain_more j all (node-chain (PlainFormNode small) j all h)) (λ i d lt. stay i d lt (k i d lt));
    at_implies = λ a b first second h.
        let k = parts-Implies (PlainFormNode small) a b h in
        every-Implies (PlainFormNode great) a b tt (first k.0) (second k.1);
  }

  pub given_more : (o : OutTree) (s : Sort) → given_sort small o ≡ Some s → given_sort great o ≡ Some s
  given_more = by_out_cases (λ o. (s : Sort) → given_sort small o ≡ Some s → given_sort great o ≡ Some s) record {
    at_give = λ t s e. fold-Give (given_sort_step great) t ∙ sort_more t s (sym (fold-Give (given_sort_step small) t) ∙ e);
    at_if = λ f u v h k s e. fold-If (given_sort_step great) f u v ∙ h s (sym (fold-If (given_sort_step small) f u v) ∙ e);
  }

  pub out_more : (o : OutTree) → IsFormedOut small o → IsFormedOut great o
  out_more = by_out_cases (λ o. IsFormedOut small o → IsFormedOut great o) record {
    at_give = λ t h. every-Give (PlainOutNode great) t (sorted_more t ((term_formed small (out.Give t) t refl).0 h));
    at_if = λ f u v h k l.
        let n = node-If (PlainOutNode small) f u v l in
        let p = parts-If (PlainOutNode small) f u v l in
        every-If (PlainOutNode great) f u v
        (formed_more f n.0, same_more (given_sort small u) (given_sort small v) (given_sort great u) (given_sort great v) (given_known small u p.0) n.1 (given_more u) (given_more v)) (h p.0) (k p.1);
  }
