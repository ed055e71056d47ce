-- Trees whose variables became default terms are formed, of the same sorts, and have no variables.
use Rattle.std.proofs.Common.{◌≡◌, List, [], ◌∷◌, ◌++◌, Option, All, get_or, map, refl, sym, ap, subst, ◌∙◌}
use Rattle.std.specs.List.{flat_map}
use Rattle.std.proofs.lemmas.Grind.{flat_map-append}
use Rattle.std.proofs.lemmas.List.Elements.{All-head, All-tail, All-nil, All-cons, All-append}
use Rattle.syn_term.specs.declared.sorts.SymId.{SymId}
use Rattle.syn_term.specs.declared.sorts.Sort.{Sort}
use Rattle.syn_term.specs.declared.sorts.Var.{Var}
use Rattle.syn_term.specs.declared.term.Place.{Place}
use Rattle.syn_term.specs.declared.term.Node.TheVariants as node
use Rattle.syn_term.specs.declared.term.Node.TheViews as view
use Rattle.syn_term.specs.Symbols.{SymbolTable}
use Rattle.syn_term.specs.DeclaredSorts.{IsTable}
use Rattle.syn_term.specs.Terms.{IsApplication, TermTree, application, nowhere, sort_of}
use Rattle.syn_term.proofs.Trees.{fold-App, fold-Var}
use Rattle.syn_form.specs.declared.trees.Form.TheVariants as form
use Rattle.syn_form.specs.declared.trees.Form.TheViews as form_view
use Rattle.syn_form.specs.declared.trees.Out.TheVariants as out
use Rattle.syn_form.specs.declared.trees.Out.TheViews as out_view
use Rattle.syn_form.specs.Inputs.{on_terms_step}
use Rattle.syn_form.specs.Plain.{IsAtom, IsFormed, IsFormedOut, IsSorted, PlainFormNode, PlainOutNode, SortedNode, given_sort, given_sort_step}
use Rattle.syn_form.specs.Simplification.{chain}
use Rattle.syn_form.specs.Trees.{FormTree, OutTree, form_terms, form_terms_step, form_vars, out_terms, out_vars, term_vars}
use Rattle.syn_form.proofs.Equations.{fold-True, fold-False, fold-Atom, fold-Equal, fold-Not, fold-Implies, fold-Give, fold-If, form_terms-Atom, form_terms-Equal, form_terms-Not, form_terms-Implies, out_terms-Give, out_terms-If}
use Rattle.syn_form.proofs.FormedForms.{atom_formed, term_formed}
use Rattle.syn_form.proofs.Inductions.{by_form_cases, by_out_cases}
use Rattle.syn_form.proofs.Lists.{All-flat_map}
use Rattle.syn_form.proofs.Nodes.{every-Atom, every-Equal, every-Give, every-If, every-Implies, every-Not, node-Equal, node-If, part-Not, parts-If, parts-Implies, parts-chain}
use Rattle.syn_form.proofs.OnTerms.{on_terms-chain}
use Rattle.syn_form.proofs.PutInputs.{on_terms-terms}
use Rattle.syn_form.proofs.ReplacingAll.{chain-formed}
use Rattle.syn_form.proofs.SimplifiedTerms.{form_terms-chain}
use Rattle.syn_form.proofs.Sorting.{sort_of-application, sort_of-variable}
use Rattle.syn_form.proofs.TermNodes.{by_term_cases, every-App, node-App, node-Var, parts-App}
use Rattle.syn_value.specs.Defaults.{default_term_tree}
use Rattle.syn_extract.specs.Final.{closed_out, closed_out_step, closed_step, closed_term}
use Rattle.syn_extract.specs.inner.ClosedForms.{closed_form}
use Rattle.syn_extract.proofs.ClosedDefaults.{default_closed, vars-application}

-- parts without variables make outputs without them
pub vars-Give : (t : TermTree) → term_vars t ≡ [] → out_vars (out.Give t) ≡ []
vars-Give t none = ap (flat_map term_vars) (out_terms-Give t) ∙ ap (λ (z : List Var). z ++ []) none

vars-If : (f : FormTree) (u v : OutTree) → form_vars f ≡ [] → out_vars u ≡ [] → out_vars v ≡ [] → out_vars (out_view.If f u v) ≡ []
vars-If f u v a b c =
    ap (flat_map term_vars) (out_terms-If f u v)
    ∙ (flat_map-append term_vars (form_terms f) (out_terms u ++ out_terms v)
    ∙ (ap (λ (z : List Var). z ++ flat_map term_vars (out_terms u ++ out_terms v)) a
    ∙ (flat_map-append term_vars (out_terms u) (out_terms v) ∙ (ap (λ (z : List Var). z ++ out_vars v) b ∙ c))))

module _ (table : SymbolTable) (is : IsTable table) where
  abbrev g : TermTree → TermTree
  g = closed_term table

  -- the closed term is sorted, of the same sort, and has no variables
  record Shut (t : TermTree) : Type 0 where
    sorted : IsSorted table (g t)
    of_sort : sort_of table (g t) ≡ sort_of table t
    none : term_vars (g t) ≡ []

  record AreShut (ts : List TermTree) : Type 0 where
    sorted : All (IsSorted table) (map g ts)
    of_sorts : map (sort_of table) (map g ts) ≡ map (sort_of table) ts
    none : flat_map term_vars (map g ts) ≡ []

  abbrev Shuts : TermTree → Type 0
  Shuts t = IsSorted table t → Shut t

  all_shut : (ts : List TermTree) → All Shuts ts → All (IsSorted table) ts → AreShut ts
  all_shut [] h k = record { sorted = All-nil (IsSorted table); of_sorts = refl; none = refl }
  all_shut (t ∷ ts) h k =
      let first = All-head Shuts t ts h (All-head (IsSorted table) t ts k) in
      let rest = all_shut ts (All-tail Shuts t ts h) (All-tail (IsSorted table) t ts k) in
      record {
        sorted = All-cons (IsSorted table) (g t) (map g ts) first.sorted rest.sorted;
        of_sorts = ap (λ (z : Option Sort). z ∷ map (sort_of table) (map g ts)) first.of_sort ∙ ap (λ (z : List (Option Sort)). sort_of table t ∷ z) rest.of_sorts;
        none = ap (λ (z : List Var). z ++ flat_map term_vars (map g ts)) first.none ∙ rest.none;
      }

  at_var : (p : Place) (v : Var) → Shuts (node.Var p v)
  at_var p v h =
      let d = default_closed table is v.sort (node-Var (SortedNode table) p v h) in
      let e : g (node.Var p v) ≡ default_term_tree table v.sort = fold-Var (closed_step table) p v in
      record {
        sorted = subst (IsSorted table) (sym e) d.sorted;
        of_sort = ap (sort_of table) e ∙ (d.of_sort ∙ sym (sort_of-variable table p v));
        none = ap term_vars e ∙ d.none;
      }

  at_app : (p : Place) (f : SymId) (args : List TermTree) → All Shuts args → Shuts (view.App p f args)
  at_app p f args hs h =
      let n = node-App (SortedNode table) p f args h in
      let a = all_shut args hs (parts-App (SortedNode table) p f args h) in
      let e : g (view.App p f args) ≡ application f (map g args) = fold-App (closed_step table) p f args in
      let may : IsApplication table f (map g args) = record { sym = n.0.sym; is = n.0.is; no_relation = n.0.no_relation; no_order = n.0.no_order; sorts = a.of_sorts ∙ n.0.sorts } in
      record {
        sorted = subst (IsSorted table) (sym e) (every-App (SortedNode table) nowhere f (map g args) (may, n.1) a.sorted);
        of_sort = ap (sort_of table) e ∙ (sort_of-application table nowhere f (map g args) ∙ sym (sort_of-application table p f args));
        none = ap term_vars e ∙ vars-application f (map g args) a.none;
      }

  shut : (t : TermTree) → Shuts t
  shut = by_term_cases Shuts at_var at_app

  shut_all : (ts : List TermTree) → All (IsSorted table) ts → AreShut ts
  shut_all ts = all_shut ts (λ k d lt. shut (get_or ts k d))

  along : (f h : FormTree) → closed_form table f ≡ h → IsFormed table h → IsFormed table (closed_form table f)
  along f h e k = subst (IsFormed table) (sym e) k

  at_atom : (r : SymId) (args : List TermTree) → IsFormed table (form.Atom r args) → IsFormed table (closed_form table (form.Atom r args))
  at_atom r args h =
      let k = (atom_formed table (form.Atom r args) r args args refl refl).0 h in
      let s = shut_all args k.1 in
      let a : IsAtom table r (map g args) = record { sym = k.0.sym; is = k.0.is; relation = k.0.relation; sorts = s.of_sorts ∙ k.0.sorts } in
      along (form.Atom r args) (form.Atom r (map g args)) (fold-Atom (on_terms_step g) r args) (every-Atom (PlainFormNode table) r (map g args) (a, s.sorted))

  at_equal : (s t : TermTree) → IsFormed table (form.Equal s t) → IsFormed table (closed_form table (form.Equal s t))
  at_equal s t h =
      let k = node-Equal (PlainFormNode table) s t h in
      let a = shut s k.0 in
      let b = shut t k.1 in
      along (form.Equal s t) (form.Equal (g s) (g t)) (fold-Equal (on_terms_step g) s t) (every-Equal (PlainFormNode table) (g s) (g t) (a.sorted, b.sorted, a.of_sort ∙ (k.2 ∙ sym b.of_sort)))

  -- the closed formula is formed
  form_formed : (f : FormTree) → IsFormed table f → IsFormed table (closed_form table f)
  form_formed = by_form_cases (λ f. IsFormed table f → IsFormed table (closed_form table f)) record {
    at_true = λ h. along form.True form.True (fold-True (on_terms_step g)) h;
    at_false = λ h. along form.False form.False (fold-False (on_terms_step g)) h;
    at_atom = at_atom;
    at_equal = at_equal;
    at_not = λ a k h. along (form_view.Not a) (form_view.Not (closed_form table a)) (fold-Not (on_terms_step g) a) (every-Not (PlainFormNode table) (closed_form table a) tt (k (part-Not (PlainFormNode table) a h)));
    at_chain = λ j all k h. along (chain j all) (chain j (map (closed_form table) all)) (on_terms-chain g j all) (chain-formed (closed_form table) table j all k h);
    at_implies = λ a b k l h.
        let p = parts-Implies (PlainFormNode table) a b h in
        along (form_view.Implies a b) (form_view.Implies (closed_form table a) (closed_form table b)) (fold-Implies (on_terms_step g) a b) (every-Implies (PlainFormNode table) (closed_form table a) (closed_form table b) tt (k p.0) (l p.1));
  }

  -- the terms of a formed formula are sorted
  abbrev HasSorted : FormTree → Type 0
  HasSorted f = IsFormed table f → All (IsSorted table) (form_terms f)

  terms_along : (f : FormTree) (xs : List TermTree) → form_terms f ≡ xs → All (IsSorted table) xs → All (IsSorted table) (form_terms f)
  terms_along f xs e h = subst (All (IsSorted table)) (sym e) h

  terms_sorted : (f : FormTree) → HasSorted f
  terms_sorted = by_form_cases HasSorted record {
    at_true = λ h. terms_along form.True [] (fold-True form_terms_step) (All-nil (IsSorted table));
    at_false = λ h. terms_along form.False [] (fold-False form_terms_step) (All-nil (IsSorted table));
    at_atom = λ r args h. terms_along (form.Atom r args) args (form_terms-Atom r args) ((atom_formed table (form.Atom r args) r args args refl refl).0 h).1;
    at_equal = λ s t h.
        let k = node-Equal (PlainFormNode table) s t h in
        terms_along (form.Equal s t) (s ∷ t ∷ []) (form_terms-Equal s t) (All-cons (IsSorted table) s (t ∷ []) k.0 (All-cons (IsSorted table) t [] k.1 (All-nil (IsSorted table))));
    at_not = λ a held h. terms_along (form_view.Not a) (form_terms a) (form_terms-Not a) (held (part-Not (PlainFormNode table) a h));
    at_chain = λ j all held h.
        let k = parts-chain (PlainFormNode table) j all h in
        terms_along (chain j all) (flat_map form_terms all) (form_terms-chain j all) (All-flat_map (IsSorted table) form_terms all (λ i d lt. held i d lt (k i d lt)));
    at_implies = λ a b left right h.
        let p = parts-Implies (PlainFormNode table) a b h in
        terms_along (form_view.Implies a b) (form_terms a ++ form_terms b) (form_terms-Implies a b) (All-append (IsSorted table) (form_terms a) (form_terms b) (left p.0) (right p.1));
  }

  form_none : (f : FormTree) → IsFormed table f → form_vars (closed_form table f) ≡ []
  form_none f h = ap (flat_map term_vars) (on_terms-terms g f) ∙ (shut_all (form_terms f) (terms_sorted f h)).none

  -- the closed output is formed, gives a term of the same sort, and has no variables
  pub record IsShutOut (o : OutTree) : Type 0 where
    pub formed : IsFormedOut table (closed_out table o)
    pub of_sort : given_sort table (closed_out table o) ≡ given_sort table o
    pub none : out_vars (closed_out table o) ≡ []

  abbrev ShutsOut : OutTree → Type 0
  ShutsOut o = IsFormedOut table o → IsShutOut o

  at_give : (t : TermTree) → ShutsOut (out.Give t)
  at_give t h =
      let s = shut t ((term_formed table (out.Give t) t refl).0 h) in
      let e : closed_out table (out.Give t) ≡ out.Give (g t) = fold-Give (closed_out_step table) t in
      record {
        formed = subst (IsFormedOut table) (sym e) (every-Give (PlainOutNode table) (g t) s.sorted);
        of_sort = ap (given_sort table) e ∙ (fold-Give (given_sort_step table) (g t) ∙ (s.of_sort ∙ sym (fold-Give (given_sort_step table) t)));
        none = ap out_vars e ∙ vars-Give (g t) s.none;
      }

  at_if : (f : FormTree) (u v : OutTree) → ShutsOut u → ShutsOut v → ShutsOut (out_view.If f u v)
  at_if f u v hu hv h =
      let n = node-If (PlainOutNode table) f u v h in
      let p = parts-If (PlainOutNode table) f u v h in
      let a = hu p.0 in
      let b = hv p.1 in
      let f' = closed_form table f in
      let u' = closed_out table u in
      let v' = closed_out table v in
      let e : closed_out table (out_view.If f u v) ≡ out_view.If f' u' v' = fold-If (closed_out_step table) f u v in
      record {
        formed = subst (IsFormedOut table) (sym e) (every-If (PlainOutNode table) f' u' v' (form_formed f n.0, a.of_sort ∙ (n.1 ∙ sym b.of_sort)) a.formed b.formed);
        of_sort = ap (given_sort table) e ∙ (fold-If (given_sort_step table) f' u' v' ∙ (a.of_sort ∙ sym (fold-If (given_sort_step table) f u v)));
        none = ap out_vars e ∙ vars-If f' u' v' (form_none f n.0) a.none b.none;
      }

  pub out_shut : (o : OutTree) → IsFormedOut table o → IsShutOut o
  out_shut = by_out_cases ShutsOut record { at_give = at_give; at_if = at_if }
