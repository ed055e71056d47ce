-- What putting terms in place of input symbols keeps: plainness, variables and values.
use Rattle.std.proofs.Common.{◌≡◌, ◌⊎◌, List, [], ◌∷◌, ◌++◌, Option, None, Some, All, Contains, map, get_or, refl, sym, ◌∙◌, ap, subst}
use Rattle.std.specs.Option.{unwrap_or}
use Rattle.std.specs.List.{flat_map}
use Rattle.std.proofs.lemmas.List.{map-append}
use Rattle.std.proofs.lemmas.List.Elements.{All-head, All-tail, All-map, Contains-append_left, Contains-append_right, Contains-append_cases, Contains-get_or}
use mathlib.Core.Logic.{inl, inr}
use Rattle.syn_term.specs.declared.sorts.SymId.{SymId}
use Rattle.syn_term.specs.declared.sorts.Var.{Var}
use Rattle.syn_term.specs.declared.term.Place.{Place}
use Rattle.syn_term.specs.declared.term.Node.TheVariants as node
use Rattle.syn_term.specs.declared.term.Node.TheViews as view
use Rattle.syn_term.specs.Symbols.{SymbolTable}
use Rattle.syn_term.specs.Terms.{TermTree, IsApplication, application, nowhere, sort_of}
use Rattle.syn_term.proofs.Trees.{fold-App, fold-Var}
use Rattle.syn_form.specs.declared.trees.Form.TheVariants as form
use Rattle.syn_form.specs.declared.trees.Form.TheViews as form_view
use Rattle.syn_form.specs.Trees.{FormTree, form_terms, form_terms_step, form_vars, term_vars, term_vars_step}
use Rattle.syn_form.specs.Plain.{IsAtom, IsFormed, IsSorted, PlainFormNode, SortedNode, IsKnownSort, result_of}
use Rattle.syn_form.specs.Simplification.{chain}
use Rattle.syn_form.specs.Inputs.{Inputs, AreInputs, listed_term, input_term, with_inputs, with_inputs_step, on_terms, on_terms_step, form_with_inputs}
use Rattle.syn_form.specs.InputLaws.{PutsInputs, input_vars}
use Rattle.syn_form.proofs.Equations.{fold-True, fold-False, fold-Atom, fold-Equal, fold-Not, fold-Implies}
use Rattle.syn_form.proofs.Inductions.{by_form_cases}
use Rattle.syn_form.proofs.Lists.{Contains-along, Contains-flat_map_from, all_of-map}
use Rattle.syn_form.proofs.Nodes.{part-Not, parts-Implies, node-Equal, every-Atom, every-Equal, every-Not, every-Implies}
use Rattle.syn_form.proofs.SimplifiedPlain.{HasOneSortEach-among}
use Rattle.syn_form.proofs.SimplifiedTerms.{form_terms-chain}
use Rattle.syn_form.proofs.FormedForms.{atom_formed}
use Rattle.syn_form.proofs.ReplacingAll.{chain-formed}
use Rattle.syn_form.proofs.OnTerms.{on_terms-chain}
use Rattle.syn_form.proofs.TermNodes.{by_term_cases, node-App, node-Var, parts-App, every-App, every-Var}
use Rattle.syn_form.proofs.InputTerms.{listed_entry, sort_put, sorts_put}

-- a formula whose terms are changed, each to one of its sort
module _ (table : SymbolTable) (g : TermTree → TermTree) (sort : (t : TermTree) → sort_of table (g t) ≡ sort_of table t) (sorted : (t : TermTree) → IsSorted table t → IsSorted table (g t)) where
  sorts_all : (ts : List TermTree) → map (sort_of table) (map g ts) ≡ map (sort_of table) ts
  sorts_all [] = refl
  sorts_all (t ∷ ts) = let e = sort t in let h = sorts_all ts in cc

  sorted_all : (ts : List TermTree) → All (IsSorted table) ts → All (IsSorted table) (map g ts)
  sorted_all ts h = All-map (IsSorted table) g ts (λ k d lt. sorted (get_or ts k d) (h k d lt))

  along : (f h : FormTree) → on_terms g f ≡ h → IsFormed table h → IsFormed table (on_terms g f)
  along f h e k = subst (IsFormed table) (sym e) k

  at_atom : (r : SymId) (args : List TermTree) → IsFormed table (form.Atom r args) → IsFormed table (on_terms g (form.Atom r args))
  at_atom r args h =
      let k = (atom_formed table (form.Atom r args) r args args refl refl).0 h in
      let a : IsAtom table r (map g args) = record { sym = k.0.sym; is = k.0.is; relation = k.0.relation; sorts = sorts_all args ∙ k.0.sorts } in
      along (form.Atom r args) (form.Atom r (map g args)) (fold-Atom (on_terms_step g) r args) (every-Atom (PlainFormNode table) r (map g args) (a, sorted_all args k.1))

  at_equal : (s t : TermTree) → IsFormed table (form.Equal s t) → IsFormed table (on_terms g (form.Equal s t))
  at_equal s t h =
      let k = node-Equal (PlainFormNode table) s t h in
      along (form.Equal s t) (form.Equal (g s) (g t)) (fold-Equal (on_terms_step g) s t) (every-Equal (PlainFormNode table) (g s) (g t) (sorted s k.0, sorted t k.1, sort s ∙ (k.2 ∙ sym (sort t))))

  pub on_terms-formed : (f : FormTree) → IsFormed table f → IsFormed table (on_terms g f)
  on_terms-formed = by_form_cases (λ f. IsFormed table f → IsFormed table (on_terms g f)) record {
    at_true = λ h. along form.True form.True (fold-True (on_terms_step g)) h;
    at_false = λ h. along form.False form.False (fold-False (on_terms_step g)) h;
    at_atom = at_atom;
    at_equal = at_equal;
    at_not = λ a k h. along (form_view.Not a) (form_view.Not (on_terms g a)) (fold-Not (on_terms_step g) a) (every-Not (PlainFormNode table) (on_terms g a) tt (k (part-Not (PlainFormNode table) a h)));
    at_chain = λ j all k h. along (chain j all) (chain j (map (on_terms g) all)) (on_terms-chain g j all) (chain-formed (on_terms g) table j all k h);
    at_implies = λ a b k l h. let p = parts-Implies (PlainFormNode table) a b h in along (form_view.Implies a b) (form_view.Implies (on_terms g a) (on_terms g b)) (fold-Implies (on_terms_step g) a b) (every-Implies (PlainFormNode table) (on_terms g a) (on_terms g b) tt (k p.0) (l p.1));
  }

module _ (g : TermTree → TermTree) where
  abbrev Changed : FormTree → Type 0
  Changed f = form_terms (on_terms g f) ≡ map g (form_terms f)

  changed : (f h : FormTree) (xs ys : List TermTree) → on_terms g f ≡ h → form_terms h ≡ xs → form_terms f ≡ ys → xs ≡ map g ys → Changed f
  changed f h xs ys is e k same = ap form_terms is ∙ (e ∙ (same ∙ ap (map g) (sym k)))

  members_changed : (all : List FormTree) → All Changed all → flat_map form_terms (map (on_terms g) all) ≡ map g (flat_map form_terms all)
  members_changed [] h = refl
  members_changed (f ∷ fs) h =
      ap (λ (z : List TermTree). z ++ flat_map form_terms (map (on_terms g) fs)) (All-head Changed f fs h)
      ∙ (ap (λ (z : List TermTree). map g (form_terms f) ++ z) (members_changed fs (All-tail Changed f fs h)) ∙ sym (map-append g (form_terms f) (flat_map form_terms fs)))

  -- the terms are those of the formula, each changed
  pub on_terms-terms : (f : FormTree) → form_terms (on_terms g f) ≡ map g (form_terms f)
  on_terms-terms = by_form_cases Changed record {
    at_true = changed form.True form.True [] [] (fold-True (on_terms_step g)) (fold-True form_terms_step) (fold-True form_terms_step) refl;
    at_false = changed form.False form.False [] [] (fold-False (on_terms_step g)) (fold-False form_terms_step) (fold-False form_terms_step) refl;
    at_atom = λ r args. changed (form.Atom r args) (form.Atom r (map g args)) (map g args) args (fold-Atom (on_terms_step g) r args) (fold-Atom form_terms_step r (map g args)) (fold-Atom form_terms_step r args) refl;
    at_equal = λ s t. changed (form.Equal s t) (form.Equal (g s) (g t)) (g s ∷ g t ∷ []) (s ∷ t ∷ []) (fold-Equal (on_terms_step g) s t) (fold-Equal form_terms_step (g s) (g t)) (fold-Equal form_terms_step s t) refl;
    at_not = λ a h. changed (form_view.Not a) (form_view.Not (on_terms g a)) (form_terms (on_terms g a)) (form_terms a) (fold-Not (on_terms_step g) a) (fold-Not form_terms_step (on_terms g a)) (fold-Not form_terms_step a) h;
    at_chain = λ j all h. changed (chain j all) (chain j (map (on_terms g) all)) (flat_map form_terms (map (on_terms g) all)) (flat_map form_terms all) (on_terms-chain g j all) (form_terms-chain j (map (on_terms g) all)) (form_terms-chain j all) (members_changed all h);
    at_implies = λ a b h k. changed (form_view.Implies a b) (form_view.Implies (on_terms g a) (on_terms g b)) (form_terms (on_terms g a) ++ form_terms (on_terms g b)) (form_terms a ++ form_terms b) (fold-Implies (on_terms_step g) a b)
        (fold-Implies form_terms_step (on_terms g a) (on_terms g b)) (fold-Implies form_terms_step a b)
        (ap (λ (z : List TermTree). z ++ form_terms (on_terms g b)) h ∙ (ap (λ (z : List TermTree). map g (form_terms a) ++ z) k ∙ sym (map-append g (form_terms a) (form_terms b))));
  }

module _ (table : SymbolTable) (inputs : Inputs) (are : AreInputs table inputs) (sorted : All (λ b. IsSorted table b.1) inputs) where
  abbrev Stays : TermTree → Type 0
  Stays t = IsSorted table t → IsSorted table (with_inputs inputs t)

  at_symbol : (f : SymId) (xs : List TermTree) → IsApplication table f xs × IsKnownSort table (result_of table f) → All (IsSorted table) xs → (o : Option TermTree) → listed_term inputs f ≡ o → IsSorted table (unwrap_or o (application f xs))
  at_symbol f xs h k None e = every-App (SortedNode table) nowhere f xs h k
  at_symbol f xs h k (Some t) e = listed_entry (λ g u. IsSorted table u) inputs f t e sorted

  applied : (f : SymId) (args : List TermTree) → IsApplication table f args → IsApplication table f (map (with_inputs inputs) args)
  applied f args h = record { sym = h.sym; is = h.is; no_relation = h.no_relation; no_order = h.no_order; sorts = sorts_put table inputs are args ∙ h.sorts }

  pub sorted_put : (t : TermTree) → IsSorted table t → IsSorted table (with_inputs inputs t)
  sorted_put = by_term_cases Stays
      (λ p v h. subst (IsSorted table) (sym (fold-Var (with_inputs_step inputs) p v)) (every-Var (SortedNode table) nowhere v (node-Var (SortedNode table) p v h)))
      (λ p f args stay h.
      let n = node-App (SortedNode table) p f args h in
      let k = parts-App (SortedNode table) p f args h in
      let parts : All (IsSorted table) (map (with_inputs inputs) args) = All-map (IsSorted table) (with_inputs inputs) args (λ i d lt. stay i d lt (k i d lt)) in
      subst (IsSorted table) (sym (fold-App (with_inputs_step inputs) p f args)) (at_symbol f (map (with_inputs inputs) args) (applied f args n.0, n.1) parts (listed_term inputs f) refl))

  pub form_put-formed : (f : FormTree) → IsFormed table f → IsFormed table (form_with_inputs inputs f)
  form_put-formed = on_terms-formed table (with_inputs inputs) (sort_put table inputs are) sorted_put

-- the variables that a term has once terms are put in
module _ (inputs : Inputs) where
  abbrev Comes : TermTree → Type 0
  Comes t = (v : Var) → Contains (term_vars (with_inputs inputs t)) v → Contains (term_vars t ++ input_vars inputs) v

  entries_all : (bs : Inputs) → ((b : SymId × TermTree) → Contains bs b → Contains inputs b) → All (λ b. (v : Var) → Contains (term_vars b.1) v → Contains (input_vars inputs) v) bs
  entries_all bs sub k d lt v c = Contains-flat_map_from (λ b. term_vars b.1) inputs (get_or bs k d) v (sub (get_or bs k d) (Contains-get_or bs k d lt)) c

  entry_vars : (f : SymId) (t : TermTree) → listed_term inputs f ≡ Some t → (v : Var) → Contains (term_vars t) v → Contains (input_vars inputs) v
  entry_vars f t e = listed_entry (λ g u. (v : Var) → Contains (term_vars u) v → Contains (input_vars inputs) v) inputs f t e (entries_all inputs (λ b c. c))

  vars-App : (p : Place) (f : SymId) (args : List TermTree) → term_vars (view.App p f args) ≡ flat_map term_vars args
  vars-App p f args = fold-App term_vars_step p f args ∙ all_of-map term_vars args

  args_come : (args : List TermTree) → All Comes args → (v : Var) → Contains (flat_map term_vars (map (with_inputs inputs) args)) v → Contains (flat_map term_vars args ++ input_vars inputs) v
  args_come [] h v c = Contains-append_left [] (input_vars inputs) v c
  args_come (t ∷ ts) h v c = go (Contains-append_cases (term_vars (with_inputs inputs t)) (flat_map term_vars (map (with_inputs inputs) ts)) v c) (All-head Comes t ts h v) (args_come ts (All-tail Comes t ts h) v)
    where
      into : Contains (term_vars t) v ⊎ Contains (input_vars inputs) v → Contains (flat_map term_vars (t ∷ ts) ++ input_vars inputs) v
      into (inl k) = Contains-append_left (term_vars t ++ flat_map term_vars ts) (input_vars inputs) v (Contains-append_left (term_vars t) (flat_map term_vars ts) v k)
      into (inr k) = Contains-append_right (term_vars t ++ flat_map term_vars ts) (input_vars inputs) v k

      rest : Contains (flat_map term_vars ts) v ⊎ Contains (input_vars inputs) v → Contains (flat_map term_vars (t ∷ ts) ++ input_vars inputs) v
      rest (inl k) = Contains-append_left (term_vars t ++ flat_map term_vars ts) (input_vars inputs) v (Contains-append_right (term_vars t) (flat_map term_vars ts) v k)
      rest (inr k) = Contains-append_right (term_vars t ++ flat_map term_vars ts) (input_vars inputs) v k

      go : Contains (term_vars (with_inputs inputs t)) v ⊎ Contains (flat_map term_vars (map (with_inputs inputs) ts)) v → (Contains (term_vars (with_inputs inputs t)) v → Contains (term_vars t ++ input_vars inputs) v) → (Contains (flat_map term_vars (map (with_inputs inputs) ts)) v → Contains (flat_map term_vars ts ++ input_vars inputs) v) → Contains (flat_map term_vars (t ∷ ts) ++ input_vars inputs) v
      go (inl k) m n = into (Contains-append_cases (term_vars t) (input_vars inputs) v (m k))
      go (inr k) m n = rest (Contains-append_cases (flat_map term_vars ts) (input_vars inputs) v (n k))

  at_listed : (p : Place) (f : SymId) (args : List TermTree) → All Comes args → (o : Option TermTree) → listed_term inputs f ≡ o → (v : Var) → Contains (term_vars (unwrap_or o (application f (map (with_inputs inputs) args)))) v → Contains (term_vars (view.App p f args) ++ input_vars inputs) v
  at_listed p f args h None e v c =
      Contains-along (flat_map term_vars args ++ input_vars inputs) (term_vars (view.App p f args) ++ input_vars inputs) v (ap (λ (z : List Var). z ++ input_vars inputs) (sym (vars-App p f args)))
      (args_come args h v (Contains-along (term_vars (application f (map (with_inputs inputs) args))) (flat_map term_vars (map (with_inputs inputs) args)) v (vars-App nowhere f (map (with_inputs inputs) args)) c))
  at_listed p f args h (Some t) e v c = Contains-append_right (term_vars (view.App p f args)) (input_vars inputs) v (entry_vars f t e v c)

  pub vars_put : (t : TermTree) (v : Var) → Contains (term_vars (with_inputs inputs t)) v → Contains (term_vars t ++ input_vars inputs) v
  vars_put = by_term_cases Comes
      (λ p w v c. Contains-append_left (term_vars (node.Var p w)) (input_vars inputs) v (Contains-along (term_vars (with_inputs inputs (node.Var p w))) (term_vars (node.Var p w)) v (ap term_vars (fold-Var (with_inputs_step inputs) p w) ∙ (fold-Var term_vars_step nowhere w ∙ sym (fold-Var term_vars_step p w))) c))
      (λ p f args h v c. at_listed p f args h (listed_term inputs f) refl v (Contains-along (term_vars (with_inputs inputs (view.App p f args))) (term_vars (input_term inputs f (map (with_inputs inputs) args))) v (ap term_vars (fold-App (with_inputs_step inputs) p f args)) c))

  all_come : (ts : List TermTree) → All Comes ts
  all_come ts k d lt = vars_put (get_or ts k d)

  pub form_put-vars : (f : FormTree) (v : Var) → Contains (form_vars (form_with_inputs inputs f)) v → Contains (form_vars f ++ input_vars inputs) v
  form_put-vars f v c =
      args_come (form_terms f) (all_come (form_terms f)) v (Contains-along (form_vars (form_with_inputs inputs f)) (flat_map term_vars (map (with_inputs inputs) (form_terms f))) v (ap (flat_map term_vars) (on_terms-terms (with_inputs inputs) f)) c)

  pub puts_inputs : (f : FormTree) → PutsInputs inputs f
  puts_inputs f = record {
    formed = λ table are sorted h. form_put-formed table inputs are sorted f h;
    plain = λ table are sorted h one. record {
      formed = form_put-formed table inputs are sorted f h;
      sorts = HasOneSortEach-among (form_vars (form_with_inputs inputs f)) (form_vars f ++ input_vars inputs) (form_put-vars f) one;
    };
    terms = on_terms-terms (with_inputs inputs) f;
    variables = form_put-vars f;
    sorts = λ table are t. sort_put table inputs are t;
  }
