-- What replacing a term at a position keeps: plainness and variables.
use Rattle.std.proofs.Common.{◌≡◌, ◌≤◌, ℕ, zero, suc, List, [], ◌∷◌, ◌++◌, Some, All, Contains, map, set, slice_get, get_or, refl, sym, ◌∙◌, ap, subst}
use Rattle.std.specs.List.{flat_map}
use Rattle.std.proofs.lemmas.List.{length-set}
use Rattle.std.proofs.lemmas.List.Elements.{All-cons, All-head, All-tail, All-append, All-contains, Contains-append_left, Contains-append_right, Contains-get_or}
use Rattle.syn_term.specs.declared.sorts.SymId.{SymId}
use Rattle.syn_term.specs.declared.sorts.Var.{Var}
use Rattle.syn_term.specs.declared.term.Place.{Place}
use Rattle.syn_term.specs.declared.term.Node.TheVariants as node
use Rattle.syn_term.specs.declared.term.Node.TheViews as node_view
use Rattle.syn_term.specs.Positions.{replaced_at, subterm_at, with_child, with_child_layer}
use Rattle.syn_term.specs.Symbols.{SymbolTable}
use Rattle.syn_term.specs.Terms.{TermTree, IsApplication, args_of, child, sort_of}
use Rattle.syn_term.proofs.Positions.{on_the_way, replaced_at-child, sort_of-replaced, args_of-App, args_of-Var}
use Rattle.syn_term.proofs.Trees.{fold-App}
use Rattle.syn_form.specs.declared.trees.Form.TheVariants as form
use Rattle.syn_form.specs.Plain.{IsAtom, IsFormed, IsSorted, PlainFormNode, SortedNode}
use Rattle.syn_form.specs.Positions.{formula, term, at_position}
use Rattle.syn_form.specs.Replacing.{MayReplaceTerm, form_replaced_at}
use Rattle.syn_form.specs.ReplacingLaws.{ReplacesTerm}
use Rattle.syn_form.specs.Simplification.{Junction, conjunction, disjunction}
use Rattle.syn_form.specs.Trees.{FormTree, form_terms, form_vars, term_vars, term_vars_step}
use Rattle.syn_form.proofs.FormedForms.{atom_formed}
use Rattle.syn_form.proofs.Lists.{Contains-flat_map, Contains-flat_map_from, all_of-map}
use Rattle.syn_form.proofs.Nodes.{chain_layer, node-Equal, node-chain, part-Not, parts-chain, parts-Implies, every-Atom, every-Equal, every-Not, every-chain, every-Implies}
use Rattle.syn_form.proofs.Owned.{All-left, All-right}
use Rattle.syn_form.proofs.PlacesKept.{replaced-other, replaced-there}
use Rattle.syn_form.proofs.ReplacingPlaces.{keeps_owned}
use Rattle.syn_form.proofs.SimplifiedPlain.{HasOneSortEach-among}
use Rattle.syn_form.proofs.TermNodes.{by_term_cases, node-App, parts-App, every-App, out-App}
use Rattle.syn_form.proofs.TreeParts.{Congruence, related_at}

-- a list with another item
module _ {X : Type 0} where
  all_set : (P : X → Type 0) (xs : List X) (i : ℕ) (x y : X) → slice_get xs i ≡ Some x → (P x → P y) → All P xs → All P (set xs i y)
  all_set P [] i x y e r h = h
  all_set P (z ∷ zs) zero x y e r h = let k : z ≡ x = cc in All-cons P y zs (r (subst P k (All-head P z zs h))) (All-tail P z zs h)
  all_set P (z ∷ zs) (suc i) x y e r h = All-cons P z (set zs i y) (All-head P z zs h) (all_set P zs i x y e r (All-tail P z zs h))

  pub same_set : {Y : Type 0} (g : X → Y) (xs : List X) (i : ℕ) (x y : X) → slice_get xs i ≡ Some x → g y ≡ g x → map g (set xs i y) ≡ map g xs
  same_set g [] i x y e r = refl
  same_set g (z ∷ zs) zero x y e r = let k : z ≡ x = cc in cc
  same_set {Y} g (z ∷ zs) (suc i) x y e r = ap (λ (ys : List Y). g z ∷ ys) (same_set g zs i x y e r)

  item_of : (P : X → Type 0) (xs : List X) (i : ℕ) (x : X) → slice_get xs i ≡ Some x → All P xs → P x
  item_of P [] i x e h = absurd (cc)
  item_of P (z ∷ zs) zero x e h = let k : z ≡ x = cc in subst P k (All-head P z zs h)
  item_of P (z ∷ zs) (suc i) x e h = item_of P zs i x e (All-tail P z zs h)

-- the pieces of a list with another item
pieces_set : {X Y : Type 0} (P : Y → Type 0) (f : X → List Y) (xs : List X) (i : ℕ) (x y : X) → slice_get xs i ≡ Some x → (All P (f x) → All P (f y)) → All P (flat_map f xs) → All P (flat_map f (set xs i y))
pieces_set P f [] i x y e r h = h
pieces_set {X} P f (z ∷ zs) zero x y e r h =
    let k : z ≡ x = cc in
    All-append P (f y) (flat_map f zs) (r (subst (λ (w : X). All P (f w)) k (All-left P (f z) (flat_map f zs) h))) (All-right P (f z) (flat_map f zs) h)
pieces_set P f (z ∷ zs) (suc i) x y e r h = All-append P (f z) (flat_map f (set zs i y)) (All-left P (f z) (flat_map f zs) h) (pieces_set P f zs i x y e r (All-right P (f z) (flat_map f zs) h))

child-App : (p : Place) (f : SymId) (args : List TermTree) (k : ℕ) (c : TermTree) → child (node_view.App p f args) (suc k) ≡ Some c → slice_get args k ≡ Some c
child-App p f args k c e = sym (ap (λ (xs : List TermTree). slice_get xs k) (args_of-App p f args)) ∙ e

with_child-App : (p : Place) (f : SymId) (args : List TermTree) (k : ℕ) (c : TermTree) → with_child (node_view.App p f args) (suc k) c ≡ node_view.App p f (set args k c)
with_child-App p f args k c = ap (with_child_layer (suc k) c) (out-App p f args)

no_child : (p : Place) (v : Var) (k : ℕ) (c : TermTree) → child (node.Var p v) (suc k) ≡ Some c → ⊥
no_child p v k c e = empty (args_of (node.Var p v)) (args_of-Var p v) e
  where
    empty : (xs : List TermTree) → xs ≡ [] → slice_get xs k ≡ Some c → ⊥
    empty [] m h = cc
    empty (x ∷ xs) m h = cc

-- where an argument is sorted and of the same sort, so is the whole
module _ (table : SymbolTable) where
  applied_set : (f : SymId) (args : List TermTree) (k : ℕ) (c d : TermTree) → slice_get args k ≡ Some c → sort_of table d ≡ sort_of table c → IsApplication table f args → IsApplication table f (set args k d)
  applied_set f args k c d e s h = record { sym = h.sym; is = h.is; no_relation = h.no_relation; no_order = h.no_order; sorts = same_set (sort_of table) args k c d e s ∙ h.sorts }

  with_child-sorted : (t : TermTree) (k : ℕ) (c d : TermTree) → child t k ≡ Some c → sort_of table d ≡ sort_of table c → IsSorted table d → IsSorted table t → IsSorted table (with_child t k d)
  with_child-sorted t zero c d e s h own = absurd (cc)
  with_child-sorted t (suc k) c d e s h own = by_term_cases (λ t. child t (suc k) ≡ Some c → IsSorted table t → IsSorted table (with_child t (suc k) d))
      (λ p v there own. absurd (no_child p v k c there))
      (λ p f args ih there own.
      let at = child-App p f args k c there in
      let n = node-App (SortedNode table) p f args own in
      let parts = parts-App (SortedNode table) p f args own in
      subst (IsSorted table) (sym (with_child-App p f args k d)) (every-App (SortedNode table) p f (set args k d) (applied_set f args k c d at s n.0, n.1) (all_set (IsSorted table) args k c d at (λ z. h) parts))) t e own

  child-sorted : (t : TermTree) (k : ℕ) (c : TermTree) → child t k ≡ Some c → IsSorted table t → IsSorted table c
  child-sorted t zero c e own = absurd (cc)
  child-sorted t (suc k) c e own = by_term_cases (λ t. child t (suc k) ≡ Some c → IsSorted table t → IsSorted table c)
      (λ p v there own. absurd (no_child p v k c there))
      (λ p f args ih there own. item_of (IsSorted table) args k c (child-App p f args k c there) (parts-App (SortedNode table) p f args own)) t e own

  module _ (new old : TermTree) (sorts : sort_of table old ≡ sort_of table new) (sorted : IsSorted table new) where
    pub replaced_at-sorted : (q : List ℕ) (t : TermTree) → subterm_at q t ≡ Some old → IsSorted table t → IsSorted table (replaced_at q new t)
    replaced_at-sorted [] t e own = sorted
    replaced_at-sorted (k ∷ ks) t e own =
        let w = on_the_way k ks t old e in
        subst (IsSorted table) (sym (replaced_at-child k ks new t w.0 w.1))
        (with_child-sorted t k w.0 (replaced_at ks new w.0) w.1 (sort_of-replaced table ks new w.0 old w.2 sorts) (replaced_at-sorted ks w.0 w.2 (child-sorted t k w.0 w.1 own)) own)

  abbrev Alike : TermTree → TermTree → Type 0
  Alike t u = (IsSorted table t → IsSorted table u) × (sort_of table u ≡ sort_of table t)

  abbrev StaysFormed : FormTree → FormTree → Type 0
  StaysFormed f g = IsFormed table f → IsFormed table g

  long_set : (j : Junction) (all : List FormTree) (i : ℕ) (b : FormTree) → PlainFormNode table (chain_layer j all) → PlainFormNode table (chain_layer j (set all i b))
  long_set conjunction all i b h = subst (λ n. 2 ≤ n) (sym (length-set all i b)) h
  long_set disjunction all i b h = subst (λ n. 2 ≤ n) (sym (length-set all i b)) h

  formed_atom : (r : SymId) (args : List TermTree) (i : ℕ) (t u : TermTree) → slice_get args i ≡ Some t → Alike t u → StaysFormed (form.Atom r args) (form.Atom r (set args i u))
  formed_atom r args i t u e a h =
      let k = (atom_formed table (form.Atom r args) r args args refl refl).0 h in
      let m : IsAtom table r (set args i u) = record { sym = k.0.sym; is = k.0.is; relation = k.0.relation; sorts = same_set (sort_of table) args i t u e a.1 ∙ k.0.sorts } in
      every-Atom (PlainFormNode table) r (set args i u) (m, all_set (IsSorted table) args i t u e a.0 k.1)

  keeps_formed : Congruence Alike StaysFormed
  keeps_formed = record {
    at_atom = formed_atom;
    at_left = λ s t u a h. let k = node-Equal (PlainFormNode table) s t h in every-Equal (PlainFormNode table) u t (a.0 k.0, k.1, a.1 ∙ k.2);
    at_right = λ s t u a h. let k = node-Equal (PlainFormNode table) s t h in every-Equal (PlainFormNode table) s u (k.0, a.0 k.1, k.2 ∙ sym a.1);
    at_not = λ a b s h. every-Not (PlainFormNode table) b tt (s (part-Not (PlainFormNode table) a h));
    at_chain = λ j all i a b e s h. every-chain (PlainFormNode table) j (set all i b) (long_set j all i b (node-chain (PlainFormNode table) j all h)) (all_set (IsFormed table) all i a b e s (parts-chain (PlainFormNode table) j all h));
    at_premise = λ a b c s h. let k = parts-Implies (PlainFormNode table) a b h in every-Implies (PlainFormNode table) c b tt (s k.0) k.1;
    at_conclusion = λ a b c s h. let k = parts-Implies (PlainFormNode table) a b h in every-Implies (PlainFormNode table) a c tt k.0 (s k.1);
  }

  pub replaced-formed : (p : List ℕ) (new : TermTree) (f : FormTree) → MayReplaceTerm table f p new → IsSorted table new → IsFormed table f → IsFormed table (form_replaced_at p new f)
  replaced-formed p new f may sorted =
      related_at Alike StaysFormed keeps_formed new may.old (λ q t e. (replaced_at-sorted new may.old may.sorts sorted q t e, sort_of-replaced table q new t may.old e may.sorts)) p f may.there

-- the variables: all of them have a property that those of the formula and of the new term have
module _ (P : Var → Type 0) where
  abbrev Speaks : TermTree → Type 0
  Speaks t = All P (term_vars t)

  vars-App : (p : Place) (f : SymId) (args : List TermTree) → term_vars (node_view.App p f args) ≡ flat_map term_vars args
  vars-App p f args = fold-App term_vars_step p f args ∙ all_of-map term_vars args

  piece_of : (args : List TermTree) (k : ℕ) (c : TermTree) → slice_get args k ≡ Some c → All P (flat_map term_vars args) → Speaks c
  piece_of [] k c e h = absurd (cc)
  piece_of (t ∷ ts) zero c e h = let m : t ≡ c = cc in subst Speaks m (All-left P (term_vars t) (flat_map term_vars ts) h)
  piece_of (t ∷ ts) (suc k) c e h = piece_of ts k c e (All-right P (term_vars t) (flat_map term_vars ts) h)

  child-speaks : (t : TermTree) (k : ℕ) (c : TermTree) → child t k ≡ Some c → Speaks t → Speaks c
  child-speaks t zero c e h = absurd (cc)
  child-speaks t (suc k) c e h = by_term_cases (λ t. child t (suc k) ≡ Some c → Speaks t → Speaks c)
      (λ p v there own. absurd (no_child p v k c there))
      (λ p f args ih there own. piece_of args k c (child-App p f args k c there) (subst (All P) (vars-App p f args) own)) t e h

  with_child-speaks : (t : TermTree) (k : ℕ) (c d : TermTree) → child t k ≡ Some c → Speaks d → Speaks t → Speaks (with_child t k d)
  with_child-speaks t zero c d e h own = absurd (cc)
  with_child-speaks t (suc k) c d e h own = by_term_cases (λ t. child t (suc k) ≡ Some c → Speaks t → Speaks (with_child t (suc k) d))
      (λ p v there own. absurd (no_child p v k c there))
      (λ p f args ih there own.
      subst Speaks (sym (with_child-App p f args k d)) (subst (All P) (sym (vars-App p f (set args k d))) (pieces_set P term_vars args k c d (child-App p f args k c there) (λ z. h) (subst (All P) (vars-App p f args) own)))) t e own

  replaced_at-speaks : (new old : TermTree) → Speaks new → (q : List ℕ) (t : TermTree) → subterm_at q t ≡ Some old → Speaks t → Speaks (replaced_at q new t)
  replaced_at-speaks new old h [] t e own = h
  replaced_at-speaks new old h (k ∷ ks) t e own =
      let w = on_the_way k ks t old e in
      subst Speaks (sym (replaced_at-child k ks new t w.0 w.1)) (with_child-speaks t k w.0 (replaced_at ks new w.0) w.1 (replaced_at-speaks new old h ks w.0 w.2 (child-speaks t k w.0 w.1 own)) own)

  replaced-speaks : (p : List ℕ) (new old : TermTree) (f : FormTree) → at_position p (formula f) ≡ Some (term old) → Speaks new → All Speaks (form_terms f) → All Speaks (form_terms (form_replaced_at p new f))
  replaced-speaks p new old f there h = related_at (λ t u. Speaks t → Speaks u) (λ f g. All Speaks (form_terms f) → All Speaks (form_terms g)) (keeps_owned Speaks) new old (replaced_at-speaks new old h) p f there

replaced-vars : (p : List ℕ) (new old : TermTree) (f : FormTree) → at_position p (formula f) ≡ Some (term old) → (v : Var) → Contains (form_vars (form_replaced_at p new f)) v → Contains (form_vars f ++ term_vars new) v
replaced-vars p new old f there v c =
    let P = λ (w : Var). Contains (form_vars f ++ term_vars new) w in
    let own : All (Speaks P) (form_terms f) = λ i d lt j e less. Contains-append_left (form_vars f) (term_vars new) (get_or (term_vars (get_or (form_terms f) i d)) j e) (Contains-flat_map_from term_vars (form_terms f) (get_or (form_terms f) i d) (get_or (term_vars (get_or (form_terms f) i d)) j e) (Contains-get_or (form_terms f) i d lt) (Contains-get_or (term_vars (get_or (form_terms f) i d)) j e less)) in
    let fresh : Speaks P new = λ j e less. Contains-append_right (form_vars f) (term_vars new) (get_or (term_vars new) j e) (Contains-get_or (term_vars new) j e less) in
    let all = replaced-speaks P p new old f there fresh own in
    let w = Contains-flat_map term_vars (form_terms (form_replaced_at p new f)) v c in
    All-contains P (term_vars w.0) v (All-contains (Speaks P) (form_terms (form_replaced_at p new f)) w.0 all w.1) w.2

pub replaces_term : (p : List ℕ) (new : TermTree) (f : FormTree) → ReplacesTerm p new f
replaces_term p new f = record {
  there = λ old e. replaced-there p new old f e;
  other = λ q apart. replaced-other p q new f apart;
  formed = λ table may sorted h. replaced-formed table p new f may sorted h;
  plain = λ table may sorted h one. record {
    formed = replaced-formed table p new f may sorted h;
    sorts = HasOneSortEach-among (form_vars (form_replaced_at p new f)) (form_vars f ++ term_vars new) (replaced-vars p new may.old f may.there) one;
  };
  variables = λ old there v c. replaced-vars p new old f there v c;
}
