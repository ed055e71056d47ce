-- The steps of the code that replaces a term at a position: what belongs to the bank, and what comes of each step.
use Rattle.std.proofs.Common.{◌≡◌, ℕ, zero, suc, ◌-◌, ◌≤◌, IfOk, Result, List, [], ◌∷◌, ◌++◌, Some, All, set, slice_get, length, take, drop, get_or, refl, sym, ◌∙◌, ap, subst, arith}
use Rattle.std.specs.List.{flat_map}
use denote.Hole.Carrier.{roll}
use Rattle.std.proofs.lemmas.Result.{IfOk-weaker}
use Rattle.std.proofs.lemmas.List.{take_all}
use Rattle.std.proofs.lemmas.List.Elements.{All-cons, All-head, All-tail, All-append}
use Rattle.syn_term.specs.Positions.{replaced_at, MayReplace}
use Rattle.syn_term.specs.Symbols.{SymbolTable}
use Rattle.syn_term.specs.Terms.{TermTree, bare}
use Rattle.syn_form.specs.declared.trees.Form.{out-Form, roll-Form, roll-out-Form}
use Rattle.syn_form.specs.declared.trees.Form.TheOpen.{Form-F}
use Rattle.syn_form.specs.declared.trees.Form.TheVariants as form
use Rattle.syn_form.specs.declared.trees.Form.TheViews as view
use Rattle.syn_form.specs.Positions.{formula, term, form_parts_layer, part_at}
use Rattle.syn_form.specs.Replacing.{with_part, form_replaced_at, MayReplaceTerm}
use Rattle.syn_form.specs.Simplification.{conjunction, disjunction, chain}
use Rattle.syn_form.specs.Trees.{FormTree, bare_form, form_terms}
use Rattle.syn_form.proofs.Equations.{form_terms-Atom, form_terms-Equal, form_terms-Not, form_terms-Implies}
use Rattle.syn_form.proofs.SimplifiedTerms.{form_terms-chain}
use Rattle.syn_form.proofs.Owned.{All-left, All-right}
use Rattle.syn_form.proofs.TreeParts.{Congruence, form_item, formula_is, no_form, no_term, term_item, with_form_related, with_term_related, replaced_below, may_in_form, may_in_term, bare-with_form, bare-with_term}

module _ (Q : TermTree → Type 0) where
  abbrev Owned : FormTree → Type 0
  Owned f = All Q (form_terms f)

  abbrev Keeps : FormTree → FormTree → Type 0
  Keeps f g = Owned f → Owned g

  owned_set : (args : List TermTree) (i : ℕ) (t u : TermTree) → slice_get args i ≡ Some t → (Q t → Q u) → All Q args → All Q (set args i u)
  owned_set [] i t u e r h = h
  owned_set (s ∷ ss) zero t u e r h = let k : s ≡ t = cc in All-cons Q u ss (r (subst Q k (All-head Q s ss h))) (All-tail Q s ss h)
  owned_set (s ∷ ss) (suc i) t u e r h = All-cons Q s (set ss i u) (All-head Q s ss h) (owned_set ss i t u e r (All-tail Q s ss h))

  members_set : (all : List FormTree) (i : ℕ) (a b : FormTree) → slice_get all i ≡ Some a → Keeps a b → All Q (flat_map form_terms all) → All Q (flat_map form_terms (set all i b))
  members_set [] i a b e r h = h
  members_set (f ∷ fs) zero a b e r h =
      let k : f ≡ a = cc in
      All-append Q (form_terms b) (flat_map form_terms fs) (r (subst Owned k (All-left Q (form_terms f) (flat_map form_terms fs) h))) (All-right Q (form_terms f) (flat_map form_terms fs) h)
  members_set (f ∷ fs) (suc i) a b e r h =
      All-append Q (form_terms f) (flat_map form_terms (set fs i b)) (All-left Q (form_terms f) (flat_map form_terms fs) h) (members_set fs i a b e r (All-right Q (form_terms f) (flat_map form_terms fs) h))

  item_owned : (args : List TermTree) (i : ℕ) (t : TermTree) → slice_get args i ≡ Some t → All Q args → Q t
  item_owned [] i t e h = absurd (cc)
  item_owned (s ∷ ss) zero t e h = let k : s ≡ t = cc in subst Q k (All-head Q s ss h)
  item_owned (s ∷ ss) (suc i) t e h = item_owned ss i t e (All-tail Q s ss h)

  member_owned : (all : List FormTree) (i : ℕ) (a : FormTree) → slice_get all i ≡ Some a → All Q (flat_map form_terms all) → Owned a
  member_owned [] i a e h = absurd (cc)
  member_owned (f ∷ fs) zero a e h = let k : f ≡ a = cc in subst Owned k (All-left Q (form_terms f) (flat_map form_terms fs) h)
  member_owned (f ∷ fs) (suc i) a e h = member_owned fs i a e (All-right Q (form_terms f) (flat_map form_terms fs) h)

  moved : (f : FormTree) (xs : List TermTree) → form_terms f ≡ xs → Owned f → All Q xs
  moved f xs e h = subst (All Q) e h

  back : (f : FormTree) (xs : List TermTree) → form_terms f ≡ xs → All Q xs → Owned f
  back f xs e h = subst (All Q) (sym e) h

  pub keeps_owned : Congruence (λ t u. Q t → Q u) Keeps
  keeps_owned = record {
    at_atom = λ r args i t u e h own. back (form.Atom r (set args i u)) (set args i u) (form_terms-Atom r (set args i u)) (owned_set args i t u e h (moved (form.Atom r args) args (form_terms-Atom r args) own));
    at_left = λ s t u h own. let k = moved (form.Equal s t) (s ∷ t ∷ []) (form_terms-Equal s t) own in back (form.Equal u t) (u ∷ t ∷ []) (form_terms-Equal u t) (owned_set (s ∷ t ∷ []) 0 s u refl h k);
    at_right = λ s t u h own. let k = moved (form.Equal s t) (s ∷ t ∷ []) (form_terms-Equal s t) own in back (form.Equal s u) (s ∷ u ∷ []) (form_terms-Equal s u) (owned_set (s ∷ t ∷ []) 1 t u refl h k);
    at_not = λ a b h own. back (view.Not b) (form_terms b) (form_terms-Not b) (h (moved (view.Not a) (form_terms a) (form_terms-Not a) own));
    at_chain = λ j all i a b e h own. back (chain j (set all i b)) (flat_map form_terms (set all i b)) (form_terms-chain j (set all i b)) (members_set all i a b e h (moved (chain j all) (flat_map form_terms all) (form_terms-chain j all) own));
    at_premise = λ a b c h own.
        let k = moved (view.Implies a b) (form_terms a ++ form_terms b) (form_terms-Implies a b) own in
        back (view.Implies c b) (form_terms c ++ form_terms b) (form_terms-Implies c b) (All-append Q (form_terms c) (form_terms b) (h (All-left Q (form_terms a) (form_terms b) k)) (All-right Q (form_terms a) (form_terms b) k));
    at_conclusion = λ a b c h own.
        let k = moved (view.Implies a b) (form_terms a ++ form_terms b) (form_terms-Implies a b) own in
        back (view.Implies a c) (form_terms a ++ form_terms c) (form_terms-Implies a c) (All-append Q (form_terms a) (form_terms c) (All-left Q (form_terms a) (form_terms b) k) (h (All-right Q (form_terms a) (form_terms b) k)));
  }

  -- a child's terms are among those of the whole
  form_owned : (x : Form-F FormTree) (k : ℕ) (a : FormTree) → slice_get (form_parts_layer x) k ≡ Some (formula a) → Owned (roll-Form x) → Owned a
  unfolding roll-Form roll
  form_owned Form-F.True k a e h = absurd (cc)
  form_owned Form-F.False k a e h = absurd (cc)
  form_owned (Form-F.Atom r args) k a e h = absurd (no_form args k a e)
  form_owned (Form-F.Equal s t) k a e h = absurd (no_form (s ∷ t ∷ []) k a e)
  form_owned (Form-F.Not f) zero a e h = subst Owned (formula_is f a e) (moved (view.Not f) (form_terms f) (form_terms-Not f) h)
  form_owned (Form-F.Not f) (suc k) a e h = absurd (cc)
  form_owned (Form-F.And all) k a e h = member_owned all k a (form_item all k a e) (moved (chain conjunction all) (flat_map form_terms all) (form_terms-chain conjunction all) h)
  form_owned (Form-F.Or all) k a e h = member_owned all k a (form_item all k a e) (moved (chain disjunction all) (flat_map form_terms all) (form_terms-chain disjunction all) h)
  form_owned (Form-F.Implies f g) zero a e h = subst Owned (formula_is f a e) (All-left Q (form_terms f) (form_terms g) (moved (view.Implies f g) (form_terms f ++ form_terms g) (form_terms-Implies f g) h))
  form_owned (Form-F.Implies f g) (suc zero) a e h = subst Owned (formula_is g a e) (All-right Q (form_terms f) (form_terms g) (moved (view.Implies f g) (form_terms f ++ form_terms g) (form_terms-Implies f g) h))
  form_owned (Form-F.Implies f g) (suc (suc k)) a e h = absurd (cc)

  term_owned : (x : Form-F FormTree) (k : ℕ) (t : TermTree) → slice_get (form_parts_layer x) k ≡ Some (term t) → Owned (roll-Form x) → Q t
  unfolding roll-Form roll
  term_owned Form-F.True k t e h = absurd (cc)
  term_owned Form-F.False k t e h = absurd (cc)
  term_owned (Form-F.Atom r args) k t e h = item_owned args k t (term_item args k t e) (moved (form.Atom r args) args (form_terms-Atom r args) h)
  term_owned (Form-F.Equal v w) k t e h = item_owned (v ∷ w ∷ []) k t (term_item (v ∷ w ∷ []) k t e) (moved (form.Equal v w) (v ∷ w ∷ []) (form_terms-Equal v w) h)
  term_owned (Form-F.Not f) k t e h = absurd (no_term (f ∷ []) k t e)
  term_owned (Form-F.And all) k t e h = absurd (no_term all k t e)
  term_owned (Form-F.Or all) k t e h = absurd (no_term all k t e)
  term_owned (Form-F.Implies f g) k t e h = absurd (no_term (f ∷ g ∷ []) k t e)

  pub owned_form : (f : FormTree) (k : ℕ) (a : FormTree) → part_at (formula f) k ≡ Some (formula a) → Owned f → Owned a
  owned_form f zero a e h = absurd (cc)
  owned_form f (suc k) a e h = form_owned (out-Form f) k a e (subst Owned (sym (roll-out-Form f)) h)

  pub owned_term : (f : FormTree) (k : ℕ) (t : TermTree) → part_at (formula f) k ≡ Some (term t) → Owned f → Q t
  owned_term f zero t e h = absurd (cc)
  owned_term f (suc k) t e h = term_owned (out-Form f) k t e (subst Owned (sym (roll-out-Form f)) h)

  -- what is made belongs where the new child does
  pub made_form_owned : {E : Type 0} (r : Result FormTree E) (f : FormTree) (k : ℕ) (a b : FormTree) → Some (formula a) ≡ part_at (formula f) k → Owned f → Owned b → IfOk r (λ g. g ≡ with_part f (formula b) k) → IfOk r (λ g. Owned g)
  made_form_owned r f k a b e own new h =
      IfOk-weaker r (λ g. g ≡ with_part f (formula b) k) Owned (λ g is. subst Owned (sym is) (with_form_related (λ t u. Q t → Q u) Keeps keeps_owned f k a b (sym e) (λ z. new) own)) h

  pub made_term_owned : {E : Type 0} (r : Result FormTree E) (f : FormTree) (k : ℕ) (t u : TermTree) → Some (term t) ≡ part_at (formula f) k → Owned f → Q u → IfOk r (λ g. g ≡ with_part f (term u) k) → IfOk r (λ g. Owned g)
  made_term_owned r f k t u e own new h =
      IfOk-weaker r (λ g. g ≡ with_part f (term u) k) Owned (λ g is. subst Owned (sym is) (with_term_related (λ x y. Q x → Q y) Keeps keeps_owned f k t u (sym e) (λ z. new) own)) h

-- a way that is not at its end, as its first step and the others
abbrev rest_of : List ℕ → List ℕ
rest_of path = take (length path - 1) (drop 1 path)

path_is : (path : List ℕ) → 1 ≤ length path → path ≡ get_or path 0 0 ∷ rest_of path
path_is [] h = absurd (omega (arith, h))
path_is (k ∷ ks) h = ap (λ (xs : List ℕ). k ∷ xs) (sym (take_all (length (k ∷ ks) - 1) ks (omega arith)))

module _ (path : List ℕ) (some : 1 ≤ length path) (f : FormTree) (new : TermTree) where
  pub may_on_form : (table : SymbolTable) (a : FormTree) → Some (formula a) ≡ part_at (formula f) (get_or path 0 0) → MayReplaceTerm table f path new → MayReplaceTerm table a (rest_of path) new
  may_on_form table a e h = may_in_form table (get_or path 0 0) (rest_of path) new f a (sym e) (subst (λ (p : List ℕ). MayReplaceTerm table f p new) (path_is path some) h)

  pub may_on_term : (table : SymbolTable) (t : TermTree) → Some (term t) ≡ part_at (formula f) (get_or path 0 0) → MayReplaceTerm table f path new → MayReplace table t (rest_of path) new
  may_on_term table t e h = may_in_term table (get_or path 0 0) (rest_of path) new f t (sym e) (subst (λ (p : List ℕ). MayReplaceTerm table f p new) (path_is path some) h)

  whole : form_replaced_at path new f ≡ form_replaced_at (get_or path 0 0 ∷ rest_of path) new f
  whole = ap (λ (p : List ℕ). form_replaced_at p new f) (path_is path some)

  pub made_form : {E : Type 0} (r : Result FormTree E) (a b : FormTree) → Some (formula a) ≡ part_at (formula f) (get_or path 0 0) → bare_form b ≡ bare_form (form_replaced_at (rest_of path) new a) → IfOk r (λ g. g ≡ with_part f (formula b) (get_or path 0 0)) → IfOk r (λ g. bare_form g ≡ bare_form (form_replaced_at path new f))
  made_form r a b e same h =
      IfOk-weaker r (λ g. g ≡ with_part f (formula b) (get_or path 0 0)) (λ g. bare_form g ≡ bare_form (form_replaced_at path new f))
      (λ g is. ap bare_form is ∙ (bare-with_form f (get_or path 0 0) b (form_replaced_at (rest_of path) new a) same ∙ ap bare_form (sym (whole ∙ replaced_below (get_or path 0 0) (rest_of path) new f (formula a) (sym e))))) h

  pub made_term : {E : Type 0} (r : Result FormTree E) (t u : TermTree) → Some (term t) ≡ part_at (formula f) (get_or path 0 0) → bare u ≡ bare (replaced_at (rest_of path) new t) → IfOk r (λ g. g ≡ with_part f (term u) (get_or path 0 0)) → IfOk r (λ g. bare_form g ≡ bare_form (form_replaced_at path new f))
  made_term r t u e same h =
      IfOk-weaker r (λ g. g ≡ with_part f (term u) (get_or path 0 0)) (λ g. bare_form g ≡ bare_form (form_replaced_at path new f))
      (λ g is. ap bare_form is ∙ (bare-with_term f (get_or path 0 0) u (replaced_at (rest_of path) new t) same ∙ ap bare_form (sym (whole ∙ replaced_below (get_or path 0 0) (rest_of path) new f (term t) (sym e))))) h
