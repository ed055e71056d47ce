-- What holds of each node of a tree, where it doesn't look at places, holds of the tree without its places just where it holds of
-- the tree. So a tree without places is sorted, formed and plain where the tree is.
use Rattle.std.proofs.Common.{◌≡◌, ◌≢◌, ◌↔◌, ℕ, ◌≤◌, List, [], ◌∷◌, ◌++◌, All, map, length, get_or, refl, sym, ◌∙◌, ap, subst}
use Rattle.std.specs.List.{range_with_len}
use Rattle.std.proofs.lemmas.List.{length-map}
use Rattle.std.proofs.lemmas.List.Elements.{All-nil, All-cons, All-head, All-tail}
use Rattle.syn_term.specs.declared.sorts.SymId.{SymId}
use Rattle.syn_term.specs.declared.sorts.Var.{Var}
use Rattle.syn_term.specs.declared.term.Place.{Place}
use Rattle.syn_term.specs.declared.term.Node.{Node, every-Node}
use Rattle.syn_term.specs.declared.term.Node.TheOpen.{Node-F}
use Rattle.syn_term.specs.declared.term.Node.TheVariants as node
use Rattle.syn_term.specs.Symbols.{SymbolTable}
use Rattle.syn_term.specs.Terms.{TermTree, IsApplication, bare, bare_step, nowhere, sort_of}
use Rattle.syn_term.proofs.Trees.{bare-App, fold-Var}
use Rattle.syn_form.specs.declared.trees.Binder.{Binder}
use Rattle.syn_form.specs.declared.trees.Form.{Form, every-Form, every_here-Form}
use Rattle.syn_form.specs.declared.trees.Form.TheOpen.{Form-F}
use Rattle.syn_form.specs.declared.trees.Form.TheVariants as form
use Rattle.syn_form.specs.declared.trees.Out.{Out, every-Out, every_here-Out}
use Rattle.syn_form.specs.declared.trees.Out.TheOpen.{Out-F}
use Rattle.syn_form.specs.declared.trees.Out.TheVariants as out
use Rattle.syn_form.specs.declared.trees.QForm.{QForm, every-QForm}
use Rattle.syn_form.specs.declared.trees.QForm.TheOpen.{QForm-F}
use Rattle.syn_form.specs.declared.trees.QForm.TheVariants as qform
use Rattle.syn_form.specs.Plain.{HasOneSortEach, IsAtom, IsFormed, IsFormedOut, IsPlainForm, IsPlainOut, IsSorted, PlainFormNode, PlainOutNode, SortedNode, given_sort}
use Rattle.syn_form.specs.PlainQuantified.{BindsOnce, IsFormedQ, IsPlainQForm, IsUnbound, MayBind, binders_of, binders_step}
use Rattle.syn_form.specs.Quantified.{bare_qform, bare_qform_step, free_vars, free_vars_step, without}
use Rattle.syn_form.specs.Simplification.{Junction, conjunction, disjunction, chain}
use Rattle.syn_form.specs.Trees.{FormTree, OutTree, QFormTree, all_of, bare_form, bare_out, term_vars}
use Rattle.syn_form.proofs.BareVars.{form_vars_bare, given_bare, out_vars_bare, qform_vars_bare, term_vars_bare, vars_bare}
use Rattle.syn_form.proofs.Equations.{bare_form-True, bare_form-False, bare_form-Atom, bare_form-Equal, bare_form-Not, bare_form-And, bare_form-Or, bare_form-Implies, bare_out-Give, bare_out-If, out-Atom, out-Give}
use Rattle.syn_form.proofs.Inductions.{by_form_cases, by_out_cases}
use Rattle.syn_form.proofs.Nodes as nodes
use Rattle.syn_form.proofs.Nodes.{chain_layer}
use Rattle.syn_form.proofs.QForms.{by_qform_cases, qfold-True, qfold-False, qfold-Atom, qfold-Equal, qfold-Not, qfold-And, qfold-Or, qfold-Implies, qfold-All, qfold-Exists}
use Rattle.syn_form.proofs.QNodes as qnodes
use Rattle.syn_form.proofs.Sorting.{sort_bare, sorts_bare}
use Rattle.syn_form.proofs.TermNodes as terms

-- facts that hold one where the other does
pub both_kept : {A : Type 0} → A ↔ A
both_kept = ((λ h. h), (λ h. h))

pub both_along : {X : Type 0} (P : X → Type 0) (x y : X) → x ≡ y → P x ↔ P y
both_along P x y e = (subst P e, subst P (sym e))

pub both_and : {A B C D : Type 0} → (A ↔ B) → (C ↔ D) → A × C ↔ B × D
both_and f g = ((λ h. (f.0 h.0, g.0 h.1)), (λ h. (f.1 h.0, g.1 h.1)))

pub both_three : {A B C D E F : Type 0} → (A ↔ B) → (C ↔ D) → (E ↔ F) → A × C × E ↔ B × D × F
both_three f g h = ((λ k. (f.0 k.0, g.0 k.1, h.0 k.2)), (λ k. (f.1 k.0, g.1 k.1, h.1 k.2)))

pub both_from : {A B C : Type 0} → (A ↔ B) → (A → C) ↔ (B → C)
both_from f = ((λ h b. h (f.1 b)), (λ h a. h (f.0 a)))

pub both_to : {A B C : Type 0} → (B ↔ C) → (A → B) ↔ (A → C)
both_to f = ((λ h a. f.0 (h a)), (λ h a. f.1 (h a)))

-- all elements of a list, each changed
pub both_all : {X : Type 0} (P Q : X → Type 0) (g : X → X) (xs : List X) → All (λ x. P (g x) ↔ Q x) xs → All P (map g xs) ↔ All Q xs
both_all P Q g [] h = ((λ _. All-nil Q), (λ _. All-nil P))
both_all {X} P Q g (x ∷ xs) h =
    let p = All-head (λ (y : X). P (g y) ↔ Q y) x xs h in
    let r = both_all P Q g xs (All-tail (λ (y : X). P (g y) ↔ Q y) x xs h) in (
      (λ k. All-cons Q x xs (p.0 (All-head P (g x) (map g xs) k)) (r.0 (All-tail P (g x) (map g xs) k))),
      (λ k. All-cons P (g x) (map g xs) (p.1 (All-head Q x xs k)) (r.1 (All-tail Q x xs k))),
    )

pub both_each : {X : Type 0} (P Q : X → Type 0) (g : X → X) (xs : List X) → ((x : X) → P (g x) ↔ Q x) → All P (map g xs) ↔ All Q xs
both_each P Q g xs h = both_all P Q g xs (λ k d lt. h (get_or xs k d))

bare-Var : (p : Place) (v : Var) → bare (node.Var p v) ≡ node.Var nowhere v
bare-Var p v = fold-Var bare_step p v

-- the fact doesn't look at places
pub record PastTerms (Q : Node-F Node → Type 0) : Type 0 where
  pub at_var : (p : Place) (v : Var) → Q (Node-F.Var nowhere v) ↔ Q (Node-F.Var p v)
  pub at_app : (p : Place) (f : SymId) (args : List TermTree) → Q (Node-F.App nowhere f (map bare args)) ↔ Q (Node-F.App p f args)

module _ (Q : Node-F Node → Type 0) (past : PastTerms Q) where
  abbrev BothTerm : TermTree → Type 0
  BothTerm t = every-Node Q (bare t) ↔ every-Node Q t

  pub every_bare : (t : TermTree) → every-Node Q (bare t) ↔ every-Node Q t
  every_bare = terms.by_term_cases BothTerm
      (λ p v. (
        (λ h. terms.every-Var Q p v ((past.at_var p v).0 (terms.node-Var Q nowhere v (subst (every-Node Q) (bare-Var p v) h)))),
        (λ h. subst (every-Node Q) (sym (bare-Var p v)) (terms.every-Var Q nowhere v ((past.at_var p v).1 (terms.node-Var Q p v h)))),
      ))
      (λ p f args held.
      let both = both_all (every-Node Q) (every-Node Q) bare args held in (
        (λ h. let k = subst (every-Node Q) (bare-App p f args) h in terms.every-App Q p f args ((past.at_app p f args).0 (terms.node-App Q nowhere f (map bare args) k)) (both.0 (terms.parts-App Q nowhere f (map bare args) k))),
        (λ h. subst (every-Node Q) (sym (bare-App p f args)) (terms.every-App Q nowhere f (map bare args) ((past.at_app p f args).1 (terms.node-App Q p f args h)) (both.1 (terms.parts-App Q p f args h)))),
      ))

chain_bare : (j : Junction) (all : List FormTree) → bare_form (chain j all) ≡ chain j (map bare_form all)
chain_bare conjunction all = bare_form-And all
chain_bare disjunction all = bare_form-Or all

-- the same for facts of formulas, which say nothing of constants, negations and implications
pub record PastForms (Q : Form-F Form → Type 0) : Type 0 where
  pub at_true : Q Form-F.True
  pub at_false : Q Form-F.False
  pub at_atom : (r : SymId) (args : List TermTree) → Q (Form-F.Atom r (map bare args)) ↔ Q (Form-F.Atom r args)
  pub at_equal : (s t : TermTree) → Q (Form-F.Equal (bare s) (bare t)) ↔ Q (Form-F.Equal s t)
  pub at_not : (a : FormTree) → Q (Form-F.Not a)
  pub at_chain : (j : Junction) (all : List FormTree) → Q (chain_layer j (map bare_form all)) ↔ Q (chain_layer j all)
  pub at_implies : (a b : FormTree) → Q (Form-F.Implies a b)

module _ (Q : Form-F Form → Type 0) (past : PastForms Q) where
  node-Atom : (r : SymId) (args : List TermTree) → every-Form Q (form.Atom r args) → Q (Form-F.Atom r args)
  node-Atom r args h = subst Q (out-Atom r args) (every_here-Form Q (form.Atom r args) h)

  abbrev BothForm : FormTree → Type 0
  BothForm f = every-Form Q (bare_form f) ↔ every-Form Q f

  pub every_bare_form : (f : FormTree) → every-Form Q (bare_form f) ↔ every-Form Q f
  every_bare_form = by_form_cases BothForm record {
    at_true = both_along (every-Form Q) (bare_form form.True) form.True bare_form-True;
    at_false = both_along (every-Form Q) (bare_form form.False) form.False bare_form-False;
    at_atom = λ r args. (
      (λ h. nodes.every-Atom Q r args ((past.at_atom r args).0 (node-Atom r (map bare args) (subst (every-Form Q) (bare_form-Atom r args) h)))),
      (λ h. subst (every-Form Q) (sym (bare_form-Atom r args)) (nodes.every-Atom Q r (map bare args) ((past.at_atom r args).1 (node-Atom r args h)))),
    );
    at_equal = λ s t. (
      (λ h. nodes.every-Equal Q s t ((past.at_equal s t).0 (nodes.node-Equal Q (bare s) (bare t) (subst (every-Form Q) (bare_form-Equal s t) h)))),
      (λ h. subst (every-Form Q) (sym (bare_form-Equal s t)) (nodes.every-Equal Q (bare s) (bare t) ((past.at_equal s t).1 (nodes.node-Equal Q s t h)))),
    );
    at_not = λ a both. (
      (λ h. nodes.every-Not Q a (past.at_not a) (both.0 (nodes.part-Not Q (bare_form a) (subst (every-Form Q) (bare_form-Not a) h)))),
      (λ h. subst (every-Form Q) (sym (bare_form-Not a)) (nodes.every-Not Q (bare_form a) (past.at_not (bare_form a)) (both.1 (nodes.part-Not Q a h)))),
    );
    at_chain = λ j all held.
        let both = both_all (every-Form Q) (every-Form Q) bare_form all held in (
          (λ h. let k = subst (every-Form Q) (chain_bare j all) h in nodes.every-chain Q j all ((past.at_chain j all).0 (nodes.node-chain Q j (map bare_form all) k)) (both.0 (nodes.parts-chain Q j (map bare_form all) k))),
          (λ h. subst (every-Form Q) (sym (chain_bare j all)) (nodes.every-chain Q j (map bare_form all) ((past.at_chain j all).1 (nodes.node-chain Q j all h)) (both.1 (nodes.parts-chain Q j all h)))),
        );
    at_implies = λ a b first second. (
      (λ h. let k = nodes.parts-Implies Q (bare_form a) (bare_form b) (subst (every-Form Q) (bare_form-Implies a b) h) in nodes.every-Implies Q a b (past.at_implies a b) (first.0 k.0) (second.0 k.1)),
      (λ h. let k = nodes.parts-Implies Q a b h in subst (every-Form Q) (sym (bare_form-Implies a b)) (nodes.every-Implies Q (bare_form a) (bare_form b) (past.at_implies (bare_form a) (bare_form b)) (first.1 k.0) (second.1 k.1))),
    );
  }

-- and of outputs
pub record PastOuts (Q : Out-F Out → Type 0) : Type 0 where
  pub at_give : (t : TermTree) → Q (Out-F.Give (bare t)) ↔ Q (Out-F.Give t)
  pub at_if : (f : FormTree) (u v : OutTree) → Q (Out-F.If (bare_form f) (bare_out u) (bare_out v)) ↔ Q (Out-F.If f u v)

module _ (Q : Out-F Out → Type 0) (past : PastOuts Q) where
  node-Give : (t : TermTree) → every-Out Q (out.Give t) → Q (Out-F.Give t)
  node-Give t h = subst Q (out-Give t) (every_here-Out Q (out.Give t) h)

  abbrev BothOut : OutTree → Type 0
  BothOut o = every-Out Q (bare_out o) ↔ every-Out Q o

  pub every_bare_out : (o : OutTree) → every-Out Q (bare_out o) ↔ every-Out Q o
  every_bare_out = by_out_cases BothOut record {
    at_give = λ t. (
      (λ h. nodes.every-Give Q t ((past.at_give t).0 (node-Give (bare t) (subst (every-Out Q) (bare_out-Give t) h)))),
      (λ h. subst (every-Out Q) (sym (bare_out-Give t)) (nodes.every-Give Q (bare t) ((past.at_give t).1 (node-Give t h)))),
    );
    at_if = λ f u v first second. (
      (λ h. let k = subst (every-Out Q) (bare_out-If f u v) h in let p = nodes.parts-If Q (bare_form f) (bare_out u) (bare_out v) k in nodes.every-If Q f u v ((past.at_if f u v).0 (nodes.node-If Q (bare_form f) (bare_out u) (bare_out v) k)) (first.0 p.0) (second.0 p.1)),
      (λ h. let p = nodes.parts-If Q f u v h in subst (every-Out Q) (sym (bare_out-If f u v)) (nodes.every-If Q (bare_form f) (bare_out u) (bare_out v) ((past.at_if f u v).1 (nodes.node-If Q f u v h)) (first.1 p.0) (second.1 p.1))),
    );
  }

-- and of formulas with quantifiers
pub record PastQForms (Q : QForm-F QForm → Type 0) : Type 0 where
  pub at_true : Q QForm-F.True
  pub at_false : Q QForm-F.False
  pub at_atom : (r : SymId) (args : List TermTree) → Q (QForm-F.Atom r (map bare args)) ↔ Q (QForm-F.Atom r args)
  pub at_equal : (s t : TermTree) → Q (QForm-F.Equal (bare s) (bare t)) ↔ Q (QForm-F.Equal s t)
  pub at_not : (a : QFormTree) → Q (QForm-F.Not a)
  pub at_and : (all : List QFormTree) → Q (QForm-F.And (map bare_qform all)) ↔ Q (QForm-F.And all)
  pub at_or : (all : List QFormTree) → Q (QForm-F.Or (map bare_qform all)) ↔ Q (QForm-F.Or all)
  pub at_implies : (a b : QFormTree) → Q (QForm-F.Implies a b)
  pub at_all : (b : Binder) (a : QFormTree) → Q (QForm-F.All b (bare_qform a)) ↔ Q (QForm-F.All b a)
  pub at_exists : (b : Binder) (a : QFormTree) → Q (QForm-F.Exists b (bare_qform a)) ↔ Q (QForm-F.Exists b a)

module _ (Q : QForm-F QForm → Type 0) (past : PastQForms Q) where
  abbrev E : QFormTree → Type 0
  E = every-QForm Q

  abbrev BothQForm : QFormTree → Type 0
  BothQForm f = E (bare_qform f) ↔ E f

  pub every_bare_qform : (f : QFormTree) → every-QForm Q (bare_qform f) ↔ every-QForm Q f
  every_bare_qform = by_qform_cases BothQForm record {
    at_true = both_along E (bare_qform qform.True) qform.True (qfold-True bare_qform_step);
    at_false = both_along E (bare_qform qform.False) qform.False (qfold-False bare_qform_step);
    at_atom = λ r args. (
      (λ h. qnodes.every-Atom Q r args ((past.at_atom r args).0 (qnodes.node-Atom Q r (map bare args) (subst E (qfold-Atom bare_qform_step r args) h)))),
      (λ h. subst E (sym (qfold-Atom bare_qform_step r args)) (qnodes.every-Atom Q r (map bare args) ((past.at_atom r args).1 (qnodes.node-Atom Q r args h)))),
    );
    at_equal = λ s t. (
      (λ h. qnodes.every-Equal Q s t ((past.at_equal s t).0 (qnodes.node-Equal Q (bare s) (bare t) (subst E (qfold-Equal bare_qform_step s t) h)))),
      (λ h. subst E (sym (qfold-Equal bare_qform_step s t)) (qnodes.every-Equal Q (bare s) (bare t) ((past.at_equal s t).1 (qnodes.node-Equal Q s t h)))),
    );
    at_not = λ a both. (
      (λ h. qnodes.every-Not Q a (past.at_not a) (both.0 (qnodes.part-Not Q (bare_qform a) (subst E (qfold-Not bare_qform_step a) h)))),
      (λ h. subst E (sym (qfold-Not bare_qform_step a)) (qnodes.every-Not Q (bare_qform a) (past.at_not (bare_qform a)) (both.1 (qnodes.part-Not Q a h)))),
    );
    at_and = λ all held.
        let both = both_all E E bare_qform all held in (
          (λ h. let k = subst E (qfold-And bare_qform_step all) h in qnodes.every-And Q all ((past.at_and all).0 (qnodes.node-And Q (map bare_qform all) k)) (both.0 (qnodes.parts-And Q (map bare_qform all) k))),
          (λ h. subst E (sym (qfold-And bare_qform_step all)) (qnodes.every-And Q (map bare_qform all) ((past.at_and all).1 (qnodes.node-And Q all h)) (both.1 (qnodes.parts-And Q all h)))),
        );
    at_or = λ all held.
        let both = both_all E E bare_qform all held in (
          (λ h. let k = subst E (qfold-Or bare_qform_step all) h in qnodes.every-Or Q all ((past.at_or all).0 (qnodes.node-Or Q (map bare_qform all) k)) (both.0 (qnodes.parts-Or Q (map bare_qform all) k))),
          (λ h. subst E (sym (qfold-Or bare_qform_step all)) (qnodes.every-Or Q (map bare_qform all) ((past.at_or all).1 (qnodes.node-Or Q all h)) (both.1 (qnodes.parts-Or Q all h)))),
        );
    at_implies = λ a b first second. (
      (λ h. let k = qnodes.parts-Implies Q (bare_qform a) (bare_qform b) (subst E (qfold-Implies bare_qform_step a b) h) in qnodes.every-Implies Q a b (past.at_implies a b) (first.0 k.0) (second.0 k.1)),
      (λ h. let k = qnodes.parts-Implies Q a b h in subst E (sym (qfold-Implies bare_qform_step a b)) (qnodes.every-Implies Q (bare_qform a) (bare_qform b) (past.at_implies (bare_qform a) (bare_qform b)) (first.1 k.0) (second.1 k.1))),
    );
    at_all = λ b a both. (
      (λ h. let k = subst E (qfold-All bare_qform_step b a) h in qnodes.every-All Q b a ((past.at_all b a).0 (qnodes.node-All Q b (bare_qform a) k)) (both.0 (qnodes.part-All Q b (bare_qform a) k))),
      (λ h. subst E (sym (qfold-All bare_qform_step b a)) (qnodes.every-All Q b (bare_qform a) ((past.at_all b a).1 (qnodes.node-All Q b a h)) (both.1 (qnodes.part-All Q b a h)))),
    );
    at_exists = λ b a both. (
      (λ h. let k = subst E (qfold-Exists bare_qform_step b a) h in qnodes.every-Exists Q b a ((past.at_exists b a).0 (qnodes.node-Exists Q b (bare_qform a) k)) (both.0 (qnodes.part-Exists Q b (bare_qform a) k))),
      (λ h. subst E (sym (qfold-Exists bare_qform_step b a)) (qnodes.every-Exists Q b (bare_qform a) ((past.at_exists b a).1 (qnodes.node-Exists Q b a h)) (both.1 (qnodes.part-Exists Q b a h)))),
    );
  }

-- a list has as many elements, each changed
both_two : {X : Type 0} (g : X → X) (all : List X) → (2 ≤ length (map g all)) ↔ (2 ≤ length all)
both_two g all = both_along (λ (n : ℕ). 2 ≤ n) (length (map g all)) (length all) (length-map all g)

module _ (table : SymbolTable) where
  application_bare : (f : SymId) (args : List TermTree) → IsApplication table f (map bare args) ↔ IsApplication table f args
  application_bare f args = (
    (λ h. record { sym = h.sym; is = h.is; no_relation = h.no_relation; no_order = h.no_order; sorts = sym (sorts_bare table args) ∙ h.sorts }),
    (λ h. record { sym = h.sym; is = h.is; no_relation = h.no_relation; no_order = h.no_order; sorts = sorts_bare table args ∙ h.sorts }),
  )

  pub sorted_bare : (t : TermTree) → IsSorted table (bare t) ↔ IsSorted table t
  sorted_bare = every_bare (SortedNode table) record {
    at_var = λ p v. both_kept;
    at_app = λ p f args. both_and (application_bare f args) both_kept;
  }

  atom_bare : (r : SymId) (args : List TermTree) → IsAtom table r (map bare args) ↔ IsAtom table r args
  atom_bare r args = (
    (λ h. record { sym = h.sym; is = h.is; relation = h.relation; sorts = sym (sorts_bare table args) ∙ h.sorts }),
    (λ h. record { sym = h.sym; is = h.is; relation = h.relation; sorts = sorts_bare table args ∙ h.sorts }),
  )

  atom_both : (r : SymId) (args : List TermTree) → IsAtom table r (map bare args) × All (IsSorted table) (map bare args) ↔ IsAtom table r args × All (IsSorted table) args
  atom_both r args = both_and (atom_bare r args) (both_each (IsSorted table) (IsSorted table) bare args sorted_bare)

  sides_both : (s t : TermTree) → (sort_of table (bare s) ≡ sort_of table (bare t)) ↔ (sort_of table s ≡ sort_of table t)
  sides_both s t = ((λ e. sym (sort_bare table s) ∙ (e ∙ sort_bare table t)), (λ e. sort_bare table s ∙ (e ∙ sym (sort_bare table t))))

  equal_both : (s t : TermTree) → IsSorted table (bare s) × IsSorted table (bare t) × (sort_of table (bare s) ≡ sort_of table (bare t)) ↔ IsSorted table s × IsSorted table t × (sort_of table s ≡ sort_of table t)
  equal_both s t = both_three (sorted_bare s) (sorted_bare t) (sides_both s t)

  chain_both : (j : Junction) (all : List FormTree) → PlainFormNode table (chain_layer j (map bare_form all)) ↔ PlainFormNode table (chain_layer j all)
  chain_both conjunction all = both_two bare_form all
  chain_both disjunction all = both_two bare_form all

  pub formed_bare : (f : FormTree) → IsFormed table (bare_form f) ↔ IsFormed table f
  formed_bare = every_bare_form (PlainFormNode table) record {
    at_true = tt;
    at_false = tt;
    at_atom = atom_both;
    at_equal = equal_both;
    at_not = λ a. tt;
    at_chain = chain_both;
    at_implies = λ a b. tt;
  }

  pub plain_bare : (f : FormTree) → IsPlainForm table (bare_form f) ↔ IsPlainForm table f
  plain_bare f = (
    (λ h. record { formed = (formed_bare f).0 h.formed; sorts = subst HasOneSortEach (form_vars_bare f) h.sorts }),
    (λ h. record { formed = (formed_bare f).1 h.formed; sorts = subst HasOneSortEach (sym (form_vars_bare f)) h.sorts }),
  )

  arms_both : (u v : OutTree) → (given_sort table (bare_out u) ≡ given_sort table (bare_out v)) ↔ (given_sort table u ≡ given_sort table v)
  arms_both u v = ((λ e. sym (given_bare table u) ∙ (e ∙ given_bare table v)), (λ e. given_bare table u ∙ (e ∙ sym (given_bare table v))))

  pub formed_out_bare : (o : OutTree) → IsFormedOut table (bare_out o) ↔ IsFormedOut table o
  formed_out_bare = every_bare_out (PlainOutNode table) record {
    at_give = sorted_bare;
    at_if = λ f u v. both_and (formed_bare f) (arms_both u v);
  }

  pub plain_out_bare : (o : OutTree) → IsPlainOut table (bare_out o) ↔ IsPlainOut table o
  plain_out_bare o = (
    (λ h. record { formed = (formed_out_bare o).0 h.formed; sorts = subst HasOneSortEach (out_vars_bare o) h.sorts }),
    (λ h. record { formed = (formed_out_bare o).1 h.formed; sorts = subst HasOneSortEach (sym (out_vars_bare o)) h.sorts }),
  )

  pub formed_qform_bare : (f : QFormTree) → IsFormedQ table (bare_qform f) ↔ IsFormedQ table f
  formed_qform_bare = every_bare_qform _ record {
    at_true = tt;
    at_false = tt;
    at_atom = atom_both;
    at_equal = equal_both;
    at_not = λ a. tt;
    at_and = λ all. both_two bare_qform all;
    at_or = λ all. both_two bare_qform all;
    at_implies = λ a b. tt;
    at_all = λ b a. both_kept;
    at_exists = λ b a. both_kept;
  }

-- what a fold gives for the members of a chain, each without its places
module _ {A : Type 0} (of : QFormTree → List A) where
  abbrev Same : QFormTree → Type 0
  Same f = of (bare_qform f) ≡ of f

  all_same : (all : List QFormTree) → All Same all → all_of (map of (map bare_qform all)) ≡ all_of (map of all)
  all_same [] h = refl
  all_same (f ∷ fs) h = ap (λ (z : List A). z ++ all_of (map of (map bare_qform fs))) (All-head Same f fs h) ∙ ap (λ (z : List A). of f ++ z) (all_same fs (All-tail Same f fs h))

  two_same : (a b : QFormTree) → Same a → Same b → of (bare_qform a) ++ of (bare_qform b) ≡ of a ++ of b
  two_same a b h k = ap (λ (z : List A). z ++ of (bare_qform b)) h ∙ ap (λ (z : List A). of a ++ z) k

pub binders_bare : (f : QFormTree) → binders_of (bare_qform f) ≡ binders_of f
binders_bare = by_qform_cases (Same binders_of) record {
  at_true = ap binders_of (qfold-True bare_qform_step);
  at_false = ap binders_of (qfold-False bare_qform_step);
  at_atom = λ r args. ap binders_of (qfold-Atom bare_qform_step r args) ∙ (qfold-Atom binders_step r (map bare args) ∙ sym (qfold-Atom binders_step r args));
  at_equal = λ s t. ap binders_of (qfold-Equal bare_qform_step s t) ∙ (qfold-Equal binders_step (bare s) (bare t) ∙ sym (qfold-Equal binders_step s t));
  at_not = λ a h. ap binders_of (qfold-Not bare_qform_step a) ∙ (qfold-Not binders_step (bare_qform a) ∙ (h ∙ sym (qfold-Not binders_step a)));
  at_and = λ all h. ap binders_of (qfold-And bare_qform_step all) ∙ (qfold-And binders_step (map bare_qform all) ∙ (all_same binders_of all h ∙ sym (qfold-And binders_step all)));
  at_or = λ all h. ap binders_of (qfold-Or bare_qform_step all) ∙ (qfold-Or binders_step (map bare_qform all) ∙ (all_same binders_of all h ∙ sym (qfold-Or binders_step all)));
  at_implies = λ a b h k. ap binders_of (qfold-Implies bare_qform_step a b) ∙ (qfold-Implies binders_step (bare_qform a) (bare_qform b) ∙ (two_same binders_of a b h k ∙ sym (qfold-Implies binders_step a b)));
  at_all = λ b a h. ap binders_of (qfold-All bare_qform_step b a) ∙ (qfold-All binders_step b (bare_qform a) ∙ (ap (λ (z : List Binder). b ∷ z) h ∙ sym (qfold-All binders_step b a)));
  at_exists = λ b a h. ap binders_of (qfold-Exists bare_qform_step b a) ∙ (qfold-Exists binders_step b (bare_qform a) ∙ (ap (λ (z : List Binder). b ∷ z) h ∙ sym (qfold-Exists binders_step b a)));
}

pub free_vars_bare : (f : QFormTree) → free_vars (bare_qform f) ≡ free_vars f
free_vars_bare = by_qform_cases (Same free_vars) record {
  at_true = ap free_vars (qfold-True bare_qform_step);
  at_false = ap free_vars (qfold-False bare_qform_step);
  at_atom = λ r args. ap free_vars (qfold-Atom bare_qform_step r args) ∙ (qfold-Atom free_vars_step r (map bare args) ∙ (vars_bare args ∙ sym (qfold-Atom free_vars_step r args)));
  at_equal = λ s t. ap free_vars (qfold-Equal bare_qform_step s t) ∙ (qfold-Equal free_vars_step (bare s) (bare t) ∙ (ap (λ (z : List Var). z ++ term_vars (bare t)) (term_vars_bare s) ∙ (ap (λ (z : List Var). term_vars s ++ z) (term_vars_bare t) ∙ sym (qfold-Equal free_vars_step s t))));
  at_not = λ a h. ap free_vars (qfold-Not bare_qform_step a) ∙ (qfold-Not free_vars_step (bare_qform a) ∙ (h ∙ sym (qfold-Not free_vars_step a)));
  at_and = λ all h. ap free_vars (qfold-And bare_qform_step all) ∙ (qfold-And free_vars_step (map bare_qform all) ∙ (all_same free_vars all h ∙ sym (qfold-And free_vars_step all)));
  at_or = λ all h. ap free_vars (qfold-Or bare_qform_step all) ∙ (qfold-Or free_vars_step (map bare_qform all) ∙ (all_same free_vars all h ∙ sym (qfold-Or free_vars_step all)));
  at_implies = λ a b h k. ap free_vars (qfold-Implies bare_qform_step a b) ∙ (qfold-Implies free_vars_step (bare_qform a) (bare_qform b) ∙ (two_same free_vars a b h k ∙ sym (qfold-Implies free_vars_step a b)));
  at_all = λ b a h. ap free_vars (qfold-All bare_qform_step b a) ∙ (qfold-All free_vars_step b (bare_qform a) ∙ (ap (without b.var) h ∙ sym (qfold-All free_vars_step b a)));
  at_exists = λ b a h. ap free_vars (qfold-Exists bare_qform_step b a) ∙ (qfold-Exists free_vars_step b (bare_qform a) ∙ (ap (without b.var) h ∙ sym (qfold-Exists free_vars_step b a)));
}

unbound_both : (b : Binder) (a : QFormTree) → IsUnbound b.name (bare_qform a) ↔ IsUnbound b.name a
unbound_both b a = both_along (All (λ (c : Binder). c.name ≢ b.name)) (binders_of (bare_qform a)) (binders_of a) (binders_bare a)

pub once_bare : (f : QFormTree) → BindsOnce (bare_qform f) ↔ BindsOnce f
once_bare = every_bare_qform _ record {
  at_true = tt;
  at_false = tt;
  at_atom = λ r args. both_kept;
  at_equal = λ s t. both_kept;
  at_not = λ a. tt;
  at_and = λ all. both_kept;
  at_or = λ all. both_kept;
  at_implies = λ a b. tt;
  at_all = unbound_both;
  at_exists = unbound_both;
}

module _ (table : SymbolTable) where
  pub plain_qform_bare : (f : QFormTree) → IsPlainQForm table (bare_qform f) ↔ IsPlainQForm table f
  plain_qform_bare f = (
    (λ h. record {
      formed = (formed_qform_bare table f).0 h.formed;
      sorts = subst HasOneSortEach (qform_vars_bare f) h.sorts;
      numbered = subst (λ (bs : List Binder). map (λ b. b.var.number) bs ≡ range_with_len 1 (length bs)) (binders_bare f) h.numbered;
      binders = subst (All (MayBind table)) (binders_bare f) h.binders;
      once = (once_bare f).0 h.once;
    }),
    (λ h. record {
      formed = (formed_qform_bare table f).1 h.formed;
      sorts = subst HasOneSortEach (sym (qform_vars_bare f)) h.sorts;
      numbered = subst (λ (bs : List Binder). map (λ b. b.var.number) bs ≡ range_with_len 1 (length bs)) (sym (binders_bare f)) h.numbered;
      binders = subst (All (MayBind table)) (sym (binders_bare f)) h.binders;
      once = (once_bare f).1 h.once;
    }),
  )
