-- What replacing subformulas by a truth value keeps: truth, where they have that value, plainness, terms and variables.
use Rattle.std.proofs.Common.{◌≡◌, ◌≤◌, Result, IfOk, Bool, true, false, not, ◌||◌, List, [], ◌∷◌, ◌++◌, All, Contains, map, refl, sym, ◌∙◌, ap, subst}
use Rattle.std.specs.List.{flat_map, list_all, list_any}
use Rattle.std.proofs.lemmas.List.{length-map}
use Rattle.std.proofs.lemmas.List.Elements.{All-nil, All-cons, All-head, All-tail}
use Rattle.std.proofs.lemmas.Result.{IfOk-weaker}
use Rattle.syn_term.specs.declared.sorts.Var.{Var}
use Rattle.syn_term.specs.Symbols.{SymbolTable}
use Rattle.syn_term.specs.Terms.{TermTree}
use Rattle.syn_form.specs.declared.trees.Form.TheViews as view
use Rattle.syn_form.specs.Trees.{FormTree, form_terms, form_terms_step, form_vars, term_vars}
use Rattle.syn_form.specs.Plain.{IsFormed, PlainFormNode}
use Rattle.syn_form.specs.Truth.{Assignment, truth_value, truth_value_step}
use Rattle.syn_form.specs.Simplification.{Junction, conjunction, disjunction, chain}
use Rattle.syn_form.specs.Replacing.{replaced_all, truth_form}
use Rattle.syn_form.specs.ReplacingLaws.{ReplacesAll}
use Rattle.syn_form.proofs.Equations.{fold-True, fold-False, fold-Not, fold-And, fold-Or, fold-Implies}
use Rattle.syn_form.proofs.Lists.{flat_map_within}
use Rattle.syn_form.proofs.Nodes.{chain_layer, part-Not, parts-chain, parts-Implies, node-chain, every-True, every-False, every-Not, every-Implies, every-chain}
use Rattle.syn_form.proofs.SimplifiedPlain.{HasOneSortEach-among}
use Rattle.syn_form.proofs.SimplifiedTerms.{Among, Among-append, Among-same, Among-trans, form_terms-chain, no_terms}
use Rattle.syn_form.proofs.SimplifiedTruth.{truth-same}
use Rattle.syn_form.proofs.ReplacingParts.{replaced_parts}
use Rattle.syn_form.proofs.ReplacingCases.{by_replacing}

-- the members that are put in place of others, where each is a kind of its own
module _ (r : FormTree → FormTree) where
  members-truth : (a : Assignment) (all : List FormTree) → All (λ f. truth_value a (r f) ≡ truth_value a f) all → map (truth_value a) (map r all) ≡ map (truth_value a) all
  members-truth a [] h = refl
  members-truth a (f ∷ fs) h =
      let e : truth_value a (r f) ≡ truth_value a f = All-head (λ (g : FormTree). truth_value a (r g) ≡ truth_value a g) f fs h in
      let k : map (truth_value a) (map r fs) ≡ map (truth_value a) fs = members-truth a fs (All-tail (λ (g : FormTree). truth_value a (r g) ≡ truth_value a g) f fs h) in cc

  pub chain-truth : (a : Assignment) (j : Junction) (all : List FormTree) → All (λ f. truth_value a (r f) ≡ truth_value a f) all → truth_value a (chain j (map r all)) ≡ truth_value a (chain j all)
  chain-truth a conjunction all h = fold-And (truth_value_step a) (map r all) ∙ (ap (list_all (λ x. x)) (members-truth a all h) ∙ sym (fold-And (truth_value_step a) all))
  chain-truth a disjunction all h = fold-Or (truth_value_step a) (map r all) ∙ (ap (list_any (λ x. x)) (members-truth a all h) ∙ sym (fold-Or (truth_value_step a) all))

  members-formed : (table : SymbolTable) (all : List FormTree) → All (λ f. IsFormed table f → IsFormed table (r f)) all → All (IsFormed table) all → All (IsFormed table) (map r all)
  members-formed table [] h k = All-nil (IsFormed table)
  members-formed table (f ∷ fs) h k =
      All-cons (IsFormed table) (r f) (map r fs) (All-head (λ g. IsFormed table g → IsFormed table (r g)) f fs h (All-head (IsFormed table) f fs k))
      (members-formed table fs (All-tail (λ g. IsFormed table g → IsFormed table (r g)) f fs h) (All-tail (IsFormed table) f fs k))

  long_still : (table : SymbolTable) (j : Junction) (all : List FormTree) → PlainFormNode table (chain_layer j all) → PlainFormNode table (chain_layer j (map r all))
  long_still table conjunction all h = subst (λ n. 2 ≤ n) (sym (length-map all r)) h
  long_still table disjunction all h = subst (λ n. 2 ≤ n) (sym (length-map all r)) h

  pub chain-formed : (table : SymbolTable) (j : Junction) (all : List FormTree) → All (λ f. IsFormed table f → IsFormed table (r f)) all → IsFormed table (chain j all) → IsFormed table (chain j (map r all))
  chain-formed table j all h k =
      every-chain (PlainFormNode table) j (map r all) (long_still table j all (node-chain (PlainFormNode table) j all k)) (members-formed table all h (parts-chain (PlainFormNode table) j all k))

  members-terms : (all : List FormTree) → All (λ f. Among (form_terms (r f)) (form_terms f)) all → Among (flat_map form_terms (map r all)) (flat_map form_terms all)
  members-terms [] h = λ t c. c
  members-terms (f ∷ fs) h =
      Among-append (form_terms (r f)) (flat_map form_terms (map r fs)) (form_terms f) (flat_map form_terms fs)
      (All-head (λ g. Among (form_terms (r g)) (form_terms g)) f fs h) (members-terms fs (All-tail (λ g. Among (form_terms (r g)) (form_terms g)) f fs h))

  pub chain-terms : (j : Junction) (all : List FormTree) → All (λ f. Among (form_terms (r f)) (form_terms f)) all → Among (form_terms (chain j (map r all))) (form_terms (chain j all))
  chain-terms j all h =
      Among-trans (form_terms (chain j (map r all))) (flat_map form_terms (map r all)) (form_terms (chain j all)) (Among-same (form_terms (chain j (map r all))) (flat_map form_terms (map r all)) (form_terms-chain j (map r all)))
      (Among-trans (flat_map form_terms (map r all)) (flat_map form_terms all) (form_terms (chain j all)) (members-terms all h) (Among-same (flat_map form_terms all) (form_terms (chain j all)) (sym (form_terms-chain j all))))

module _ (part : FormTree) (by : Bool) where
  abbrev replaced : FormTree → FormTree
  replaced = replaced_all part by

  truth-constant : (a : Assignment) (b : Bool) → truth_value a (truth_form b) ≡ b
  truth-constant a true = fold-True (truth_value_step a)
  truth-constant a false = fold-False (truth_value_step a)

  pub replaced-truth : (a : Assignment) → truth_value a part ≡ by → (f : FormTree) → truth_value a (replaced f) ≡ truth_value a f
  replaced-truth a value = by_replacing part by (λ f g. truth_value a g ≡ truth_value a f) record {
    at_hit = λ f e. truth-constant a by ∙ (sym value ∙ sym (truth-same a f part e));
    at_true = refl;
    at_false = refl;
    at_atom = λ r args. refl;
    at_equal = λ s t. refl;
    at_not = λ x h. fold-Not (truth_value_step a) (replaced x) ∙ (ap not h ∙ sym (fold-Not (truth_value_step a) x));
    at_chain = λ j all h. chain-truth replaced a j all h;
    at_implies = λ x y h k. fold-Implies (truth_value_step a) (replaced x) (replaced y) ∙ (ap (λ (z : Bool). not z || truth_value a (replaced y)) h ∙ (ap (λ (z : Bool). not (truth_value a x) || z) k ∙ sym (fold-Implies (truth_value_step a) x y)));
  }

  constant-formed : (table : SymbolTable) (b : Bool) → IsFormed table (truth_form b)
  constant-formed table true = every-True (PlainFormNode table) tt
  constant-formed table false = every-False (PlainFormNode table) tt

  pub replaced-formed : (table : SymbolTable) (f : FormTree) → IsFormed table f → IsFormed table (replaced f)
  replaced-formed table = by_replacing part by (λ f g. IsFormed table f → IsFormed table g) record {
    at_hit = λ f e h. constant-formed table by;
    at_true = λ h. h;
    at_false = λ h. h;
    at_atom = λ r args h. h;
    at_equal = λ s t h. h;
    at_not = λ x k h. every-Not (PlainFormNode table) (replaced x) tt (k (part-Not (PlainFormNode table) x h));
    at_chain = λ j all k h. chain-formed replaced table j all k h;
    at_implies = λ x y k l h. let p = parts-Implies (PlainFormNode table) x y h in every-Implies (PlainFormNode table) (replaced x) (replaced y) tt (k p.0) (l p.1);
  }

  constant-terms : (b : Bool) → form_terms (truth_form b) ≡ []
  constant-terms true = fold-True form_terms_step
  constant-terms false = fold-False form_terms_step

  along : (f g : FormTree) (xs ys : List TermTree) → form_terms g ≡ xs → form_terms f ≡ ys → Among xs ys → Among (form_terms g) (form_terms f)
  along f g xs ys e k sub = Among-trans (form_terms g) xs (form_terms f) (Among-same (form_terms g) xs e) (Among-trans xs ys (form_terms f) sub (Among-same ys (form_terms f) (sym k)))

  pub replaced-terms : (f : FormTree) → Among (form_terms (replaced f)) (form_terms f)
  replaced-terms = by_replacing part by (λ f g. Among (form_terms g) (form_terms f)) record {
    at_hit = λ f e. no_terms (truth_form by) (form_terms f) (constant-terms by);
    at_true = λ t c. c;
    at_false = λ t c. c;
    at_atom = λ r args t c. c;
    at_equal = λ u v t c. c;
    at_not = λ x h. along (view.Not x) (view.Not (replaced x)) (form_terms (replaced x)) (form_terms x) (fold-Not form_terms_step (replaced x)) (fold-Not form_terms_step x) h;
    at_chain = λ j all h. chain-terms replaced j all h;
    at_implies = λ x y h k. along (view.Implies x y) (view.Implies (replaced x) (replaced y)) (form_terms (replaced x) ++ form_terms (replaced y)) (form_terms x ++ form_terms y) (fold-Implies form_terms_step (replaced x) (replaced y)) (fold-Implies form_terms_step x y)
        (Among-append (form_terms (replaced x)) (form_terms (replaced y)) (form_terms x) (form_terms y) h k);
  }

  pub replaced-vars : (f : FormTree) (v : Var) → Contains (form_vars (replaced f)) v → Contains (form_vars f) v
  replaced-vars f v c = flat_map_within term_vars (form_terms (replaced f)) (form_terms f) (replaced-terms f) v c

  pub replaces_all : (f : FormTree) → ReplacesAll part by f (replaced f)
  replaces_all f = record {
    parts = replaced_parts part by;
    truth = λ a value. replaced-truth a value f;
    formed = λ table h. replaced-formed table f h;
    plain = λ table h. record {
      formed = replaced-formed table f h.formed;
      sorts = HasOneSortEach-among (form_vars (replaced f)) (form_vars f) (replaced-vars f) h.sorts;
    };
    terms = replaced-terms f;
    variables = replaced-vars f;
  }

  replaces_from : (f g : FormTree) → g ≡ replaced f → ReplacesAll part by f g
  replaces_from f g e = subst (ReplacesAll part by f) (sym e) (replaces_all f)

  -- the same for what a call answers that may fail
  pub replaces_all_ok : {E : Type 0} (r : Result FormTree E) (f : FormTree) → IfOk r (λ g. g ≡ replaced f) → IfOk r (ReplacesAll part by f)
  replaces_all_ok r f h = IfOk-weaker r (λ g. g ≡ replaced f) (ReplacesAll part by f) (replaces_from f) h
