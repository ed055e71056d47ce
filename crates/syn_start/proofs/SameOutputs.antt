-- The formula that says that a term has the value of an output: it is formed, its terms are those of the output and the term, and the
-- places of the term change nothing.
use Rattle.std.proofs.Common.{◌≡◌, List, [], ◌∷◌, ◌++◌, Some, All, Contains, refl, sym, ◌∙◌, ap, ap₂, subst, arith}
use Rattle.std.specs.List.{flat_map}
use Rattle.std.proofs.lemmas.List.Elements.{All-cons, All-contains, All-head, All-nil}
use Rattle.syn_term.specs.declared.sorts.Sort.{Sort}
use Rattle.syn_term.specs.declared.sorts.Var.{Var}
use Rattle.syn_term.specs.Symbols.{SymbolTable}
use Rattle.syn_term.specs.Terms.{TermTree, bare, sort_of}
use Rattle.syn_form.specs.declared.trees.Form.TheVariants as form
use Rattle.syn_form.specs.declared.trees.Form.TheViews as view
use Rattle.syn_form.specs.declared.trees.Out.TheVariants as out
use Rattle.syn_form.specs.declared.trees.Out.TheViews as out_view
use Rattle.syn_form.specs.Plain.{HasOneSortEach, IsFormed, IsFormedOut, IsSorted, PlainFormNode, PlainOutNode, given_sort, given_sort_step}
use Rattle.syn_form.specs.Simplification.{conjunction}
use Rattle.syn_form.specs.Trees.{FormTree, OutTree, bare_form, form_terms, form_vars, out_terms, out_vars, term_vars}
use Rattle.syn_form.proofs.Equations.{bare_form-And, bare_form-Equal, bare_form-Implies, fold-Give, fold-If, form_terms-And, out_terms-Give, out_terms-If}
use Rattle.syn_form.proofs.FormedForms.{equality_formed, term_formed}
use Rattle.syn_form.proofs.Inductions.{by_out_cases}
use Rattle.syn_form.proofs.Lists.{Contains-head, Contains-tail, flat_map_within}
use Rattle.syn_form.proofs.Nodes.{every-Implies, every-Not, every-chain, node-If, parts-If}
use Rattle.syn_form.proofs.OnTerms.{all-Equal, all-Implies, all-Not}
use Rattle.syn_form.proofs.Owned.{All-left, All-right}
use Rattle.syn_start.specs.Definitions.{defines_relation, equals_output, equals_output_step}

both_hold : {A : Type 0} (P : A → Type 0) (x y : A) → P x → P y → All P (x ∷ y ∷ [])
both_hold P x y h k = All-cons P x (y ∷ []) h (All-cons P y [] k (All-nil P))

-- `(c -> a) and (not c -> b)`
abbrev chosen : FormTree → FormTree → FormTree → FormTree
chosen c a b = view.And (view.Implies c a ∷ view.Implies (view.Not c) b ∷ [])

equals-Give : (t u : TermTree) → equals_output t (out.Give u) ≡ form.Equal t u
equals-Give t u = fold-Give (equals_output_step t) u

equals-If : (t : TermTree) (c : FormTree) (u v : OutTree) → equals_output t (out_view.If c u v) ≡ chosen c (equals_output t u) (equals_output t v)
equals-If t c u v = fold-If (equals_output_step t) c u v

module _ (table : SymbolTable) where
  and_formed : (a b : FormTree) → IsFormed table a → IsFormed table b → IsFormed table (view.And (a ∷ b ∷ []))
  and_formed a b h k = every-chain (PlainFormNode table) conjunction (a ∷ b ∷ []) (omega arith) (both_hold (IsFormed table) a b h k)

  implies_formed : (a b : FormTree) → IsFormed table a → IsFormed table b → IsFormed table (view.Implies a b)
  implies_formed a b h k = every-Implies (PlainFormNode table) a b tt h k

  pub defines_formed : (r b : FormTree) → IsFormed table r → IsFormed table b → IsFormed table (defines_relation r b)
  defines_formed r b h k = and_formed (view.Implies r b) (view.Implies b r) (implies_formed r b h k) (implies_formed b r k h)

  module _ (t : TermTree) (s : Sort) (sorted : IsSorted table t) (is : sort_of table t ≡ Some s) where
    pub equals_formed : (o : OutTree) → IsFormedOut table o → given_sort table o ≡ Some s → IsFormed table (equals_output t o)
    equals_formed = by_out_cases (λ o. IsFormedOut table o → given_sort table o ≡ Some s → IsFormed table (equals_output t o)) record {
      at_give = λ u h e.
          let k = (term_formed table (out.Give u) u refl).0 h in
          let same : sort_of table t ≡ sort_of table u = is ∙ (sym e ∙ fold-Give (given_sort_step table) u) in
          subst (IsFormed table) (sym (equals-Give t u)) ((equality_formed table (form.Equal t u) t u refl).1 (sorted, k, same));
      at_if = λ c u v h k l e.
          let n = node-If (PlainOutNode table) c u v l in
          let p = parts-If (PlainOutNode table) c u v l in
          let first : given_sort table u ≡ Some s = sym (fold-If (given_sort_step table) c u v) ∙ e in
          let a = h p.0 first in
          let b = k p.1 (sym n.1 ∙ first) in
          subst (IsFormed table) (sym (equals-If t c u v))
          (and_formed (view.Implies c (equals_output t u)) (view.Implies (view.Not c) (equals_output t v)) (implies_formed c (equals_output t u) n.0 a)
          (implies_formed (view.Not c) (equals_output t v) (every-Not (PlainFormNode table) c tt n.0) b));
    }

module _ (P : TermTree → Type 0) where
  both_terms : (a b : FormTree) → All P (form_terms a) → All P (form_terms b) → All P (form_terms (view.And (a ∷ b ∷ [])))
  both_terms a b h k = subst (All P) (sym (form_terms-And (a ∷ b ∷ []))) (all_two (form_terms a) (form_terms b) h k)
    where
      all_two : (xs ys : List TermTree) → All P xs → All P ys → All P (xs ++ (ys ++ []))
      all_two [] [] h k = All-nil P
      all_two [] (y ∷ ys) h k = All-cons P y (ys ++ []) (All-head P y ys k) (all_two [] ys (All-nil P) (All-right P (y ∷ []) ys k))
      all_two (x ∷ xs) ys h k = All-cons P x (xs ++ (ys ++ [])) (All-head P x xs h) (all_two xs ys (All-right P (x ∷ []) xs h) k)

  pub defines_terms : (r b : FormTree) → All P (form_terms r) → All P (form_terms b) → All P (form_terms (defines_relation r b))
  defines_terms r b h k = both_terms (view.Implies r b) (view.Implies b r) (all-Implies P r b r b refl refl h k) (all-Implies P b r b r refl refl k h)

  -- what holds of the term and of the terms of the output holds of those of the formula
  pub equals_terms : (t : TermTree) → P t → (o : OutTree) → All P (out_terms o) → All P (form_terms (equals_output t o))
  equals_terms t own = by_out_cases (λ o. All P (out_terms o) → All P (form_terms (equals_output t o))) record {
    at_give = λ u h.
        subst (λ (z : FormTree). All P (form_terms z)) (sym (equals-Give t u)) (all-Equal P t u own (All-head P u [] (subst (All P) (out_terms-Give u) h)));
    at_if = λ c u v h k l.
        let m = subst (All P) (out_terms-If c u v) l in
        let test = All-left P (form_terms c) (out_terms u ++ out_terms v) m in
        let arms = All-right P (form_terms c) (out_terms u ++ out_terms v) m in
        let a = h (All-left P (out_terms u) (out_terms v) arms) in
        let b = k (All-right P (out_terms u) (out_terms v) arms) in
        subst (λ (z : FormTree). All P (form_terms z)) (sym (equals-If t c u v))
        (both_terms (view.Implies c (equals_output t u)) (view.Implies (view.Not c) (equals_output t v))
        (all-Implies P c (equals_output t u) c (equals_output t u) refl refl test a)
        (all-Implies P (view.Not c) (equals_output t v) (view.Not c) (equals_output t v) refl refl (all-Not P c test) b));
  }

-- each item of a list is in it
pub all_in : {A : Type 0} (whole xs : List A) → ((x : A) → Contains xs x → Contains whole x) → All (Contains whole) xs
all_in whole [] h = All-nil (Contains whole)
all_in whole (x ∷ xs) h = All-cons (Contains whole) x xs (h x (Contains-head x xs)) (all_in whole xs (λ y c. h y (Contains-tail x xs y c)))

-- no variable number has two sorts where the variables are among those of such a list
pub sorts_within : (vs ws : List Var) → ((v : Var) → Contains vs v → Contains ws v) → HasOneSortEach ws → HasOneSortEach vs
sorts_within vs ws sub h = λ v w c d e. h v w (sub v c) (sub w d) e

pub vars_within : (f : FormTree) (ts : List TermTree) → All (Contains ts) (form_terms f) → HasOneSortEach (flat_map term_vars ts) → HasOneSortEach (form_vars f)
vars_within f ts h = sorts_within (form_vars f) (flat_map term_vars ts) (flat_map_within term_vars (form_terms f) ts (λ x c. All-contains (Contains ts) (form_terms f) x h c))

pub equals_sorts : (t : TermTree) (o : OutTree) → HasOneSortEach (term_vars t ++ out_vars o) → HasOneSortEach (form_vars (equals_output t o))
equals_sorts t o =
    vars_within (equals_output t o) (t ∷ out_terms o)
    (equals_terms (Contains (t ∷ out_terms o)) t (Contains-head t (out_terms o)) o (all_in (t ∷ out_terms o) (out_terms o) (λ x c. Contains-tail t (out_terms o) x c)))

-- the formula doesn't change but for places where the term doesn't
chosen_bare : (c a b : FormTree) → bare_form (chosen c a b) ≡ view.And (view.Implies (bare_form c) (bare_form a) ∷ view.Implies (bare_form (view.Not c)) (bare_form b) ∷ [])
chosen_bare c a b =
    bare_form-And (view.Implies c a ∷ view.Implies (view.Not c) b ∷ [])
    ∙ ap₂ (λ (x y : FormTree). view.And (x ∷ y ∷ [])) (bare_form-Implies c a) (bare_form-Implies (view.Not c) b)

pub equals_same : (t u : TermTree) → bare t ≡ bare u → (o : OutTree) → bare_form (equals_output t o) ≡ bare_form (equals_output u o)
equals_same t u e = by_out_cases (λ o. bare_form (equals_output t o) ≡ bare_form (equals_output u o)) record {
  at_give = λ x.
      ap bare_form (equals-Give t x)
      ∙ (bare_form-Equal t x ∙ (ap (λ (z : TermTree). form.Equal z (bare x)) e ∙ (sym (bare_form-Equal u x) ∙ ap bare_form (sym (equals-Give u x)))));
  at_if = λ c x y h k.
      ap bare_form (equals-If t c x y)
      ∙ (chosen_bare c (equals_output t x) (equals_output t y)
      ∙ (ap₂ (λ (v w : FormTree). view.And (view.Implies (bare_form c) v ∷ view.Implies (bare_form (view.Not c)) w ∷ [])) h k
      ∙ (sym (chosen_bare c (equals_output u x) (equals_output u y)) ∙ ap bare_form (sym (equals-If u c x y)))));
}
