-- Loops over the parts of a term or a formula: one part more, and a part that ends the loop.
use Rattle.std.proofs.Common.{◌≡◌, ℕ, zero, suc, ◌+◌, ◌-◌, ◌<◌, Bool, ◌&&◌, ◌||◌, List, [], ◌∷◌, ◌++◌, Err, length, take, drop, get_or, refl, sym, ap, ap₂, subst, ◌∙◌, arith}
use Rattle.std.proofs.lemmas.List.{take-append-drop}
use Rattle.syn_term.specs.Terms.{TermTree}
use Rattle.syn_form.specs.Trees.{FormTree}
use Rattle.syn_value.specs.declared.tree.ValueTree.{ValueTree}
use Rattle.syn_eval.specs.declared.errors.EvalError.{EvalError}
use Rattle.syn_eval.specs.declared.evaluating.Scope.{Scope}
use Rattle.syn_eval.specs.declared.evaluating.Tally.{Tally}
use Rattle.syn_eval.specs.Ending.{Ends, IsSpent, IsWithin}
use Rattle.syn_eval.specs.inner.Scopes.{form_in, forms_in, tally_in, tally_of, term_in, terms_in}
use Rattle.syn_eval.proofs.Answers.{carried, made_spent, next_spent, next_within}
use Rattle.syn_eval.proofs.Growing.{form_grows, term_grows}
use Rattle.syn_eval.proofs.Picking.{opened}
use Rattle.syn_eval.proofs.Tallies.{all_true_last, any_true_last}

front_and_rest : {X : Type 0} (xs : List X) (i : ℕ) (x : X) → i < length xs → x ≡ get_or xs i x → take i xs ++ x ∷ drop (i + 1) xs ≡ xs
front_and_rest xs i x lt e = ap (λ z. take i xs ++ z) (sym (opened xs i x lt e)) ∙ take-append-drop i xs

pub one_more : {X : Type 0} (xs : List X) (i : ℕ) (x : X) → i < length xs → x ≡ get_or xs i x → take (i + 1) xs ≡ take i xs ++ x ∷ []
one_more [] i x lt e = absurd (omega (arith, lt))
one_more (y ∷ xs) zero x lt e = ap (λ z. z ∷ []) (sym e)
one_more (y ∷ xs) (suc i) x lt e =
    let next : suc i + 1 ≡ suc (i + 1) = omega arith in
    ap (λ z. take z (y ∷ xs)) next ∙ ap (λ z. y ∷ z) (one_more xs i x (omega (arith, lt)) e)

module _ (s : Scope) (turns : ℕ) where
  module _ (ts : List TermTree) (i : ℕ) (t : TermTree) (lt : i < length ts) (is : t ≡ get_or ts i t) (vs : List ValueTree) (used : ℕ) (so_far : IsWithin (terms_in s (take i ts)) turns (record { result = vs; turns = used })) where
    pub terms_next : (v : ValueTree) (more : ℕ) → IsWithin (term_in s t) (turns - used) (record { result = v; turns = more }) → (ws : List ValueTree) → ws ≡ vs ++ v ∷ [] → IsWithin (terms_in s (take (i + 1) ts)) turns (record { result = ws; turns = used + more })
    terms_next v more h ws e =
        subst (λ z. IsWithin (terms_in s (take (i + 1) ts)) turns (record { result = z; turns = used + more })) (sym e)
        (subst (λ z. IsWithin (terms_in s z) turns (record { result = vs ++ v ∷ []; turns = used + more })) (sym (one_more ts i t lt is)) (next_within (λ n t. term_in s t n) (term_grows s) turns (take i ts) t vs used v more so_far h))

    pub terms_fail : (e : EvalError) → Ends (term_in s t) (turns - used) (Err e) → Ends (terms_in s ts) turns (Err e)
    terms_fail = carried (term_in s t) (terms_in s ts) (turns - used) turns (λ h. subst (λ z. IsSpent (terms_in s z) turns) (front_and_rest ts i t lt is) (next_spent (λ n t. term_in s t n) (term_grows s) turns (take i ts) t (drop (i + 1) ts) vs used so_far h))

  module _ (fs : List FormTree) (i : ℕ) (f : FormTree) (lt : i < length fs) (is : f ≡ get_or fs i f) (bs : List Bool) (used : ℕ) (so_far : IsWithin (forms_in s (take i fs)) turns (record { result = bs; turns = used })) where
    pub forms_next : (b : Bool) (more : ℕ) → IsWithin (form_in s f) (turns - used) (record { result = b; turns = more }) → IsWithin (forms_in s (take (i + 1) fs)) turns (record { result = bs ++ b ∷ []; turns = used + more })
    forms_next b more h = subst (λ z. IsWithin (forms_in s z) turns (record { result = bs ++ b ∷ []; turns = used + more })) (sym (one_more fs i f lt is)) (next_within (λ n f. form_in s f n) (form_grows s) turns (take i fs) f bs used b more so_far h)

    pub forms_fail : (e : EvalError) → Ends (form_in s f) (turns - used) (Err e) → Ends (tally_in s fs) turns (Err e)
    forms_fail = carried (form_in s f) (tally_in s fs) (turns - used) turns (λ h. made_spent tally_of (forms_in s fs) turns (subst (λ z. IsSpent (forms_in s z) turns) (front_and_rest fs i f lt is) (next_spent (λ n f. form_in s f n) (form_grows s) turns (take i fs) f (drop (i + 1) fs) bs used so_far h)))

pub tally_next : (bs : List Bool) (b : Bool) (t : Tally) → t ≡ tally_of bs → record { all = t.all && b; any = t.any || b } ≡ tally_of (bs ++ b ∷ [])
tally_next bs b t e = ap (λ (z : Tally). record { all = z.all && b; any = z.any || b }) e ∙ ap₂ (λ (x y : Bool). record { all = x; any = y }) (sym (all_true_last bs b)) (sym (any_true_last bs b))

-- no parts yet
pub terms_none : (s : Scope) (ts : List TermTree) (turns : ℕ) (vs : List ValueTree) → vs ≡ [] → IsWithin (terms_in s (take 0 ts)) turns (record { result = vs; turns = 0 })
terms_none s ts turns vs e = subst (λ z. IsWithin (terms_in s (take 0 ts)) turns (record { result = z; turns = 0 })) (sym e) (record { nesting = 0; is = refl; within = omega arith })
