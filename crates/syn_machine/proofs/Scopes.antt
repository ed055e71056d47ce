-- What a scope reads, values that are put behind it change nothing of; so frames of terms, formulas and outputs are told by what these are evaluated to.
use Rattle.std.proofs.Common.{◌≡◌, ℕ, zero, suc, ◌+◌, ◌-◌, ◌≤◌, Bool, true, false, not, ◌||◌, List, [], ◌∷◌, ◌++◌, Option, None, Some, if◌then◌else◌, drop, length, map, nat_lt, take, refl, sym, ap, ap₂, ◌∙◌, arith, append_assoc, append-nil}
use Rattle.std.specs.List.{list_all, list_any}
use Rattle.std.specs.Option.{option_and_then, option_map}
use Rattle.std.proofs.lemmas.Bool.{le-ltb}
use Rattle.std.proofs.lemmas.List.{length-append, length-map, take-append-le}
use Rattle.syn_term.specs.declared.sorts.SymId.{SymId}
use Rattle.syn_term.specs.declared.sorts.Var.{Var}
use Rattle.syn_term.specs.declared.term.Place.{Place}
use Rattle.syn_term.specs.declared.term.Node.TheVariants as node
use Rattle.syn_term.specs.declared.term.Node.TheViews as node_view
use Rattle.syn_term.specs.Terms.{TermTree}
use Rattle.syn_form.specs.declared.trees.Form.TheVariants as form
use Rattle.syn_form.specs.declared.trees.Form.TheViews as form_view
use Rattle.syn_form.specs.Trees.{FormTree, OutTree}
use Rattle.syn_value.specs.declared.tree.ValueTree.{ValueTree}
use Rattle.syn_value.specs.Values.{same_value}
use Rattle.syn_model.specs.Calls.{Meaning, numbered_values, reading_at}
use Rattle.syn_model.specs.Evaluation.{Counted, Environment, Reading, after, are_same, evaluate_form, evaluate_out, evaluate_term, free, implies, on_all, one_first, together}
use Rattle.syn_model.proofs.EvaluationEquations.{evaluate_form-And, evaluate_form-Atom, evaluate_form-Equal, evaluate_form-False, evaluate_form-Implies, evaluate_form-Not, evaluate_form-Or, evaluate_form-True, evaluate_term-App, evaluate_term-Var}
use Rattle.syn_eval.proofs.Answers.{made, pair_is}
use Rattle.syn_machine.specs.declared.frames.Connective.{Connective}
use Rattle.syn_machine.specs.declared.frames.Connective.TheVariants as connective
use Rattle.syn_machine.specs.declared.frames.Scope.{Scope}
use Rattle.syn_machine.specs.declared.frames.Scope.TheVariants as scope
use Rattle.syn_machine.specs.inner.Frames.{Held, between, do_atom, do_chain, do_form, do_join, do_not, do_out, do_same, do_symbol, do_term, do_terms, end_of, in_turn, inputs_of, inside, joined_by, variables_of, with_last, with_top, with_truth, with_value}
use Rattle.syn_machine.proofs.Arms.{with_top-last}
use Rattle.syn_machine.proofs.Turns.{after-after, free-in_turn, in_turn-in_turn, in_turn-same}

abbrev pub holding : List ValueTree → List Bool → Held
holding vs bs = record { values = vs; truths = bs }

none_between : (from to : ℕ) (vs : List ValueTree) → to - from ≡ 0 → between from to vs ≡ []
none_between from to vs e = ap (λ k. take k (drop from vs)) e

-- a part that ends before the place where other values are put
pub between_kept : (from to : ℕ) (vs ws : List ValueTree) → to ≤ length vs → between from to (vs ++ ws) ≡ between from to vs
between_kept zero to vs ws le = take-append-le (to - 0) vs ws (omega (arith, le))
between_kept (suc f) to [] ws le =
    let none : to - suc f ≡ 0 = omega (arith, le) in
    none_between (suc f) to ws none ∙ sym (none_between (suc f) to [] none)
between_kept (suc f) to (v ∷ vs) ws le =
    let less : to - suc f ≡ (to - 1) - f = omega arith in
    let fewer : to - 1 ≤ length vs = omega (arith, le) in
    ap (λ k. take k (drop f (vs ++ ws))) less ∙ (between_kept f (to - 1) vs ws fewer ∙ sym (ap (λ k. take k (drop f vs)) less))

pub inputs_kept : (s : Scope) (vs ws : List ValueTree) → end_of s ≤ length vs → inputs_of s (vs ++ ws) ≡ inputs_of s vs
inputs_kept (scope.Inputs from to) vs ws le = between_kept from to vs ws le
inputs_kept (scope.Variables from to) vs ws le = refl

pub variables_kept : (s : Scope) (vs ws : List ValueTree) → end_of s ≤ length vs → variables_of s (vs ++ ws) ≡ variables_of s vs
variables_kept (scope.Inputs from to) vs ws le = refl
variables_kept (scope.Variables from to) vs ws le = between_kept from to vs ws le

-- the last values
take_front : (vs us : List ValueTree) → take (length vs) (vs ++ us) ≡ vs
take_front [] us = refl
take_front (v ∷ vs) us = ap (λ z. v ∷ z) (take_front vs us)

drop_front : (vs us : List ValueTree) → drop (length vs) (vs ++ us) ≡ us
drop_front [] us = refl
drop_front (v ∷ vs) us = drop_front vs us

pub last_is : {A : Type 0} (count : ℕ) (vs us : List ValueTree) (k : List ValueTree → List ValueTree → Option A) → length us ≡ count → with_last count (vs ++ us) k ≡ k vs us
last_is count vs us k e =
    let sum : length (vs ++ us) ≡ length vs + length us = length-append vs us in
    let there : nat_lt (length (vs ++ us)) count ≡ false = le-ltb (length (vs ++ us)) count (omega (arith, sum, e)) in
    let at : length (vs ++ us) - count ≡ length vs = omega (arith, sum, e) in
    ap (λ b. if b then None else k (take (length (vs ++ us) - count) (vs ++ us)) (drop (length (vs ++ us) - count) (vs ++ us))) there
    ∙ ap₂ k (ap (λ z. take z (vs ++ us)) at ∙ take_front vs us) (ap (λ z. drop z (vs ++ us)) at ∙ drop_front vs us)

-- the results of some one after another
together_cons : {A B : Type 0} (o : Option (Counted A)) (p : Option (Counted (List A))) (k : List A → Option (Counted B)) → in_turn (option_and_then (λ x. option_map (one_first x) p) o) k ≡ in_turn o (λ v. in_turn p (λ vs. k (v ∷ vs)))
together_cons None p k = refl
together_cons (Some x) None k = refl
together_cons (Some x) (Some y) k = sym (after-after x.turns y.turns (k (x.result ∷ y.result)))

one_longer : {A : Type 0} (o : Option (Counted A)) (p : Option (Counted (List A))) (n : ℕ) → ((c : Counted (List A)) → p ≡ Some c → length c.result ≡ n) → (c : Counted (List A)) → option_and_then (λ x. option_map (one_first x) p) o ≡ Some c → length c.result ≡ suc n
one_longer None p n h c e = absurd (cc)
one_longer (Some x) None n h c e = absurd (cc)
one_longer (Some x) (Some y) n h c e =
    let is : one_first x y ≡ c = cc in
    sym (ap (λ (z : Counted (List _)). length z.result) is) ∙ ap suc (h y refl)

together_length : {A : Type 0} (os : List (Option (Counted A))) (c : Counted (List A)) → together os ≡ Some c → length c.result ≡ length os
together_length [] c e = let is : record { result = []; turns = 0 } ≡ c = cc in sym (ap (λ (z : Counted (List _)). length z.result) is)
together_length (o ∷ os) c e = one_longer o (together os) (length os) (together_length os) c e

in_turn_when : {A B : Type 0} (o : Option (Counted A)) (f g : A → Option (Counted B)) → ((c : Counted A) → o ≡ Some c → f c.result ≡ g c.result) → in_turn o f ≡ in_turn o g
in_turn_when None f g h = refl
in_turn_when (Some c) f g h = ap (after c.turns) (h c refl)

made_in_turn : {A B C : Type 0} (f : A → B) (o : Option (Counted A)) (k : B → Option (Counted C)) → in_turn (made f o) k ≡ in_turn o (λ a. k (f a))
made_in_turn f None k = refl
made_in_turn f (Some c) k = refl

-- atoms read no input
truth_is : (m : Meaning) (n : ℕ) (inputs vs : List ValueTree) (r : SymId) → (reading_at m n inputs).truth r vs ≡ (reading_at m n []).truth r vs
truth_is m zero inputs vs r = refl
truth_is m (suc n) inputs vs r = refl

-- a connective from left to right
abbrev pub chained : Connective → Bool → List Bool → Bool
chained c x [] = x
chained c x (y ∷ ys) = chained c (joined_by c x y) ys

none_more : (ys : List Bool) → chained connective.And false ys ≡ false
none_more [] = refl
none_more (y ∷ ys) = none_more ys

all_chained : (ys : List Bool) → chained connective.And true ys ≡ list_all (λ b. b) ys
all_chained [] = refl
all_chained (true ∷ ys) = all_chained ys
all_chained (false ∷ ys) = none_more ys

one_enough : (ys : List Bool) → chained connective.Or true ys ≡ true
one_enough [] = refl
one_enough (y ∷ ys) = one_enough ys

any_chained : (ys : List Bool) → chained connective.Or false ys ≡ list_any (λ b. b) ys
any_chained [] = refl
any_chained (true ∷ ys) = one_enough ys
any_chained (false ∷ ys) = any_chained ys

module _ (m : Meaning) (n : ℕ) (s : Scope) (vs : List ValueTree) (le : end_of s ≤ length vs) where
  abbrev reading : Reading
  reading = reading_at m n (inputs_of s vs)

  abbrev env : Environment
  env = numbered_values (variables_of s vs)

  abbrev E : TermTree → Option (Counted ValueTree)
  E t = evaluate_term reading env t

  abbrev F : FormTree → Option (Counted Bool)
  F f = evaluate_form reading env f

  -- all that the scope reads is there
  there : (z ws : List ValueTree) → z ≡ vs ++ ws → nat_lt (length z) (end_of s) ≡ false
  there z ws e =
      let sum : length z ≡ length vs + length ws = ap length e ∙ length-append vs ws in
      le-ltb (length z) (end_of s) (omega (arith, sum, le))

  module _ (h : Held) (ws : List ValueTree) (e : h.values ≡ vs ++ ws) where
    inputs_at : inputs_of s h.values ≡ inputs_of s vs
    inputs_at = ap (inputs_of s) e ∙ inputs_kept s vs ws le

    variables_at : variables_of s h.values ≡ variables_of s vs
    variables_at = ap (variables_of s) e ∙ variables_kept s vs ws le

    inside_at : {A : Type 0} (o : Option A) → inside s h o ≡ o
    inside_at o = ap (λ b. if b then None else o) (there h.values ws e)

    pub term_at : (t : TermTree) → do_term m n s t h ≡ in_turn (E t) (with_value h)
    term_at t =
        inside_at (in_turn (evaluate_term (reading_at m n (inputs_of s h.values)) (numbered_values (variables_of s h.values)) t) (with_value h))
        ∙ (λ i. in_turn (evaluate_term (reading_at m n (inputs_at i)) (numbered_values (variables_at i)) t) (with_value h))

    pub form_at : (f : FormTree) → do_form m n s f h ≡ in_turn (F f) (with_truth h)
    form_at f =
        inside_at (in_turn (evaluate_form (reading_at m n (inputs_of s h.values)) (numbered_values (variables_of s h.values)) f) (with_truth h))
        ∙ (λ i. in_turn (evaluate_form (reading_at m n (inputs_at i)) (numbered_values (variables_at i)) f) (with_truth h))

    pub out_at : (o : OutTree) → do_out m n s o h ≡ in_turn (evaluate_out reading env o) (with_value h)
    out_at o =
        inside_at (in_turn (evaluate_out (reading_at m n (inputs_of s h.values)) (numbered_values (variables_of s h.values)) o) (with_value h))
        ∙ (λ i. in_turn (evaluate_out (reading_at m n (inputs_at i)) (numbered_values (variables_at i)) o) (with_value h))

  terms_at : (ts : List TermTree) (h : Held) (ws : List ValueTree) → h.values ≡ vs ++ ws → do_terms m n s ts h ≡ in_turn (together (map E ts)) (λ us. free (holding (h.values ++ us) h.truths))
  terms_at [] h ws e = sym (free-in_turn [] (λ us. free (holding (h.values ++ us) h.truths)) ∙ ap (λ z. free (holding z h.truths)) (append-nil h.values))
  terms_at (t ∷ ts) h ws e =
      ap (λ z. in_turn z (do_terms m n s ts)) (term_at h ws e t)
      ∙ (in_turn-in_turn (E t) (with_value h) (do_terms m n s ts)
      ∙ (in_turn-same (E t) (λ v. in_turn (with_value h v) (do_terms m n s ts)) (λ v. in_turn (together (map E ts)) (λ us. free (holding (h.values ++ (v ∷ us)) h.truths)))
      (λ v. free-in_turn (holding (h.values ++ v ∷ []) h.truths) (do_terms m n s ts)
      ∙ (terms_at ts (holding (h.values ++ v ∷ []) h.truths) (ws ++ v ∷ []) (ap (λ z. z ++ v ∷ []) e ∙ append_assoc vs ws (v ∷ []))
      ∙ in_turn-same (together (map E ts)) (λ us. free (holding ((h.values ++ v ∷ []) ++ us) h.truths)) (λ us. free (holding (h.values ++ (v ∷ us)) h.truths))
      (λ us. ap (λ z. free (holding z h.truths)) (append_assoc h.values (v ∷ []) us))))
      ∙ sym (together_cons (E t) (together (map E ts)) (λ us. free (holding (h.values ++ us) h.truths)))))

  symbol_at : (f : SymId) (count : ℕ) (us : List ValueTree) (bs : List Bool) → length us ≡ count → do_symbol m n s f count (holding (vs ++ us) bs) ≡ in_turn (reading.value f us) (with_value (holding vs bs))
  symbol_at f count us bs e =
      inside_at (holding (vs ++ us) bs) us refl (with_last count (vs ++ us) (λ a b. in_turn ((reading_at m n (inputs_of s (vs ++ us))).value f b) (λ v. free (holding (a ++ v ∷ []) bs))))
      ∙ (last_is count vs us (λ a b. in_turn ((reading_at m n (inputs_of s (vs ++ us))).value f b) (λ v. free (holding (a ++ v ∷ []) bs))) e
      ∙ ap (λ z. in_turn ((reading_at m n z).value f us) (with_value (holding vs bs))) (inputs_kept s vs us le))

  atom_at : (r : SymId) (count : ℕ) (us : List ValueTree) (bs : List Bool) → length us ≡ count → do_atom m n r count (holding (vs ++ us) bs) ≡ in_turn (reading.truth r us) (with_truth (holding vs bs))
  atom_at r count us bs e =
      last_is count vs us (λ a b. in_turn ((reading_at m n []).truth r b) (λ x. free (holding a (x ∷ bs)))) e
      ∙ ap (λ z. in_turn z (with_truth (holding vs bs))) (sym (truth_is m n (inputs_of s vs) us r))

  module _ (bs : List Bool) where
    abbrev h : Held
    h = holding vs bs

    nothing_behind : vs ≡ vs ++ []
    nothing_behind = sym (append-nil vs)

    pub var_is : (p : Place) (v : Var) → do_term m n s (node.Var p v) h ≡ with_value h (env v.number)
    var_is p v = term_at h [] nothing_behind (node.Var p v) ∙ (ap (λ z. in_turn z (with_value h)) (evaluate_term-Var reading env p v) ∙ free-in_turn (env v.number) (with_value h))

    -- the arguments of a symbol, and then the symbol on their values
    gathered : {A : Type 0} (give : List ValueTree → Option (Counted A)) (k : A → Option (Counted Held)) (last : Held → Option (Counted Held)) (args : List TermTree)
        → ((us : List ValueTree) → length us ≡ length args → last (holding (vs ++ us) bs) ≡ in_turn (give us) k) → in_turn (on_all give (map E args)) k ≡ in_turn (do_terms m n s args h) last
    gathered give k last args e =
        in_turn-in_turn (together (map E args)) give k
        ∙ sym (ap (λ z. in_turn z last) (terms_at args h [] nothing_behind)
        ∙ (in_turn-in_turn (together (map E args)) (λ us. free (holding (vs ++ us) bs)) last
        ∙ in_turn_when (together (map E args)) (λ us. in_turn (free (holding (vs ++ us) bs)) last) (λ us. in_turn (give us) k)
        (λ c there. free-in_turn (holding (vs ++ c.result) bs) last ∙ e c.result (together_length (map E args) c there ∙ length-map args E))))

    pub app_is : (p : Place) (f : SymId) (args : List TermTree) → do_term m n s (node_view.App p f args) h ≡ in_turn (do_terms m n s args h) (do_symbol m n s f (length args))
    app_is p f args =
        term_at h [] nothing_behind (node_view.App p f args)
        ∙ (ap (λ z. in_turn z (with_value h)) (evaluate_term-App reading env p f args)
        ∙ gathered (reading.value f) (with_value h) (do_symbol m n s f (length args)) args (λ us e. symbol_at f (length args) us bs e))

    pub atom_is : (r : SymId) (args : List TermTree) → do_form m n s (form.Atom r args) h ≡ in_turn (do_terms m n s args h) (do_atom m n r (length args))
    atom_is r args =
        form_at h [] nothing_behind (form.Atom r args)
        ∙ (ap (λ z. in_turn z (with_truth h)) (evaluate_form-Atom reading env r args)
        ∙ gathered (reading.truth r) (with_truth h) (do_atom m n r (length args)) args (λ us e. atom_at r (length args) us bs e))

    pub true_is : do_form m n s form.True h ≡ with_truth h true
    true_is = form_at h [] nothing_behind form.True ∙ (ap (λ z. in_turn z (with_truth h)) (evaluate_form-True reading env) ∙ free-in_turn true (with_truth h))

    pub false_is : do_form m n s form.False h ≡ with_truth h false
    false_is = form_at h [] nothing_behind form.False ∙ (ap (λ z. in_turn z (with_truth h)) (evaluate_form-False reading env) ∙ free-in_turn false (with_truth h))

    pub not_is : (a : FormTree) → do_form m n s (form_view.Not a) h ≡ in_turn (do_form m n s a h) (λ k. do_not k.values k.truths)
    not_is a =
        form_at h [] nothing_behind (form_view.Not a)
        ∙ (ap (λ z. in_turn z (with_truth h)) (evaluate_form-Not reading env a)
        ∙ (made_in_turn not (F a) (with_truth h)
        ∙ sym (ap (λ z. in_turn z (λ k. do_not k.values k.truths)) (form_at h [] nothing_behind a)
        ∙ (in_turn-in_turn (F a) (with_truth h) (λ k. do_not k.values k.truths)
        ∙ in_turn-same (F a) (λ b. in_turn (with_truth h b) (λ k. do_not k.values k.truths)) (λ b. with_truth h (not b)) (λ b. free-in_turn (holding vs (b ∷ bs)) (λ k. do_not k.values k.truths))))))

    -- two in a row, and what is made of both
    same_two : (v w : ValueTree) → do_same (holding ((vs ++ v ∷ []) ++ w ∷ []) bs) ≡ with_truth h (same_value v w)
    same_two v w =
        with_top-last (vs ++ v ∷ []) w (λ us y. with_top us (λ ts z. free (holding ts (same_value z y ∷ bs))))
        ∙ with_top-last vs v (λ ts z. free (holding ts (same_value z w ∷ bs)))

    pub equal_is : (a b : TermTree) → do_form m n s (form.Equal a b) h ≡ in_turn (do_term m n s a h) (λ x. in_turn (do_term m n s b x) do_same)
    equal_is a b =
        form_at h [] nothing_behind (form.Equal a b)
        ∙ (ap (λ z. in_turn z (with_truth h)) (evaluate_form-Equal reading env a b ∙ pair_is same_value are_same (λ v w. refl) (E a) (E b))
        ∙ (in_turn-in_turn (E a) (λ v. made (same_value v) (E b)) (with_truth h)
        ∙ (in_turn-same (E a) (λ v. in_turn (made (same_value v) (E b)) (with_truth h)) (λ v. in_turn (E b) (λ w. with_truth h (same_value v w))) (λ v. made_in_turn (same_value v) (E b) (with_truth h))
        ∙ sym (ap (λ z. in_turn z (λ x. in_turn (do_term m n s b x) do_same)) (term_at h [] nothing_behind a)
        ∙ (in_turn-in_turn (E a) (with_value h) (λ x. in_turn (do_term m n s b x) do_same)
        ∙ in_turn-same (E a) (λ v. in_turn (with_value h v) (λ x. in_turn (do_term m n s b x) do_same)) (λ v. in_turn (E b) (λ w. with_truth h (same_value v w)))
        (λ v. free-in_turn (holding (vs ++ v ∷ []) bs) (λ x. in_turn (do_term m n s b x) do_same)
        ∙ (ap (λ z. in_turn z do_same) (term_at (holding (vs ++ v ∷ []) bs) (v ∷ []) refl b)
        ∙ (in_turn-in_turn (E b) (with_value (holding (vs ++ v ∷ []) bs)) do_same
        ∙ in_turn-same (E b) (λ w. in_turn (with_value (holding (vs ++ v ∷ []) bs) w) do_same) (λ w. with_truth h (same_value v w))
        (λ w. free-in_turn (holding ((vs ++ v ∷ []) ++ w ∷ []) bs) do_same ∙ same_two v w)))))))))

    abbrev joins : Connective → Held → Option (Counted Held)
    joins c k = do_join c k.values k.truths

    pub implies_is : (a b : FormTree) → do_form m n s (form_view.Implies a b) h ≡ in_turn (do_form m n s a h) (λ x. in_turn (do_form m n s b x) (joins connective.Implies))
    implies_is a b =
        form_at h [] nothing_behind (form_view.Implies a b)
        ∙ (ap (λ z. in_turn z (with_truth h)) (evaluate_form-Implies reading env a b ∙ pair_is (λ x y. not x || y) implies (λ x y. refl) (F a) (F b))
        ∙ (in_turn-in_turn (F a) (λ x. made (λ y. not x || y) (F b)) (with_truth h)
        ∙ (in_turn-same (F a) (λ x. in_turn (made (λ y. not x || y) (F b)) (with_truth h)) (λ x. in_turn (F b) (λ y. with_truth h (not x || y))) (λ x. made_in_turn (λ y. not x || y) (F b) (with_truth h))
        ∙ sym (ap (λ z. in_turn z (λ x. in_turn (do_form m n s b x) (joins connective.Implies))) (form_at h [] nothing_behind a)
        ∙ (in_turn-in_turn (F a) (with_truth h) (λ x. in_turn (do_form m n s b x) (joins connective.Implies))
        ∙ in_turn-same (F a) (λ x. in_turn (with_truth h x) (λ x. in_turn (do_form m n s b x) (joins connective.Implies))) (λ x. in_turn (F b) (λ y. with_truth h (not x || y)))
        (λ x. free-in_turn (holding vs (x ∷ bs)) (λ x. in_turn (do_form m n s b x) (joins connective.Implies))
        ∙ (ap (λ z. in_turn z (joins connective.Implies)) (form_at (holding vs (x ∷ bs)) [] nothing_behind b)
        ∙ (in_turn-in_turn (F b) (with_truth (holding vs (x ∷ bs))) (joins connective.Implies)
        ∙ in_turn-same (F b) (λ y. in_turn (with_truth (holding vs (x ∷ bs)) y) (joins connective.Implies)) (λ y. with_truth h (not x || y))
        (λ y. free-in_turn (holding vs (y ∷ (x ∷ bs))) (joins connective.Implies))))))))))

    chain_at : (c : Connective) (fs : List FormTree) (x : Bool) → do_chain m n s c fs (holding vs (x ∷ bs)) ≡ in_turn (together (map F fs)) (λ ys. with_truth h (chained c x ys))
    chain_at c [] x = sym (free-in_turn [] (λ ys. with_truth h (chained c x ys)))
    chain_at c (f ∷ fs) x =
        ap (λ z. in_turn z (λ k. in_turn (joins c k) (do_chain m n s c fs))) (form_at (holding vs (x ∷ bs)) [] nothing_behind f)
        ∙ (in_turn-in_turn (F f) (with_truth (holding vs (x ∷ bs))) (λ k. in_turn (joins c k) (do_chain m n s c fs))
        ∙ (in_turn-same (F f) (λ y. in_turn (with_truth (holding vs (x ∷ bs)) y) (λ k. in_turn (joins c k) (do_chain m n s c fs))) (λ y. in_turn (together (map F fs)) (λ ys. with_truth h (chained c x (y ∷ ys))))
        (λ y. free-in_turn (holding vs (y ∷ (x ∷ bs))) (λ k. in_turn (joins c k) (do_chain m n s c fs))
        ∙ (free-in_turn (holding vs (joined_by c x y ∷ bs)) (do_chain m n s c fs) ∙ chain_at c fs (joined_by c x y)))
        ∙ sym (together_cons (F f) (together (map F fs)) (λ ys. with_truth h (chained c x ys)))))

    members : (c : Connective) (x : Bool) (all : List Bool → Bool) (fs : List FormTree) → ((ys : List Bool) → chained c x ys ≡ all ys) → in_turn (on_all (λ ys. free (all ys)) (map F fs)) (with_truth h) ≡ do_chain m n s c fs (holding vs (x ∷ bs))
    members c x all fs e =
        in_turn-in_turn (together (map F fs)) (λ ys. free (all ys)) (with_truth h)
        ∙ (in_turn-same (together (map F fs)) (λ ys. in_turn (free (all ys)) (with_truth h)) (λ ys. with_truth h (chained c x ys)) (λ ys. free-in_turn (all ys) (with_truth h) ∙ ap (with_truth h) (sym (e ys)))
        ∙ sym (chain_at c fs x))

    pub and_is : (fs : List FormTree) → do_form m n s (form_view.And fs) h ≡ do_chain m n s connective.And fs (holding vs (true ∷ bs))
    and_is fs = form_at h [] nothing_behind (form_view.And fs) ∙ (ap (λ z. in_turn z (with_truth h)) (evaluate_form-And reading env fs) ∙ members connective.And true (λ ys. list_all (λ b. b) ys) fs all_chained)

    pub or_is : (fs : List FormTree) → do_form m n s (form_view.Or fs) h ≡ do_chain m n s connective.Or fs (holding vs (false ∷ bs))
    or_is fs = form_at h [] nothing_behind (form_view.Or fs) ∙ (ap (λ z. in_turn z (with_truth h)) (evaluate_form-Or reading env fs) ∙ members connective.Or false (λ ys. list_any (λ b. b) ys) fs any_chained)
