-- From what a machine did to what callers are told.
use Rattle.std.proofs.Common.{◌≡◌, ℕ, ◌+◌, ◌-◌, ◌<◌, Bool, List, [], ◌∷◌, ◌++◌, Bor, Option, None, Some, Ok, Err, length, take, refl, sym, ap, ◌∙◌, append-nil, arith}
use Rattle.syn_term.specs.declared.sorts.SymId.{SymId}
use Rattle.syn_term.specs.declared.term.Node.{Node}
use Rattle.syn_form.specs.declared.trees.Form.{Form}
use Rattle.syn_value.specs.declared.tree.ValueTree.{ValueTree}
use Rattle.syn_model.specs.Calls.{Meaning, call_of, numbered_values, reading_at}
use Rattle.syn_model.specs.Evaluation.{Counted, evaluate_form, free, with_turns}
use Rattle.syn_model.specs.Tables.{table_of}
use Rattle.syn_eval.specs.declared.errors.EvalError.{EvalError}
use Rattle.syn_eval.specs.declared.errors.EvalError.TheVariants as error
use Rattle.syn_eval.specs.Ending.{Ends, IsSpent, Tells}
use Rattle.syn_machine.specs.declared.frames.Frame.TheVariants as frame
use Rattle.syn_machine.specs.declared.frames.Scope.TheVariants as scope
use Rattle.syn_machine.specs.declared.frames.Work.{Work}
use Rattle.syn_machine.specs.inner.Frames.{Held, between, do_form, do_frames, do_symbol, do_terms, held, in_turn}
use Rattle.syn_machine.specs.inner.Steps.{Steps, all_of}
use Rattle.syn_machine.proofs.Entering.{symbol_opened}
use Rattle.syn_machine.proofs.Scopes.{form_at, holding}
use Rattle.syn_machine.proofs.Turns.{free-in_turn, in_turn-free}

-- what was put down behind the rest is what was put down
last_one : {X : Type 0} (us : List X) (v x : X) → us ++ v ∷ [] ≡ x ∷ [] → v ≡ x
last_one [] v x e = cc
last_one (u ∷ []) v x e = absurd (cc)
last_one (u ∷ (w ∷ us)) v x e = absurd (cc)

-- a result that was put down
module _ {A : Type 0} (put : A → Held) (o : Option (Counted A)) where
  pub record PutDown (h : Held) (used : ℕ) : Type 0 where
    pub result : A
    pub gave : o ≡ Some (record { result = result; turns = used })
    pub is : put result ≡ h

  put_from : (h : Held) (used : ℕ) (p : Option (Counted A)) → o ≡ p → in_turn p (λ a. free (put a)) ≡ Some (with_turns used (record { result = h; turns = 0 })) → PutDown h used
  put_from h used None e k = absurd (cc)
  put_from h used (Some c) e k =
      let is : record { result = put c.result; turns = c.turns + 0 } ≡ record { result = h; turns = used + 0 } = some_is _ _ k in
      let took : c.turns + 0 ≡ used + 0 = ap (λ (z : Counted Held). z.turns) is in
      let same : c.turns ≡ used = omega (arith, took) in
      record { result = c.result; gave = e ∙ ap (λ t. Some (record { result = c.result; turns = t })) same; is = ap (λ (z : Counted Held). z.result) is }
    where
      some_is : (a b : Counted Held) → Some a ≡ Some b → a ≡ b
      some_is a b i = cc

-- an evaluation whose result a machine puts down, and nothing else is to do
module _ {A : Type 0} (put : A → Held) (at : ℕ → Option (Counted A)) (start : ℕ → Option (Counted Held)) (is : (n : ℕ) → start n ≡ in_turn (at n) (λ a. free (put a))) (turns : ℕ) where
  pub put_down : (w : Work) (used : ℕ) → Steps turns start (λ n. free (held w)) (Ok used) → (k : ℕ) × PutDown put (at k) (held w) used
  put_down w used h =
      let p = h.1.back 0 (record { result = held w; turns = 0 }) refl in
      (p.0, put_from put (at p.0) (held w) used (at p.0) refl (sym (is p.0) ∙ p.1))

  pub all_spent : IsSpent start turns → IsSpent at turns
  all_spent s n c e =
      let less : turns < c.turns + 0 = s n (record { result = put c.result; turns = c.turns + 0 }) (is n ∙ ap (λ (z : Option (Counted A)). in_turn z (λ a. free (put a))) e) in
      omega (arith, less)

-- the program's call
module _ (m : Meaning) (f : SymId) (number : f.0 ≡ length (table_of m.decls).syms) (args : List ValueTree) (turns : ℕ) (work : Work) (count : ℕ) (rest : Bor (List Node))
    (fs : work.frames ≡ frame.Apply (scope.Variables 0 0) f count rest ∷ []) (none : rest.now ≡ []) (vs : work.values ≡ args) (bs : work.truths ≡ []) (many : count ≡ length args) where
  abbrev value_put : ValueTree → Held
  value_put v = holding (v ∷ []) []

  opened : (n : ℕ) → do_frames m n (frame.Apply (scope.Variables 0 0) f count rest ∷ []) (holding args []) ≡ in_turn (call_of m n args) (λ v. free (value_put v))
  opened n =
      in_turn-free (in_turn (do_terms m n (scope.Variables 0 0) rest.now (holding args [])) (do_symbol m n (scope.Variables 0 0) f count))
      ∙ (ap (λ z. in_turn (do_terms m n (scope.Variables 0 0) z (holding args [])) (do_symbol m n (scope.Variables 0 0) f count)) none
      ∙ (free-in_turn (holding args []) (do_symbol m n (scope.Variables 0 0) f count)
      ∙ (symbol_opened m n (holding args []) count 0 (omega (arith, many)) (omega (arith, many)) (scope.Variables 0 0) f (omega arith)
      ∙ (λ i. in_turn ((reading_at m n []).value (record { 0 = number i }) args) (λ v. free (value_put v))))))

  call_start : (n : ℕ) → all_of m work n ≡ in_turn (call_of m n args) (λ v. free (value_put v))
  call_start n = (λ i. do_frames m n (fs i) (holding (vs i) (bs i))) ∙ opened n

  pub value_ends : (next : Work) (used : ℕ) → Steps turns (all_of m work) (λ n. free (held next)) (Ok used) → (us : List ValueTree) (v : ValueTree) → next.values ≡ us ++ v ∷ [] → Ends (λ n. call_of m n args) turns (Ok (v, used))
  value_ends next used h us v e =
      let p = put_down value_put (λ n. call_of m n args) (all_of m work) call_start turns next used h in
      let same : v ≡ p.1.result = last_one us v p.1.result (sym e ∙ sym (ap (λ (z : Held). z.values) p.1.is)) in
      record { nesting = p.0; is = p.1.gave ∙ ap (λ z. Some (record { result = z; turns = used })) (sym same); within = h.0 }

  pub no_value : (next : Work) (used : ℕ) → Steps turns (all_of m work) (λ n. free (held next)) (Ok used) → next.values ≡ [] → Ends (λ n. call_of m n args) turns (Err error.TurnsSpent)
  no_value next used h e =
      let p = put_down value_put (λ n. call_of m n args) (all_of m work) call_start turns next used h in
      let both : p.1.result ∷ [] ≡ [] = ap (λ (z : Held). z.values) p.1.is ∙ e in absurd (cc)

  pub value_fails : (next : Work) (e : EvalError) → Steps turns (all_of m work) (λ n. free (held next)) (Err e) → Ends (λ n. call_of m n args) turns (Err e)
  value_fails next error.TurnsSpent h = all_spent value_put (λ n. call_of m n args) (all_of m work) call_start turns h
  value_fails next error.NoMemory h = tt

-- the truth value of a formula
module _ (m : Meaning) (f : Bor Form) (args : List ValueTree) (turns : ℕ) (work : Work) (count : ℕ)
    (fs : work.frames ≡ frame.Form (scope.Inputs 0 count) f ∷ []) (vs : work.values ≡ args) (bs : work.truths ≡ []) (many : count ≡ length args) where
  abbrev truth_at : ℕ → Option (Counted Bool)
  truth_at n = evaluate_form (reading_at m n args) (numbered_values []) f.now

  abbrev truth_put : Bool → Held
  truth_put b = holding args (b ∷ [])

  whole : between 0 count args ≡ args
  whole = ap (λ z. take z args) first ∙ all_of_it args where
    first : count - 0 ≡ length args
    first = omega (arith, many)

    all_of_it : (xs : List ValueTree) → take (length xs) xs ≡ xs
    all_of_it [] = refl
    all_of_it (x ∷ xs) = ap (λ z. x ∷ z) (all_of_it xs)

  truth_start : (n : ℕ) → all_of m work n ≡ in_turn (truth_at n) (λ b. free (truth_put b))
  truth_start n =
      (λ i. do_frames m n (fs i) (holding (vs i) (bs i)))
      ∙ (in_turn-free (do_form m n (scope.Inputs 0 count) f.now (holding args []))
      ∙ (form_at m n (scope.Inputs 0 count) args (omega (arith, many)) (holding args []) [] (sym (append-nil args)) f.now
      ∙ (λ i. in_turn (evaluate_form (reading_at m n (whole i)) (numbered_values []) f.now) (λ b. free (truth_put b)))))

  pub truth_ends : (next : Work) (used : ℕ) → Steps turns (all_of m work) (λ n. free (held next)) (Ok used) → (us : List Bool) (b : Bool) → next.truths ≡ b ∷ us → Tells truth_at turns (Ok b)
  truth_ends next used h us b e =
      let p = put_down truth_put truth_at (all_of m work) truth_start turns next used h in
      let both : p.1.result ∷ [] ≡ b ∷ us = ap (λ (z : Held). z.truths) p.1.is ∙ e in
      let same : p.1.result ≡ b = cc in
      (used, record { nesting = p.0; is = p.1.gave ∙ ap (λ z. Some (record { result = z; turns = used })) same; within = h.0 })

  pub no_truth : (next : Work) (used : ℕ) → Steps turns (all_of m work) (λ n. free (held next)) (Ok used) → next.truths ≡ [] → Tells truth_at turns (Err error.TurnsSpent)
  no_truth next used h e =
      let p = put_down truth_put truth_at (all_of m work) truth_start turns next used h in
      let both : p.1.result ∷ [] ≡ [] = ap (λ (z : Held). z.truths) p.1.is ∙ e in absurd (cc)

  pub truth_fails : (next : Work) (e : EvalError) → Steps turns (all_of m work) (λ n. free (held next)) (Err e) → Tells truth_at turns (Err e)
  truth_fails next error.TurnsSpent h = all_spent truth_put truth_at (all_of m work) truth_start turns h
  truth_fails next error.NoMemory h = tt
