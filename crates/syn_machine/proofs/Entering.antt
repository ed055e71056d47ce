-- What a call is answered: no turn is left, no clause fits, or the body is next.
use Rattle.std.proofs.Common.{◌≡◌, ℕ, zero, suc, ◌-◌, ◌<◌, ◌≤◌, Bool, List, [], ◌∷◌, ◌++◌, Bor, Option, None, Some, Result, Ok, drop, length, take, if◌then◌else◌, refl, sym, ap, subst, ◌∙◌, arith}
use Rattle.std.specs.Option.{option_and_then}
use Rattle.std.proofs.lemmas.Bool.{le-ltb, lt-ltb}
use Rattle.std.proofs.lemmas.List.{length-take-le, take-append-drop}
use Rattle.syn_term.specs.declared.sorts.SymId.{SymId}
use Rattle.syn_term.specs.Terms.{TermTree}
use Rattle.syn_form.specs.declared.trees.Form.{Form}
use Rattle.syn_form.specs.declared.trees.Out.{Out}
use Rattle.syn_form.specs.Trees.{FormTree, OutTree}
use Rattle.syn_value.specs.declared.tree.ValueTree.{ValueTree}
use Rattle.syn_model.specs.Calls.{Chosen, Meaning, by_function, by_relation, chosen, numbered_values, reading_at}
use Rattle.syn_model.specs.Clausal.{Clause}
use Rattle.syn_model.specs.Evaluation.{Counted, after, evaluate_form, evaluate_out, free}
use Rattle.syn_model.proofs.DeeperCalls.{form_deeper, out_deeper}
use Rattle.syn_eval.specs.declared.errors.EvalError.{EvalError}
use Rattle.syn_eval.specs.Ending.{IsSpent}
use Rattle.syn_eval.specs.inner.Scopes.{function_at, order_at, program_at, relation_at}
use Rattle.syn_eval.proofs.CallSteps.{function_turn, order_turn, program_turn, relation_turn}
use Rattle.syn_machine.specs.declared.frames.Frame.{Frame}
use Rattle.syn_machine.specs.declared.frames.Frame.TheVariants as frame
use Rattle.syn_machine.specs.declared.frames.Scope.{Scope}
use Rattle.syn_machine.specs.declared.frames.Scope.TheVariants as scope
use Rattle.syn_machine.specs.declared.frames.Work.{Work}
use Rattle.syn_machine.specs.inner.Frames.{Held, do_atom, do_frames, do_symbol, end_of, held, in_turn, inputs_of, with_last}
use Rattle.syn_machine.specs.inner.Steps.{Steps, all_of, function_entered, put_at, relation_entered, tell_at}
use Rattle.syn_machine.proofs.CallMoves.{body_is, call_moves, first_never, first_spent, part_is, steps_same, test_is}
use Rattle.syn_machine.proofs.Scopes.{holding}

-- the work as its parts say
work_is : (m : Meaning) (n : ℕ) (next : Work) (fs : List Frame) (vs : List ValueTree) (bs : List Bool) → next.frames ≡ fs → next.values ≡ vs → next.truths ≡ bs → all_of m next n ≡ do_frames m n fs (holding vs bs)
work_is m n next fs vs bs f v b = λ i. do_frames m n (f i) (holding (v i) (b i))

module _ (before next : Work) (base : ℕ) (le : base ≤ length before.values) where
  abbrev front : List ValueTree
  front = take base before.values

  here : base ≡ length front
  here = sym (length-take-le base before.values le)

  whole : front ++ drop base before.values ≡ before.values
  whole = take-append-drop base before.values

  -- the values of a clause's variables stand from the place on
  module _ (ws : List ValueTree) (to : ℕ) (put : next.values ≡ front ++ ws) (t : next.truths ≡ before.truths) (end : to ≡ length next.values) where
    ends : to ≡ length (front ++ ws)
    ends = end ∙ ap length put

    inside_all : to ≤ length (front ++ ws)
    inside_all = omega (arith, ends)

    pub function_enters : (c : Chosen OutTree) (o : Bor Out) → o.now ≡ c.body → ws ≡ c.values → next.frames ≡ frame.Out (scope.Variables base to) o ∷ (frame.Return base ∷ before.frames)
        → (m : Meaning) (left : ℕ) → 0 < left → Steps left (λ n. in_turn (put_at base (held before) (function_entered m c n)) (do_frames m n before.frames)) (all_of m next) (Ok 1)
    function_enters c o is are fs m left some = (
      omega (arith, some),
      call_moves m before.frames (λ v. holding (front ++ v ∷ []) before.truths) (function_entered m c) (λ n. by_function (reading_at m n []) c) refl (λ n. refl)
          (λ n k d e. out_deeper m n k [] (numbered_values c.values) c.body d e) (all_of m next)
          (λ n. work_is m n next (frame.Out (scope.Variables base to) o ∷ (frame.Return base ∷ before.frames)) (front ++ ws) before.truths fs put t
          ∙ (body_is m n before.frames base front ws before.truths here (scope.Variables base to) inside_all o
          ∙ (λ i. in_turn (evaluate_out (reading_at m n []) (numbered_values ((part_is front ws base to here ends ∙ are) i)) (is i)) (λ v. do_frames m n before.frames (holding (front ++ v ∷ []) before.truths))))),
    )

    pub relation_enters : (c : Chosen FormTree) (f : Bor Form) → f.now ≡ c.body → ws ≡ c.values → next.frames ≡ frame.Form (scope.Variables base to) f ∷ (frame.Forget base ∷ before.frames)
        → (m : Meaning) (left : ℕ) → 0 < left → Steps left (λ n. in_turn (tell_at base (held before) (relation_entered m c n)) (do_frames m n before.frames)) (all_of m next) (Ok 1)
    relation_enters c f is are fs m left some = (
      omega (arith, some),
      call_moves m before.frames (λ b. holding front (b ∷ before.truths)) (relation_entered m c) (λ n. by_relation (reading_at m n []) c) refl (λ n. refl)
          (λ n k d e. form_deeper m n k [] (numbered_values c.values) c.body d e) (all_of m next)
          (λ n. work_is m n next (frame.Form (scope.Variables base to) f ∷ (frame.Forget base ∷ before.frames)) (front ++ ws) before.truths fs put t
          ∙ (test_is m n before.frames base front ws before.truths here (scope.Variables base to) inside_all f
          ∙ (λ i. in_turn (evaluate_form (reading_at m n []) (numbered_values ((part_is front ws base to here ends ∙ are) i)) (is i)) (λ b. do_frames m n before.frames (holding front (b ∷ before.truths)))))),
    )

  -- the program's body reads the values as the inputs
  program_suc : (m : Meaning) (body : OutTree) → m.body ≡ Some body → (n : ℕ) → program_at m (drop base before.values) (suc n) ≡ after 1 (evaluate_out (reading_at m n (drop base before.values)) (numbered_values []) body)
  program_suc m body e n = ap (option_and_then (λ b. after 1 (evaluate_out (reading_at m n (drop base before.values)) (numbered_values []) b))) e

  pub program_enters : (m : Meaning) (left to : ℕ) (body : OutTree) (o : Bor Out) → m.body ≡ Some body → o.now ≡ body → 0 < left → to ≡ length before.values → next.values ≡ before.values → next.truths ≡ before.truths
      → next.frames ≡ frame.Out (scope.Inputs base to) o ∷ (frame.Return base ∷ before.frames)
      → Steps left (λ n. in_turn (put_at base (held before) (program_at m (drop base before.values) n)) (do_frames m n before.frames)) (all_of m next) (Ok 1)
  program_enters m left to body o e is some end v t fs =
      let ends : to ≡ length (front ++ drop base before.values) = end ∙ ap length (sym whole) in
      let inside_all : to ≤ length (front ++ drop base before.values) = omega (arith, ends) in (
        omega (arith, some),
        call_moves m before.frames (λ v. holding (front ++ v ∷ []) before.truths) (program_at m (drop base before.values)) (λ n. evaluate_out (reading_at m n (drop base before.values)) (numbered_values []) body) refl (program_suc m body e)
            (λ n k d h. out_deeper m n k (drop base before.values) (numbered_values []) body d h) (all_of m next)
            (λ n. work_is m n next (frame.Out (scope.Inputs base to) o ∷ (frame.Return base ∷ before.frames)) (front ++ drop base before.values) before.truths fs (v ∙ sym whole) t
            ∙ (body_is m n before.frames base front (drop base before.values) before.truths here (scope.Inputs base to) inside_all o
            ∙ (λ i. in_turn (evaluate_out (reading_at m n (part_is front (drop base before.values) base to here ends i)) (numbered_values []) (is i)) (λ v. do_frames m n before.frames (holding (front ++ v ∷ []) before.truths))))),
      )

-- nothing is given
module _ (before : Work) (base : ℕ) (m : Meaning) (left : ℕ) where
  abbrev args : List ValueTree
  args = drop base before.values

  pub function_spent : (cs : List (Clause OutTree)) → left ≡ 0 → IsSpent (λ n. in_turn (put_at base (held before) (function_at m cs args n)) (do_frames m n before.frames)) left
  function_spent cs e =
      first_spent (λ n. put_at base (held before) (function_at m cs args n)) (λ n. do_frames m n before.frames) left
      (first_spent (λ n. function_at m cs args n) (λ n v. free (holding (take base before.values ++ v ∷ []) before.truths)) left (subst (IsSpent (function_at m cs args)) (sym e) (function_turn m cs args)))

  pub program_spent : left ≡ 0 → IsSpent (λ n. in_turn (put_at base (held before) (program_at m args n)) (do_frames m n before.frames)) left
  program_spent e =
      first_spent (λ n. put_at base (held before) (program_at m args n)) (λ n. do_frames m n before.frames) left
      (first_spent (λ n. program_at m args n) (λ n v. free (holding (take base before.values ++ v ∷ []) before.truths)) left (subst (IsSpent (program_at m args)) (sym e) (program_turn m args)))

  pub relation_spent : (cs : List (Clause FormTree)) → left ≡ 0 → IsSpent (λ n. in_turn (tell_at base (held before) (relation_at m cs args n)) (do_frames m n before.frames)) left
  relation_spent cs e =
      first_spent (λ n. tell_at base (held before) (relation_at m cs args n)) (λ n. do_frames m n before.frames) left
      (first_spent (λ n. relation_at m cs args n) (λ n b. free (holding (take base before.values) (b ∷ before.truths))) left (subst (IsSpent (relation_at m cs args)) (sym e) (relation_turn m cs args)))

  pub order_spent : (t : TermTree) → left ≡ 0 → IsSpent (λ n. in_turn (tell_at base (held before) (order_at m t args n)) (do_frames m n before.frames)) left
  order_spent t e =
      first_spent (λ n. tell_at base (held before) (order_at m t args n)) (λ n. do_frames m n before.frames) left
      (first_spent (λ n. order_at m t args n) (λ n b. free (holding (take base before.values) (b ∷ before.truths))) left (subst (IsSpent (order_at m t args)) (sym e) (order_turn m t args)))

  put_none : (at : ℕ → Option (Counted ValueTree)) → ((n : ℕ) → at n ≡ None) → (n : ℕ) → put_at base (held before) (at n) ≡ None
  put_none at e n = ap (put_at base (held before)) (e n)

  tell_none : (at : ℕ → Option (Counted Bool)) → ((n : ℕ) → at n ≡ None) → (n : ℕ) → tell_at base (held before) (at n) ≡ None
  tell_none at e n = ap (tell_at base (held before)) (e n)

  pub nothing_put : (at : ℕ → Option (Counted ValueTree)) → ((n : ℕ) → at n ≡ None) → IsSpent (λ n. in_turn (put_at base (held before) (at n)) (do_frames m n before.frames)) left
  nothing_put at e = first_never (λ n. put_at base (held before) (at n)) (λ n. do_frames m n before.frames) left (put_none at e)

  pub nothing_told : (at : ℕ → Option (Counted Bool)) → ((n : ℕ) → at n ≡ None) → IsSpent (λ n. in_turn (tell_at base (held before) (at n)) (do_frames m n before.frames)) left
  nothing_told at e = first_never (λ n. tell_at base (held before) (at n)) (λ n. do_frames m n before.frames) left (tell_none at e)

  -- the same in another way
  pub put_same : (next : Work) (at bt : ℕ → Option (Counted ValueTree)) → ((n : ℕ) → at n ≡ bt n) → (r : Result ℕ EvalError)
      → Steps left (λ n. in_turn (put_at base (held before) (bt n)) (do_frames m n before.frames)) (all_of m next) r → Steps left (λ n. in_turn (put_at base (held before) (at n)) (do_frames m n before.frames)) (all_of m next) r
  put_same next at bt e r h = steps_same left (λ n. in_turn (put_at base (held before) (at n)) (do_frames m n before.frames)) (λ n. in_turn (put_at base (held before) (bt n)) (do_frames m n before.frames)) (all_of m next)
      (λ n. ap (λ (z : Option (Counted ValueTree)). in_turn (put_at base (held before) z) (do_frames m n before.frames)) (e n)) r h

  pub tell_same : (next : Work) (at bt : ℕ → Option (Counted Bool)) → ((n : ℕ) → at n ≡ bt n) → (r : Result ℕ EvalError)
      → Steps left (λ n. in_turn (tell_at base (held before) (bt n)) (do_frames m n before.frames)) (all_of m next) r → Steps left (λ n. in_turn (tell_at base (held before) (at n)) (do_frames m n before.frames)) (all_of m next) r
  tell_same next at bt e r h = steps_same left (λ n. in_turn (tell_at base (held before) (at n)) (do_frames m n before.frames)) (λ n. in_turn (tell_at base (held before) (bt n)) (do_frames m n before.frames)) (all_of m next)
      (λ n. ap (λ (z : Option (Counted Bool)). in_turn (tell_at base (held before) z) (do_frames m n before.frames)) (e n)) r h

-- the clause that was chosen
pub function_chosen : (m : Meaning) (cs : List (Clause OutTree)) (vs : List ValueTree) (c : Chosen OutTree) → chosen m.table cs vs ≡ Some c → (n : ℕ) → function_at m cs vs n ≡ function_entered m c n
function_chosen m cs vs c e zero = refl
function_chosen m cs vs c e (suc n) = ap (option_and_then (λ c. after 1 (by_function (reading_at m n []) c))) e

pub relation_chosen : (m : Meaning) (cs : List (Clause FormTree)) (vs : List ValueTree) (c : Chosen FormTree) → chosen m.table cs vs ≡ Some c → (n : ℕ) → relation_at m cs vs n ≡ relation_entered m c n
relation_chosen m cs vs c e zero = refl
relation_chosen m cs vs c e (suc n) = ap (option_and_then (λ c. after 1 (by_relation (reading_at m n []) c))) e

-- a symbol on the last values
module _ (m : Meaning) (n : ℕ) (h : Held) (count base : ℕ) (some : count ≤ length h.values) (is : base ≡ length h.values - count) where
  last_opened : {A : Type 0} (k : List ValueTree → List ValueTree → Option A) → with_last count h.values k ≡ k (take base h.values) (drop base h.values)
  last_opened k =
      ap (λ b. if b then None else k (take (length h.values - count) h.values) (drop (length h.values - count) h.values)) (le-ltb (length h.values) count some)
      ∙ ap (λ z. k (take z h.values) (drop z h.values)) (sym is)

  pub symbol_opened : (s : Scope) (f : SymId) → end_of s ≤ length h.values → do_symbol m n s f count h ≡ put_at base h ((reading_at m n (inputs_of s h.values)).value f (drop base h.values))
  symbol_opened s f le =
      ap (λ b. if b then None else with_last count h.values (λ vs args. in_turn ((reading_at m n (inputs_of s h.values)).value f args) (λ v. free (record { values = vs ++ v ∷ []; truths = h.truths })))) (le-ltb (length h.values) (end_of s) le)
      ∙ last_opened (λ vs args. in_turn ((reading_at m n (inputs_of s h.values)).value f args) (λ v. free (record { values = vs ++ v ∷ []; truths = h.truths })))

  pub atom_opened : (r : SymId) → do_atom m n r count h ≡ tell_at base h ((reading_at m n []).truth r (drop base h.values))
  atom_opened r = last_opened (λ vs args. in_turn ((reading_at m n []).truth r args) (λ b. free (record { values = vs; truths = b ∷ h.truths })))

pub symbol_outside : (m : Meaning) (n : ℕ) (s : Scope) (f : SymId) (count : ℕ) (h : Held) → length h.values < end_of s → do_symbol m n s f count h ≡ None
symbol_outside m n s f count h lt = ap (λ b. if b then None else with_last count h.values (λ vs args. in_turn ((reading_at m n (inputs_of s h.values)).value f args) (λ v. free (record { values = vs ++ v ∷ []; truths = h.truths })))) (lt-ltb (length h.values) (end_of s) lt)

few_values : {A : Type 0} (count : ℕ) (vs : List ValueTree) (k : List ValueTree → List ValueTree → Option A) → length vs < count → with_last count vs k ≡ None
few_values count vs k lt = ap (λ b. if b then None else k (take (length vs - count) vs) (drop (length vs - count) vs)) (lt-ltb (length vs) count lt)

pub symbol_few : (m : Meaning) (n : ℕ) (s : Scope) (f : SymId) (count : ℕ) (h : Held) → length h.values < count → end_of s ≤ length h.values → do_symbol m n s f count h ≡ None
symbol_few m n s f count h lt le =
    ap (λ b. if b then None else with_last count h.values (λ vs args. in_turn ((reading_at m n (inputs_of s h.values)).value f args) (λ v. free (record { values = vs ++ v ∷ []; truths = h.truths })))) (le-ltb (length h.values) (end_of s) le)
    ∙ few_values count h.values (λ vs args. in_turn ((reading_at m n (inputs_of s h.values)).value f args) (λ v. free (record { values = vs ++ v ∷ []; truths = h.truths }))) lt

pub atom_few : (m : Meaning) (n : ℕ) (r : SymId) (count : ℕ) (h : Held) → length h.values < count → do_atom m n r count h ≡ None
atom_few m n r count h lt = few_values count h.values (λ vs args. in_turn ((reading_at m n []).truth r args) (λ b. free (record { values = vs; truths = b ∷ h.truths }))) lt
