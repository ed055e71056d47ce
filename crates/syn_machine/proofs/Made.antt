-- Symbols that are no calls: what is made of the last values, or that nothing is. And from what a symbol's entry tells to what its frame does.
use Rattle.std.proofs.Common.{◌≡◌, ℕ, ◌-◌, ◌<◌, ◌≤◌, Bool, List, [], ◌∷◌, ◌++◌, Option, None, Some, Result, Ok, Err, drop, length, take, refl, sym, ap, ◌∙◌, arith}
use Rattle.std.specs.Option.{option_map}
use Rattle.std.proofs.lemmas.List.{length-drop}
use Rattle.syn_term.specs.declared.sorts.Kind.{Kind}
use Rattle.syn_term.specs.declared.sorts.Kind.TheVariants as kind
use Rattle.syn_term.specs.declared.sorts.SymId.{SymId}
use Rattle.syn_term.specs.Symbols.{symbol_at}
use Rattle.syn_term.specs.Terms.{TermTree}
use Rattle.syn_form.specs.Trees.{FormTree, OutTree}
use Rattle.syn_value.specs.declared.tree.ValueTree.{ValueTree}
use Rattle.syn_model.specs.Calls.{Meaning, constructed, input_value, reading_at, value_by}
use Rattle.syn_model.specs.Clausal.{Clause}
use Rattle.syn_model.specs.Evaluation.{Counted, Reading, after, free}
use Rattle.syn_eval.specs.declared.errors.EvalError.{EvalError}
use Rattle.syn_eval.specs.declared.errors.EvalError.TheVariants as error
use Rattle.syn_eval.specs.Ending.{Ends}
use Rattle.syn_eval.specs.inner.Rules.{Known, known_of}
use Rattle.syn_eval.specs.inner.Scopes.{below_at, function_at, order_at, program_at, relation_at}
use Rattle.syn_eval.proofs.EntryLaws.{IsKnown, function_value, input_value_is, is_known, order_truth, program_value, relation_truth, value_of_kind}
use Rattle.syn_machine.specs.declared.frames.Scope.{Scope}
use Rattle.syn_machine.specs.declared.frames.Work.{Work}
use Rattle.syn_machine.specs.inner.Frames.{Held, do_atom, do_frames, do_symbol, end_of, held, in_turn, inputs_of}
use Rattle.syn_machine.specs.inner.Steps.{Steps, StepsFrom, all_of, put_at, tell_at}
use Rattle.syn_machine.proofs.CallMoves.{first_spent, steps_same}
use Rattle.syn_machine.proofs.Entering.{atom_opened, symbol_opened}
use Rattle.syn_machine.proofs.Moving.{moves_same}
use Rattle.syn_machine.proofs.Scopes.{holding}
use Rattle.syn_machine.proofs.Turns.{after-in_turn, free-in_turn}

module _ (before next : Work) (base : ℕ) (m : Meaning) (left : ℕ) (o : Option (Counted ValueTree)) where
  abbrev start : ℕ → Option (Counted Held)
  start n = in_turn (put_at base (held before) o) (do_frames m n before.frames)

  made_is : (v : ValueTree) (used : ℕ) → o ≡ Some (record { result = v; turns = used }) → next.values ≡ take base before.values ++ v ∷ [] → next.truths ≡ before.truths → next.frames ≡ before.frames → (n : ℕ) → start n ≡ after used (all_of m next n)
  made_is v used e w t fs n =
      ap (λ (z : Option (Counted ValueTree)). in_turn (put_at base (held before) z) (do_frames m n before.frames)) e
      ∙ (after-in_turn used (free (holding (take base before.values ++ v ∷ []) before.truths)) (do_frames m n before.frames)
      ∙ ap (after used) (free-in_turn (holding (take base before.values ++ v ∷ []) before.truths) (do_frames m n before.frames)
      ∙ (λ i. do_frames m n (sym fs i) (holding (sym w i) (sym t i)))))

  pub made_does : (v : ValueTree) (used : ℕ) → used ≤ left → o ≡ Some (record { result = v; turns = used }) → next.values ≡ take base before.values ++ v ∷ [] → next.truths ≡ before.truths → next.frames ≡ before.frames → Steps left start (all_of m next) (Ok used)
  made_does v used le e w t fs = (le, moves_same used start (all_of m next) (made_is v used e w t fs))

  pub made_fails : (e : EvalError) → Ends (λ _. o) left (Err e) → Steps left start (all_of m next) (Err e)
  made_fails error.TurnsSpent s = first_spent (λ n. put_at base (held before) o) (λ n. do_frames m n before.frames) left (first_spent (λ n. o) (λ n v. free (holding (take base before.values ++ v ∷ []) before.truths)) left s)
  made_fails error.NoMemory s = tt

-- an input is given no values
input_of_some : (m : Meaning) (inputs : List ValueTree) (f : SymId) (args : List ValueTree) → 0 < length args → value_by m None inputs f [] args kind.Input ≡ None
input_of_some m inputs f [] lt = absurd (omega (arith, lt))
input_of_some m inputs f (v ∷ vs) lt = refl

pub input_none : (m : Meaning) (inputs : List ValueTree) (f : SymId) (base : ℕ) (vs : List ValueTree) → base < length vs → value_by m None inputs f [] (drop base vs) kind.Input ≡ None
input_none m inputs f base vs lt = let n : length (drop base vs) ≡ length vs - base = length-drop base vs in input_of_some m inputs f (drop base vs) (omega (arith, n, lt))

input_of_none : (m : Meaning) (inputs : List ValueTree) (f : SymId) (args : List ValueTree) → length args ≤ 0 → value_by m None inputs f [] args kind.Input ≡ free (input_value m inputs f)
input_of_none m inputs f [] le = refl
input_of_none m inputs f (v ∷ vs) le = absurd (omega (arith, le))

pub input_some : (m : Meaning) (inputs : List ValueTree) (f : SymId) (base : ℕ) (vs : List ValueTree) → length vs ≤ base → value_by m None inputs f [] (drop base vs) kind.Input ≡ free (input_value m inputs f)
input_some m inputs f base vs le = let n : length (drop base vs) ≡ length vs - base = length-drop base vs in input_of_none m inputs f (drop base vs) (omega (arith, n, le))

-- from the entry to the frame
module _ (before next : Work) (m : Meaning) (left : ℕ) (f : SymId) (count base : ℕ) (some : count ≤ length before.values) (place : base ≡ length before.values - count)
    (k : Known) (there : Some k ≡ option_map (known_of m.decls) (symbol_at m.table f)) (r : Result ℕ EvalError) where
  abbrev args : List ValueTree
  args = drop base before.values

  abbrev Puts : (ℕ → Option (Counted ValueTree)) → Type 0
  Puts at = Steps left (λ n. in_turn (put_at base (held before) (at n)) (do_frames m n before.frames)) (all_of m next) r

  abbrev Tells : (ℕ → Option (Counted Bool)) → Type 0
  Tells at = Steps left (λ n. in_turn (tell_at base (held before) (at n)) (do_frames m n before.frames)) (all_of m next) r

  known : IsKnown m f k
  known = is_known m f k there

  module _ (s : Scope) (le : end_of s ≤ length before.values) where
    abbrev inputs : List ValueTree
    inputs = inputs_of s before.values

    by_value : (at : ℕ → Option (Counted ValueTree)) → ((n : ℕ) → (reading_at m n inputs).value f args ≡ at n) → Puts at → StepsFrom m left (λ n. do_symbol m n s f count) before next r
    by_value at e h = steps_same left (λ n. in_turn (do_symbol m n s f count (held before)) (do_frames m n before.frames)) (λ n. in_turn (put_at base (held before) (at n)) (do_frames m n before.frames)) (all_of m next)
        (λ n. ap (λ (z : Option (Counted Held)). in_turn z (do_frames m n before.frames)) (symbol_opened m n (held before) count base some place s f le ∙ ap (put_at base (held before)) (e n))) r h

    pub function_does : k.kind ≡ kind.Fun → (cs : List (Clause OutTree)) → cs ≡ k.functions → Puts (function_at m cs args) → StepsFrom m left (λ n. do_symbol m n s f count) before next r
    function_does e cs is h = by_value (function_at m cs args) (λ n. function_value m inputs f args k known e n ∙ ap (λ z. function_at m z args n) (sym is)) h

    pub program_does : k.kind ≡ kind.Program → Puts (program_at m args) → StepsFrom m left (λ n. do_symbol m n s f count) before next r
    program_does e h = by_value (program_at m args) (program_value m inputs f args k known e) h

    pub input_does : k.kind ≡ kind.Input → Puts (λ n. value_by m None inputs f [] args kind.Input) → StepsFrom m left (λ n. do_symbol m n s f count) before next r
    input_does e h = by_value (λ n. value_by m None inputs f [] args kind.Input) (input_value_is m inputs f args k known e) h

    maker_value : (kd : Kind) → (kd ≡ kind.Fun → ⊥) → (kd ≡ kind.Program → ⊥) → (kd ≡ kind.Input → ⊥) → (d : Option (List ValueTree → Reading)) (name : List ℕ) → value_by m d inputs f name args kd ≡ constructed kd args
    maker_value kind.Fun a b c d name = absurd (a refl)
    maker_value kind.Program a b c d name = absurd (b refl)
    maker_value kind.Input a b c d name = absurd (c refl)
    maker_value kind.Zero a b c d name = refl
    maker_value kind.Succ a b c d name = refl
    maker_value kind.Nil a b c d name = refl
    maker_value kind.Cons a b c d name = refl
    maker_value kind.Tuple a b c d name = refl
    maker_value kind.Rel a b c d name = refl
    maker_value kind.Order a b c d name = refl
    maker_value kind.Skolem a b c d name = refl

    pub maker_does : (k.kind ≡ kind.Fun → ⊥) → (k.kind ≡ kind.Program → ⊥) → (k.kind ≡ kind.Input → ⊥) → Puts (λ n. constructed k.kind args) → StepsFrom m left (λ n. do_symbol m n s f count) before next r
    maker_does a b c h = by_value (λ n. constructed k.kind args) (λ n. value_of_kind m inputs f args k known k.kind refl n ∙ maker_value k.kind a b c (below_at m n) known.symbol.name) h

  by_truth : (at : ℕ → Option (Counted Bool)) → ((n : ℕ) → (reading_at m n []).truth f args ≡ at n) → Tells at → StepsFrom m left (λ n. do_atom m n f count) before next r
  by_truth at e h = steps_same left (λ n. in_turn (do_atom m n f count (held before)) (do_frames m n before.frames)) (λ n. in_turn (tell_at base (held before) (at n)) (do_frames m n before.frames)) (all_of m next)
      (λ n. ap (λ (z : Option (Counted Held)). in_turn z (do_frames m n before.frames)) (atom_opened m n (held before) count base some place f ∙ ap (tell_at base (held before)) (e n))) r h

  pub relation_does : k.kind ≡ kind.Rel → (cs : List (Clause FormTree)) → cs ≡ k.relations → Tells (relation_at m cs args) → StepsFrom m left (λ n. do_atom m n f count) before next r
  relation_does e cs is h = by_truth (relation_at m cs args) (λ n. relation_truth m [] f args k known e n ∙ ap (λ z. relation_at m z args n) (sym is)) h

  pub order_does : k.kind ≡ kind.Order → (t : TermTree) → k.measure ≡ Some t → Tells (order_at m t args) → StepsFrom m left (λ n. do_atom m n f count) before next r
  order_does e t is h = by_truth (order_at m t args) (order_truth m [] f args k known e t is) h
