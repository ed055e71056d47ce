-- For public contracts: evaluation with its turns. It is strict and from left to right, and all members of a connective are
-- evaluated. What the symbols give on values is a parameter; the same definitions serve other readings of the symbols.
use Rattle.std.specs.Prelude.{ℕ, ◌+◌, Bool, true, false, not, ◌||◌, List, [], ◌∷◌, Option, None, Some, map, if◌then◌else◌}
use Rattle.std.specs.List.{list_all, list_any}
use Rattle.std.specs.Option.{option_and_then, option_map}
use Rattle.syn_term.specs.declared.sorts.SymId.{SymId}
use Rattle.syn_term.specs.declared.term.Node.{fold-Node}
use Rattle.syn_term.specs.declared.term.Node.TheOpen.{Node-F}
use Rattle.syn_term.specs.Terms.{TermTree}
use Rattle.syn_form.specs.declared.trees.Form.{fold-Form}
use Rattle.syn_form.specs.declared.trees.Form.TheOpen.{Form-F}
use Rattle.syn_form.specs.declared.trees.Out.{fold-Out}
use Rattle.syn_form.specs.declared.trees.Out.TheOpen.{Out-F}
use Rattle.syn_form.specs.Trees.{FormTree, OutTree}
use Rattle.syn_value.specs.declared.tree.ValueTree.{ValueTree}
use Rattle.syn_value.specs.Values.{same_value}

-- a result, with the turns that were taken for it
pub record Counted (A : Type 0) : Type 0 where
  pub result : A
  pub turns : ℕ

-- a result that took no turn
abbrev pub free : {A : Type 0} → A → Option (Counted A)
free a = Some (record { result = a; turns = 0 })

abbrev pub with_turns : {A : Type 0} → ℕ → Counted A → Counted A
with_turns n c = record { result = c.result; turns = n + c.turns }

-- the same result after some turns more
abbrev pub after : {A : Type 0} → ℕ → Option (Counted A) → Option (Counted A)
after n = option_map (with_turns n)

abbrev pub one_first : {A : Type 0} → Counted A → Counted (List A) → Counted (List A)
one_first c cs = record { result = c.result ∷ cs.result; turns = c.turns + cs.turns }

-- all the results in their order, with the turns of all; none where one of them is none
abbrev pub together : {A : Type 0} → List (Option (Counted A)) → Option (Counted (List A))
together [] = free []
together (c ∷ cs) = option_and_then (λ x. option_map (one_first x) (together cs)) c

-- what is given on all these results
abbrev pub on_all : {A B : Type 0} → (List A → Option (Counted B)) → List (Option (Counted A)) → Option (Counted B)
on_all give cs = option_and_then (λ all. after all.turns (give all.result)) (together cs)

-- what symbols give on values: a value where they stand in terms, a truth value where they stand in atoms
pub record Reading : Type 0 where
  pub value : SymId → List ValueTree → Option (Counted ValueTree)
  pub truth : SymId → List ValueTree → Option (Counted Bool)

-- the values of variables, by their numbers
abbrev pub Environment : Type 0
Environment = ℕ → ValueTree

abbrev pub term_step : Reading → Environment → Node-F (Option (Counted ValueTree)) → Option (Counted ValueTree)
term_step reading env (Node-F.Var place v) = free (env v.number)
term_step reading env (Node-F.App place f args) = on_all (reading.value f) args

abbrev pub evaluate_term : Reading → Environment → TermTree → Option (Counted ValueTree)
evaluate_term reading env = fold-Node (Option (Counted ValueTree)) (term_step reading env)

abbrev pub are_same : List ValueTree → Option (Counted Bool)
are_same (v ∷ w ∷ []) = free (same_value v w)
are_same _ = None

abbrev pub implies : List Bool → Option (Counted Bool)
implies (x ∷ y ∷ []) = free (not x || y)
implies _ = None

abbrev pub form_step : Reading → Environment → Form-F (Option (Counted Bool)) → Option (Counted Bool)
form_step reading env Form-F.True = free true
form_step reading env Form-F.False = free false
form_step reading env (Form-F.Atom r args) = on_all (reading.truth r) (map (evaluate_term reading env) args)
form_step reading env (Form-F.Equal s t) = on_all are_same (evaluate_term reading env s ∷ evaluate_term reading env t ∷ [])
form_step reading env (Form-F.Not a) = option_map (λ c. record { result = not c.result; turns = c.turns }) a
form_step reading env (Form-F.And all) = on_all (λ bs. free (list_all (λ b. b) bs)) all
form_step reading env (Form-F.Or all) = on_all (λ bs. free (list_any (λ b. b) bs)) all
form_step reading env (Form-F.Implies a b) = on_all implies (a ∷ b ∷ [])

-- the truth value of a formula
abbrev pub evaluate_form : Reading → Environment → FormTree → Option (Counted Bool)
evaluate_form reading env = fold-Form (Option (Counted Bool)) (form_step reading env)

abbrev pub out_step : Reading → Environment → Out-F (Option (Counted ValueTree)) → Option (Counted ValueTree)
out_step reading env (Out-F.Give t) = evaluate_term reading env t
out_step reading env (Out-F.If f u v) = option_and_then (λ c. after c.turns (if c.result then u else v)) (evaluate_form reading env f)

-- the value of an output: the test, and then one arm
abbrev pub evaluate_out : Reading → Environment → OutTree → Option (Counted ValueTree)
evaluate_out reading env = fold-Out (Option (Counted ValueTree)) (out_step reading env)
