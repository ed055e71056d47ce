-- What the definitions of evaluation give in a small theory: a function and a relation by clauses, and an order by its measure.
use Rattle.std.proofs.Common.{◌≡◌, ℕ, zero, suc, ◌+◌, nat_eq, Bool, true, false, List, [], ◌∷◌, Option, Some, None, codes, refl, ap, ap₂, ◌∙◌}
use Rattle.std.specs.List.{list_any}
use Rattle.std.specs.Option.{option_and_then}
use Rattle.syn_term.specs.declared.sorts.Sort.TheVariants.{Nat}
use Rattle.syn_term.specs.declared.sorts.SymId.{SymId}
use Rattle.syn_term.specs.declared.sorts.Var.{Var}
use Rattle.syn_term.specs.declared.term.Node.{out-Node}
use Rattle.syn_term.specs.Terms.{TermTree, application, nowhere, variable_tree}
use Rattle.syn_form.specs.declared.trees.Form.TheVariants as form
use Rattle.syn_form.specs.declared.trees.Form.TheViews as form_view
use Rattle.syn_form.specs.declared.trees.Out.TheVariants as output
use Rattle.syn_form.specs.Trees.{FormTree}
use Rattle.syn_value.specs.declared.tree.ValueTree.{ValueTree, out-ValueTree}
use Rattle.syn_value.specs.declared.tree.ValueTree.TheVariants as tree
use Rattle.syn_value.proofs.SameValues.{same_value-numbers}
use Rattle.syn_model.specs.declared.decl.Decl.{Decl}
use Rattle.syn_model.specs.declared.decl.Decl.TheVariants as decl
use Rattle.syn_model.specs.Calls.{by_measure, numbered_values, reading_at, smaller_values}
use Rattle.syn_model.specs.Evaluation.{Counted, Environment, Reading, after, are_same, evaluate_form, evaluate_out, evaluate_term, free, on_all}
use Rattle.syn_model.specs.Truth.{theory_meaning}
use Rattle.syn_model.proofs.EvaluationEquations.{evaluate_form-Atom, evaluate_form-Equal, evaluate_form-Or, evaluate_out-Give, evaluate_term-App, evaluate_term-Var}
use denote.Hole.Carrier

abbrev pub symbol : ℕ → SymId
symbol n = record { 0 = n }

abbrev pub number_variable : ℕ → Var
number_variable n = record { number = n; sort = Nat }

abbrev pub x : ℕ → TermTree
x n = variable_tree (number_variable n)

abbrev pub zero_term : TermTree
zero_term = application (symbol 0) []

abbrev pub successor : TermTree → TermTree
successor t = application (symbol 1) (t ∷ [])

abbrev pub pred : SymId
pred = symbol 2

abbrev pub le : SymId
le = symbol 3

abbrev pub below : SymId
below = symbol 4

-- the predecessor, `at most`, and the order by the number itself
abbrev pub decls : List Decl
decls =
    decl.Fun (codes "p") (Nat ∷ []) Nat
    ∷ decl.FunClause (zero_term ∷ []) (output.Give zero_term)
    ∷ decl.FunClause (successor (x 1) ∷ []) (output.Give (x 1))
    ∷ decl.Rel (codes "le") (Nat ∷ Nat ∷ [])
    ∷ decl.RelClause (x 1 ∷ zero_term ∷ []) (form.Equal (x 1) zero_term)
    ∷ decl.RelClause (x 1 ∷ successor (x 2) ∷ []) (form_view.Or (form.Equal (x 1) (successor (x 2)) ∷ form.Atom le (x 1 ∷ x 2 ∷ []) ∷ []))
    ∷ decl.Order (codes "below") (Nat ∷ []) (x 1)
    ∷ []

abbrev pub level : ℕ → Reading
level n = reading_at (theory_meaning decls) n []

abbrev pub num : ℕ → ValueTree
num n = tree.Num n

abbrev pub in_turns : {A : Type 0} → A → ℕ → Option (Counted A)
in_turns a n = Some (record { result = a; turns = n })

-- what a variable and zero are evaluated to
at_variable : (reading : Reading) (env : Environment) (n : ℕ) → evaluate_term reading env (x n) ≡ free (env n)
at_variable reading env n = evaluate_term-Var reading env nowhere (number_variable n)

at_zero : (n : ℕ) (env : Environment) → evaluate_term (level n) env zero_term ≡ free (num 0)
at_zero zero env = evaluate_term-App (level 0) env nowhere (symbol 0) []
at_zero (suc n) env = evaluate_term-App (level (suc n)) env nowhere (symbol 0) []

-- a call of a function is the body of the clause that fits
pred_body : (level 1).value pred (num 4 ∷ []) ≡ after 1 (evaluate_out (level 0) (numbered_values (num 3 ∷ [])) (output.Give (x 1)))
unfolding out-Node out-ValueTree denote.Hole.Carrier.out
pred_body = refl

pub pred_of_four : (level 1).value pred (num 4 ∷ []) ≡ in_turns (num 3) 1
pred_of_four = pred_body ∙ ap (after 1) (evaluate_out-Give (level 0) (numbered_values (num 3 ∷ [])) (x 1) ∙ at_variable (level 0) (numbered_values (num 3 ∷ [])) 1)

-- a number is at most 0 where it is 0
zero_body : (n a : ℕ) → (level (suc n)).truth le (num a ∷ num 0 ∷ []) ≡ after 1 (evaluate_form (level n) (numbered_values (num a ∷ [])) (form.Equal (x 1) zero_term))
unfolding out-Node out-ValueTree denote.Hole.Carrier.out
zero_body n a = refl

is_zero : (n a : ℕ) → evaluate_form (level n) (numbered_values (num a ∷ [])) (form.Equal (x 1) zero_term) ≡ in_turns (nat_eq a 0) 0
is_zero n a =
    let env = numbered_values (num a ∷ []) in
    evaluate_form-Equal (level n) env (x 1) zero_term ∙ (ap₂ (λ (v w : Option (Counted ValueTree)). on_all are_same (v ∷ w ∷ [])) (at_variable (level n) env 1) (at_zero n env) ∙ ap (λ (b : Bool). free b) (same_value-numbers a 0))

pub le_zero : (n a : ℕ) → (level (suc n)).truth le (num a ∷ num 0 ∷ []) ≡ in_turns (nat_eq a 0) 1
le_zero n a = zero_body n a ∙ ap (after 1) (is_zero n a)

pub le_of_zeros : (level 1).truth le (num 0 ∷ num 0 ∷ []) ≡ in_turns true 1
le_of_zeros = le_zero 0 0

-- no clause is reached where calls may not nest
pub le_too_deep : (level 0).truth le (num 0 ∷ num 0 ∷ []) ≡ None
le_too_deep = refl

-- an order compares the measures
below_body : (a b : ℕ) → (level 1).truth below (num a ∷ num b ∷ []) ≡ after 1 (by_measure (level 0) (num a ∷ num b ∷ []) (x 1))
below_body a b = refl

measured : (a b : ℕ) → by_measure (level 0) (num a ∷ num b ∷ []) (x 1) ≡ smaller_values (record { result = num a; turns = 0 }) (record { result = num b; turns = 0 })
measured a b = ap₂ (λ (v w : Option (Counted ValueTree)). option_and_then (λ c. option_and_then (smaller_values c) w) v) (at_variable (level 0) (numbered_values (num a ∷ [])) 1) (at_variable (level 0) (numbered_values (num b ∷ [])) 1)

pub below_same : (level 1).truth below (num 0 ∷ num 0 ∷ []) ≡ in_turns false 1
unfolding out-ValueTree denote.Hole.Carrier.out
below_same = below_body 0 0 ∙ ap (after 1) (measured 0 0)

pub below_greater : (level 1).truth below (num 2 ∷ num 3 ∷ []) ≡ in_turns true 1
unfolding out-ValueTree denote.Hole.Carrier.out
below_greater = below_body 2 3 ∙ ap (after 1) (measured 2 3)

-- at most a successor: equal to it or at most the number, both asked
abbrev next_clause : FormTree
next_clause = form_view.Or (form.Equal (x 1) (successor (x 2)) ∷ form.Atom le (x 1 ∷ x 2 ∷ []) ∷ [])

next_body : (n a b : ℕ) → (level (suc n)).truth le (num a ∷ num (suc b) ∷ []) ≡ after 1 (evaluate_form (level n) (numbered_values (num a ∷ num b ∷ [])) next_clause)
unfolding out-Node out-ValueTree denote.Hole.Carrier.out
next_body n a b = refl

successor_value : (n b : ℕ) → (level n).value (symbol 1) (num b ∷ []) ≡ in_turns (num (b + 1)) 1
unfolding out-ValueTree denote.Hole.Carrier.out
successor_value zero b = refl
successor_value (suc n) b = refl

module _ (n a b : ℕ) where
  abbrev two : Environment
  two = numbered_values (num a ∷ num b ∷ [])

  abbrev any_of : Option (Counted Bool) → Option (Counted Bool) → Option (Counted Bool)
  any_of c d = on_all (λ bs. free (list_any (λ b. b) bs)) (c ∷ d ∷ [])

  at_successor : evaluate_term (level n) two (successor (x 2)) ≡ in_turns (num (b + 1)) 1
  at_successor =
      evaluate_term-App (level n) two nowhere (symbol 1) (x 2 ∷ [])
      ∙ (ap (λ (v : Option (Counted ValueTree)). on_all ((level n).value (symbol 1)) (v ∷ [])) (at_variable (level n) two 2) ∙ ap (after 0) (successor_value n b))

  is_successor : evaluate_form (level n) two (form.Equal (x 1) (successor (x 2))) ≡ in_turns (nat_eq a (b + 1)) 1
  is_successor =
      evaluate_form-Equal (level n) two (x 1) (successor (x 2))
      ∙ (ap₂ (λ (v w : Option (Counted ValueTree)). on_all are_same (v ∷ w ∷ [])) (at_variable (level n) two 1) at_successor ∙ ap (λ (t : Bool). in_turns t 1) (same_value-numbers a (b + 1)))

  is_below : (o : Option (Counted Bool)) → (level n).truth le (num a ∷ num b ∷ []) ≡ o → evaluate_form (level n) two (form.Atom le (x 1 ∷ x 2 ∷ [])) ≡ after 0 o
  is_below o e =
      evaluate_form-Atom (level n) two le (x 1 ∷ x 2 ∷ [])
      ∙ (ap₂ (λ (v w : Option (Counted ValueTree)). on_all ((level n).truth le) (v ∷ w ∷ [])) (at_variable (level n) two 1) (at_variable (level n) two 2) ∙ ap (after 0) e)

  next : (o : Option (Counted Bool)) → (level n).truth le (num a ∷ num b ∷ []) ≡ o → (level (suc n)).truth le (num a ∷ num (suc b) ∷ []) ≡ after 1 (any_of (in_turns (nat_eq a (b + 1)) 1) (after 0 o))
  next o e = next_body n a b ∙ ap (after 1) (evaluate_form-Or (level n) two (form.Equal (x 1) (successor (x 2)) ∷ form.Atom le (x 1 ∷ x 2 ∷ []) ∷ []) ∙ ap₂ any_of is_successor (is_below o e))

-- six calls, and a turn for the successor in each of five
pub three_to_five : (level 6).truth le (num 3 ∷ num 5 ∷ []) ≡ in_turns true 11
three_to_five = next 5 3 4 _ (next 4 3 3 _ (next 3 3 2 _ (next 2 3 1 _ (next 1 3 0 _ (le_zero 0 3)))))

-- five calls may nest: too few
pub three_to_five_too_deep : (level 5).truth le (num 3 ∷ num 5 ∷ []) ≡ None
three_to_five_too_deep = next 4 3 4 _ (next 3 3 3 _ (next 2 3 2 _ (next 1 3 1 _ (next 0 3 0 _ refl))))
