-- The theory `basics`: predecessor, doubling, `at most`, `less than` and an order, with six axioms and a monotonicity row; and what
-- its symbols give on numbers.
use Rattle.std.proofs.Common.{◌≡◌, ◌↔◌, ◌⊎◌, inl, inr, ℕ, zero, suc, ◌+◌, ◌≤◌, nat_eq, nat_lt, Bool, true, false, List, [], ◌∷◌, ◌++◌, Option, None, codes, refl, sym, ap, ap₂, subst, ◌∙◌, true≢false, arith}
use Rattle.std.specs.List.{list_any}
use Rattle.std.specs.Option.{option_and_then}
use Rattle.std.proofs.lemmas.Bool.Decides.{nat_tests}
use Rattle.syn_term.specs.declared.sorts.Sort.TheVariants.{Nat}
use Rattle.syn_term.specs.declared.sorts.SymId.{SymId}
use Rattle.syn_term.specs.declared.term.Node.{out-Node}
use Rattle.syn_term.specs.Terms.{TermTree, application, nowhere}
use Rattle.syn_form.specs.declared.trees.Binder.{Binder}
use Rattle.syn_form.specs.declared.trees.Form.TheVariants as form
use Rattle.syn_form.specs.declared.trees.Form.TheViews as form_view
use Rattle.syn_form.specs.declared.trees.Mono.{Mono}
use Rattle.syn_form.specs.declared.trees.Out.TheVariants as output
use Rattle.syn_form.specs.declared.trees.QForm.TheVariants as qform
use Rattle.syn_form.specs.declared.trees.QForm.TheViews as qview
use Rattle.syn_form.specs.Trees.{FormTree, QFormTree}
use Rattle.syn_value.specs.declared.tree.ValueTree.{ValueTree, out-ValueTree}
use Rattle.syn_value.proofs.SameValues.{same_value-numbers}
use Rattle.syn_model.specs.declared.decl.Decl.{Decl}
use Rattle.syn_model.specs.declared.decl.Decl.TheVariants as decl
use Rattle.syn_model.specs.Calls.{Meaning, by_measure, numbered_values, reading_at, smaller_values}
use Rattle.syn_model.specs.Evaluation.{Counted, Environment, Reading, after, are_same, evaluate_form, evaluate_out, evaluate_term, free, on_all}
use Rattle.syn_model.specs.Truth.{Gives, HasValue, IsTrueOf, theory_meaning}
use Rattle.syn_model.proofs.EvaluationEquations.{evaluate_form-Atom, evaluate_form-Equal, evaluate_form-Or, evaluate_out-Give, evaluate_term-App, evaluate_term-Var}
use Rattle.syn_model.proofs.EvaluationRows.{in_turns, num, number_variable, successor, symbol, x, zero_term}
use Rattle.syn_laws.proofs.GivenForSome.{one_for_some}
use Rattle.syn_laws.proofs.SubstitutedTruth.{truth_rises}
use denote.Hole.Carrier

abbrev pub pred : SymId
pred = symbol 2

abbrev pub dbl : SymId
dbl = symbol 3

abbrev pub le : SymId
le = symbol 4

abbrev pub lt : SymId
lt = symbol 5

abbrev pub below : SymId
below = symbol 6

-- the functions, the relations and the order
abbrev pub definitions : List Decl
definitions =
    decl.Fun (codes "p") (Nat ∷ []) Nat
    ∷ decl.FunClause (zero_term ∷ []) (output.Give zero_term)
    ∷ decl.FunClause (successor (x 1) ∷ []) (output.Give (x 1))
    ∷ decl.Fun (codes "dbl") (Nat ∷ []) Nat
    ∷ decl.FunClause (zero_term ∷ []) (output.Give zero_term)
    ∷ decl.FunClause (successor (x 1) ∷ []) (output.Give (successor (successor (application dbl (x 1 ∷ [])))))
    ∷ decl.Rel (codes "le") (Nat ∷ Nat ∷ [])
    ∷ decl.RelClause (x 1 ∷ zero_term ∷ []) (form.Equal (x 1) zero_term)
    ∷ decl.RelClause (x 1 ∷ successor (x 2) ∷ []) (form_view.Or (form.Equal (x 1) (successor (x 2)) ∷ form.Atom le (x 1 ∷ x 2 ∷ []) ∷ []))
    ∷ decl.Rel (codes "lt") (Nat ∷ Nat ∷ [])
    ∷ decl.RelClause (x 1 ∷ x 2 ∷ []) (form.Atom le (successor (x 1) ∷ x 2 ∷ []))
    ∷ decl.Order (codes "below") (Nat ∷ []) (x 1)
    ∷ []

abbrev pub binder : ℕ → List ℕ → Binder
binder n name = record { var = number_variable n; name = name }

abbrev pub at_most : TermTree → TermTree → QFormTree
at_most s t = qform.Atom le (s ∷ t ∷ [])

abbrev pub cases_body : QFormTree
cases_body = qview.Or (qform.Equal (x 1) zero_term ∷ qform.Equal (x 1) (successor (application pred (x 1 ∷ []))) ∷ [])

abbrev pub down_body : QFormTree
down_body = qview.Or (qform.Equal (x 1) zero_term ∷ qform.Atom below (application pred (x 1 ∷ []) ∷ x 1 ∷ []) ∷ [])

abbrev pub refl_body : QFormTree
refl_body = at_most (x 1) (x 1)

abbrev pub total_body : QFormTree
total_body = qview.Or (at_most (x 1) (x 2) ∷ at_most (x 2) (x 1) ∷ [])

abbrev pub low_body : QFormTree
low_body = at_most (x 1) (successor (x 1))

abbrev pub gap_body : QFormTree
gap_body = at_most (x 1) zero_term

abbrev pub all_x : QFormTree → QFormTree
all_x a = qview.All (binder 1 (codes "x")) a

-- `le up le 2`
abbrev pub trans : Mono
trans = record { rel = le; up = true; sym = le; place = 2; gives = None }

abbrev pub laws : List Decl
laws =
    decl.Axiom (codes "cases") (all_x cases_body)
    ∷ decl.Axiom (codes "down") (all_x down_body)
    ∷ decl.Axiom (codes "refl") (all_x refl_body)
    ∷ decl.Axiom (codes "total") (all_x (qview.All (binder 2 (codes "y")) total_body))
    ∷ decl.Axiom (codes "low") (all_x low_body)
    ∷ decl.Axiom (codes "gap") (qview.Not (all_x gap_body))
    ∷ decl.Monotone (codes "trans") trans
    ∷ []

abbrev pub basics : List Decl
basics = definitions ++ laws

abbrev pub meaning : Meaning
meaning = theory_meaning basics

abbrev pub level : ℕ → Reading
level n = reading_at meaning n []

-- what a variable and zero are evaluated to
at_variable : (reading : Reading) (env : Environment) (n : ℕ) → evaluate_term reading env (x n) ≡ free (env n)
at_variable reading env n = evaluate_term-Var reading env nowhere (number_variable n)

pub zero_value : (n : ℕ) → (level n).value (symbol 0) [] ≡ free (num 0)
zero_value zero = refl
zero_value (suc n) = refl

at_zero : (n : ℕ) (env : Environment) → evaluate_term (level n) env zero_term ≡ free (num 0)
at_zero n env = evaluate_term-App (level n) env nowhere (symbol 0) [] ∙ ap (after 0) (zero_value n)

pub successor_value : (n b : ℕ) → (level n).value (symbol 1) (num b ∷ []) ≡ in_turns (num (b + 1)) 1
unfolding out-ValueTree denote.Hole.Carrier.out
successor_value zero b = refl
successor_value (suc n) b = refl

-- the successor of a number
pub succ_gives : (b : ℕ) → HasValue basics (symbol 1) (num b ∷ []) (num (suc b))
succ_gives b =
    let e : b + 1 ≡ suc b = omega arith in
    (0, (1, successor_value 0 b ∙ ap (λ k. in_turns (num k) 1) e))

-- the predecessor of a successor
pred_body : (n : ℕ) → (level 1).value pred (num (suc n) ∷ []) ≡ after 1 (evaluate_out (level 0) (numbered_values (num n ∷ [])) (output.Give (x 1)))
unfolding out-Node out-ValueTree denote.Hole.Carrier.out
pred_body n = refl

pub pred_gives : (n : ℕ) → HasValue basics pred (num (suc n) ∷ []) (num n)
pred_gives n = (1, (1, pred_body n ∙ ap (after 1) (evaluate_out-Give (level 0) (numbered_values (num n ∷ [])) (x 1) ∙ at_variable (level 0) (numbered_values (num n ∷ [])) 1)))

-- the order compares the numbers
below_body : (a b : ℕ) → (level 1).truth below (num a ∷ num b ∷ []) ≡ after 1 (by_measure (level 0) (num a ∷ num b ∷ []) (x 1))
below_body a b = refl

measured : (a b : ℕ) → by_measure (level 0) (num a ∷ num b ∷ []) (x 1) ≡ smaller_values (record { result = num a; turns = 0 }) (record { result = num b; turns = 0 })
measured a b = ap₂ (λ (v w : Option (Counted ValueTree)). option_and_then (λ c. option_and_then (smaller_values c) w) v) (at_variable (level 0) (numbered_values (num a ∷ [])) 1) (at_variable (level 0) (numbered_values (num b ∷ [])) 1)

pub below_at : (a b : ℕ) → (level 1).truth below (num a ∷ num b ∷ []) ≡ in_turns (nat_lt a b) 1
unfolding out-ValueTree denote.Hole.Carrier.out
below_at a b = below_body a b ∙ ap (after 1) (measured a b)

pub below_next : (n : ℕ) → IsTrueOf basics below (num n ∷ num (suc n) ∷ [])
below_next n =
    let less : nat_lt n (suc n) ≡ true = grind (arith, nat_tests) in
    (1, (1, below_at n (suc n) ∙ ap (λ t. in_turns t 1) less))

-- a number is at most 0 where it is 0
zero_body : (n a : ℕ) → (level (suc n)).truth le (num a ∷ num 0 ∷ []) ≡ after 1 (evaluate_form (level n) (numbered_values (num a ∷ [])) (form.Equal (x 1) zero_term))
unfolding out-Node out-ValueTree denote.Hole.Carrier.out
zero_body n a = refl

is_zero : (n a : ℕ) → evaluate_form (level n) (numbered_values (num a ∷ [])) (form.Equal (x 1) zero_term) ≡ in_turns (nat_eq a 0) 0
is_zero n a =
    let env = numbered_values (num a ∷ []) in
    evaluate_form-Equal (level n) env (x 1) zero_term ∙ (ap₂ (λ (v w : Option (Counted ValueTree)). on_all are_same (v ∷ w ∷ [])) (at_variable (level n) env 1) (at_zero n env) ∙ ap (λ (b : Bool). free b) (same_value-numbers a 0))

le_zero : (n a : ℕ) → (level (suc n)).truth le (num a ∷ num 0 ∷ []) ≡ in_turns (nat_eq a 0) 1
le_zero n a = zero_body n a ∙ ap (after 1) (is_zero n a)

-- at most a successor: equal to it or at most the number, both asked
abbrev next_clause : FormTree
next_clause = form_view.Or (form.Equal (x 1) (successor (x 2)) ∷ form.Atom le (x 1 ∷ x 2 ∷ []) ∷ [])

next_body : (n a b : ℕ) → (level (suc n)).truth le (num a ∷ num (suc b) ∷ []) ≡ after 1 (evaluate_form (level n) (numbered_values (num a ∷ num b ∷ [])) next_clause)
unfolding out-Node out-ValueTree denote.Hole.Carrier.out
next_body n a b = refl

abbrev either : Bool → Bool → Bool
either p q = list_any (λ b. b) (p ∷ q ∷ [])

abbrev any_of : Option (Counted Bool) → Option (Counted Bool) → Option (Counted Bool)
any_of c d = on_all (λ bs. free (list_any (λ b. b) bs)) (c ∷ d ∷ [])

module _ (n a b : ℕ) where
  abbrev two : Environment
  two = numbered_values (num a ∷ num b ∷ [])

  at_successor : evaluate_term (level n) two (successor (x 2)) ≡ in_turns (num (b + 1)) 1
  at_successor =
      evaluate_term-App (level n) two nowhere (symbol 1) (x 2 ∷ [])
      ∙ (ap (λ (v : Option (Counted ValueTree)). on_all ((level n).value (symbol 1)) (v ∷ [])) (at_variable (level n) two 2) ∙ ap (after 0) (successor_value n b))

  is_successor : evaluate_form (level n) two (form.Equal (x 1) (successor (x 2))) ≡ in_turns (nat_eq a (b + 1)) 1
  is_successor =
      evaluate_form-Equal (level n) two (x 1) (successor (x 2))
      ∙ (ap₂ (λ (v w : Option (Counted ValueTree)). on_all are_same (v ∷ w ∷ [])) (at_variable (level n) two 1) at_successor ∙ ap (λ (t : Bool). in_turns t 1) (same_value-numbers a (b + 1)))

  is_below : (o : Option (Counted Bool)) → (level n).truth le (num a ∷ num b ∷ []) ≡ o → evaluate_form (level n) two (form.Atom le (x 1 ∷ x 2 ∷ [])) ≡ after 0 o
  is_below o e =
      evaluate_form-Atom (level n) two le (x 1 ∷ x 2 ∷ [])
      ∙ (ap₂ (λ (v w : Option (Counted ValueTree)). on_all ((level n).truth le) (v ∷ w ∷ [])) (at_variable (level n) two 1) (at_variable (level n) two 2) ∙ ap (after 0) e)

  next : (o : Option (Counted Bool)) → (level n).truth le (num a ∷ num b ∷ []) ≡ o → (level (suc n)).truth le (num a ∷ num (suc b) ∷ []) ≡ after 1 (any_of (in_turns (nat_eq a (b + 1)) 1) (after 0 o))
  next o e = next_body n a b ∙ ap (after 1) (evaluate_form-Or (level n) two (form.Equal (x 1) (successor (x 2)) ∷ form.Atom le (x 1 ∷ x 2 ∷ []) ∷ []) ∙ ap₂ any_of is_successor (is_below o e))

-- whether the first is at most the second, as the clauses ask for it
abbrev pub is_at_most : ℕ → ℕ → Bool
is_at_most a zero = nat_eq a 0
is_at_most a (suc b) = either (nat_eq a (b + 1)) (is_at_most a b)

next_gives : (p q : Bool) (t : ℕ) → Gives (after 1 (any_of (in_turns p 1) (after 0 (in_turns q t)))) (either p q)
next_gives p q t = (_, refl)

-- `le` of two numbers is answered where calls may nest as deep as the second
pub le_at : (a b : ℕ) → Gives ((level (suc b)).truth le (num a ∷ num b ∷ [])) (is_at_most a b)
le_at a zero = (1, le_zero 0 a)
le_at a (suc b) =
    let h = le_at a b in
    let g = next_gives (nat_eq a (b + 1)) (is_at_most a b) h.0 in
    (g.0, next (suc b) a b (in_turns (is_at_most a b) h.0) h.1 ∙ g.1)

either_to : (p q : Bool) → either p q ≡ true → (p ≡ true) ⊎ (q ≡ true)
either_to true q e = inl refl
either_to false true e = inr refl
either_to false false e = absurd (true≢false (sym e))

either_first : (p q : Bool) → p ≡ true → either p q ≡ true
either_first true q e = refl
either_first false q e = absurd (true≢false (sym e))

either_second : (p q : Bool) → q ≡ true → either p q ≡ true
either_second true q e = refl
either_second false true e = refl
either_second false false e = absurd (true≢false (sym e))

at_most_to : (a b : ℕ) → is_at_most a b ≡ true → a ≤ b
at_most_to a zero e = let h : nat_eq a 0 ≡ true = e in grind (arith, nat_tests)
at_most_to a (suc b) e = by (either_to (nat_eq a (b + 1)) (is_at_most a b) e) (at_most_to a b)
  where
    by : (nat_eq a (b + 1) ≡ true) ⊎ (is_at_most a b ≡ true) → (is_at_most a b ≡ true → a ≤ b) → a ≤ suc b
    by (inl h) more = let same : a ≡ b + 1 = grind (arith, nat_tests) in omega arith
    by (inr h) more = let less : a ≤ b = more h in omega arith

at_most_from : (a b : ℕ) → a ≤ b → is_at_most a b ≡ true
at_most_from a zero less = let h : nat_eq a 0 ≡ true = grind (arith, nat_tests) in h
at_most_from a (suc b) less = by (nat_eq a (b + 1)) refl (at_most_from a b)
  where
    by : (t : Bool) → nat_eq a (b + 1) ≡ t → (a ≤ b → is_at_most a b ≡ true) → either (nat_eq a (b + 1)) (is_at_most a b) ≡ true
    by true e more = either_first (nat_eq a (b + 1)) (is_at_most a b) e
    by false e more = let lower : a ≤ b = grind (arith, nat_tests) in either_second (nat_eq a (b + 1)) (is_at_most a b) (more lower)

-- `le` is true of two numbers exactly where the first is at most the second
pub le_is : (a b : ℕ) → IsTrueOf basics le (num a ∷ num b ∷ []) ↔ (a ≤ b)
le_is a b = (
  (λ g. at_most_to a b (one_for_some (λ n. (level n).truth le (num a ∷ num b ∷ [])) (truth_rises meaning [] le (num a ∷ num b ∷ [])) (is_at_most a b) true (suc b, le_at a b) g)),
  (λ less. subst (λ (t : Bool). (n : ℕ) × Gives ((level n).truth le (num a ∷ num b ∷ [])) t) (at_most_from a b less) (suc b, le_at a b)),
)
