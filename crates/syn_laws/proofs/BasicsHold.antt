-- The axioms of the theory `basics` hold, and those of a theory that states `0 = 1` don't.
use Rattle.std.proofs.Common.{◌≡◌, ℕ, zero, suc, ◌+◌, ◌≤◌, nat_lt, Bool, true, false, List, [], ◌∷◌, ◌++◌, Option, Some, codes, length, map, refl, sym, ap, subst, ◌∙◌, arith}
use Rattle.std.specs.List.{AllByRecursion}
use Rattle.std.proofs.lemmas.Bool.Decides.{nat_tests}
use Rattle.std.proofs.lemmas.List.Elements.{All-from_recursion, All-head}
use Rattle.syn_term.specs.declared.sorts.Sort.TheVariants.{Nat}
use Rattle.syn_term.specs.declared.sorts.Sym.{Sym}
use Rattle.syn_term.specs.declared.sorts.SymId.{SymId}
use Rattle.syn_term.specs.Symbols.{symbol_at}
use Rattle.syn_term.specs.Terms.{TermTree, application, nowhere}
use Rattle.syn_form.specs.declared.trees.QForm.TheVariants as qform
use Rattle.syn_form.specs.declared.trees.QForm.TheViews as qview
use Rattle.syn_form.specs.Trees.{QFormTree}
use Rattle.syn_value.specs.declared.tree.ValueTree.{ValueTree, out-ValueTree}
use Rattle.syn_value.specs.Values.{OfSort, number_of}
use Rattle.syn_value.proofs.Trees.{number_of-Num}
use Rattle.syn_model.specs.declared.decl.Decl.{Decl}
use Rattle.syn_model.specs.declared.decl.Decl.TheVariants as decl
use Rattle.syn_model.specs.Calls.{numbered_values, reading_at}
use Rattle.syn_model.specs.Evaluation.{Counted, Environment, after, evaluate_term, on_all}
use Rattle.syn_model.specs.Tables.{rel_symbol, table_of}
use Rattle.syn_model.specs.Truth.{AxiomsHold, HasValue, HaveOneValue, Holds, HoldsMono, IsTrueAtom, IsTrueIn, IsTrueOf, OfSorts, read_as, theory_meaning}
use Rattle.syn_model.proofs.EvaluationEquations.{evaluate_term-App, evaluate_term-Var}
use Rattle.syn_model.proofs.EvaluationRows.{in_turns, num, number_variable, successor, symbol, x, zero_term}
use Rattle.syn_model.proofs.OneOutcome.{have_one_value}
use Rattle.syn_model.proofs.SortedValues.{number_of_sort, number_value}
use Rattle.syn_model.proofs.TruthEquations.{true-All, true-Atom, true-Equal, true-Not, true-Or}
use Rattle.syn_laws.proofs.Basics.{all_x, basics, below, below_next, binder, cases_body, down_body, gap_body, laws, le, le_is, level, low_body, meaning, pred, pred_gives, refl_body, succ_gives, total_body, trans, zero_value}
use Rattle.syn_laws.proofs.GivenForSome.{AllGive, all_one, apart, for_some_along, one_for_some, put_together}
use Rattle.syn_laws.proofs.SubstitutedTruth.{HasValueIn, term_at, term_rises, truth_rises, value_rises}
use denote.Hole.Carrier

-- what is equal to something that holds
held : (A B : Type 0) → A ≡ B → B → A
held A B e b = subst (λ (Z : Type 0). Z) (sym e) b

holding : (A B : Type 0) → A ≡ B → A → B
holding A B e a = subst (λ (Z : Type 0). Z) e a

abbrev IsTrueHere : Environment → QFormTree → Type 0
IsTrueHere env a = IsTrueIn meaning [] env a

abbrev Gets : Environment → TermTree → ValueTree → Type 0
Gets env t v = HasValueIn meaning [] env t v

-- each of the terms has its value
abbrev AllGet : Environment → List TermTree → List ValueTree → Type 0
AllGet env ts vs = AllGive (term_at meaning [] env) ts vs

-- values of terms
gets_variable : (env : Environment) (k : ℕ) → Gets env (x k) (env k)
gets_variable env k = (0, (0, evaluate_term-Var (level 0) env nowhere (number_variable k)))

gets_zero : (env : Environment) → Gets env zero_term (num 0)
gets_zero env = (0, (0, evaluate_term-App (level 0) env nowhere (symbol 0) [] ∙ ap (after 0) (zero_value 0)))

gets_applied : (env : Environment) (f : SymId) (t : TermTree) (v w : ValueTree) → Gets env t v → HasValue basics f (v ∷ []) w → Gets env (application f (t ∷ [])) w
gets_applied env f t v w g h =
    for_some_along (λ n. on_all ((level n).value f) (map (evaluate_term (level n) env) (t ∷ []))) (term_at meaning [] env (application f (t ∷ []))) w
    (λ n. sym (evaluate_term-App (level n) env nowhere f (t ∷ [])))
    (put_together (λ n. (level n).value f) (term_at meaning [] env) (t ∷ []) w (term_rises meaning [] env) (value_rises meaning [] f) (v ∷ []) (g, tt) h)

gets_successor : (env : Environment) (t : TermTree) (n : ℕ) → Gets env t (num n) → Gets env (successor t) (num (suc n))
gets_successor env t n g = gets_applied env (symbol 1) t (num n) (num (suc n)) g (succ_gives n)

gets_predecessor : (env : Environment) (t : TermTree) (n : ℕ) → Gets env t (num (suc n)) → Gets env (application pred (t ∷ [])) (num n)
gets_predecessor env t n g = gets_applied env pred t (num (suc n)) (num n) g (pred_gives n)

-- truth of formulas
true_equal : (env : Environment) (s t : TermTree) (v : ValueTree) → Gets env s v → Gets env t v → IsTrueHere env (qform.Equal s t)
true_equal env s t v g h = held (IsTrueHere env (qform.Equal s t)) (HaveOneValue meaning [] env s t) (true-Equal meaning [] env s t) (have_one_value meaning [] env s t v g.0 h.0 g.1 h.1)

true_atom : (env : Environment) (r : SymId) (s t : TermTree) (v w : ValueTree) → Gets env s v → Gets env t w → IsTrueOf basics r (v ∷ w ∷ []) → IsTrueHere env (qform.Atom r (s ∷ t ∷ []))
true_atom env r s t v w g h is =
    held (IsTrueHere env (qform.Atom r (s ∷ t ∷ []))) (IsTrueAtom meaning [] env r (s ∷ t ∷ [])) (true-Atom meaning [] env r (s ∷ t ∷ []))
    (put_together (λ n. (level n).truth r) (term_at meaning [] env) (s ∷ t ∷ []) true (term_rises meaning [] env) (truth_rises meaning [] r) (v ∷ w ∷ []) (g, (h, tt)) is)

of_true_atom : (env : Environment) (r : SymId) (s t : TermTree) (v w : ValueTree) → Gets env s v → Gets env t w → IsTrueHere env (qform.Atom r (s ∷ t ∷ [])) → IsTrueOf basics r (v ∷ w ∷ [])
of_true_atom env r s t v w g h is =
    let p = apart (λ n. (level n).truth r) (term_at meaning [] env) (s ∷ t ∷ []) true (holding (IsTrueHere env (qform.Atom r (s ∷ t ∷ []))) (IsTrueAtom meaning [] env r (s ∷ t ∷ [])) (true-Atom meaning [] env r (s ∷ t ∷ [])) is) in
    let given : AllGet env (s ∷ t ∷ []) (v ∷ w ∷ []) = (g, (h, tt)) in
    subst (λ vs. IsTrueOf basics r vs) (sym (all_one (term_at meaning [] env) (term_rises meaning [] env) (s ∷ t ∷ []) (v ∷ w ∷ []) p.0 given p.1)) p.2

abbrev AllFalse : Environment → List QFormTree → Type 0
AllFalse env all = AllByRecursion (λ a. IsTrueHere env a → ⊥) all

true_first : (env : Environment) (a b : QFormTree) → IsTrueHere env a → IsTrueHere env (qview.Or (a ∷ b ∷ []))
true_first env a b h = held (IsTrueHere env (qview.Or (a ∷ b ∷ []))) (AllFalse env (a ∷ b ∷ []) → ⊥) (true-Or meaning [] env (a ∷ b ∷ [])) (λ n. n.0 h)

true_second : (env : Environment) (a b : QFormTree) → IsTrueHere env b → IsTrueHere env (qview.Or (a ∷ b ∷ []))
true_second env a b h = held (IsTrueHere env (qview.Or (a ∷ b ∷ []))) (AllFalse env (a ∷ b ∷ []) → ⊥) (true-Or meaning [] env (a ∷ b ∷ [])) (λ n. n.1.0 h)

-- of all numbers, of all values of the sort
abbrev ForAll : Environment → ℕ → QFormTree → Type 0
ForAll env k a = (v : ValueTree) → OfSort meaning.table Nat v → IsTrueHere (read_as env k v) a

true_all : (env : Environment) (k : ℕ) (name : List ℕ) (a : QFormTree) → ((n : ℕ) → IsTrueHere (read_as env k (num n)) a) → IsTrueHere env (qview.All (binder k name) a)
true_all env k name a h =
    held (IsTrueHere env (qview.All (binder k name) a)) (ForAll env k a) (true-All meaning [] env (binder k name) a)
    (λ v of. let p = number_value meaning.table v of in subst (λ w. IsTrueHere (read_as env k w) a) (sym p.1) (h p.0))

-- no variable has a value yet
abbrev start : Environment
start = numbered_values []

-- the environment in which x is the number
abbrev at_x : ℕ → Environment
at_x n = read_as start 1 (num n)

cases_at : (n : ℕ) → IsTrueHere (at_x n) cases_body
cases_at zero = true_first (at_x 0) (qform.Equal (x 1) zero_term) (qform.Equal (x 1) (successor (application pred (x 1 ∷ [])))) (true_equal (at_x 0) (x 1) zero_term (num 0) (gets_variable (at_x 0) 1) (gets_zero (at_x 0)))
cases_at (suc n) =
    let env = at_x (suc n) in
    true_second env (qform.Equal (x 1) zero_term) (qform.Equal (x 1) (successor (application pred (x 1 ∷ []))))
    (true_equal env (x 1) (successor (application pred (x 1 ∷ []))) (num (suc n)) (gets_variable env 1) (gets_successor env (application pred (x 1 ∷ [])) n (gets_predecessor env (x 1) n (gets_variable env 1))))

down_at : (n : ℕ) → IsTrueHere (at_x n) down_body
down_at zero = true_first (at_x 0) (qform.Equal (x 1) zero_term) (qform.Atom below (application pred (x 1 ∷ []) ∷ x 1 ∷ [])) (true_equal (at_x 0) (x 1) zero_term (num 0) (gets_variable (at_x 0) 1) (gets_zero (at_x 0)))
down_at (suc n) =
    let env = at_x (suc n) in
    true_second env (qform.Equal (x 1) zero_term) (qform.Atom below (application pred (x 1 ∷ []) ∷ x 1 ∷ []))
    (true_atom env below (application pred (x 1 ∷ [])) (x 1) (num n) (num (suc n)) (gets_predecessor env (x 1) n (gets_variable env 1)) (gets_variable env 1) (below_next n))

-- `le` of two terms that have numbers
true_le : (env : Environment) (s t : TermTree) (a b : ℕ) → Gets env s (num a) → Gets env t (num b) → a ≤ b → IsTrueHere env (qform.Atom le (s ∷ t ∷ []))
true_le env s t a b g h less = true_atom env le s t (num a) (num b) g h ((le_is a b).1 less)

refl_at : (n : ℕ) → IsTrueHere (at_x n) refl_body
refl_at n = true_le (at_x n) (x 1) (x 1) n n (gets_variable (at_x n) 1) (gets_variable (at_x n) 1) (omega arith)

low_at : (n : ℕ) → IsTrueHere (at_x n) low_body
low_at n = true_le (at_x n) (x 1) (successor (x 1)) n (suc n) (gets_variable (at_x n) 1) (gets_successor (at_x n) (x 1) n (gets_variable (at_x n) 1)) (omega arith)

total_by : (a b : ℕ) (t : Bool) → nat_lt b a ≡ t → IsTrueHere (read_as (at_x a) 2 (num b)) total_body
total_by a b true e =
    let env = read_as (at_x a) 2 (num b) in
    let less : b ≤ a = grind (arith, nat_tests) in
    true_second env (qform.Atom le (x 1 ∷ x 2 ∷ [])) (qform.Atom le (x 2 ∷ x 1 ∷ [])) (true_le env (x 2) (x 1) b a (gets_variable env 2) (gets_variable env 1) less)
total_by a b false e =
    let env = read_as (at_x a) 2 (num b) in
    let less : a ≤ b = grind (arith, nat_tests) in
    true_first env (qform.Atom le (x 1 ∷ x 2 ∷ [])) (qform.Atom le (x 2 ∷ x 1 ∷ [])) (true_le env (x 1) (x 2) a b (gets_variable env 1) (gets_variable env 2) less)

total_at : (n : ℕ) → IsTrueHere (at_x n) (qview.All (binder 2 (codes "y")) total_body)
total_at n = true_all (at_x n) 2 (codes "y") total_body (λ b. total_by n b (nat_lt b n) refl)

one_not_least : 1 ≤ 0 → ⊥
one_not_least less = absurd (omega arith)

no_least : IsTrueHere start (all_x gap_body) → ⊥
no_least h =
    let all : ForAll start 1 gap_body = holding (IsTrueHere start (all_x gap_body)) (ForAll start 1 gap_body) (true-All meaning [] start (binder 1 (codes "x")) gap_body) h in
    let one : IsTrueHere (at_x 1) gap_body = all (num 1) (number_of_sort meaning.table 1) in
    one_not_least ((le_is 1 0).0 (of_true_atom (at_x 1) le (x 1) zero_term (num 1) (num 0) (gets_variable (at_x 1) 1) (gets_zero (at_x 1)) one))

gap_true : IsTrueHere start (qview.Not (all_x gap_body))
gap_true = held (IsTrueHere start (qview.Not (all_x gap_body))) (IsTrueHere start (all_x gap_body) → ⊥) (true-Not meaning [] start (all_x gap_body)) no_least

-- the monotonicity row is transitivity
le_along : (i j k : ValueTree) → OfSort meaning.table Nat i → OfSort meaning.table Nat j → OfSort meaning.table Nat k → IsTrueOf basics le (j ∷ k ∷ []) → IsTrueOf basics le (i ∷ j ∷ []) → IsTrueOf basics le (i ∷ k ∷ [])
le_along i j k of_i of_j of_k jk ij =
    let p = number_value meaning.table i of_i in
    let q = number_value meaning.table j of_j in
    let r = number_value meaning.table k of_k in
    let first : p.0 ≤ q.0 = (le_is p.0 q.0).0 (subst (λ v. IsTrueOf basics le (num p.0 ∷ v ∷ [])) q.1 (subst (λ v. IsTrueOf basics le (v ∷ j ∷ [])) p.1 ij)) in
    let second : q.0 ≤ r.0 = (le_is q.0 r.0).0 (subst (λ v. IsTrueOf basics le (num q.0 ∷ v ∷ [])) r.1 (subst (λ v. IsTrueOf basics le (v ∷ k ∷ [])) q.1 jk)) in
    let less : p.0 ≤ r.0 = omega arith in
    subst (λ v. IsTrueOf basics le (i ∷ v ∷ [])) (sym r.1) (subst (λ v. IsTrueOf basics le (v ∷ num r.0 ∷ [])) (sym p.1) ((le_is p.0 r.0).1 less))

le_symbol : symbol_at (table_of basics) le ≡ Some (rel_symbol (codes "le") (Nat ∷ Nat ∷ []))
le_symbol = refl

le_sorts : (s : Sym) → symbol_at (table_of basics) le ≡ Some s → s.args ≡ Nat ∷ Nat ∷ []
le_sorts s at = let e : Some s ≡ Some (rel_symbol (codes "le") (Nat ∷ Nat ∷ [])) = sym at ∙ le_symbol in let h : s ≡ rel_symbol (codes "le") (Nat ∷ Nat ∷ []) = cc in ap (λ (z : Sym). z.args) h

moves : (before behind : List ValueTree) (v w : ValueTree) → length before + 1 ≡ 2 → OfSorts (table_of basics) (Nat ∷ Nat ∷ []) (before ++ v ∷ behind) → OfSorts (table_of basics) (Nat ∷ Nat ∷ []) (before ++ w ∷ behind) → IsTrueOf basics le (v ∷ w ∷ []) → IsTrueOf basics le (before ++ v ∷ behind) → IsTrueOf basics le (before ++ w ∷ behind)
moves [] behind v w place of_v of_w vw h = absurd (omega arith)
moves (u ∷ []) [] v w place of_v of_w vw h = le_along u v w of_v.0 of_v.1.0 of_w.1.0 vw h
moves (u ∷ []) (y ∷ behind) v w place of_v of_w vw h = absurd of_v.1.1
moves (u ∷ z ∷ before) behind v w place of_v of_w vw h = absurd (omega arith)

trans_holds : HoldsMono basics trans
trans_holds s before behind v w at place of_v of_w vw h =
    let sorts = le_sorts s at in
    moves before behind v w place (subst (λ ss. OfSorts (table_of basics) ss (before ++ v ∷ behind)) sorts of_v) (subst (λ ss. OfSorts (table_of basics) ss (before ++ w ∷ behind)) sorts of_w) vw h

laws_hold : AllByRecursion (Holds basics) laws
laws_hold = (
  true_all start 1 (codes "x") cases_body cases_at,
  (
    true_all start 1 (codes "x") down_body down_at,
    (
      true_all start 1 (codes "x") refl_body refl_at,
      (true_all start 1 (codes "x") (qview.All (binder 2 (codes "y")) total_body) total_at, (true_all start 1 (codes "x") low_body low_at, (gap_true, (trans_holds, tt)))),
    ),
  ),
)

all_hold : AllByRecursion (Holds basics) basics
all_hold = (tt, (tt, (tt, (tt, (tt, (tt, (tt, (tt, (tt, (tt, (tt, (tt, laws_hold))))))))))))

-- each axiom of `basics`, and its monotonicity row, is true
pub basics_hold : AxiomsHold basics
unfolding AxiomsHold
basics_hold = All-from_recursion (Holds basics) basics all_hold

abbrev zero_is_one : QFormTree
zero_is_one = qform.Equal zero_term (successor zero_term)

abbrev pub bad : List Decl
bad = decl.Axiom (codes "bad") zero_is_one ∷ []

bad_zero_at : (env : Environment) → evaluate_term (reading_at (theory_meaning bad) 0 []) env zero_term ≡ in_turns (num 0) 0
bad_zero_at env = evaluate_term-App (reading_at (theory_meaning bad) 0 []) env nowhere (symbol 0) []

bad_zero : (env : Environment) → HasValueIn (theory_meaning bad) [] env zero_term (num 0)
bad_zero env = (0, (0, bad_zero_at env))

bad_successor : (reading_at (theory_meaning bad) 0 []).value (symbol 1) (num 0 ∷ []) ≡ in_turns (num 1) 1
unfolding out-ValueTree denote.Hole.Carrier.out
bad_successor = refl

bad_one : (env : Environment) → HasValueIn (theory_meaning bad) [] env (successor zero_term) (num 1)
bad_one env =
    let reading = reading_at (theory_meaning bad) 0 [] in
    (0, (1, evaluate_term-App reading env nowhere (symbol 1) (zero_term ∷ []) ∙ (ap (λ (v : Option (Counted ValueTree)). on_all (reading.value (symbol 1)) (v ∷ [])) (bad_zero_at env) ∙ ap (after 0) bad_successor)))

numbers_apart : (v : ValueTree) → num 0 ≡ v → num 1 ≡ v → ⊥
numbers_apart v a b = let h : ◌≡◌ {A = Option ℕ} (Some 0) (Some 1) = sym (number_of-Num 0) ∙ (ap number_of (a ∙ sym b) ∙ number_of-Num 1) in cc

not_one : HaveOneValue (theory_meaning bad) [] start zero_term (successor zero_term) → ⊥
not_one a =
    numbers_apart a.1 (one_for_some (term_at (theory_meaning bad) [] start zero_term) (term_rises (theory_meaning bad) [] start zero_term) (num 0) a.1 (bad_zero start) (a.0, a.2))
    (one_for_some (term_at (theory_meaning bad) [] start (successor zero_term)) (term_rises (theory_meaning bad) [] start (successor zero_term)) (num 1) a.1 (bad_one start) (a.0, a.3))

pub bad_does_not_hold : AxiomsHold bad → ⊥
unfolding AxiomsHold
bad_does_not_hold h = not_one (holding (IsTrueIn (theory_meaning bad) [] start zero_is_one) (HaveOneValue (theory_meaning bad) [] start zero_term (successor zero_term)) (true-Equal (theory_meaning bad) [] start zero_term (successor zero_term)) (All-head (Holds bad) (decl.Axiom (codes "bad") zero_is_one) [] h))
