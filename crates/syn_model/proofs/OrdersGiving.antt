-- An order gives a truth value on all values of its sorts, where the symbols before it give something.
use Rattle.std.proofs.Common.{◌≡◌, ℕ, zero, suc, ◌+◌, ◌-◌, ◌≤◌, Bool, List, [], ◌∷◌, ◌++◌, All, Option, Some, None, get_or, length, length-append, nat_lt, take, drop, slice_get, refl, sym, ap, ap₂, subst, ◌∙◌, arith}
use Rattle.std.specs.Option.{option_and_then, unwrap_or}
use Rattle.syn_term.specs.declared.sorts.Sort.{Sort}
use Rattle.syn_term.specs.declared.sorts.Sort.TheVariants as sort
use Rattle.syn_term.specs.declared.sorts.Sym.{Sym}
use Rattle.syn_term.specs.declared.sorts.SymId.{SymId}
use Rattle.syn_term.specs.declared.sorts.Var.{Var}
use Rattle.syn_term.specs.declared.term.Node.TheVariants as node
use Rattle.syn_term.specs.declared.term.Node.TheViews as view
use Rattle.syn_term.specs.Symbols.{SymbolTable, symbol_at}
use Rattle.syn_term.specs.Terms.{IsApplication, TermTree, sort_of}
use Rattle.syn_form.specs.Plain.{IsSorted}
use Rattle.syn_form.specs.Trees.{term_vars}
use Rattle.syn_form.proofs.SortedTerms.{application_sorted}
use Rattle.syn_form.proofs.TermNodes.{by_term_cases}
use Rattle.syn_value.specs.declared.tree.ValueTree.{ValueTree}
use Rattle.syn_value.specs.declared.tree.ValueTree.TheVariants as tree
use Rattle.syn_value.specs.Values.{OfSort, number_of}
use Rattle.syn_value.proofs.Trees.{number_of-Num}
use Rattle.syn_model.specs.Calls.{Meaning, by_measure, half, numbered_values, reading_at, smaller, smaller_values}
use Rattle.syn_model.specs.Clauses.{UsesTerm}
use Rattle.syn_model.specs.Declaring.{IsNumberedIn}
use Rattle.syn_model.specs.Evaluation.{Counted, after, evaluate_term, free, with_turns}
use Rattle.syn_model.specs.Truth.{OfSorts}
use Rattle.syn_model.proofs.DeeperCalls.{term_deeper}
use Rattle.syn_model.proofs.Given.{Given}
use Rattle.syn_model.proofs.FittingArguments.{of_sorts_at, of_sorts_length}
use Rattle.syn_model.proofs.SortedEvaluation.{Able, GivesOn, IsAny, value_given}
use Rattle.syn_model.proofs.SortedValues.{number_value}
use Rattle.syn_model.proofs.Using.{uses_app, uses_var}

-- a sorted term doesn't use a symbol that isn't in the table
pub uses_none : (table : SymbolTable) (own : SymId) → symbol_at table own ≡ None → (t : TermTree) → IsSorted table t → UsesTerm own None t
uses_none table own free = by_term_cases (λ t. IsSorted table t → UsesTerm own None t)
    (λ p x h. uses_var own None (node.Var p x) p x refl)
    (λ p f args held h.
    let s = (application_sorted table (view.App p f args) p f args args args refl refl refl).0 h in
    let a : IsApplication table f args = s.0.0 in
    (uses_app own None (view.App p f args) p f args args args refl refl refl).0
    ((λ e. let never : None ≡ Some a.sym = sym free ∙ (ap (symbol_at table) (sym e) ∙ a.is) in absurd (cc)), λ k d lt. held k d lt (s.1 k d lt)))

-- half of twice a number
half_twice : (n : ℕ) → half (n + n) ≡ n
half_twice zero = refl
half_twice (suc n) =
    let e : suc n + suc n ≡ suc (suc (n + n)) = omega arith in
    ap half e ∙ ap suc (half_twice n)

module _ (table : SymbolTable) where
  -- the front and the rest of values of two lists of sorts
  front_of : (ss ts : List Sort) (vs : List ValueTree) → OfSorts table (ss ++ ts) vs → OfSorts table ss (take (length ss) vs) × OfSorts table ts (drop (length ss) vs)
  front_of [] ts [] h = (tt, h)
  front_of [] ts (v ∷ vs) h = (tt, h)
  front_of (s ∷ ss) ts [] h = absurd h
  front_of (s ∷ ss) ts (v ∷ vs) h = let r = front_of ss ts vs h.1 in ((h.0, r.0), r.1)

  -- a variable that is numbered among the sorts is read as a value of its sort
  numbered_sorted : (ss : List Sort) (vs : List ValueTree) (x : Var) → OfSorts table ss vs → IsNumberedIn ss x → OfSort table x.sort (numbered_values vs x.number)
  numbered_sorted ss vs x h is = by x.number is.0 is.1
    where
      by : (n : ℕ) → 1 ≤ n → slice_get ss (n - 1) ≡ Some x.sort → OfSort table x.sort (numbered_values vs n)
      by zero lt e = absurd (omega (arith, lt))
      by (suc n) lt e =
          let same : suc n - 1 ≡ n = omega arith in
          let r = of_sorts_at table ss vs n x.sort h (ap (slice_get ss) (sym same) ∙ e) in
          subst (OfSort table x.sort) (sym (ap (λ (o : Option ValueTree). unwrap_or o (tree.Num 0)) r.1)) r.2

module _ (m : Meaning) (args : List Sort) (measure : TermTree) (own : SymId) (free : symbol_at m.table own ≡ None) (sorted : IsSorted m.table measure) (number : sort_of m.table measure ≡ Some sort.Nat) (over : All (IsNumberedIn args) (term_vars measure))
    (gives : (f : SymId) (s : Sym) (vs : List ValueTree) → symbol_at m.table f ≡ Some s → OfSorts m.table s.args vs → GivesOn m [] f s.result vs) where
  able : (vs : List ValueTree) → Able m [] (numbered_values vs) own None
  able vs = record { others = λ f s ws at other h. gives f s ws at h; itself = λ r s ws e at h is. absurd (cc) }

  -- the measure gives a number on values of the sorts
  measured : (vs : List ValueTree) → OfSorts m.table args vs → Given (OfSort m.table sort.Nat) (λ n. evaluate_term (reading_at m n []) (numbered_values vs) measure)
  measured vs h =
      let vars : All (λ (x : Var). OfSort m.table x.sort (numbered_values vs x.number)) (term_vars measure) = λ k d lt. numbered_sorted m.table args vs (get_or (term_vars measure) k d) h (over k d lt) in
      value_given m [] (numbered_values vs) own None (able vs) measure sorted (uses_none m.table own free measure sorted) vars sort.Nat number

  compared : (v w : Counted ValueTree) → OfSort m.table sort.Nat v.result → OfSort m.table sort.Nat w.result → (c : Counted Bool) × (smaller_values v w ≡ Some c)
  compared v w a b =
      let x = number_value m.table v.result a in
      let y = number_value m.table w.result b in
      let first : number_of v.result ≡ Some x.0 = ap number_of x.1 ∙ number_of-Num x.0 in
      let second : number_of w.result ≡ Some y.0 = ap number_of y.1 ∙ number_of-Num y.0 in
      (with_turns (v.turns + w.turns) (record { result = nat_lt x.0 y.0; turns = 0 }), ap₂ (λ (o p : Option ℕ). after (v.turns + w.turns) (smaller o p)) first second)

  -- so the order gives a truth value
  pub order_given : (vs : List ValueTree) → OfSorts m.table (args ++ args) vs → Given IsAny (λ n. by_measure (reading_at m n []) vs measure)
  order_given vs h =
      let parts = front_of m.table args args vs h in
      let many : length vs ≡ length args + length args = of_sorts_length m.table (args ++ args) vs h ∙ length-append args args in
      let middle : half (length vs) ≡ length args = ap half many ∙ half_twice (length args) in
      let first = measured (take (half (length vs)) vs) (subst (λ k. OfSorts m.table args (take k vs)) (sym middle) parts.0) in
      let second = measured (drop (half (length vs)) vs) (subst (λ k. OfSorts m.table args (drop k vs)) (sym middle) parts.1) in
      let order : first.nesting + second.nesting ≡ second.nesting + first.nesting = omega arith in
      let n = second.nesting + first.nesting in
      let front = numbered_values (take (half (length vs)) vs) in
      let back = numbered_values (drop (half (length vs)) vs) in
      let a : evaluate_term (reading_at m n []) front measure ≡ Some first.counted = term_deeper m first.nesting second.nesting [] front measure first.counted first.is in
      let b : evaluate_term (reading_at m n []) back measure ≡ Some second.counted = subst (λ j. evaluate_term (reading_at m j []) back measure ≡ Some second.counted) order (term_deeper m second.nesting first.nesting [] back measure second.counted second.is) in
      let c = compared first.counted second.counted first.good second.good in
      record {
        nesting = n;
        counted = c.0;
        is = ap (option_and_then (λ v. option_and_then (smaller_values v) (evaluate_term (reading_at m n []) back measure))) a ∙ (ap (option_and_then (smaller_values first.counted)) b ∙ c.1);
        good = tt;
      }
