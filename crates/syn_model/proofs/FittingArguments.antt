-- The arguments of a clause on values of their sorts: which values its variables have, and when the arguments fit.
use Rattle.std.proofs.Common.{◌≡◌, ℕ, zero, suc, ◌+◌, List, [], ◌∷◌, ◌++◌, All, Option, Some, None, map, length, length-append, slice_get, refl, sym, ap, ap₂, subst, subst₂, ◌∙◌, append_assoc, arith}
use Rattle.std.specs.List.{flat_map, range_with_len}
use Rattle.std.specs.Option.{option_and_then, option_map, unwrap_or}
use Rattle.std.proofs.lemmas.List.{length-map, map-append}
use Rattle.std.proofs.lemmas.List.Elements.{All-cons, All-head, All-nil, All-tail}
use Rattle.syn_term.specs.declared.sorts.Head.{Head}
use Rattle.syn_term.specs.declared.sorts.Head.TheVariants as head
use Rattle.syn_term.specs.declared.sorts.Sort.{Sort}
use Rattle.syn_term.specs.declared.sorts.Sym.{Sym}
use Rattle.syn_term.specs.declared.sorts.SymId.{SymId}
use Rattle.syn_term.specs.declared.sorts.Var.{Var}
use Rattle.syn_term.specs.declared.term.Node.TheViews as view
use Rattle.syn_term.specs.Symbols.{SymbolTable, symbol_at}
use Rattle.syn_term.specs.Terms.{IsApplication, TermTree, args_of, head_of, sort_of}
use Rattle.syn_term.proofs.Trees.{fold-Var}
use Rattle.syn_form.specs.Plain.{IsSorted}
use Rattle.syn_form.specs.Trees.{term_vars, term_vars_step}
use Rattle.syn_form.proofs.SortedTerms.{application_sorted}
use Rattle.syn_form.proofs.Sorting.{sort_of-application, sort_of-variable}
use Rattle.syn_form.proofs.TermNodes.{by_term_cases}
use Rattle.syn_value.specs.declared.tree.ValueTree.{ValueTree, out-ValueTree}
use Rattle.syn_value.specs.declared.tree.ValueTree.TheVariants as tree
use Rattle.syn_value.specs.Values.{OfSort}
use Rattle.syn_model.specs.declared.patterns.Pattern.{Pattern}
use Rattle.syn_model.specs.Calls.{fitting, numbered_values, parts_by, taken_apart}
use Rattle.syn_model.specs.Clauses.{HasArguments, IsVariable, last_var}
use Rattle.syn_model.specs.Headings.{pattern_at, patterns_from}
use Rattle.syn_model.specs.Truth.{OfSorts}
use Rattle.syn_model.proofs.BareClauses.{args-App, head-App, head-Var}
use Rattle.syn_model.proofs.Over.{application_vars}
use Rattle.syn_model.proofs.SortedValues.{AllMade, IsMadeAs, last_value, made_at, taken_fits}

-- what two lists are that were put together
pub record Appended {A : Type 0} (o p : Option (List A)) (ws : List A) : Type 0 where
  pub front : List A
  pub rest : List A
  pub is_front : o ≡ Some front
  pub is_rest : p ≡ Some rest
  pub whole : ws ≡ front ++ rest

pub appended : {A : Type 0} (o p : Option (List A)) (ws : List A) → option_and_then (λ front. option_map (λ rest. front ++ rest) p) o ≡ Some ws → Appended o p ws
appended None p ws e = absurd (cc)
appended (Some front) None ws e = absurd (cc)
appended (Some front) (Some rest) ws e = record { front = front; rest = rest; is_front = refl; is_rest = refl; whole = cc }

-- lists of one length in front, behind which something stands
pub same_fronts : {X : Type 0} (xs ys ps qs : List X) → length xs ≡ length ps → xs ++ ys ≡ ps ++ qs → (xs ≡ ps) × (ys ≡ qs)
same_fronts [] ys [] qs n e = (refl, e)
same_fronts [] ys (p ∷ ps) qs n e = absurd (omega (arith, n))
same_fronts (x ∷ xs) ys [] qs n e = absurd (omega (arith, n))
same_fronts {X} (x ∷ xs) ys (p ∷ ps) qs n e =
    let m : length xs ≡ length ps = omega (arith, n) in
    let first : x ≡ p = cc in
    let others : xs ++ ys ≡ ps ++ qs = cc in
    let r = same_fronts xs ys ps qs m others in
    (ap₂ (λ (z : X) (zs : List X). z ∷ zs) first r.0, r.1)

abbrev the_pattern : ℕ → SymId → Pattern
the_pattern n f = record { place = n; symbol = f }

module _ (table : SymbolTable) where
  pub of_sorts_append : (ss ts : List Sort) (vs ws : List ValueTree) → OfSorts table ss vs → OfSorts table ts ws → OfSorts table (ss ++ ts) (vs ++ ws)
  of_sorts_append [] ts [] ws h k = k
  of_sorts_append [] ts (v ∷ vs) ws h k = absurd h
  of_sorts_append (s ∷ ss) ts [] ws h k = absurd h
  of_sorts_append (s ∷ ss) ts (v ∷ vs) ws h k = (h.0, of_sorts_append ss ts vs ws h.1 k)

  pub of_sorts_length : (ss : List Sort) (vs : List ValueTree) → OfSorts table ss vs → length vs ≡ length ss
  of_sorts_length [] [] h = refl
  of_sorts_length [] (v ∷ vs) h = absurd h
  of_sorts_length (s ∷ ss) [] h = absurd h
  of_sorts_length (s ∷ ss) (v ∷ vs) h = ap suc (of_sorts_length ss vs h.1)

  -- the value at a place is of the sort at the place
  pub of_sorts_at : (ss : List Sort) (vs : List ValueTree) (k : ℕ) (s : Sort) → OfSorts table ss vs → slice_get ss k ≡ Some s → (v : ValueTree) × (slice_get vs k ≡ Some v) × OfSort table s v
  of_sorts_at [] vs k s h e = absurd (cc)
  of_sorts_at (t ∷ ss) [] k s h e = absurd h
  of_sorts_at (t ∷ ss) (v ∷ vs) zero s h e = let same : t ≡ s = cc in (v, refl, subst (λ (z : Sort). OfSort table z v) same h.0)
  of_sorts_at (t ∷ ss) (v ∷ vs) (suc k) s h e = of_sorts_at ss vs k s h.1 e

  abbrev pub var_sort : Var → Sort
  var_sort x = x.sort

  -- a term with a variable at its top
  variable_parts : (x : Var) (t : TermTree) → head_of t ≡ head.Var x → (term_vars t ≡ x ∷ []) × (sort_of table t ≡ Some x.sort)
  variable_parts x = by_term_cases (λ t. head_of t ≡ head.Var x → (term_vars t ≡ x ∷ []) × (sort_of table t ≡ Some x.sort))
      (λ p y e. let k : head.Var y ≡ head.Var x = sym (head-Var p y) ∙ e in let same : y ≡ x = cc in (fold-Var term_vars_step p y ∙ ap (λ (z : Var). z ∷ []) same, sort_of-variable table p y ∙ ap (λ (z : Var). Some z.sort) same))
      (λ p f args held e. let k : head.Sym f ≡ head.Var x = sym (head-App p f args) ∙ e in absurd (cc))

  -- variables in a line have the sorts of the arguments
  variable_sorts : (ts : List TermTree) (ss : List Sort) → All IsVariable ts → map (sort_of table) ts ≡ map Some ss → map var_sort (flat_map term_vars ts) ≡ ss
  variable_sorts [] [] h e = refl
  variable_sorts [] (s ∷ ss) h e = absurd (cc)
  variable_sorts (t ∷ ts) [] h e = absurd (cc)
  variable_sorts (t ∷ ts) (s ∷ ss) h e =
      let x = All-head IsVariable t ts h in
      let p = variable_parts x.0 t x.1 in
      let first : sort_of table t ≡ Some s = cc in
      let others : map (sort_of table) ts ≡ map Some ss = cc in
      let same : x.0.sort ≡ s = let k : Some x.0.sort ≡ Some s = sym p.1 ∙ first in cc in
      let rest : map var_sort (flat_map term_vars ts) ≡ ss = variable_sorts ts ss (All-tail IsVariable t ts h) others in
      ap (λ (z : List Var). map var_sort (z ++ flat_map term_vars ts)) p.0 ∙ ap₂ (λ (z : Sort) (zs : List Sort). z ∷ zs) same rest

  -- a flat sorted term, with what stands at its top
  pub record Flat (t : TermTree) (s : Sort) : Type 0 where
    pub sorted : IsSorted table t
    pub flat : All IsVariable (args_of t)
    pub of : sort_of table t ≡ Some s

  -- a symbol at its top is there, has this result, and the variables are of the sorts of its arguments
  pub record AtTop (t : TermTree) (f : SymId) (s : Sort) : Type 0 where
    pub symbol : Sym
    pub is : symbol_at table f ≡ Some symbol
    pub result : symbol.result ≡ Some s
    pub vars : map var_sort (term_vars t) ≡ symbol.args

  pub at_top : (s : Sort) (f : SymId) (t : TermTree) → Flat t s → head_of t ≡ head.Sym f → AtTop t f s
  at_top s f = by_term_cases (λ t. Flat t s → head_of t ≡ head.Sym f → AtTop t f s)
      (λ p x h e. let k : head.Var x ≡ head.Sym f = sym (head-Var p x) ∙ e in absurd (cc))
      (λ p g args held h e.
      let t : TermTree = view.App p g args in
      let k : head.Sym g ≡ head.Sym f = sym (head-App p g args) ∙ e in
      let same : g ≡ f = cc in
      let a : IsApplication table g args = ((application_sorted table t p g args args args refl refl refl).0 h.sorted).0.0 in
      let flat : All IsVariable args = subst (All IsVariable) (args-App p g args) h.flat in
      record {
        symbol = a.sym;
        is = subst (λ (z : SymId). symbol_at table z ≡ Some a.sym) same a.is;
        result = sym (ap (option_and_then (λ (z : Sym). z.result)) a.is) ∙ (sym (sort_of-application table p g args) ∙ h.of);
        vars = ap (map var_sort) (application_vars t p g args args refl refl) ∙ variable_sorts args a.sym.args flat a.sorts;
      })

  -- the arguments of a clause are flat sorted terms of the sorts
  abbrev pub AreFlat : List TermTree → List Sort → Type 0
  AreFlat [] [] = Unit {0}
  AreFlat [] (s ∷ ss) = ⊥
  AreFlat (t ∷ ts) [] = ⊥
  AreFlat (t ∷ ts) (s ∷ ss) = Flat t s × AreFlat ts ss

  are_flat : (ts : List TermTree) (ss : List Sort) → All (IsSorted table) ts → map (sort_of table) ts ≡ map Some ss → All (λ t. All IsVariable (args_of t)) ts → AreFlat ts ss
  are_flat [] [] a e f = tt
  are_flat [] (s ∷ ss) a e f = absurd (cc)
  are_flat (t ∷ ts) [] a e f = absurd (cc)
  are_flat (t ∷ ts) (s ∷ ss) a e f =
      let first : sort_of table t ≡ Some s = cc in
      let others : map (sort_of table) ts ≡ map Some ss = cc in
      (record { sorted = All-head (IsSorted table) t ts a; flat = All-head (λ u. All IsVariable (args_of u)) t ts f; of = first }, are_flat ts ss (All-tail (IsSorted table) t ts a) others (All-tail (λ u. All IsVariable (args_of u)) t ts f))

  pub flat_of : (ss : List Sort) (ts : List TermTree) → HasArguments table ss ts → AreFlat ts ss
  flat_of ss ts h = are_flat ts ss h.sorted h.of_sorts h.flat

  -- the argument at a place is of the sort at the place
  pub flat_at : (ts : List TermTree) (ss : List Sort) (k : ℕ) (t : TermTree) → AreFlat ts ss → slice_get ts k ≡ Some t → (s : Sort) × (slice_get ss k ≡ Some s) × Flat t s
  flat_at [] ss k t a e = absurd (cc)
  flat_at (u ∷ ts) [] k t a e = absurd a
  flat_at (u ∷ ts) (s ∷ ss) zero t a e = let same : u ≡ t = cc in (s, refl, subst (λ (z : TermTree). Flat z s) same a.0)
  flat_at (u ∷ ts) (s ∷ ss) (suc k) t a e = flat_at ts ss k t a.1 e

  -- as many arguments as sorts
  pub flat_length : (ts : List TermTree) (ss : List Sort) → AreFlat ts ss → length ts ≡ length ss
  flat_length [] [] a = refl
  flat_length [] (s ∷ ss) a = absurd a
  flat_length (t ∷ ts) [] a = absurd a
  flat_length (t ∷ ts) (s ∷ ss) a = ap suc (flat_length ts ss a.1)

  module _ (all : AllMade table) where
    -- the values that an argument takes from a value of its sort are of the sorts of its variables
    argument_fits : (t : TermTree) (s : Sort) (v : ValueTree) (qs : List ValueTree) (h : Head) → head_of t ≡ h → Flat t s → OfSort table s v → parts_by table h v ≡ Some qs → OfSorts table (map var_sort (term_vars t)) qs
    argument_fits t s v qs (head.Var x) top h of e =
        let p = variable_parts x t top in
        let same : x.sort ≡ s = let k : Some x.sort ≡ Some s = sym p.1 ∙ h.of in cc in
        let one : v ∷ [] ≡ qs = cc in
        subst₂ (OfSorts table) (sym (ap (map var_sort) p.0 ∙ ap (λ (z : Sort). z ∷ []) same)) one (of, tt)
    argument_fits t s v qs (head.Sym f) top h of e =
        let a = at_top s f t h top in
        let made : IsMadeAs table.sorts a.symbol.kind a.symbol.args (Some s) = subst (IsMadeAs table.sorts a.symbol.kind a.symbol.args) a.result (made_at table f a.symbol all a.is) in
        let taken : taken_apart a.symbol.kind (out-ValueTree v) ≡ Some qs = sym (ap (option_and_then (λ (z : Sym). taken_apart z.kind (out-ValueTree v))) a.is) ∙ e in
        subst (λ (z : List Sort). OfSorts table z qs) (sym a.vars) (taken_fits table s v of a.symbol.kind a.symbol.args qs made taken)

    -- the values that arguments take are of the sorts of their variables
    pub values_fit : (ts : List TermTree) (ss : List Sort) (vs ws : List ValueTree) → AreFlat ts ss → OfSorts table ss vs → fitting table ts vs ≡ Some ws → OfSorts table (map var_sort (flat_map term_vars ts)) ws
    values_fit [] [] [] ws a h e = let k : [] ≡ ws = cc in subst (OfSorts table []) k tt
    values_fit [] [] (v ∷ vs) ws a h e = absurd h
    values_fit [] (s ∷ ss) vs ws a h e = absurd a
    values_fit (t ∷ ts) [] vs ws a h e = absurd a
    values_fit (t ∷ ts) (s ∷ ss) [] ws a h e = absurd h
    values_fit (t ∷ ts) (s ∷ ss) (v ∷ vs) ws a h e =
        let p = appended (parts_by table (head_of t) v) (fitting table ts vs) ws e in
        let first : OfSorts table (map var_sort (term_vars t)) p.front = argument_fits t s v p.front (head_of t) refl a.0 h.0 p.is_front in
        let others : OfSorts table (map var_sort (flat_map term_vars ts)) p.rest = values_fit ts ss vs p.rest a.1 h.1 p.is_rest in
        subst₂ (OfSorts table) (sym (map-append var_sort (term_vars t) (flat_map term_vars ts))) (sym p.whole) (of_sorts_append (map var_sort (term_vars t)) (map var_sort (flat_map term_vars ts)) p.front p.rest first others)

    module _ (read : Var → ValueTree) where
      abbrev PartRead : TermTree → ValueTree → Type 0
      PartRead t v = (qs : List ValueTree) × (parts_by table (head_of t) v ≡ Some qs) × (map read (term_vars t) ≡ qs)

      -- what the variables of one argument are read as, where those of all are read as the values that all take
      pub part_read : (ts : List TermTree) (ss : List Sort) (vs ws : List ValueTree) → AreFlat ts ss → OfSorts table ss vs → fitting table ts vs ≡ Some ws → map read (flat_map term_vars ts) ≡ ws → (k : ℕ) (t : TermTree) (v : ValueTree) → slice_get ts k ≡ Some t → slice_get vs k ≡ Some v → (qs : List ValueTree) × (parts_by table (head_of t) v ≡ Some qs) × (map read (term_vars t) ≡ qs)
      part_read [] ss vs ws a h e r k u v at there = absurd (cc)
      part_read (t ∷ ts) [] vs ws a h e r k u v at there = absurd a
      part_read (t ∷ ts) (s ∷ ss) [] ws a h e r k u v at there = absurd h
      part_read (t ∷ ts) (s ∷ ss) (w ∷ vs) ws a h e r k u v at there =
          let p = appended (parts_by table (head_of t) w) (fitting table ts vs) ws e in
          let first : OfSorts table (map var_sort (term_vars t)) p.front = argument_fits t s w p.front (head_of t) refl a.0 h.0 p.is_front in
          let many : length p.front ≡ length (term_vars t) = of_sorts_length (map var_sort (term_vars t)) p.front first ∙ length-map (term_vars t) var_sort in
          let as_many : length (map read (term_vars t)) ≡ length p.front = length-map (term_vars t) read ∙ sym many in
          let cut = same_fronts (map read (term_vars t)) (map read (flat_map term_vars ts)) p.front p.rest as_many (sym (map-append read (term_vars t) (flat_map term_vars ts)) ∙ (r ∙ p.whole)) in
          by k at there p.front p.is_front cut.0 (λ j. part_read ts ss vs p.rest a.1 h.1 p.is_rest cut.1 j u v)
        where
          by : (j : ℕ) → slice_get (t ∷ ts) j ≡ Some u → slice_get (w ∷ vs) j ≡ Some v → (front : List ValueTree) → parts_by table (head_of t) w ≡ Some front → map read (term_vars t) ≡ front → ((i : ℕ) → slice_get ts i ≡ Some u → slice_get vs i ≡ Some v → PartRead u v) → PartRead u v
          by zero x y front is same next = let e : t ≡ u = cc in let f : w ≡ v = cc in (front, sym (ap₂ (λ (z : TermTree) (q : ValueTree). parts_by table (head_of z) q) e f) ∙ is, ap (λ (z : TermTree). map read (term_vars z)) (sym e) ∙ same)
          by (suc j) x y front is same next = next j x y

  abbrev Fit : List TermTree → List ValueTree → Type 0
  Fit ts vs = (ws : List ValueTree) × (fitting table ts vs ≡ Some ws)

  -- variables alone fit all values
  pub fits_plain : (n : ℕ) (ts : List TermTree) (vs : List ValueTree) → patterns_from n ts ≡ [] → length ts ≡ length vs → (ws : List ValueTree) × (fitting table ts vs ≡ Some ws)
  fits_plain n [] [] e l = ([], refl)
  fits_plain n [] (v ∷ vs) e l = absurd (omega (arith, l))
  fits_plain n (t ∷ ts) [] e l = absurd (omega (arith, l))
  fits_plain n (t ∷ ts) (v ∷ vs) e l = let m : length ts ≡ length vs = omega (arith, l) in by (head_of t) refl (λ others. fits_plain (n + 1) ts vs others m)
    where
      by : (h : Head) → head_of t ≡ h → (patterns_from (n + 1) ts ≡ [] → Fit ts vs) → Fit (t ∷ ts) (v ∷ vs)
      by (head.Var x) top next =
          let others : patterns_from (n + 1) ts ≡ [] = sym (ap (λ (h : Head). pattern_at n h ++ patterns_from (n + 1) ts) top) ∙ e in
          let r = next others in
          (v ∷ r.0, ap (λ (h : Head). option_and_then (λ (front : List ValueTree). option_map (λ (rest : List ValueTree). front ++ rest) (fitting table ts vs)) (parts_by table h v)) top ∙ ap (option_map (λ (rest : List ValueTree). v ∷ rest)) r.1)
      by (head.Sym f) top next =
          let others : the_pattern n f ∷ patterns_from (n + 1) ts ≡ [] = sym (ap (λ (h : Head). pattern_at n h ++ patterns_from (n + 1) ts) top) ∙ e in
          absurd (cc)

  -- a pattern among the arguments, at its place
  pub record PatternAt (n : ℕ) (ts : List TermTree) (p : Pattern) : Type 0 where
    pub place : ℕ
    pub there : p.place ≡ place + n
    pub term : TermTree
    pub is : slice_get ts place ≡ Some term
    pub top : head_of term ≡ head.Sym p.symbol
    -- with a value that it fits, all fit
    pub fits : (vs : List ValueTree) (v : ValueTree) (qs : List ValueTree) → length ts ≡ length vs → slice_get vs place ≡ Some v → parts_by table (head.Sym p.symbol) v ≡ Some qs → (ws : List ValueTree) × (fitting table ts vs ≡ Some ws)

  -- behind a variable
  behind_variable : (n : ℕ) (t : TermTree) (ts : List TermTree) (p : Pattern) (x : Var) → head_of t ≡ head.Var x → PatternAt (n + 1) ts p → PatternAt n (t ∷ ts) p
  behind_variable n t ts p x top r = record { place = suc r.place; there = omega (arith, r.there); term = r.term; is = r.is; top = r.top; fits = fit }
    where
      fit : (vs : List ValueTree) (v : ValueTree) (qs : List ValueTree) → length (t ∷ ts) ≡ length vs → slice_get vs (suc r.place) ≡ Some v → parts_by table (head.Sym p.symbol) v ≡ Some qs → (ws : List ValueTree) × (fitting table (t ∷ ts) vs ≡ Some ws)
      fit [] v qs l at is = absurd (omega (arith, l))
      fit (w ∷ vs) v qs l at is =
          let m : length ts ≡ length vs = omega (arith, l) in
          let f = r.fits vs v qs m at is in
          (w ∷ f.0, ap (λ (h : Head). option_and_then (λ (front : List ValueTree). option_map (λ (rest : List ValueTree). front ++ rest) (fitting table ts vs)) (parts_by table h w)) top ∙ ap (option_map (λ (rest : List ValueTree). w ∷ rest)) f.1)

  -- and before variables alone
  before_variables : (n : ℕ) (t : TermTree) (ts : List TermTree) (p : Pattern) → n ≡ p.place → head_of t ≡ head.Sym p.symbol → patterns_from (n + 1) ts ≡ [] → PatternAt n (t ∷ ts) p
  before_variables n t ts p first top others = record { place = 0; there = omega (arith, first); term = t; is = refl; top = top; fits = fit }
    where
      fit : (vs : List ValueTree) (v : ValueTree) (qs : List ValueTree) → length (t ∷ ts) ≡ length vs → slice_get vs 0 ≡ Some v → parts_by table (head.Sym p.symbol) v ≡ Some qs → (ws : List ValueTree) × (fitting table (t ∷ ts) vs ≡ Some ws)
      fit [] v qs l at is = absurd (omega (arith, l))
      fit (w ∷ vs) v qs l at is =
          let m : length ts ≡ length vs = omega (arith, l) in
          let same : w ≡ v = cc in
          let r = fits_plain (n + 1) ts vs others m in
          let front : parts_by table (head_of t) w ≡ Some qs = ap₂ (λ (h : Head) (z : ValueTree). parts_by table h z) top same ∙ is in
          (qs ++ r.0, ap (option_and_then (λ (front : List ValueTree). option_map (λ (rest : List ValueTree). front ++ rest) (fitting table ts vs))) front ∙ ap (option_map (λ (rest : List ValueTree). qs ++ rest)) r.1)

  pub pattern_there : (n : ℕ) (ts : List TermTree) (p : Pattern) → patterns_from n ts ≡ p ∷ [] → PatternAt n ts p
  pattern_there n [] p e = absurd (cc)
  pattern_there n (t ∷ ts) p e = by (head_of t) refl (pattern_there (n + 1) ts p)
    where
      by : (h : Head) → head_of t ≡ h → (patterns_from (n + 1) ts ≡ p ∷ [] → PatternAt (n + 1) ts p) → PatternAt n (t ∷ ts) p
      by (head.Var x) top next =
          let others : patterns_from (n + 1) ts ≡ p ∷ [] = sym (ap (λ (h : Head). pattern_at n h ++ patterns_from (n + 1) ts) top) ∙ e in
          behind_variable n t ts p x top (next others)
      by (head.Sym f) top next =
          let both : the_pattern n f ∷ patterns_from (n + 1) ts ≡ p ∷ [] = sym (ap (λ (h : Head). pattern_at n h ++ patterns_from (n + 1) ts) top) ∙ e in
          let first : the_pattern n f ≡ p = cc in
          let others : patterns_from (n + 1) ts ≡ [] = cc in
          before_variables n t ts p (ap (λ (q : Pattern). q.place) first) (top ∙ ap (λ (q : Pattern). head.Sym q.symbol) first) others

-- variables that are numbered from 1 are read as the values in their order
behind : (n : ℕ) (before ws : List ValueTree) (w : ValueTree) → n ≡ length before + 1 → numbered_values (before ++ w ∷ ws) n ≡ w
behind zero before ws w e = absurd (omega (arith, e))
behind (suc n) [] ws w e = let z : n ≡ 0 = omega (arith, e) in ap (λ k. unwrap_or (slice_get (w ∷ ws) k) (tree.Num 0)) z
behind (suc n) (b ∷ before) ws w e =
    let z : n ≡ length before + 1 = omega (arith, e) in
    let next : n ≡ suc (length before) = omega (arith, z) in
    let at : numbered_values (before ++ w ∷ ws) n ≡ w = behind n before ws w z in
    ap (λ k. unwrap_or (slice_get (b ∷ (before ++ w ∷ ws)) k) (tree.Num 0)) next ∙ (sym (ap (numbered_values (before ++ w ∷ ws)) next) ∙ at)

numbered_behind : (vars : List Var) (before ws : List ValueTree) → map (λ (x : Var). x.number) vars ≡ range_with_len (length before + 1) (length vars) → length ws ≡ length vars → map (λ (x : Var). numbered_values (before ++ ws) x.number) vars ≡ ws
numbered_behind [] before [] e l = refl
numbered_behind [] before (w ∷ ws) e l = absurd (omega (arith, l))
numbered_behind (x ∷ vars) before [] e l = absurd (omega (arith, l))
numbered_behind (x ∷ vars) before (w ∷ ws) e l =
    let cell : x.number ∷ map (λ (y : Var). y.number) vars ≡ (length before + 1) ∷ range_with_len (length before + 1 + 1) (length vars) = e in
    let first : x.number ≡ length before + 1 = cc in
    let others : map (λ (y : Var). y.number) vars ≡ range_with_len (length before + 1 + 1) (length vars) = cc in
    let m : length ws ≡ length vars = omega (arith, l) in
    let long : length (before ++ w ∷ []) ≡ length before + 1 = length-append before (w ∷ []) in
    let along : before ++ w ∷ ws ≡ (before ++ w ∷ []) ++ ws = sym (append_assoc before (w ∷ []) ws) in
    let rest = numbered_behind vars (before ++ w ∷ []) ws (others ∙ ap (λ k. range_with_len (k + 1) (length vars)) (sym long)) m in
    ap₂ (λ (z : ValueTree) (zs : List ValueTree). z ∷ zs) (behind x.number before ws w first) (ap (λ (z : List ValueTree). map (λ (y : Var). numbered_values z y.number) vars) along ∙ rest)

pub numbered_read : (vars : List Var) (ws : List ValueTree) → map (λ (x : Var). x.number) vars ≡ range_with_len 1 (length vars) → length ws ≡ length vars → map (λ (x : Var). numbered_values ws x.number) vars ≡ ws
numbered_read vars ws e l = numbered_behind vars [] ws e l

-- values of the variables' sorts, as the variables are read
pub sorts_read : (table : SymbolTable) (read : Var → ValueTree) (vars : List Var) → OfSorts table (map (λ (x : Var). x.sort) vars) (map read vars) → All (λ (x : Var). OfSort table x.sort (read x)) vars
sorts_read table read [] h = All-nil (λ (x : Var). OfSort table x.sort (read x))
sorts_read table read (x ∷ vars) h = All-cons (λ (x : Var). OfSort table x.sort (read x)) x vars h.0 (sorts_read table read vars h.1)

-- the last variable is read as the last value
pub last_read : (read : Var → ValueTree) (vars : List Var) (x : Var) → last_var vars ≡ Some x → last_value (map read vars) ≡ Some (read x)
last_read read [] x e = absurd (cc)
last_read read (y ∷ []) x e = let same : y ≡ x = cc in ap (λ (z : Var). Some (read z)) same
last_read read (y ∷ z ∷ vars) x e = last_read read (z ∷ vars) x e
