-- A symbol whose clauses are all there gives something on all values of its sorts, where the bodies of its clauses do: its recursion
-- goes down to smaller values.
use Rattle.std.proofs.Common.{◌≡◌, inl, inr, ℕ, zero, suc, ◌+◌, ◌<◌, Bool, true, false, ◌&&◌, List, [], ◌∷◌, All, Option, Some, None, map, nat_eq, length, slice_get, if◌then◌else◌, refl, sym, ap, subst, ◌∙◌, arith}
use Rattle.std.specs.List.{flat_map}
use Rattle.std.specs.Option.{option_and_then, option_map}
use Rattle.std.proofs.lemmas.Bool.Decides.{nat_tests}
use Rattle.std.proofs.lemmas.List.{length-map}
use Rattle.syn_term.specs.declared.sorts.Head.{Head}
use Rattle.syn_term.specs.declared.sorts.Head.TheVariants as head
use Rattle.syn_term.specs.declared.sorts.Kind.{Kind}
use Rattle.syn_term.specs.declared.sorts.Kind.TheVariants as kind
use Rattle.syn_term.specs.declared.sorts.Sort.{Sort}
use Rattle.syn_term.specs.declared.sorts.Sym.{Sym}
use Rattle.syn_term.specs.declared.sorts.Var.{Var}
use Rattle.syn_term.specs.Symbols.{SymbolTable, symbol_at}
use Rattle.syn_term.specs.Terms.{TermTree, head_of}
use Rattle.syn_form.specs.Trees.{term_vars}
use Rattle.syn_value.specs.declared.tree.ValueTree.{ValueTree, out-ValueTree}
use Rattle.syn_value.specs.Values.{OfSort}
use Rattle.syn_model.specs.declared.patterns.Pattern.{Pattern}
use Rattle.syn_model.specs.declared.patterns.Role.{Role}
use Rattle.syn_model.specs.declared.patterns.Role.TheVariants as role
use Rattle.syn_model.specs.declared.uses.Rest.{Rest}
use Rattle.syn_model.specs.Calls.{Chosen, chosen, fitting, numbered_values, or_else, parts_by, taken_apart}
use Rattle.syn_model.specs.Clausal.{Clause}
use Rattle.syn_model.specs.Clauses.{HasArguments, begins_with, first_turn, go_together, last_var, rest_at, second_turn, turn_of}
use Rattle.syn_model.specs.Evaluation.{Counted, Environment, after, with_turns}
use Rattle.syn_model.specs.Headings.{are_all, is_only, one_suffices, patterns_of, role_of, role_of_kind}
use Rattle.syn_model.specs.Truth.{OfSorts}
use Rattle.syn_model.proofs.FittingArguments.{at_top, fits_plain, flat_at, flat_length, flat_of, last_read, numbered_read, of_sorts_at, of_sorts_length, part_read, pattern_there, sorts_read, values_fit, var_sort}
use Rattle.syn_model.proofs.Given.{Given}
use Rattle.syn_model.proofs.SortedValues.{AllMade, IsMadeAs, IsOneOf, Shrinks, last_value, made_at, only_kind, tuple_apart, two_apart, weight}

-- the variables of a clause are read as values of their sorts
abbrev pub AreRead : SymbolTable → List TermTree → List ValueTree → Type 0
AreRead table args ws = All (λ (x : Var). OfSort table x.sort (numbered_values ws x.number)) (flat_map term_vars args)

module _ (table : SymbolTable) (all : AllMade table) (sorts : List Sort) {A B : Type 0} (Good : A → Type 0) (Fine : Clause B → Option Rest → Type 0) where
  -- what the symbol gives for each bound, and how it gives it by its clauses
  pub record Called (clauses : List (Clause B)) (at : ℕ → List ValueTree → Option (Counted A)) (run : ℕ → Environment → B → Option (Counted A)) : Type 0 where
    pub step : (n : ℕ) (vs : List ValueTree) (c : Chosen B) → chosen table clauses vs ≡ Some c → at (suc n) vs ≡ after 1 (run n (numbered_values c.values) c.body)
    -- a body gives something where its own symbol does on the value of the rest
    pub body : (c : Clause B) (rest : Option Rest) (ws : List ValueTree) → Fine c rest → HasArguments table sorts c.args → AreRead table c.args ws
        → ((r : Rest) (vs : List ValueTree) → rest ≡ Some r → OfSorts table sorts vs → slice_get vs r.place ≡ Some (numbered_values ws r.var.number) → Given Good (λ n. at n vs))
        → Given Good (λ n. run n (numbered_values ws) c.body)

  module _ (clauses : List (Clause B)) (at : ℕ → List ValueTree → Option (Counted A)) (run : ℕ → Environment → B → Option (Counted A)) (called : Called clauses at run) where
    call_given : (vs : List ValueTree) (c : Chosen B) → chosen table clauses vs ≡ Some c → Given Good (λ n. run n (numbered_values c.values) c.body) → Given Good (λ n. at n vs)
    call_given vs c e g = record { nesting = suc g.nesting; counted = with_turns 1 g.counted; is = called.step g.nesting vs c e ∙ ap (after 1) g.is; good = g.good }

    are_read : (c : Clause B) (vs ws : List ValueTree) → HasArguments table sorts c.args → OfSorts table sorts vs → fitting table c.args vs ≡ Some ws → AreRead table c.args ws
    are_read c vs ws h of e =
        let vars = flat_map term_vars c.args in
        let fit : OfSorts table (map (var_sort table) vars) ws = values_fit table all c.args sorts vs ws (flat_of table sorts c.args h) of e in
        let many : length ws ≡ length vars = of_sorts_length table (map (var_sort table) vars) ws fit ∙ length-map vars (var_sort table) in
        let read = numbered_read vars ws h.numbered many in
        sorts_read table (λ (x : Var). numbered_values ws x.number) vars (subst (OfSorts table (map (var_sort table) vars)) (sym read) fit)

    -- a clause that fits and doesn't use its symbol
    plain_given : (c : Clause B) (vs ws : List ValueTree) → Fine c None → HasArguments table sorts c.args → OfSorts table sorts vs → fitting table c.args vs ≡ Some ws → chosen table clauses vs ≡ Some (record { body = c.body; values = ws }) → Given Good (λ n. at n vs)
    plain_given c vs ws fine h of fit e = call_given vs (record { body = c.body; values = ws }) e (called.body c None ws fine h (are_read c vs ws h of fit) (λ r us none ok is. absurd (cc)))

  -- a pattern of arguments that fit: its symbol, the sort of its place and the value there
  pub record Met (args : List TermTree) (p : Pattern) (vs : List ValueTree) : Type 0 where
    pub symbol : Sym
    pub is : symbol_at table p.symbol ≡ Some symbol
    pub sort : Sort
    pub result : symbol.result ≡ Some sort
    pub there : slice_get sorts p.place ≡ Some sort
    pub term : TermTree
    pub term_is : slice_get args p.place ≡ Some term
    pub top : head_of term ≡ head.Sym p.symbol
    pub value : ValueTree
    pub value_is : slice_get vs p.place ≡ Some value
    pub of : OfSort table sort value
    pub fits : (qs : List ValueTree) → taken_apart symbol.kind (out-ValueTree value) ≡ Some qs → (ws : List ValueTree) × (fitting table args vs ≡ Some ws)

  met : (args : List TermTree) (p : Pattern) (vs : List ValueTree) → HasArguments table sorts args → OfSorts table sorts vs → patterns_of args ≡ p ∷ [] → Met args p vs
  met args p vs h of e =
      let flat = flat_of table sorts args h in
      let r = pattern_there table 0 args p e in
      let place : p.place ≡ r.place = omega (arith, r.there) in
      let f = flat_at table args sorts r.place r.term flat r.is in
      let t = at_top table f.0 p.symbol r.term f.2 r.top in
      let v = of_sorts_at table sorts vs r.place f.0 of f.1 in
      let many : length args ≡ length vs = flat_length table args sorts flat ∙ sym (of_sorts_length table sorts vs of) in
      record {
        symbol = t.symbol;
        is = t.is;
        sort = f.0;
        result = t.result;
        there = ap (slice_get sorts) place ∙ f.1;
        term = r.term;
        term_is = ap (slice_get args) place ∙ r.is;
        top = r.top;
        value = v.0;
        value_is = ap (slice_get vs) place ∙ v.1;
        of = v.2;
        fits = λ qs q. r.fits vs v.0 qs many v.1 (ap (option_and_then (λ (z : Sym). taken_apart z.kind (out-ValueTree v.0))) t.is ∙ q);
      }

  made_met : (args : List TermTree) (p : Pattern) (vs : List ValueTree) (m : Met args p vs) → IsMadeAs table.sorts m.symbol.kind m.symbol.args (Some m.sort)
  made_met args p vs m = subst (IsMadeAs table.sorts m.symbol.kind m.symbol.args) m.result (made_at table p.symbol m.symbol all m.is)

  role_met : (args : List TermTree) (p : Pattern) (vs : List ValueTree) (m : Met args p vs) (x : Role) → role_of table p ≡ x → role_of_kind (Some m.symbol.kind) ≡ x
  role_met args p vs m x e = sym (ap (λ (o : Option Sym). role_of_kind (option_map (λ (s : Sym). s.kind) o)) m.is) ∙ e

  -- the only clause always fits: it has no pattern, or that of the only constructor
  one_fits : (args : List TermTree) (vs : List ValueTree) → HasArguments table sorts args → OfSorts table sorts vs → one_suffices table (patterns_of args) ≡ true → (ps : List Pattern) → patterns_of args ≡ ps → first_turn table ps ≡ Some None → (ws : List ValueTree) × (fitting table args vs ≡ Some ws)
  one_fits args vs h of one [] e turn = fits_plain table 0 args vs e (flat_length table args sorts (flat_of table sorts args h) ∙ sym (of_sorts_length table sorts vs of))
  one_fits args vs h of one (p ∷ []) e turn =
      let m = met args p vs h of e in
      let only : is_only (role_of table p) ≡ true = sym (ap (one_suffices table) e) ∙ one in
      let is_tuple : m.symbol.kind ≡ kind.Tuple = only_kind m.symbol.kind (role_met args p vs m role.OnlyOne (is_only_one (role_of table p) only)) in
      let made = subst (λ (k : Kind). IsMadeAs table.sorts k m.symbol.args (Some m.sort)) is_tuple (made_met args p vs m) in
      let q = tuple_apart table m.sort m.value m.of m.symbol.args made in
      m.fits q.0 (ap (λ (k : Kind). taken_apart k (out-ValueTree m.value)) is_tuple ∙ q.1)
    where
      is_only_one : (x : Role) → is_only x ≡ true → x ≡ role.OnlyOne
      is_only_one role.OnlyOne e = refl
      is_only_one _ e = absurd (cc)
  one_fits args vs h of one (p ∷ q ∷ ps) e turn = absurd (cc)

  first_rest : (ps : List Pattern) (rest : Option Rest) → first_turn table ps ≡ Some rest → rest ≡ None
  first_rest [] rest e = cc
  first_rest (p ∷ []) rest e = by (begins_with (role_of table p)) e
    where
      by : (b : Bool) → (if b then Some None else None) ≡ Some rest → rest ≡ None
      by true h = cc
      by false h = absurd (cc)
  first_rest (p ∷ q ∷ ps) rest e = absurd (cc)

  -- a second clause has the pattern of the second constructor, where the first has that of the first
  pub record Together (args : List TermTree) (ps qs : List Pattern) (rest : Option Rest) : Type 0 where
    pub first : Pattern
    pub second : Pattern
    pub firsts : ps ≡ first ∷ []
    pub seconds : qs ≡ second ∷ []
    pub begins : role_of table first ≡ role.FirstOfTwo
    pub ends : role_of table second ≡ role.SecondOfTwo
    pub place : first.place ≡ second.place
    pub term : TermTree
    pub there : slice_get args second.place ≡ Some term
    pub var : Var
    pub last : last_var (term_vars term) ≡ Some var
    pub is : rest ≡ Some (record { place = second.place; var = var })

  go : (a b : Role) → go_together a b ≡ true → (a ≡ role.FirstOfTwo) × (b ≡ role.SecondOfTwo)
  go role.FirstOfTwo role.SecondOfTwo e = (refl, refl)
  go role.FirstOfTwo role.FirstOfTwo e = absurd (cc)
  go role.FirstOfTwo role.OnlyOne e = absurd (cc)
  go role.FirstOfTwo role.NoConstructor e = absurd (cc)
  go role.SecondOfTwo b e = absurd (cc)
  go role.OnlyOne b e = absurd (cc)
  go role.NoConstructor b e = absurd (cc)

  abbrev the_rest : ℕ → Var → Rest
  the_rest n x = record { place = n; var = x }

  abbrev RestThere : List TermTree → ℕ → Option Rest → Type 0
  RestThere args n rest = (t : TermTree) × (x : Var) × (slice_get args n ≡ Some t) × (last_var (term_vars t) ≡ Some x) × (rest ≡ Some (the_rest n x))

  rest_there : (args : List TermTree) (n : ℕ) (rest : Option Rest) → option_map Some (rest_at args n) ≡ Some rest → RestThere args n rest
  rest_there args n rest e = by (slice_get args n) refl e
    where
      at : (t : TermTree) → slice_get args n ≡ Some t → (o : Option Var) → last_var (term_vars t) ≡ o → option_map Some (option_map (the_rest n) o) ≡ Some rest → RestThere args n rest
      at t is None last h = absurd (cc)
      at t is (Some x) last h = let k : Some (the_rest n x) ≡ rest = cc in (t, x, is, last, sym k)

      by : (o : Option TermTree) → slice_get args n ≡ o → option_map Some (option_map (the_rest n) (option_and_then (λ t. last_var (term_vars t)) o)) ≡ Some rest → RestThere args n rest
      by None is h = absurd (cc)
      by (Some t) is h = at t is (last_var (term_vars t)) refl h

  together_of : (args : List TermTree) (ps qs : List Pattern) (rest : Option Rest) → second_turn table args ps qs ≡ Some rest → Together args ps qs rest
  together_of args [] qs rest e = absurd (cc)
  together_of args (p ∷ []) [] rest e = absurd (cc)
  together_of args (p ∷ []) (q ∷ []) rest e = by (go_together (role_of table p) (role_of table q)) (nat_eq p.place q.place) refl refl e
    where
      by : (a b : Bool) → go_together (role_of table p) (role_of table q) ≡ a → nat_eq p.place q.place ≡ b → (if a && b then option_map Some (rest_at args q.place) else None) ≡ Some rest → Together args (p ∷ []) (q ∷ []) rest
      by true true a b h =
          let r = go (role_of table p) (role_of table q) a in
          let f = rest_there args q.place rest h in
          record { first = p; second = q; firsts = refl; seconds = refl; begins = r.0; ends = r.1; place = grind (arith, nat_tests); term = f.0; there = f.2; var = f.1; last = f.3; is = f.4 }
      by true false a b h = absurd (cc)
      by false b a c h = absurd (cc)
  together_of args (p ∷ []) (q ∷ r ∷ qs) rest e = absurd (cc)
  together_of args (p ∷ o ∷ ps) qs rest e = absurd (cc)

  module _ (at : ℕ → List ValueTree → Option (Counted A)) (run : ℕ → Environment → B → Option (Counted A)) where
    abbrev choice : Clause B → List ValueTree → Chosen B
    choice c ws = record { body = c.body; values = ws }

    -- where one clause is all
    pub one_clause : (c : Clause B) (rest : Option Rest) → Called (c ∷ []) at run → Fine c rest → HasArguments table sorts c.args → turn_of table [] c.args ≡ Some rest → are_all table (c.args ∷ []) ≡ true → (vs : List ValueTree) → OfSorts table sorts vs → Given Good (λ n. at n vs)
    one_clause c rest called fine h turn whole vs of =
        let none : rest ≡ None = first_rest (patterns_of c.args) rest turn in
        let f = one_fits c.args vs h of whole (patterns_of c.args) refl (turn ∙ ap Some none) in
        plain_given (c ∷ []) at run called c vs f.0 (subst (Fine c) none fine) h of f.1 (ap (λ (o : Option (List ValueTree)). or_else (option_map (choice c) o) None) f.1)

    module _ (c d : Clause B) (called : Called (c ∷ d ∷ []) at run) (first : Fine c None) (arguments : HasArguments table sorts c.args) (rest : Option Rest) (second : Fine d rest) (others : HasArguments table sorts d.args) (t : Together d.args (patterns_of c.args) (patterns_of d.args) rest) where
      by_first : (vs ws : List ValueTree) → OfSorts table sorts vs → fitting table c.args vs ≡ Some ws → Given Good (λ n. at n vs)
      by_first vs ws of e = plain_given (c ∷ d ∷ []) at run called c vs ws first arguments of e (ap (λ (o : Option (List ValueTree)). or_else (option_map (choice c) o) (chosen table (d ∷ []) vs)) e)

      -- the values are of the sort, and the second clause takes a smaller one from it
      by_second : (vs : List ValueTree) → OfSorts table sorts vs → fitting table c.args vs ≡ None → (m : Met d.args t.second vs) → Shrinks m.symbol.kind m.value
          → ((us : List ValueTree) (v : ValueTree) → OfSorts table sorts us → slice_get us t.second.place ≡ Some v → weight v < weight m.value → Given Good (λ n. at n us)) → Given Good (λ n. at n vs)
      by_second vs of unfit m s below =
          let f = m.fits s.parts s.taken in
          let flat = flat_of table sorts d.args others in
          let read : Var → ValueTree = λ x. numbered_values f.0 x.number in
          let vars = flat_map term_vars d.args in
          let many : length f.0 ≡ length vars = of_sorts_length table (map (var_sort table) vars) f.0 (values_fit table all d.args sorts vs f.0 flat of f.1) ∙ length-map vars (var_sort table) in
          let part = part_read table all read d.args sorts vs f.0 flat of f.1 (numbered_read vars f.0 others.numbered many) t.second.place m.term m.value m.term_is m.value_is in
          let taken : Some part.0 ≡ Some s.parts = sym part.1 ∙ (ap (λ (h : Head). parts_by table h m.value) m.top ∙ (ap (option_and_then (λ (z : Sym). taken_apart z.kind (out-ValueTree m.value))) m.is ∙ s.taken)) in
          let parts : part.0 ≡ s.parts = cc in
          let term : t.term ≡ m.term = let k : Some t.term ≡ Some m.term = sym t.there ∙ m.term_is in cc in
          let last : Some (read t.var) ≡ Some s.rest = sym (last_read read (term_vars m.term) t.var (ap (λ (z : TermTree). last_var (term_vars z)) (sym term) ∙ t.last)) ∙ (ap last_value (part.2 ∙ parts) ∙ s.last) in
          let same : read t.var ≡ s.rest = cc in
          call_given (c ∷ d ∷ []) at run called vs (choice d f.0)
          (ap (λ (o : Option (List ValueTree)). or_else (option_map (choice c) o) (chosen table (d ∷ []) vs)) unfit ∙ ap (λ (o : Option (List ValueTree)). or_else (option_map (choice d) o) None) f.1)
          (called.body d rest f.0 second others (are_read (c ∷ d ∷ []) at run called d vs f.0 others of f.1)
          (λ r us is ok there. let e : r ≡ the_rest t.second.place t.var = let k : Some r ≡ Some (the_rest t.second.place t.var) = sym is ∙ t.is in cc in
          below us s.rest ok (ap (slice_get us) (sym (ap (λ (z : Rest). z.place) e)) ∙ (there ∙ ap Some (ap (λ (z : Rest). read z.var) e ∙ same))) s.less))

      by_value : (vs : List ValueTree) → OfSorts table sorts vs → (m : Met d.args t.second vs)
          → ((us : List ValueTree) (v : ValueTree) → OfSorts table sorts us → slice_get us t.second.place ≡ Some v → weight v < weight m.value → Given Good (λ n. at n us)) → Given Good (λ n. at n vs)
      by_value vs of m below = by (fitting table c.args vs) refl
        where
          none : fitting table c.args vs ≡ None → (k : Met c.args t.first vs) → IsOneOf table m.sort m.value m.of k.symbol.kind m.symbol.kind → k.value ≡ m.value → Given Good (λ n. at n vs)
          none unfit k (inl e) same = let f = k.fits [] (ap (λ (v : ValueTree). taken_apart k.symbol.kind (out-ValueTree v)) same ∙ e) in let never : None ≡ Some f.0 = sym unfit ∙ f.1 in absurd (cc)
          none unfit k (inr s) same = by_second vs of unfit m s below

          by : (o : Option (List ValueTree)) → fitting table c.args vs ≡ o → Given Good (λ n. at n vs)
          by (Some ws) e = by_first vs ws of e
          by None e =
              let k = met c.args t.first vs arguments of t.firsts in
              let value : k.value ≡ m.value = let h : Some k.value ≡ Some m.value = sym k.value_is ∙ (ap (slice_get vs) t.place ∙ m.value_is) in cc in
              let sort : k.sort ≡ m.sort = let h : Some k.sort ≡ Some m.sort = sym k.there ∙ (ap (slice_get sorts) t.place ∙ m.there) in cc in
              let made = subst (λ (s : Sort). IsMadeAs table.sorts k.symbol.kind k.symbol.args (Some s)) sort (made_met c.args t.first vs k) in
              none e k (two_apart table m.sort m.value m.of k.symbol.kind m.symbol.kind k.symbol.args m.symbol.args (role_met c.args t.first vs k role.FirstOfTwo t.begins) (role_met d.args t.second vs m role.SecondOfTwo t.ends) made (made_met d.args t.second vs m)) value

      below : (n : ℕ) (vs : List ValueTree) (v : ValueTree) → OfSorts table sorts vs → slice_get vs t.second.place ≡ Some v → weight v < n → Given Good (λ k. at k vs)
      below zero vs v of is less = absurd (omega arith)
      below (suc n) vs v of is less =
          let m = met d.args t.second vs others of t.seconds in
          let same : v ≡ m.value = let k : Some v ≡ Some m.value = sym is ∙ m.value_is in cc in
          let size : weight v ≡ weight m.value = ap weight same in
          by_value vs of m (λ us u ok there smaller. below n us u ok there (omega arith))

      two_given : (vs : List ValueTree) → OfSorts table sorts vs → Given Good (λ n. at n vs)
      two_given vs of = let m = met d.args t.second vs others of t.seconds in below (weight m.value + 1) vs m.value of m.value_is (omega arith)

    -- where there are two
    pub two_clauses : (c d : Clause B) (before rest : Option Rest) → Called (c ∷ d ∷ []) at run → Fine c before → HasArguments table sorts c.args → turn_of table [] c.args ≡ Some before → Fine d rest → HasArguments table sorts d.args → turn_of table (c.args ∷ []) d.args ≡ Some rest → (vs : List ValueTree) → OfSorts table sorts vs → Given Good (λ n. at n vs)
    two_clauses c d before rest called fine h turn more others next =
        let none : before ≡ None = first_rest (patterns_of c.args) before turn in
        two_given c d called (subst (Fine c) none fine) h rest more others (together_of d.args (patterns_of c.args) (patterns_of d.args) rest next)
