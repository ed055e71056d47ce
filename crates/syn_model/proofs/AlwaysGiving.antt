-- All symbols of a theory in which no clause is missing give something on all values of the sorts of their arguments.
use Rattle.std.proofs.Common.{◌≡◌, ◌≢◌, ◌⊎◌, inl, inr, ℕ, zero, suc, ◌<◌, Bool, true, false, List, [], ◌∷◌, ◌++◌, All, Contains, IfSome, Option, Some, None, get_or, if◌then◌else◌, length, map, append_assoc, slice_get, refl, sym, ap, subst, ◌∙◌, true≢false, arith}
use Rattle.std.specs.List.{flat_map}
use Rattle.std.specs.List.{position}
use Rattle.std.specs.Option.{option_and_then, option_map}
use Rattle.std.proofs.lemmas.Grind.{flat_map-append}
use Rattle.std.proofs.lemmas.List.Quantifiers.{position-Some}
use Rattle.std.proofs.lemmas.Slice.Eq.{bytes_eq-Decides}
use Rattle.std.specs.Str.{bytes_eq}
use Rattle.std.proofs.lemmas.List.{get_or-map, length-map, map-append}
use Rattle.std.proofs.lemmas.List.Elements.{All-cons, All-contains, All-nil}
use Rattle.std.proofs.lemmas.List.Sums.{fold-append}
use Rattle.std.proofs.lemmas.Option.{get_or_from_slice_get, slice_get-get_or, slice_get_within}
use Rattle.syn_term.specs.declared.sorts.Sort.{Sort}
use Rattle.syn_term.specs.declared.sorts.Sym.{Sym}
use Rattle.syn_term.specs.declared.sorts.SymId.{SymId}
use Rattle.syn_term.specs.declared.sorts.Var.{Var}
use Rattle.syn_term.specs.DeclaredSorts.{IsTable, cons_symbol, make_symbol, nil_symbol}
use Rattle.syn_term.specs.Names.{IsName}
use Rattle.syn_term.specs.Symbols.{IsSort, SymbolTable, first_symbols, names_of, succ_symbol, symbol_at, zero_symbol}
use Rattle.syn_term.specs.Terms.{TermTree}
use Rattle.syn_term.proofs.SymbolLaws.{symbol_at-IsPrefix}
use Rattle.syn_term.proofs.WordRuns.{name_is_word, word_nonempty}
use Rattle.syn_form.specs.Elaboration.{sym_id}
use Rattle.syn_form.specs.Plain.{IsPlainForm, IsPlainOut, given_sort}
use Rattle.syn_form.specs.Trees.{FormTree, OutTree, form_vars, out_vars, term_vars}
use Rattle.syn_value.specs.declared.tree.ValueTree.{ValueTree}
use Rattle.syn_value.specs.Values.{OfSort}
use Rattle.syn_model.specs.declared.decl.Decl.{Decl}
use Rattle.syn_model.specs.declared.decl.Decl.TheVariants as decl
use Rattle.syn_model.specs.declared.uses.Rest.{Rest}
use Rattle.syn_model.specs.Calls.{Chosen, Meaning, by_function, by_measure, by_relation, first_of, numbered_values, reading_at, truth_by, value_by}
use Rattle.syn_model.specs.Clausal.{Clause, function_clause, function_clauses, measure_in, measures_of, relation_clause, relation_clauses}
use Rattle.syn_model.specs.Clauses.{HasArguments, UsesForm, UsesOut, turn_of}
use Rattle.syn_model.specs.Declaring.{AreAmong, IsTheory, MayDeclare, MayFunClause, MayRelClause, nothing, one_more, symbol_of_name}
use Rattle.syn_model.specs.Evaluation.{Counted, Environment, after, evaluate_form, evaluate_out, with_turns}
use Rattle.syn_model.specs.Headings.{Heading, are_all, has_clauses, heading_after, heading_of, is_complete, is_whole}
use Rattle.syn_model.specs.Tables.{fun_symbol, order_symbol, rel_symbol, table_after, table_of}
use Rattle.syn_model.specs.Truth.{OfSorts, theory_meaning}
use Rattle.syn_model.proofs.ClauseLists.{heading_name, no_clauses, no_measure, picked_more, same_test}
use Rattle.syn_model.proofs.Given.{Given}
use Rattle.syn_model.proofs.GrowingMeanings.{grown_part, kept_measure}
use Rattle.syn_model.proofs.GrowingTables.{is_table, next_grows, sorts_back, table_next}
use Rattle.syn_model.proofs.GrowingTheories.{gives_more, theory_grows}
use Rattle.syn_model.proofs.MadeValues.{IsConstructor, constructor_gives}
use Rattle.syn_model.proofs.OrdersGiving.{order_given}
use Rattle.syn_model.proofs.Recursion.{Called, one_clause, two_clauses}
use Rattle.syn_model.proofs.SortedEvaluation.{Able, GivesOn, IsAny, form_given, out_given, same_or_other}
use Rattle.syn_model.proofs.SortedValues.{AllMade, made_of}

-- each symbol gives something
abbrev pub AllGive : List Decl → Type 0
AllGive ds = (f : SymId) (s : Sym) (vs : List ValueTree) → symbol_at (table_of ds) f ≡ Some s → OfSorts (table_of ds) s.args vs → GivesOn (theory_meaning ds) [] f s.result vs

-- each symbol of another name does
abbrev pub OthersGive : List Decl → List ℕ → Type 0
OthersGive ds name = (f : SymId) (s : Sym) (vs : List ValueTree) → symbol_at (table_of ds) f ≡ Some s → s.name ≢ name → OfSorts (table_of ds) s.args vs → GivesOn (theory_meaning ds) [] f s.result vs

-- the clauses of a heading came in their turn, each as it has to be
module _ {B : Type 0} (table : SymbolTable) (sorts : List Sort) (Fine : Clause B → Option Rest → Type 0) where
  pub record Fits (before : List (List TermTree)) (c : Clause B) : Type 0 where
    pub rest : Option Rest
    pub fine : Fine c rest
    pub arguments : HasArguments table sorts c.args
    pub turn : turn_of table before c.args ≡ Some rest

  abbrev pub ClausesFit : List (Clause B) → Type 0
  ClausesFit [] = Unit {0}
  ClausesFit (c ∷ []) = Fits [] c
  ClausesFit (c ∷ d ∷ []) = Fits [] c × Fits (c.args ∷ []) d
  ClausesFit (c ∷ d ∷ e ∷ cs) = ⊥

  abbrev pub args_of_all : List (Clause B) → List (List TermTree)
  args_of_all = map (λ (c : Clause B). c.args)

  fit_more : (cs : List (Clause B)) (c : Clause B) → ClausesFit cs → Fits (args_of_all cs) c → ClausesFit (cs ++ c ∷ [])
  fit_more [] c h f = f
  fit_more (a ∷ []) c h f = (h, f)
  fit_more (a ∷ b ∷ []) c h f = let e = f.turn in absurd (cc)
  fit_more (a ∷ b ∷ d ∷ cs) c h f = absurd h

  module _ (all : AllMade table) {A : Type 0} (Good : A → Type 0) (at : ℕ → List ValueTree → Option (Counted A)) (run : ℕ → Environment → B → Option (Counted A)) where
    -- where all are there, the symbol gives something
    all_called : (cs : List (Clause B)) → Called table all sorts Good Fine cs at run → ClausesFit cs → are_all table (args_of_all cs) ≡ true → (vs : List ValueTree) → OfSorts table sorts vs → Given Good (λ n. at n vs)
    all_called [] called h whole vs of = absurd (true≢false (sym whole))
    all_called (c ∷ []) called h whole vs of = one_clause table all sorts Good Fine at run c h.rest called h.fine h.arguments h.turn whole vs of
    all_called (c ∷ d ∷ []) called h whole vs of = two_clauses table all sorts Good Fine at run c d h.0.rest h.1.rest called h.0.fine h.0.arguments h.0.turn h.1.fine h.1.arguments h.1.turn vs of
    all_called (c ∷ d ∷ e ∷ cs) called h whole vs of = absurd h

-- a clause of a function, beside its arguments
pub record FunFine (table : SymbolTable) (own : SymId) (result : Sort) (c : Clause OutTree) (rest : Option Rest) : Type 0 where
  pub plain : IsPlainOut table c.body
  pub sort : given_sort table c.body ≡ Some result
  pub over : AreAmong (out_vars c.body) (flat_map term_vars c.args)
  pub uses : UsesOut own rest c.body

-- and of a relation
pub record RelFine (table : SymbolTable) (own : SymId) (c : Clause FormTree) (rest : Option Rest) : Type 0 where
  pub plain : IsPlainForm table c.body
  pub over : AreAmong (form_vars c.body) (flat_map term_vars c.args)
  pub uses : UsesForm own rest c.body

-- the last heading, a function: all others give something, and its clauses came in their turn
pub record FunStands (ds : List Decl) (name : List ℕ) (sorts : List Sort) (result : Sort) : Type 0 where
  pub others : OthersGive ds name
  pub own : SymId
  pub symbol : symbol_at (table_of ds) own ≡ Some (fun_symbol name sorts result)
  pub listed : args_of_all (table_of ds) sorts (FunFine (table_of ds) own result) (function_clauses ds name) ≡ (heading_of ds).arguments
  pub fit : ClausesFit (table_of ds) sorts (FunFine (table_of ds) own result) (function_clauses ds name)

pub record RelStands (ds : List Decl) (name : List ℕ) (sorts : List Sort) : Type 0 where
  pub others : OthersGive ds name
  pub own : SymId
  pub symbol : symbol_at (table_of ds) own ≡ Some (rel_symbol name sorts)
  pub listed : args_of_all (table_of ds) sorts (RelFine (table_of ds) own) (relation_clauses ds name) ≡ (heading_of ds).arguments
  pub fit : ClausesFit (table_of ds) sorts (RelFine (table_of ds) own) (relation_clauses ds name)

abbrev pub Stands : List Decl → Option Decl → Type 0
Stands ds (Some (decl.Fun name sorts result)) = FunStands ds name sorts result
Stands ds (Some (decl.Rel name sorts)) = RelStands ds name sorts
Stands ds _ = AllGive ds

-- what holds of each symbol of a table
every_at : (P : Sym → Type 0) (table : SymbolTable) (f : SymId) (s : Sym) → All P table.syms → symbol_at table f ≡ Some s → P s
every_at P table f s h at = subst P (get_or_from_slice_get table.syms f.0 s s at) (h f.0 s (slice_get_within table.syms f.0 s at))

same_id : (f g : SymId) → f.0 ≡ g.0 → f ≡ g
same_id f g e = ap sym_id e

module _ (ds : List Decl) (theory : IsTheory ds) where
  -- a symbol that isn't the own one has another name
  other_name : (own f : SymId) (s t : Sym) → symbol_at (table_of ds) own ≡ Some t → symbol_at (table_of ds) f ≡ Some s → (f ≡ own → ⊥) → s.name ≢ t.name
  other_name own f s t is at other e = other (same_id f own ((is_table ds theory).symbols f.0 own.0 s t at is e))

  module _ (name : List ℕ) (sorts : List Sort) (result : Sort) (h : FunStands ds name sorts result) where
    abbrev Fun : Clause OutTree → Option Rest → Type 0
    Fun = FunFine (table_of ds) h.own result

    abbrev fun_at : ℕ → List ValueTree → Option (Counted ValueTree)
    fun_at n vs = (reading_at (theory_meaning ds) n []).value h.own vs

    abbrev fun_run : ℕ → Environment → OutTree → Option (Counted ValueTree)
    fun_run n env body = evaluate_out (reading_at (theory_meaning ds) n []) env body

    fun_able : (rest : Option Rest) (ws : List ValueTree) → ((r : Rest) (vs : List ValueTree) → rest ≡ Some r → OfSorts (table_of ds) sorts vs → slice_get vs r.place ≡ Some (numbered_values ws r.var.number) → Given (OfSort (table_of ds) result) (λ n. fun_at n vs)) → Able (theory_meaning ds) [] (numbered_values ws) h.own rest
    fun_able rest ws below = record {
      others = λ f s vs at other of. h.others f s vs at (other_name h.own f s (fun_symbol name sorts result) h.symbol at other) of;
      itself = λ r s vs e at of there.
          let same : fun_symbol name sorts result ≡ s = let k : Some (fun_symbol name sorts result) ≡ Some s = sym h.symbol ∙ at in cc in
          subst (λ (z : Sym). GivesOn (theory_meaning ds) [] h.own z.result vs) same (below r vs e (subst (λ (z : Sym). OfSorts (table_of ds) z.args vs) (sym same) of) there);
    }

    fun_called : Called (table_of ds) (made_of ds) sorts (OfSort (table_of ds) result) Fun (function_clauses ds name) fun_at fun_run
    fun_called = record {
      step = λ n vs c e. ap (option_and_then (λ (x : Sym). value_by (theory_meaning ds) (Some (reading_at (theory_meaning ds) n)) [] h.own x.name vs x.kind)) h.symbol ∙ ap (option_and_then (λ (z : Chosen OutTree). after 1 (by_function (reading_at (theory_meaning ds) n []) z))) e;
      body = λ c rest ws fine arguments read below.
          let vars : All (λ (x : Var). OfSort (table_of ds) x.sort (numbered_values ws x.number)) (out_vars c.body) = λ k d lt. All-contains (λ (x : Var). OfSort (table_of ds) x.sort (numbered_values ws x.number)) (flat_map term_vars c.args) (get_or (out_vars c.body) k d) read (fine.over k d lt) in
          out_given (theory_meaning ds) [] (numbered_values ws) h.own rest (fun_able rest ws below) (is_table ds theory) c.body fine.plain.formed fine.uses vars result fine.sort;
    }

    fun_gives : are_all (table_of ds) (heading_of ds).arguments ≡ true → AllGive ds
    fun_gives whole f s vs at of = by (same_or_other f h.own)
      where
        by : (f ≡ h.own) ⊎ (f ≡ h.own → ⊥) → GivesOn (theory_meaning ds) [] f s.result vs
        by (inr other) = h.others f s vs at (other_name h.own f s (fun_symbol name sorts result) h.symbol at other) of
        by (inl same) =
            let is : fun_symbol name sorts result ≡ s = let k : Some (fun_symbol name sorts result) ≡ Some s = sym h.symbol ∙ (ap (symbol_at (table_of ds)) (sym same) ∙ at) in cc in
            let given = all_called (table_of ds) sorts Fun (made_of ds) (OfSort (table_of ds) result) fun_at fun_run (function_clauses ds name) fun_called h.fit (ap (are_all (table_of ds)) h.listed ∙ whole) vs (subst (λ (z : Sym). OfSorts (table_of ds) z.args vs) (sym is) of) in
            subst (λ (g : SymId). GivesOn (theory_meaning ds) [] g s.result vs) (sym same) (subst (λ (z : Sym). GivesOn (theory_meaning ds) [] h.own z.result vs) is given)

  module _ (name : List ℕ) (sorts : List Sort) (h : RelStands ds name sorts) where
    abbrev Rel : Clause FormTree → Option Rest → Type 0
    Rel = RelFine (table_of ds) h.own

    abbrev rel_at : ℕ → List ValueTree → Option (Counted Bool)
    rel_at n vs = (reading_at (theory_meaning ds) n []).truth h.own vs

    abbrev rel_run : ℕ → Environment → FormTree → Option (Counted Bool)
    rel_run n env body = evaluate_form (reading_at (theory_meaning ds) n []) env body

    rel_able : (rest : Option Rest) (ws : List ValueTree) → ((r : Rest) (vs : List ValueTree) → rest ≡ Some r → OfSorts (table_of ds) sorts vs → slice_get vs r.place ≡ Some (numbered_values ws r.var.number) → Given IsAny (λ n. rel_at n vs)) → Able (theory_meaning ds) [] (numbered_values ws) h.own rest
    rel_able rest ws below = record {
      others = λ f s vs at other of. h.others f s vs at (other_name h.own f s (rel_symbol name sorts) h.symbol at other) of;
      itself = λ r s vs e at of there.
          let same : rel_symbol name sorts ≡ s = let k : Some (rel_symbol name sorts) ≡ Some s = sym h.symbol ∙ at in cc in
          subst (λ (z : Sym). GivesOn (theory_meaning ds) [] h.own z.result vs) same (below r vs e (subst (λ (z : Sym). OfSorts (table_of ds) z.args vs) (sym same) of) there);
    }

    rel_called : Called (table_of ds) (made_of ds) sorts IsAny Rel (relation_clauses ds name) rel_at rel_run
    rel_called = record {
      step = λ n vs c e. ap (option_and_then (λ (x : Sym). truth_by (theory_meaning ds) (Some (reading_at (theory_meaning ds) n)) x.name vs x.kind)) h.symbol ∙ ap (option_and_then (λ (z : Chosen FormTree). after 1 (by_relation (reading_at (theory_meaning ds) n []) z))) e;
      body = λ c rest ws fine arguments read below.
          let vars : All (λ (x : Var). OfSort (table_of ds) x.sort (numbered_values ws x.number)) (form_vars c.body) = λ k d lt. All-contains (λ (x : Var). OfSort (table_of ds) x.sort (numbered_values ws x.number)) (flat_map term_vars c.args) (get_or (form_vars c.body) k d) read (fine.over k d lt) in
          form_given (theory_meaning ds) [] (numbered_values ws) h.own rest (rel_able rest ws below) (is_table ds theory) c.body fine.plain.formed fine.uses vars;
    }

    rel_gives : are_all (table_of ds) (heading_of ds).arguments ≡ true → AllGive ds
    rel_gives whole f s vs at of = by (same_or_other f h.own)
      where
        by : (f ≡ h.own) ⊎ (f ≡ h.own → ⊥) → GivesOn (theory_meaning ds) [] f s.result vs
        by (inr other) = h.others f s vs at (other_name h.own f s (rel_symbol name sorts) h.symbol at other) of
        by (inl same) =
            let is : rel_symbol name sorts ≡ s = let k : Some (rel_symbol name sorts) ≡ Some s = sym h.symbol ∙ (ap (symbol_at (table_of ds)) (sym same) ∙ at) in cc in
            let given = all_called (table_of ds) sorts Rel (made_of ds) IsAny rel_at rel_run (relation_clauses ds name) rel_called h.fit (ap (are_all (table_of ds)) h.listed ∙ whole) vs (subst (λ (z : Sym). OfSorts (table_of ds) z.args vs) (sym is) of) in
            subst (λ (g : SymId). GivesOn (theory_meaning ds) [] g s.result vs) (sym same) (subst (λ (z : Sym). GivesOn (theory_meaning ds) [] h.own z.result vs) is given)

  -- where no clause is missing, the last heading's symbol gives something too
  whole_gives : (o : Option Decl) → (heading_of ds).declared ≡ o → is_whole ds ≡ true → Stands ds o → AllGive ds
  whole_gives (Some (decl.Fun name sorts result)) e whole h = fun_gives name sorts result h (sym (ap (λ (z : Option Decl). is_complete (table_of ds) (has_clauses z) (heading_of ds).arguments) e) ∙ whole)
  whole_gives (Some (decl.Rel name sorts)) e whole h = rel_gives name sorts h (sym (ap (λ (z : Option Decl). is_complete (table_of ds) (has_clauses z) (heading_of ds).arguments) e) ∙ whole)
  whole_gives None e whole h = h
  whole_gives (Some (decl.ListSort name nil cons item)) e whole h = h
  whole_gives (Some (decl.TupleSort name make parts)) e whole h = h
  whole_gives (Some (decl.FunClause args body)) e whole h = h
  whole_gives (Some (decl.RelClause args body)) e whole h = h
  whole_gives (Some (decl.Order name args measure)) e whole h = h
  whole_gives (Some (decl.Axiom name f)) e whole h = h
  whole_gives (Some (decl.Monotone name mono)) e whole h = h

  -- what held of a symbol holds with one declaration more
  moved : (d : Decl) (f : SymId) (s : Sym) (vs : List ValueTree) → symbol_at (table_of ds) f ≡ Some s → OfSorts (table_of (ds ++ d ∷ [])) s.args vs → (OfSorts (table_of ds) s.args vs → GivesOn (theory_meaning ds) [] f s.result vs) → GivesOn (theory_meaning (ds ++ d ∷ [])) [] f s.result vs
  moved d f s vs at of gives =
      let table = is_table ds theory in
      let args : All (IsSort (table_of ds)) s.args = every_at (λ (z : Sym). All (IsSort (table_of ds)) z.args) (table_of ds) f s table.args at in
      let result : IfSome s.result (IsSort (table_of ds)) = every_at (λ (z : Sym). IfSome z.result (IsSort (table_of ds))) (table_of ds) f s table.results at in
      gives_more (theory_meaning ds) (theory_meaning (ds ++ d ∷ [])) table (theory_grows ds d theory) [] f s.result vs result
      (gives (sorts_back (table_of ds) (table_of (ds ++ d ∷ [])) table (next_grows ds d) s.args vs args of))

-- what a declaration brings
abbrev IsBrought : Decl → Sym → Type 0
IsBrought (decl.ListSort name nil cons item) s = IsConstructor s.kind
IsBrought (decl.TupleSort name make parts) s = IsConstructor s.kind
IsBrought (decl.Fun name args result) s = s ≡ fun_symbol name args result
IsBrought (decl.Rel name args) s = s ≡ rel_symbol name args
IsBrought (decl.Order name args measure) s = s ≡ order_symbol name args
IsBrought _ s = ⊥

-- what stands behind a list
get_behind : (P : Sym → Type 0) (xs more : List Sym) (k : ℕ) (s : Sym) → All P more → slice_get xs k ≡ None → slice_get (xs ++ more) k ≡ Some s → P s
get_behind P [] more k s h none at = subst P (get_or_from_slice_get more k s s at) (h k s (slice_get_within more k s at))
get_behind P (x ∷ xs) more zero s h none at = absurd (cc)
get_behind P (x ∷ xs) more (suc k) s h none at = get_behind P xs more k s h none at

-- a symbol that wasn't there was brought
brought : (t : SymbolTable) (d : Decl) (f : SymId) (s : Sym) → symbol_at (table_after t d) f ≡ Some s → symbol_at t f ≡ None → IsBrought d s
brought t (decl.ListSort name nil cons item) f s at none =
    let n = nil_symbol t nil in
    let c = cons_symbol t cons item in
    let P : Sym → Type 0 = λ z. IsConstructor z.kind in
    get_behind P t.syms (n ∷ c ∷ []) f.0 s (All-cons P n (c ∷ []) tt (All-cons P c [] tt (All-nil P))) none (ap (λ (z : List Sym). slice_get z f.0) (sym (append_assoc t.syms (n ∷ []) (c ∷ []))) ∙ at)
brought t (decl.TupleSort name make parts) f s at none =
    let m = make_symbol t make parts in
    let P : Sym → Type 0 = λ z. IsConstructor z.kind in
    get_behind P t.syms (m ∷ []) f.0 s (All-cons P m [] tt (All-nil P)) none at
brought t (decl.Fun name args result) f s at none =
    let m = fun_symbol name args result in
    let P : Sym → Type 0 = λ z. z ≡ m in
    get_behind P t.syms (m ∷ []) f.0 s (All-cons P m [] refl (All-nil P)) none at
brought t (decl.Rel name args) f s at none =
    let m = rel_symbol name args in
    let P : Sym → Type 0 = λ z. z ≡ m in
    get_behind P t.syms (m ∷ []) f.0 s (All-cons P m [] refl (All-nil P)) none at
brought t (decl.Order name args measure) f s at none =
    let m = order_symbol name args in
    let P : Sym → Type 0 = λ z. z ≡ m in
    get_behind P t.syms (m ∷ []) f.0 s (All-cons P m [] refl (All-nil P)) none at
brought t (decl.FunClause args body) f s at none = let never : None ≡ Some s = sym none ∙ at in absurd (cc)
brought t (decl.RelClause args body) f s at none = let never : None ≡ Some s = sym none ∙ at in absurd (cc)
brought t (decl.Axiom name g) f s at none = let never : None ≡ Some s = sym none ∙ at in absurd (cc)
brought t (decl.Monotone name mono) f s at none = let never : None ≡ Some s = sym none ∙ at in absurd (cc)

name_there : (name : List ℕ) → IsName name → [] ≢ name
name_there name is e = let some = word_nonempty name (name_is_word name is) in let none : length name ≡ 0 = ap length (sym e) in absurd (omega (arith, some, none))

either_nothing : {B : Type 0} (b : Bool) → ◌≡◌ {A = List B} (if b then [] else []) []
either_nothing true = refl
either_nothing false = refl

module _ (ds : List Decl) (theory : IsTheory ds) (d : Decl) (may : MayDeclare ds d) where
  next_heading : heading_of (ds ++ d ∷ []) ≡ heading_after (heading_of ds) d
  next_heading = fold-append heading_after (record { declared = None; arguments = [] }) ds (d ∷ [])

  -- a symbol of the table was there or was brought
  there_or_brought : (f : SymId) (s : Sym) → symbol_at (table_of (ds ++ d ∷ [])) f ≡ Some s → (symbol_at (table_of ds) f ≡ Some s) ⊎ ((symbol_at (table_of ds) f ≡ None) × IsBrought d s)
  there_or_brought f s at = by (symbol_at (table_of ds) f) refl
    where
      by : (o : Option Sym) → symbol_at (table_of ds) f ≡ o → (symbol_at (table_of ds) f ≡ Some s) ⊎ ((symbol_at (table_of ds) f ≡ None) × IsBrought d s)
      by None e = inr (e, brought (table_of ds) d f s (sym (ap (λ (t : SymbolTable). symbol_at t f) (table_next ds d)) ∙ at) e)
      by (Some x) e =
          let also : symbol_at (table_of (ds ++ d ∷ [])) f ≡ Some x = symbol_at-IsPrefix (table_of ds) (table_of (ds ++ d ∷ [])) f x e (next_grows ds d) in
          let same : Some x ≡ Some s = sym also ∙ at in
          inl (e ∙ same)

  -- with a constructor, or nothing, more
  constructors_more : ((s : Sym) → IsBrought d s → IsConstructor s.kind) → AllGive ds → AllGive (ds ++ d ∷ [])
  constructors_more made h f s vs at of = by (there_or_brought f s at)
    where
      by : (symbol_at (table_of ds) f ≡ Some s) ⊎ ((symbol_at (table_of ds) f ≡ None) × IsBrought d s) → GivesOn (theory_meaning (ds ++ d ∷ [])) [] f s.result vs
      by (inl e) = moved ds theory d f s vs e of (h f s vs e)
      by (inr n) = constructor_gives (theory_meaning (ds ++ d ∷ [])) [] f s vs (made_of (ds ++ d ∷ [])) at (made s n.1) of

  -- with a function or relation of the name more
  others_more : (name : List ℕ) → ((s : Sym) → IsBrought d s → s.name ≡ name) → AllGive ds → OthersGive (ds ++ d ∷ []) name
  others_more name named h f s vs at other of = by (there_or_brought f s at)
    where
      by : (symbol_at (table_of ds) f ≡ Some s) ⊎ ((symbol_at (table_of ds) f ≡ None) × IsBrought d s) → GivesOn (theory_meaning (ds ++ d ∷ [])) [] f s.result vs
      by (inl e) = moved ds theory d f s vs e of (h f s vs e)
      by (inr n) = absurd (other (named s n.1))

  -- with a clause more, which brings nothing
  others_kept : (name : List ℕ) → ((s : Sym) → IsBrought d s → ⊥) → OthersGive ds name → OthersGive (ds ++ d ∷ []) name
  others_kept name none h f s vs at other of = by (there_or_brought f s at)
    where
      by : (symbol_at (table_of ds) f ≡ Some s) ⊎ ((symbol_at (table_of ds) f ≡ None) × IsBrought d s) → GivesOn (theory_meaning (ds ++ d ∷ [])) [] f s.result vs
      by (inl e) = moved ds theory d f s vs e of (λ ok. h f s vs e other ok)
      by (inr n) = absurd (none s n.1)

last_symbol : (xs : List Sym) (s : Sym) → slice_get (xs ++ s ∷ []) (length xs) ≡ Some s
last_symbol [] s = refl
last_symbol (x ∷ xs) s = last_symbol xs s

-- a new function
fun_next : (ds : List Decl) (name : List ℕ) (args : List Sort) (result : Sort) → IsTheory ds → MayDeclare ds (decl.Fun name args result) → AllGive ds → FunStands (ds ++ decl.Fun name args result ∷ []) name args result
fun_next ds name args result theory may h =
    let d : Decl = decl.Fun name args result in
    let t = table_of ds in
    let own : SymId = sym_id (length t.syms) in
    let some : [] ≢ name = name_there name may.brings.fitting.named in
    let new : Contains (names_of t) name → ⊥ = λ c. may.brings.free (inl c) in
    let none : function_clauses (ds ++ d ∷ []) name ≡ [] = picked_more function_clause name ds d ∙ (ap (λ (z : List (Clause OutTree)). z ++ (if bytes_eq (heading_name (heading_of ds).declared) name then [] else [])) (no_clauses name function_clause ds some new) ∙ either_nothing (bytes_eq (heading_name (heading_of ds).declared) name)) in
    let table = table_of (ds ++ d ∷ []) in
    record {
      others = others_more ds theory d may name (λ s e. ap (λ (z : Sym). z.name) e) h;
      own = own;
      symbol = ap (λ (z : SymbolTable). symbol_at z own) (table_next ds d) ∙ last_symbol t.syms (fun_symbol name args result);
      listed = ap (map (λ (c : Clause OutTree). c.args)) none ∙ sym (ap (λ (z : Heading). z.arguments) (next_heading ds theory d may));
      fit = subst (ClausesFit table args (FunFine table own result)) (sym none) tt;
    }

rel_next : (ds : List Decl) (name : List ℕ) (args : List Sort) → IsTheory ds → MayDeclare ds (decl.Rel name args) → AllGive ds → RelStands (ds ++ decl.Rel name args ∷ []) name args
rel_next ds name args theory may h =
    let d : Decl = decl.Rel name args in
    let t = table_of ds in
    let own : SymId = sym_id (length t.syms) in
    let some : [] ≢ name = name_there name may.brings.fitting.named in
    let new : Contains (names_of t) name → ⊥ = λ c. may.brings.free (inl c) in
    let none : relation_clauses (ds ++ d ∷ []) name ≡ [] = picked_more relation_clause name ds d ∙ (ap (λ (z : List (Clause FormTree)). z ++ (if bytes_eq (heading_name (heading_of ds).declared) name then [] else [])) (no_clauses name relation_clause ds some new) ∙ either_nothing (bytes_eq (heading_name (heading_of ds).declared) name)) in
    let table = table_of (ds ++ d ∷ []) in
    record {
      others = others_more ds theory d may name (λ s e. ap (λ (z : Sym). z.name) e) h;
      own = own;
      symbol = ap (λ (z : SymbolTable). symbol_at z own) (table_next ds d) ∙ last_symbol t.syms (rel_symbol name args);
      listed = ap (map (λ (c : Clause FormTree). c.args)) none ∙ sym (ap (λ (z : Heading). z.arguments) (next_heading ds theory d may));
      fit = subst (ClausesFit table args (RelFine table own)) (sym none) tt;
    }

-- a new order
module _ (ds : List Decl) (name : List ℕ) (args : List Sort) (measure : TermTree) (theory : IsTheory ds) (may : MayDeclare ds (decl.Order name args measure)) where
  abbrev d : Decl
  d = decl.Order name args measure

  abbrev m : Meaning
  m = theory_meaning (ds ++ decl.Order name args measure ∷ [])

  order_new : Contains (names_of (table_of ds)) name → ⊥
  order_new c = may.brings.free (inl c)

  order_found : first_of (measures_of (ds ++ d ∷ []) name) ≡ Some measure
  order_found =
      ap first_of (flat_map-append (measure_in name) ds (d ∷ []))
      ∙ (ap (λ (z : List TermTree). first_of (z ++ measures_of (d ∷ []) name)) (no_measure name ds order_new) ∙ ap (λ b. first_of ((if b then measure ∷ [] else []) ++ [])) (same_test name))

  module _ (h : AllGive ds) (f : SymId) (s : Sym) (vs : List ValueTree) (at : symbol_at (table_of (ds ++ d ∷ [])) f ≡ Some s) (of : OfSorts (table_of (ds ++ d ∷ [])) s.args vs) where
    order_step : (n : ℕ) → symbol_at (table_of (ds ++ d ∷ [])) f ≡ Some (order_symbol name args) → (reading_at m (suc n) []).truth f vs ≡ after 1 (by_measure (reading_at m n []) vs measure)
    order_step n is = ap (option_and_then (λ (x : Sym). truth_by m (Some (reading_at m n)) x.name vs x.kind)) is ∙ ap (option_and_then (λ (z : TermTree). after 1 (by_measure (reading_at m n []) vs z))) order_found

    order_gives : symbol_at (table_of ds) f ≡ None → s ≡ order_symbol name args → GivesOn m [] f s.result vs
    order_gives none is =
        let table = is_table ds theory in
        let both : OfSorts (table_of (ds ++ d ∷ [])) (args ++ args) vs = subst (λ (z : Sym). OfSorts (table_of (ds ++ d ∷ [])) z.args vs) is of in
        let back = sorts_back (table_of ds) (table_of (ds ++ d ∷ [])) table (next_grows ds d) (args ++ args) vs may.brings.args both in
        let g = order_given (theory_meaning ds) args measure f none may.asks.sorted may.asks.number may.asks.over h vs back in
        let part = grown_part (theory_meaning ds) m (theory_grows ds d theory) g.nesting [] in
        let given : Given IsAny (λ n. (reading_at m n []).truth f vs) = record {
          nesting = suc g.nesting;
          counted = with_turns 1 g.counted;
          is = order_step g.nesting (at ∙ ap Some is) ∙ ap (after 1) (kept_measure (reading_at (theory_meaning ds) g.nesting []) (reading_at m g.nesting []) part vs measure g.counted g.is);
          good = tt;
        } in
        subst (λ (z : Sym). GivesOn m [] f z.result vs) (sym is) given

    order_or_other : (symbol_at (table_of ds) f ≡ Some s) ⊎ ((symbol_at (table_of ds) f ≡ None) × IsBrought d s) → GivesOn m [] f s.result vs
    order_or_other (inl e) = moved ds theory d f s vs e of (h f s vs e)
    order_or_other (inr n) = order_gives n.0 n.1

  order_next : AllGive ds → AllGive (ds ++ d ∷ [])
  order_next h f s vs at of = order_or_other h f s vs at of (there_or_brought ds theory d may f s at)

-- the symbol that is found by the name has the name
own_symbol : (table : SymbolTable) → IsTable table → (name : List ℕ) (f own : SymId) (s : Sym) → symbol_of_name table name ≡ Some f → symbol_at table own ≡ Some s → s.name ≡ name → f ≡ own
own_symbol table is name f own s defined at named = by (position (bytes_eq name) (names_of table)) refl defined
  where
    by : (o : Option ℕ) → position (bytes_eq name) (names_of table) ≡ o → option_map sym_id o ≡ Some f → f ≡ own
    by None e h = absurd (cc)
    by (Some i) e h =
        let p = position-Some (bytes_eq name) (names_of table) i [] e in
        let count = length-map table.syms (λ (x : Sym). x.name) in
        let within = p.0 in
        let lt : i < length table.syms = omega arith in
        let x : Sym = get_or table.syms i s in
        let there : slice_get table.syms i ≡ Some x = slice_get-get_or table.syms i s lt in
        let read : get_or (names_of table) i [] ≡ x.name = get_or-map (λ (z : Sym). z.name) table.syms i s [] lt in
        let is_name : name ≡ get_or (names_of table) i [] = (bytes_eq-Decides name (get_or (names_of table) i [])).0 p.1 in
        let same : i ≡ own.0 = is.symbols i own.0 x s there at (sym read ∙ (sym is_name ∙ sym named)) in
        let found : sym_id i ≡ f = cc in
        same_id f own (ap (λ (z : SymId). z.0) (sym found) ∙ same)

-- a clause more of a function
fun_clause_next : (ds : List Decl) (args : List TermTree) (body : OutTree) → IsTheory ds → MayDeclare ds (decl.FunClause args body) → (c : MayFunClause ds args body) → FunStands ds c.name c.sorts c.result → FunStands (ds ++ decl.FunClause args body ∷ []) c.name c.sorts c.result
fun_clause_next ds args body theory may c h =
    let d : Decl = decl.FunClause args body in
    let clause : Clause OutTree = record { args = args; body = body } in
    let same : table_of ds ≡ table_of (ds ++ d ∷ []) = sym (table_next ds d) in
    let more : function_clauses (ds ++ d ∷ []) c.name ≡ function_clauses ds c.name ++ clause ∷ [] =
    picked_more function_clause c.name ds d ∙ (ap (λ (o : Option Decl). function_clauses ds c.name ++ (if bytes_eq (heading_name o) c.name then clause ∷ [] else [])) c.heading ∙ ap (λ b. function_clauses ds c.name ++ (if b then clause ∷ [] else [])) (same_test c.name)) in
    let own : c.own ≡ h.own = own_symbol (table_of ds) (is_table ds theory) c.name c.own h.own (fun_symbol c.name c.sorts c.result) c.defined h.symbol refl in
    let uses : UsesOut h.own c.rest body = subst (λ (z : SymId). UsesOut z c.rest body) own c.uses in
    let fits : Fits (table_of ds) c.sorts (FunFine (table_of ds) h.own c.result) (map (λ (x : Clause OutTree). x.args) (function_clauses ds c.name)) clause = record {
      rest = c.rest;
      fine = record { plain = c.plain; sort = c.sort; over = c.over; uses = uses };
      arguments = c.arguments;
      turn = ap (λ (z : List (List TermTree)). turn_of (table_of ds) z args) h.listed ∙ c.turn;
    } in
    let all : ClausesFit (table_of ds) c.sorts (FunFine (table_of ds) h.own c.result) (function_clauses ds c.name ++ clause ∷ []) = fit_more (table_of ds) c.sorts (FunFine (table_of ds) h.own c.result) (function_clauses ds c.name) clause h.fit fits in
    record {
      others = others_kept ds theory d may c.name (λ s n. n) h.others;
      own = h.own;
      symbol = ap (λ (z : SymbolTable). symbol_at z h.own) (sym same) ∙ h.symbol;
      listed = ap (map (λ (x : Clause OutTree). x.args)) more ∙ (map-append (λ (x : Clause OutTree). x.args) (function_clauses ds c.name) (clause ∷ []) ∙ (ap (λ (z : List (List TermTree)). z ++ args ∷ []) h.listed ∙ sym (ap (λ (z : Heading). z.arguments) (next_heading ds theory d may))));
      fit = subst (λ (t : SymbolTable). ClausesFit t c.sorts (FunFine t h.own c.result) (function_clauses (ds ++ d ∷ []) c.name)) same (subst (ClausesFit (table_of ds) c.sorts (FunFine (table_of ds) h.own c.result)) (sym more) all);
    }

-- and of a relation
rel_clause_next : (ds : List Decl) (args : List TermTree) (body : FormTree) → IsTheory ds → MayDeclare ds (decl.RelClause args body) → (c : MayRelClause ds args body) → RelStands ds c.name c.sorts → RelStands (ds ++ decl.RelClause args body ∷ []) c.name c.sorts
rel_clause_next ds args body theory may c h =
    let d : Decl = decl.RelClause args body in
    let clause : Clause FormTree = record { args = args; body = body } in
    let same : table_of ds ≡ table_of (ds ++ d ∷ []) = sym (table_next ds d) in
    let more : relation_clauses (ds ++ d ∷ []) c.name ≡ relation_clauses ds c.name ++ clause ∷ [] =
    picked_more relation_clause c.name ds d ∙ (ap (λ (o : Option Decl). relation_clauses ds c.name ++ (if bytes_eq (heading_name o) c.name then clause ∷ [] else [])) c.heading ∙ ap (λ b. relation_clauses ds c.name ++ (if b then clause ∷ [] else [])) (same_test c.name)) in
    let own : c.own ≡ h.own = own_symbol (table_of ds) (is_table ds theory) c.name c.own h.own (rel_symbol c.name c.sorts) c.defined h.symbol refl in
    let uses : UsesForm h.own c.rest body = subst (λ (z : SymId). UsesForm z c.rest body) own c.uses in
    let fits : Fits (table_of ds) c.sorts (RelFine (table_of ds) h.own) (map (λ (x : Clause FormTree). x.args) (relation_clauses ds c.name)) clause = record {
      rest = c.rest;
      fine = record { plain = c.plain; over = c.over; uses = uses };
      arguments = c.arguments;
      turn = ap (λ (z : List (List TermTree)). turn_of (table_of ds) z args) h.listed ∙ c.turn;
    } in
    let all : ClausesFit (table_of ds) c.sorts (RelFine (table_of ds) h.own) (relation_clauses ds c.name ++ clause ∷ []) = fit_more (table_of ds) c.sorts (RelFine (table_of ds) h.own) (relation_clauses ds c.name) clause h.fit fits in
    record {
      others = others_kept ds theory d may c.name (λ s n. n) h.others;
      own = h.own;
      symbol = ap (λ (z : SymbolTable). symbol_at z h.own) (sym same) ∙ h.symbol;
      listed = ap (map (λ (x : Clause FormTree). x.args)) more ∙ (map-append (λ (x : Clause FormTree). x.args) (relation_clauses ds c.name) (clause ∷ []) ∙ (ap (λ (z : List (List TermTree)). z ++ args ∷ []) h.listed ∙ sym (ap (λ (z : Heading). z.arguments) (next_heading ds theory d may))));
      fit = subst (λ (t : SymbolTable). ClausesFit t c.sorts (RelFine t h.own) (relation_clauses (ds ++ d ∷ []) c.name)) same (subst (ClausesFit (table_of ds) c.sorts (RelFine (table_of ds) h.own)) (sym more) all);
    }

-- how the last heading stands, with one declaration more
stands_next : (ds : List Decl) (d : Decl) → IsTheory ds → MayDeclare ds d → Stands ds (heading_of ds).declared → Stands (ds ++ d ∷ []) (heading_after (heading_of ds) d).declared
stands_next ds (decl.FunClause args body) theory may h =
    let c : MayFunClause ds args body = may.asks in
    subst (Stands (ds ++ decl.FunClause args body ∷ [])) (sym c.heading) (fun_clause_next ds args body theory may c (subst (Stands ds) c.heading h))
stands_next ds (decl.RelClause args body) theory may h =
    let c : MayRelClause ds args body = may.asks in
    subst (Stands (ds ++ decl.RelClause args body ∷ [])) (sym c.heading) (rel_clause_next ds args body theory may c (subst (Stands ds) c.heading h))
stands_next ds (decl.Fun name args result) theory may h = fun_next ds name args result theory may (whole_gives ds theory (heading_of ds).declared refl may.in_time h)
stands_next ds (decl.Rel name args) theory may h = rel_next ds name args theory may (whole_gives ds theory (heading_of ds).declared refl may.in_time h)
stands_next ds (decl.Order name args measure) theory may h = order_next ds name args measure theory may (whole_gives ds theory (heading_of ds).declared refl may.in_time h)
stands_next ds (decl.ListSort name nil cons item) theory may h = constructors_more ds theory (decl.ListSort name nil cons item) may (λ s n. n) (whole_gives ds theory (heading_of ds).declared refl may.in_time h)
stands_next ds (decl.TupleSort name make parts) theory may h = constructors_more ds theory (decl.TupleSort name make parts) may (λ s n. n) (whole_gives ds theory (heading_of ds).declared refl may.in_time h)
stands_next ds (decl.Axiom name f) theory may h = constructors_more ds theory (decl.Axiom name f) may (λ s n. absurd n) (whole_gives ds theory (heading_of ds).declared refl may.in_time h)
stands_next ds (decl.Monotone name mono) theory may h = constructors_more ds theory (decl.Monotone name mono) may (λ s n. absurd n) (whole_gives ds theory (heading_of ds).declared refl may.in_time h)

-- zero and successor give something
first_give : AllGive []
first_give f s vs at of =
    let P : Sym → Type 0 = λ z. IsConstructor z.kind in
    constructor_gives (theory_meaning []) [] f s vs (made_of []) at (every_at P first_symbols f s (All-cons P zero_symbol (succ_symbol ∷ []) tt (All-cons P succ_symbol [] tt (All-nil P))) at) of

stands : (ds : List Decl) → IsTheory ds → Stands ds (heading_of ds).declared
stands _ nothing = first_give
stands _ (one_more ds d before may) = subst (λ (z : Heading). Stands (ds ++ d ∷ []) z.declared) (sym (next_heading ds before d may)) (stands_next ds d before may (stands ds before))

-- where no clause is missing, all symbols give something
pub all_give : (ds : List Decl) → IsTheory ds → is_whole ds ≡ true → AllGive ds
all_give ds theory whole = whole_gives ds theory (heading_of ds).declared refl whole (stands ds theory)
