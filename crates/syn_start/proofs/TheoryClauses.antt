-- The clauses of a theory over its own table, and over the table of a specification.
use Rattle.std.proofs.Common.{◌≡◌, ℕ, suc, ◌+◌, ◌≤◌, ◌<◌, Bool, true, false, List, [], ◌∷◌, ◌++◌, Option, Some, None, All, Contains, get_or, if◌then◌else◌, length, map, position, slice_get, refl, sym, ◌∙◌, ap, subst, ⊎_elim, inl, arith, zero}
use Rattle.std.specs.List.{flat_map, range_with_len}
use Rattle.std.specs.Option.{option_and_then, option_map}
use Rattle.std.specs.Str.{bytes_eq}
use Rattle.std.proofs.lemmas.List.{length-map}
use Rattle.std.proofs.lemmas.List.Elements.{All-append, All-contains, All-nil, All-cons, Contains-append_cases}
use Rattle.std.proofs.lemmas.List.Sums.{fold-append}
use Rattle.std.proofs.lemmas.Option.{get_or_from_slice_get, slice_get-get_or, slice_get-map, slice_get_within}
use Rattle.std.proofs.lemmas.Slice.Eq.{bytes_eq-Decides}
use Rattle.syn_term.specs.declared.sorts.Sort.{Sort}
use Rattle.syn_term.specs.declared.sorts.Sym.{Sym}
use Rattle.syn_term.specs.declared.sorts.SymId.{SymId}
use Rattle.syn_term.specs.declared.sorts.Var.{Var}
use Rattle.syn_term.specs.DeclaredSorts.{IsTable}
use Rattle.syn_term.specs.Symbols.{IsPrefix, IsSort, SymbolTable, names_of, symbol_at, with_symbol}
use Rattle.syn_term.specs.Terms.{IsApplication, TermTree}
use Rattle.syn_term.proofs.KeyLemmas.{some_named}
use Rattle.syn_term.proofs.SymbolLaws.{IsPrefix-refl, IsPrefix-trans, IsPrefix-with_symbol, IsSort-IsPrefix, symbol_at-IsPrefix}
use Rattle.syn_form.specs.Elaboration.{sym_id}
use Rattle.syn_form.specs.Plain.{HasOneSortEach, IsKnownSort, given_sort}
use Rattle.syn_form.specs.Trees.{FormTree, OutTree, form_vars, out_vars, term_vars}
use Rattle.syn_form.proofs.Lists.{Contains-cons_cases, none_in_nil}
use Rattle.syn_model.specs.declared.decl.Decl.{Decl}
use Rattle.syn_model.specs.declared.decl.Decl.TheVariants as decl
use Rattle.syn_model.specs.Declaring.{AreAmong, IsTheory, MayDeclare, MayFunClause, MayRelClause, nothing, one_more, symbol_of_name}
use Rattle.syn_model.specs.Headings.{Heading, heading_after, heading_of}
use Rattle.syn_model.specs.Heads.{Param, input_symbol, program_id, program_symbol, with_head, with_inputs}
use Rattle.syn_model.specs.Specifications.{IsSpec, SpecTree}
use Rattle.syn_model.specs.Tables.{fun_symbol, rel_symbol, table_after, table_of}
use Rattle.syn_model.proofs.ClauseLists.{heading_name, picked_more}
use Rattle.syn_model.proofs.GrowingTables.{is_table, next_grows, table_next}
use Rattle.syn_model.proofs.HeadTableLaws.{last_symbol}
use Rattle.syn_model.proofs.SpecLaws.{spec_table}
use Rattle.syn_start.specs.Initial.{clause_at, clause_in, clauses_of}
use Rattle.syn_model.specs.Theories.{TheoryTree}
use Rattle.syn_start.specs.Starts.{IsStart, StartTree}
use Rattle.syn_start.specs.inner.Fine.{IsClauseOf}
use Rattle.syn_start.proofs.Growing.{all_sorted_more, applies_more, atom_more, formed_more, given_known, given_more, out_more, result_more}
use Rattle.syn_start.proofs.SameOutputs.{sorts_within}

abbrev numbers : List Var → List ℕ
numbers = map (λ (v : Var). v.number)

-- variables that are numbered one after another
numbered_least : (n : ℕ) (vs : List Var) → numbers vs ≡ range_with_len n (length vs) → (v : Var) → Contains vs v → n ≤ v.number
numbered_least n [] e v c = absurd (none_in_nil v c)
numbered_least n (w ∷ vs) e v c =
    let cell : w.number ∷ numbers vs ≡ n ∷ range_with_len (n + 1) (length vs) = e in
    let first : w.number ≡ n = cc in
    let rest : numbers vs ≡ range_with_len (n + 1) (length vs) = cc in
    ⊎_elim (λ k. let same : w.number ≡ v.number = ap (λ (z : Var). z.number) k in omega arith) (λ k. let more = numbered_least (n + 1) vs rest v k in omega arith) (Contains-cons_cases w vs v c)

numbered_one : (n : ℕ) (vs : List Var) → numbers vs ≡ range_with_len n (length vs) → (v w : Var) → Contains vs v → Contains vs w → v.number ≡ w.number → v ≡ w
numbered_one n [] e v w c d same = absurd (none_in_nil v c)
numbered_one n (x ∷ vs) e v w c d same =
    let cell : x.number ∷ numbers vs ≡ n ∷ range_with_len (n + 1) (length vs) = e in
    let first : x.number ≡ n = cc in
    let rest : numbers vs ≡ range_with_len (n + 1) (length vs) = cc in
    ⊎_elim
    (λ a. let is : x.number ≡ v.number = ap (λ (z : Var). z.number) a in
    ⊎_elim (λ b. sym a ∙ b) (λ b. let more = numbered_least (n + 1) vs rest w b in absurd (omega arith)) (Contains-cons_cases x vs w d))
    (λ a. let least = numbered_least (n + 1) vs rest v a in
    ⊎_elim (λ b. let is : x.number ≡ w.number = ap (λ (z : Var). z.number) b in absurd (omega arith)) (λ b. numbered_one (n + 1) vs rest v w a b same) (Contains-cons_cases x vs w d))
    (Contains-cons_cases x vs v c)

-- no variable number has two sorts in a clause
clause_sorts : (vs ws : List Var) → numbers vs ≡ range_with_len 1 (length vs) → AreAmong ws vs → HasOneSortEach (vs ++ ws)
clause_sorts vs ws e among = sorts_within (vs ++ ws) vs inside (λ v w c d same. ap (λ (z : Var). z.sort) (numbered_one 1 vs e v w c d same))
  where
    inside : (v : Var) → Contains (vs ++ ws) v → Contains vs v
    inside v c = ⊎_elim (λ k. k) (λ k. All-contains (Contains vs) ws v among k) (Contains-append_cases vs ws v c)

-- the symbol of the last heading stands in the table
abbrev IsThere : SymbolTable → Option Decl → Type 0
IsThere table (Some (decl.Fun name args result)) = (own : SymId) × (symbol_at table own ≡ Some (fun_symbol name args result))
IsThere table (Some (decl.Rel name args)) = (own : SymId) × (symbol_at table own ≡ Some (rel_symbol name args))
IsThere table _ = Unit {0}

there_after : (table : SymbolTable) (h : Heading) (d : Decl) → IsThere table h.declared → IsThere (table_after table d) (heading_after h d).declared
there_after table h (decl.FunClause args body) there = there
there_after table h (decl.RelClause args body) there = there
there_after table h (decl.Fun name args result) there = (program_id table, last_symbol table (fun_symbol name args result))
there_after table h (decl.Rel name args) there = (program_id table, last_symbol table (rel_symbol name args))
there_after table h (decl.ListSort name nil cons item) there = tt
there_after table h (decl.TupleSort name make parts) there = tt
there_after table h (decl.Order name args measure) there = tt
there_after table h (decl.Axiom name f) there = tt
there_after table h (decl.Monotone name mono) there = tt

heading_there : (ds : List Decl) → IsTheory ds → IsThere (table_of ds) (heading_of ds).declared
heading_there _ nothing = tt
heading_there _ (one_more ds d before may) =
    let next : heading_of (ds ++ d ∷ []) ≡ heading_after (heading_of ds) d = fold-append heading_after (record { declared = None; arguments = [] }) ds (d ∷ []) in
    let h = there_after (table_of ds) (heading_of ds) d (heading_there ds before) in
    subst (λ (z : Heading). IsThere (table_of (ds ++ d ∷ [])) z.declared) (sym next) (subst (λ (z : SymbolTable). IsThere z (heading_after (heading_of ds) d).declared) (sym (table_next ds d)) h)

-- a clause of the symbol of this name
pub record IsClauseThere (table : SymbolTable) (name : List ℕ) (d : Decl) : Type 0 where
  pub own : SymId
  pub symbol : Sym
  pub at : symbol_at table own ≡ Some symbol
  pub named : symbol.name ≡ name
  pub fine : IsClauseOf table own d

module _ (small great : SymbolTable) (grows : IsPrefix small great) where
  clause_more : (f : SymId) (d : Decl) → IsClauseOf small f d → IsClauseOf great f d
  clause_more f (decl.FunClause args body) h = record {
    result = h.result;
    sort = IsSort-IsPrefix small great h.result h.sort grows;
    gives = result_more small great grows f h.result h.gives;
    applies = applies_more small great grows f args h.applies;
    sorted = all_sorted_more small great grows args h.sorted;
    formed = out_more small great grows body h.formed;
    of_sort = given_more small great grows body h.result h.of_sort;
    vars = h.vars;
  }
  clause_more f (decl.RelClause args body) h = record {
    atom = atom_more small great grows f args h.atom;
    sorted = all_sorted_more small great grows args h.sorted;
    formed = formed_more small great grows body h.formed;
    vars = h.vars;
  }
  clause_more f _ h = tt

  there_more : (name : List ℕ) (d : Decl) → IsClauseThere small name d → IsClauseThere great name d
  there_more name d h = record { own = h.own; symbol = h.symbol; at = symbol_at-IsPrefix small great h.own h.symbol h.at grows; named = h.named; fine = clause_more h.own d h.fine }

known_is : (table : SymbolTable) (o : Option Sort) (s : Sort) → o ≡ Some s → IsKnownSort table o → IsSort table s
known_is table o s e k = let same : k.0 ≡ s = let both : Some k.0 ≡ Some s = sym k.1 ∙ e in cc in subst (IsSort table) same k.2

module _ (ds : List Decl) (name : List ℕ) where
  abbrev table : SymbolTable
  table = table_of ds

  fun_fine : (args : List TermTree) (body : OutTree) (c : MayFunClause ds args body) → IsThere table (heading_of ds).declared → heading_name (heading_of ds).declared ≡ name → IsClauseThere table name (decl.FunClause args body)
  fun_fine args body c there is =
      let k : IsThere table (Some (decl.Fun c.name c.sorts c.result)) = subst (IsThere table) c.heading there in
      let applies : IsApplication table k.0 args = record { sym = fun_symbol c.name c.sorts c.result; is = k.1; no_relation = λ e. absurd (cc); no_order = λ e. absurd (cc); sorts = c.arguments.of_sorts } in
      record {
        own = k.0;
        symbol = fun_symbol c.name c.sorts c.result;
        at = k.1;
        named = sym (ap heading_name c.heading) ∙ is;
        fine = record {
          result = c.result;
          sort = known_is table (given_sort table body) c.result c.sort (given_known table body c.plain.formed);
          gives = ap (option_and_then (λ (s : Sym). s.result)) k.1;
          applies = applies;
          sorted = c.arguments.sorted;
          formed = c.plain.formed;
          of_sort = c.sort;
          vars = clause_sorts (flat_map term_vars args) (out_vars body) c.arguments.numbered c.over;
        };
      }

  rel_fine : (args : List TermTree) (body : FormTree) (c : MayRelClause ds args body) → IsThere table (heading_of ds).declared → heading_name (heading_of ds).declared ≡ name → IsClauseThere table name (decl.RelClause args body)
  rel_fine args body c there is =
      let k : IsThere table (Some (decl.Rel c.name c.sorts)) = subst (IsThere table) c.heading there in
      record {
        own = k.0;
        symbol = rel_symbol c.name c.sorts;
        at = k.1;
        named = sym (ap heading_name c.heading) ∙ is;
        fine = record {
          atom = record { sym = rel_symbol c.name c.sorts; is = k.1; relation = inl refl; sorts = c.arguments.of_sorts };
          sorted = c.arguments.sorted;
          formed = c.plain.formed;
          vars = clause_sorts (flat_map term_vars args) (form_vars body) c.arguments.numbered c.over;
        };
      }

  module _ (theory : IsTheory ds) where
    new_there : (d : Decl) → MayDeclare ds d → heading_name (heading_of ds).declared ≡ name → All (IsClauseThere table name) (clause_in d)
    new_there (decl.FunClause args body) may is = All-cons (IsClauseThere table name) (decl.FunClause args body) [] (fun_fine args body may.asks (heading_there ds theory) is) (All-nil (IsClauseThere table name))
    new_there (decl.RelClause args body) may is = All-cons (IsClauseThere table name) (decl.RelClause args body) [] (rel_fine args body may.asks (heading_there ds theory) is) (All-nil (IsClauseThere table name))
    new_there (decl.Fun n args result) may is = All-nil (IsClauseThere table name)
    new_there (decl.Rel n args) may is = All-nil (IsClauseThere table name)
    new_there (decl.ListSort n nil cons item) may is = All-nil (IsClauseThere table name)
    new_there (decl.TupleSort n make parts) may is = All-nil (IsClauseThere table name)
    new_there (decl.Order n args measure) may is = All-nil (IsClauseThere table name)
    new_there (decl.Axiom n f) may is = All-nil (IsClauseThere table name)
    new_there (decl.Monotone n mono) may is = All-nil (IsClauseThere table name)

    piece_there : (d : Decl) → MayDeclare ds d → (b : Bool) → bytes_eq (heading_name (heading_of ds).declared) name ≡ b → All (IsClauseThere table name) (if b then clause_in d else [])
    piece_there d may true e = new_there d may ((bytes_eq-Decides (heading_name (heading_of ds).declared) name).0 e)
    piece_there d may false e = All-nil (IsClauseThere table name)

all_more : (small great : SymbolTable) → IsPrefix small great → (name : List ℕ) (ds : List Decl) → All (IsClauseThere small name) ds → All (IsClauseThere great name) ds
all_more small great grows name ds h = λ i d lt. there_more small great grows name (get_or ds i d) (h i d lt)

-- each clause of a heading is one of its symbol
clauses_there : (ds : List Decl) → IsTheory ds → (name : List ℕ) → All (IsClauseThere (table_of ds) name) (clauses_of ds name)
clauses_there _ nothing name = All-nil (IsClauseThere (table_of []) name)
clauses_there _ (one_more ds d before may) name =
    let great = table_of (ds ++ d ∷ []) in
    let here = bytes_eq (heading_name (heading_of ds).declared) name in
    let grows = next_grows ds d in
    let old = all_more (table_of ds) great grows name (clauses_of ds name) (clauses_there ds before name) in
    let new = all_more (table_of ds) great grows name (if here then clause_in d else []) (piece_there ds name before d may here refl) in
    subst (All (IsClauseThere great name)) (sym (picked_more clause_in name ds d)) (All-append (IsClauseThere great name) (clauses_of ds name) (if here then clause_in d else []) old new)

get_all : {A : Type 0} (P : A → Type 0) (xs : List A) (i : ℕ) (x : A) → slice_get xs i ≡ Some x → All P xs → P x
get_all P xs i x e h = subst P (get_or_from_slice_get xs i x x e) (h i x (slice_get_within xs i x e))

-- the symbol that is found by a name is the one that has it
pub found_symbol : (table : SymbolTable) → IsTable table → (name : List ℕ) (f own : SymId) (s : Sym) → symbol_of_name table name ≡ Some f → symbol_at table own ≡ Some s → s.name ≡ name → own ≡ f
found_symbol table is name f own s defined at named = by (position (bytes_eq name) (names_of table)) refl defined
  where
    by : (o : Option ℕ) → position (bytes_eq name) (names_of table) ≡ o → option_map sym_id o ≡ Some f → own ≡ f
    by None e h = absurd (cc)
    by (Some i) e h =
        let place : slice_get (names_of table) i ≡ Some name = some_named (names_of table) name i (sym e) in
        let count = length-map table.syms (λ (x : Sym). x.name) in
        let within = slice_get_within (names_of table) i name place in
        let lt : i < length table.syms = omega arith in
        let x : Sym = get_or table.syms i s in
        let there : slice_get table.syms i ≡ Some x = slice_get-get_or table.syms i s lt in
        let read : Some x.name ≡ Some name = ap (option_map (λ (z : Sym). z.name)) (sym there) ∙ (sym (slice_get-map (λ (z : Sym). z.name) table.syms i) ∙ place) in
        let is_name : x.name ≡ name = cc in
        let same : own.0 ≡ i = is.symbols own.0 i s x at there (named ∙ sym is_name) in
        let found : sym_id i ≡ f = cc in
        ap sym_id same ∙ found

inputs_grow : (table : SymbolTable) (ps : List Param) → IsPrefix table (with_inputs table ps)
inputs_grow table [] = IsPrefix-refl table
inputs_grow table (p ∷ ps) = IsPrefix-trans table (with_symbol table (input_symbol p)) (with_inputs (with_symbol table (input_symbol p)) ps) (IsPrefix-with_symbol table (input_symbol p)) (inputs_grow (with_symbol table (input_symbol p)) ps)

-- the table of a theory begins that of each specification over it
pub spec_grows : (ds : List Decl) (s : SpecTree) → IsSpec ds s → IsPrefix (table_of ds) s.table
spec_grows ds s is =
    let p = with_symbol (table_of ds) (program_symbol s.head) in
    subst (IsPrefix (table_of ds)) (sym (spec_table ds s is)) (IsPrefix-trans (table_of ds) p (with_head (table_of ds) s.head) (IsPrefix-with_symbol (table_of ds) (program_symbol s.head)) (inputs_grow p s.head.inputs))

-- the clause that is found by a name and a number is one of the symbol that is found by the name
clause_is : (ds : List Decl) (s : SpecTree) → IsTheory ds → IsSpec ds s → (name : List ℕ) (k : ℕ) (d : Decl) (f : SymId) → clause_at ds name k ≡ Some d → symbol_of_name (table_of ds) name ≡ Some f → IsClauseOf s.table f d
clause_is ds s theory is name zero d f e found = absurd (cc)
clause_is ds s theory is name (suc k) d f e found =
    let h : IsClauseThere (table_of ds) name d = get_all (IsClauseThere (table_of ds) name) (clauses_of ds name) k d e (clauses_there ds theory name) in
    let own = found_symbol (table_of ds) (is_table ds theory) name f h.own h.symbol found h.at h.named in
    clause_more (table_of ds) s.table (spec_grows ds s is) f d (subst (λ (z : SymId). IsClauseOf (table_of ds) z d) own h.fine)

-- the same over the table of a start
pub clause_fine : (syms : SymbolTable) (x : StartTree) (t : TheoryTree) (ds : List Decl) (name : List ℕ) (k : ℕ) (d : Decl) (f : SymId) → syms ≡ x.spec.table → IsStart x → t ≡ x.theory → ds ≡ t.decls
    → clause_at ds name k ≡ Some d → symbol_of_name (table_of x.theory.decls) name ≡ Some f → IsClauseOf syms f d
clause_fine syms x t ds name k d f is h same decls at found =
    let all : ds ≡ x.theory.decls = decls ∙ ap (λ (z : TheoryTree). z.decls) same in
    subst (λ (z : SymbolTable). IsClauseOf z f d) (sym is) (clause_is x.theory.decls x.spec h.theory h.whole.over name k d f (sym (ap (λ (z : List Decl). clause_at z name k) all) ∙ at) found)
