-- What the symbols of a theory give, they give where it has more declarations.
use Rattle.std.proofs.Common.{◌≡◌, ℕ, List, [], ◌∷◌, ◌++◌, All, IfSome, Option, Some, None, if◌then◌else◌, refl, sym, ap, subst, ◌∙◌}
use Rattle.std.specs.Option.{option_and_then, option_map}
use Rattle.std.specs.Str.{bytes_eq}
use Rattle.std.proofs.lemmas.Grind.{flat_map-append}
use Rattle.std.proofs.lemmas.List.Elements.{All-cons, All-head, All-nil, All-push, All-tail, All-weaker}
use Rattle.syn_term.specs.declared.sorts.Head.{Head}
use Rattle.syn_term.specs.declared.sorts.Head.TheVariants as head
use Rattle.syn_term.specs.declared.sorts.Kind.{Kind}
use Rattle.syn_term.specs.declared.sorts.Kind.TheVariants as kind
use Rattle.syn_term.specs.declared.sorts.Sort.{Sort}
use Rattle.syn_term.specs.declared.sorts.Sym.{Sym}
use Rattle.syn_term.specs.declared.sorts.SymId.{SymId}
use Rattle.syn_term.specs.declared.term.Node.TheViews as view
use Rattle.syn_term.specs.DeclaredSorts.{IsTable}
use Rattle.syn_term.specs.Symbols.{IsPrefix, IsSort, SymbolTable, symbol_at}
use Rattle.syn_term.specs.Terms.{IsApplication, TermTree, head_of}
use Rattle.syn_term.proofs.SymbolLaws.{symbol_at-IsPrefix}
use Rattle.syn_form.specs.Plain.{IsSorted}
use Rattle.syn_form.proofs.SortedTerms.{application_sorted}
use Rattle.syn_form.proofs.TermNodes.{by_term_cases}
use Rattle.syn_value.specs.declared.tree.ValueTree.{ValueTree, out-ValueTree}
use Rattle.syn_model.specs.declared.decl.Decl.{Decl}
use Rattle.syn_model.specs.declared.decl.Decl.TheVariants as decl
use Rattle.syn_model.specs.Calls.{Meaning, fitting, parts_by, taken_apart}
use Rattle.syn_model.specs.Clausal.{Clause, function_clause, function_clauses, measure_in, measures_of, relation_clause, relation_clauses}
use Rattle.syn_model.specs.Declaring.{Asks, IsTheory, nothing, one_more}
use Rattle.syn_model.specs.Headings.{heading_of}
use Rattle.syn_model.specs.Tables.{table_of}
use Rattle.syn_model.specs.Truth.{theory_meaning}
use Rattle.syn_model.proofs.BareClauses.{head-App, head-Var}
use Rattle.syn_model.proofs.ClauseLists.{heading_name, picked_all, picked_more}
use Rattle.syn_model.proofs.GrowingMeanings.{Grows, grown_part}
use Rattle.syn_model.proofs.GrowingTables.{next_grows, sort_kept}
use Rattle.syn_model.proofs.KeptReadings.{keeps_same}
use Rattle.syn_model.proofs.SortedEvaluation.{GivesOn}
use Rattle.syn_model.proofs.SortedValues.{IsMadeAs, made_at, made_of}

-- what stands at the top of an argument is a variable or a symbol of the table
abbrev pub IsKnownTop : SymbolTable → Head → Type 0
IsKnownTop table (head.Var x) = Unit {0}
IsKnownTop table (head.Sym f) = (s : Sym) × (symbol_at table f ≡ Some s)

abbrev pub AreKnown : SymbolTable → List TermTree → Type 0
AreKnown table = All (λ t. IsKnownTop table (head_of t))

abbrev pub IsKnownDecl : SymbolTable → Decl → Type 0
IsKnownDecl table (decl.FunClause args body) = AreKnown table args
IsKnownDecl table (decl.RelClause args body) = AreKnown table args
IsKnownDecl table _ = Unit {0}

known_sorted : (table : SymbolTable) (t : TermTree) → IsSorted table t → IsKnownTop table (head_of t)
known_sorted table = by_term_cases (λ t. IsSorted table t → IsKnownTop table (head_of t))
    (λ p x h. subst (IsKnownTop table) (sym (head-Var p x)) tt)
    (λ p f args held h. let a : IsApplication table f args = ((application_sorted table (view.App p f args) p f args args args refl refl refl).0 h).0.0 in subst (IsKnownTop table) (sym (head-App p f args)) (a.sym, a.is))

module _ (small great : SymbolTable) (grows : IsPrefix small great) where
  known_top : (h : Head) → IsKnownTop small h → IsKnownTop great h
  known_top (head.Var x) k = tt
  known_top (head.Sym f) k = (k.0, symbol_at-IsPrefix small great f k.0 k.1 grows)

  known_more : (ts : List TermTree) → AreKnown small ts → AreKnown great ts
  known_more ts h = All-weaker (λ t. IsKnownTop small (head_of t)) (λ t. IsKnownTop great (head_of t)) (λ t. known_top (head_of t)) ts h

  known_decl : (d : Decl) → IsKnownDecl small d → IsKnownDecl great d
  known_decl (decl.FunClause args body) h = known_more args h
  known_decl (decl.RelClause args body) h = known_more args h
  known_decl _ h = tt

  parts_same : (h : Head) (v : ValueTree) → IsKnownTop small h → parts_by small h v ≡ parts_by great h v
  parts_same (head.Var x) v k = refl
  parts_same (head.Sym f) v k =
      let take : Sym → Option (List ValueTree) = λ s. taken_apart s.kind (out-ValueTree v) in
      ap (option_and_then take) k.1 ∙ sym (ap (option_and_then take) (symbol_at-IsPrefix small great f k.0 k.1 grows))

  -- arguments of known symbols fit the same values by either table
  pub fitting_same : (ts : List TermTree) → AreKnown small ts → (vs : List ValueTree) → fitting small ts vs ≡ fitting great ts vs
  fitting_same [] h [] = refl
  fitting_same [] h (v ∷ vs) = refl
  fitting_same (t ∷ ts) h [] = refl
  fitting_same (t ∷ ts) h (v ∷ vs) =
      let first = parts_same (head_of t) v (All-head (λ u. IsKnownTop small (head_of u)) t ts h) in
      let others = fitting_same ts (All-tail (λ u. IsKnownTop small (head_of u)) t ts h) vs in
      ap (option_and_then (λ (front : List ValueTree). option_map (λ (rest : List ValueTree). front ++ rest) (fitting small ts vs))) first
      ∙ ap (λ (o : Option (List ValueTree)). option_and_then (λ (front : List ValueTree). option_map (λ (rest : List ValueTree). front ++ rest) o) (parts_by great (head_of t) v)) others

known_new : (ds : List Decl) (d : Decl) → Asks ds d → IsKnownDecl (table_of ds) d
known_new ds (decl.FunClause args body) h = All-weaker (IsSorted (table_of ds)) (λ t. IsKnownTop (table_of ds) (head_of t)) (known_sorted (table_of ds)) args h.arguments.sorted
known_new ds (decl.RelClause args body) h = All-weaker (IsSorted (table_of ds)) (λ t. IsKnownTop (table_of ds) (head_of t)) (known_sorted (table_of ds)) args h.arguments.sorted
known_new ds (decl.ListSort name nil cons item) h = tt
known_new ds (decl.TupleSort name make parts) h = tt
known_new ds (decl.Fun name args result) h = tt
known_new ds (decl.Rel name args) h = tt
known_new ds (decl.Order name args measure) h = tt
known_new ds (decl.Axiom name f) h = tt
known_new ds (decl.Monotone name mono) h = tt

-- the patterns of all clauses are of known symbols
pub all_known : (ds : List Decl) → IsTheory ds → All (IsKnownDecl (table_of ds)) ds
all_known _ nothing = All-nil (IsKnownDecl (table_of []))
all_known _ (one_more ds d before may) =
    let great = table_of (ds ++ d ∷ []) in
    let grows = next_grows ds d in
    All-push (IsKnownDecl great) ds d (All-weaker (IsKnownDecl (table_of ds)) (IsKnownDecl great) (known_decl (table_of ds) great grows) ds (all_known ds before)) (known_decl (table_of ds) great grows d (known_new ds d may.asks))

abbrev FitsSame : {B : Type 0} → SymbolTable → SymbolTable → Clause B → Type 0
FitsSame small great c = (vs : List ValueTree) → fitting small c.args vs ≡ fitting great c.args vs

module _ (ds : List Decl) (great : SymbolTable) (known : All (IsKnownDecl (table_of ds)) ds) (grows : IsPrefix (table_of ds) great) where
  function_fits : (d : Decl) → IsKnownDecl (table_of ds) d → All (FitsSame (table_of ds) great) (function_clause d)
  function_fits (decl.FunClause args body) h = All-cons (FitsSame (table_of ds) great) (record { args = args; body = body }) [] (fitting_same (table_of ds) great grows args h) (All-nil (FitsSame (table_of ds) great))
  function_fits _ h = All-nil (FitsSame (table_of ds) great)

  relation_fits : (d : Decl) → IsKnownDecl (table_of ds) d → All (FitsSame (table_of ds) great) (relation_clause d)
  relation_fits (decl.RelClause args body) h = All-cons (FitsSame (table_of ds) great) (record { args = args; body = body }) [] (fitting_same (table_of ds) great grows args h) (All-nil (FitsSame (table_of ds) great))
  relation_fits _ h = All-nil (FitsSame (table_of ds) great)

  pub functions_fit : (name : List ℕ) → All (FitsSame (table_of ds) great) (function_clauses ds name)
  functions_fit name = picked_all function_clause name (FitsSame (table_of ds) great) (IsKnownDecl (table_of ds)) function_fits ds [] known

  pub relations_fit : (name : List ℕ) → All (FitsSame (table_of ds) great) (relation_clauses ds name)
  relations_fit name = picked_all relation_clause name (FitsSame (table_of ds) great) (IsKnownDecl (table_of ds)) relation_fits ds [] known

-- no symbol of a theory is an input
pub no_input : (ds : List Decl) (f : SymId) (s : Sym) → symbol_at (table_of ds) f ≡ Some s → s.kind ≡ kind.Input → ⊥
no_input ds f s at is = subst (λ (k : Kind). IsMadeAs (table_of ds).sorts k s.args s.result) is (made_at (table_of ds) f s (made_of ds) at)

-- a theory with one declaration more
pub theory_grows : (ds : List Decl) (d : Decl) → IsTheory ds → Grows (theory_meaning ds) (theory_meaning (ds ++ d ∷ []))
theory_grows ds d theory =
    let known = all_known ds theory in
    let grows = next_grows ds d in
    let great = table_of (ds ++ d ∷ []) in
    record {
      table = grows;
      functions = λ name. record { more = if bytes_eq (heading_name (heading_of ds).declared) name then function_clause d else []; is = picked_more function_clause name ds d; fit = functions_fit ds great known grows name };
      relations = λ name. record { more = if bytes_eq (heading_name (heading_of ds).declared) name then relation_clause d else []; is = picked_more relation_clause name ds d; fit = relations_fit ds great known grows name };
      measures = λ name. (measures_of (d ∷ []) name, flat_map-append (measure_in name) ds (d ∷ []));
      body = keeps_same None;
      inputs = λ f s inputs at is. absurd (no_input ds f s at is);
    }

-- what is given on values, is given by a meaning that grew
pub gives_more : (m p : Meaning) → IsTable m.table → Grows m p → (inputs : List ValueTree) (f : SymId) (result : Option Sort) (vs : List ValueTree) → IfSome result (IsSort m.table) → GivesOn m inputs f result vs → GivesOn p inputs f result vs
gives_more m p is grows inputs f None vs there g = record { nesting = g.nesting; counted = g.counted; is = (grown_part m p grows g.nesting inputs).truth f vs g.counted g.is; good = tt }
gives_more m p is grows inputs f (Some s) vs there g = record { nesting = g.nesting; counted = g.counted; is = (grown_part m p grows g.nesting inputs).value f vs g.counted g.is; good = sort_kept m.table p.table is grows.table s g.counted.result there g.good }
