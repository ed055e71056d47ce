-- The value of a program's call doesn't look at places: declarations and a program without them give the same.
use Rattle.std.proofs.Common.{◌≡◌, ℕ, zero, suc, ◌+◌, ◌-◌, ◌++◌, Bool, true, false, List, [], ◌∷◌, Option, None, Some, length, take, drop, map, if◌then◌else◌, slice_get, refl, sym, ap, ap₂, ◌∙◌}
use Rattle.std.specs.Option.{option_and_then, option_map, unwrap_or}
use Rattle.std.specs.Str.{bytes_eq}
use Rattle.std.proofs.lemmas.List.{map-append}
use Rattle.syn_term.specs.declared.sorts.Head.{Head}
use Rattle.syn_term.specs.declared.sorts.Kind.{Kind}
use Rattle.syn_term.specs.declared.sorts.Kind.TheVariants as kind
use Rattle.syn_term.specs.declared.sorts.SymId.{SymId}
use Rattle.syn_term.specs.Symbols.{SymbolTable, symbol_at}
use Rattle.syn_term.specs.Terms.{TermTree, bare}
use Rattle.syn_form.specs.Trees.{FormTree, OutTree, bare_form, bare_out}
use Rattle.syn_value.specs.declared.tree.ValueTree.{ValueTree}
use Rattle.syn_value.specs.declared.tree.ValueTree.TheVariants as tree
use Rattle.syn_model.specs.declared.decl.Decl.{Decl}
use Rattle.syn_model.specs.declared.decl.Decl.TheVariants as decl
use Rattle.syn_model.specs.BareTrees.{bare_decl}
use Rattle.syn_model.specs.Calls.{Chosen, Meaning, by_function, by_measure, by_relation, chosen, first_of, fitting, half, input_value, numbered_values, or_else, parts_by, reading_at, reading_over, smaller_values, truth_by, value_by}
use Rattle.syn_model.specs.Clausal.{Clause, function_clause, function_clauses, heading_after_decl, measure_in, measures_of, picked_under, relation_clause, relation_clauses}
use Rattle.syn_model.specs.Evaluation.{Counted, Reading, after, evaluate_out, free}
use Rattle.syn_model.specs.Programs.{ProgramTree}
use Rattle.syn_model.specs.Tables.{table_of}
use Rattle.syn_model.proofs.BareClauses.{head_bare}
use Rattle.syn_model.proofs.BareDeclaring.{table_bare}
use Rattle.syn_model.proofs.BareEvaluation.{evaluate_form-bare, evaluate_out-bare, evaluate_term-bare}
use Rattle.syn_eval.specs.Ending.{CallsSeeNoPlaces, meaning_of}

-- the clause, its arguments and its body so
abbrev bare_clause : {B : Type 0} → (B → B) → Clause B → Clause B
bare_clause f c = record { args = map bare c.args; body = f c.body }

abbrev bare_chosen : {B : Type 0} → (B → B) → Chosen B → Chosen B
bare_chosen f c = record { body = f c.body; values = c.values }

-- the meaning, all that stands in it so
abbrev bare_meaning : Meaning → Meaning
bare_meaning m = record { decls = map bare_decl m.decls; table = m.table; body = option_map bare_out m.body }

-- the clauses of a name are found by names alone
same_heading : (own : List ℕ) (d : Decl) → heading_after_decl own (bare_decl d) ≡ heading_after_decl own d
same_heading own (decl.FunClause args body) = refl
same_heading own (decl.RelClause args body) = refl
same_heading own (decl.Fun name args result) = refl
same_heading own (decl.Rel name args) = refl
same_heading own (decl.ListSort n nil cons item) = refl
same_heading own (decl.TupleSort n make parts) = refl
same_heading own (decl.Order n args measure) = refl
same_heading own (decl.Axiom n form) = refl
same_heading own (decl.Monotone n mono) = refl

map_when : {X Y : Type 0} (f : X → Y) (b : Bool) (xs : List X) → (if b then map f xs else []) ≡ map f (if b then xs else [])
map_when f true xs = refl
map_when f false xs = refl

picked_bare : {B : Type 0} (f : B → B) (pick : Decl → List B) → ((d : Decl) → pick (bare_decl d) ≡ map f (pick d)) → (name own : List ℕ) (ds : List Decl) → picked_under pick name own (map bare_decl ds) ≡ map f (picked_under pick name own ds)
picked_bare f pick h name own [] = refl
picked_bare f pick h name own (d ∷ ds) =
    ap₂ (λ x y. x ++ y) (ap (λ z. if bytes_eq own name then z else []) (h d) ∙ map_when f (bytes_eq own name) (pick d))
    (ap (λ z. picked_under pick name z (map bare_decl ds)) (same_heading own d) ∙ picked_bare f pick h name (heading_after_decl own d) ds)
    ∙ sym (map-append f (if bytes_eq own name then pick d else []) (picked_under pick name (heading_after_decl own d) ds))

function_bare : (d : Decl) → function_clause (bare_decl d) ≡ map (bare_clause bare_out) (function_clause d)
function_bare (decl.FunClause args body) = refl
function_bare (decl.RelClause args body) = refl
function_bare (decl.Fun name args result) = refl
function_bare (decl.Rel name args) = refl
function_bare (decl.ListSort n nil cons item) = refl
function_bare (decl.TupleSort n make parts) = refl
function_bare (decl.Order n args measure) = refl
function_bare (decl.Axiom n form) = refl
function_bare (decl.Monotone n mono) = refl

relation_bare : (d : Decl) → relation_clause (bare_decl d) ≡ map (bare_clause bare_form) (relation_clause d)
relation_bare (decl.FunClause args body) = refl
relation_bare (decl.RelClause args body) = refl
relation_bare (decl.Fun name args result) = refl
relation_bare (decl.Rel name args) = refl
relation_bare (decl.ListSort n nil cons item) = refl
relation_bare (decl.TupleSort n make parts) = refl
relation_bare (decl.Order n args measure) = refl
relation_bare (decl.Axiom n form) = refl
relation_bare (decl.Monotone n mono) = refl

measure_bare : (name : List ℕ) (d : Decl) → measure_in name (bare_decl d) ≡ map bare (measure_in name d)
measure_bare name (decl.Order other args measure) = map_when bare (bytes_eq other name) (measure ∷ [])
measure_bare name (decl.FunClause args body) = refl
measure_bare name (decl.RelClause args body) = refl
measure_bare name (decl.Fun other args result) = refl
measure_bare name (decl.Rel other args) = refl
measure_bare name (decl.ListSort n nil cons item) = refl
measure_bare name (decl.TupleSort n make parts) = refl
measure_bare name (decl.Axiom n form) = refl
measure_bare name (decl.Monotone n mono) = refl

measures_bare : (name : List ℕ) (ds : List Decl) → measures_of (map bare_decl ds) name ≡ map bare (measures_of ds name)
measures_bare name [] = refl
measures_bare name (d ∷ ds) = ap₂ (λ x y. x ++ y) (measure_bare name d) (measures_bare name ds) ∙ sym (map-append bare (measure_in name d) (measures_of ds name))

first_map : {X Y : Type 0} (f : X → Y) (xs : List X) → first_of (map f xs) ≡ option_map f (first_of xs)
first_map f [] = refl
first_map f (x ∷ xs) = refl

-- arguments fit the same values
fitting_bare : (table : SymbolTable) (ts : List TermTree) (vs : List ValueTree) → fitting table (map bare ts) vs ≡ fitting table ts vs
fitting_bare table [] [] = refl
fitting_bare table [] (v ∷ vs) = refl
fitting_bare table (t ∷ ts) [] = refl
fitting_bare table (t ∷ ts) (v ∷ vs) =
    ap₂ (λ (h : Head) (o : Option (List ValueTree)). option_and_then (λ front. option_map (λ rest. front ++ rest) o) (parts_by table h v)) (head_bare t) (fitting_bare table ts vs)

choice_bare : {B : Type 0} (f : B → B) (body : B) (o : Option (List ValueTree)) (p q : Option (Chosen B)) → p ≡ option_map (bare_chosen f) q → or_else (option_map (λ ws. record { body = f body; values = ws }) o) p ≡ option_map (bare_chosen f) (or_else (option_map (λ ws. record { body = body; values = ws }) o) q)
choice_bare f body None p q h = h
choice_bare f body (Some ws) p q h = refl

-- so the clause that is chosen is the one without places
chosen_bare : {B : Type 0} (f : B → B) (table : SymbolTable) (cs : List (Clause B)) (vs : List ValueTree) → chosen table (map (bare_clause f) cs) vs ≡ option_map (bare_chosen f) (chosen table cs vs)
chosen_bare f table [] vs = refl
chosen_bare {B} f table (c ∷ cs) vs =
    ap (λ (o : Option (List ValueTree)). or_else (option_map (λ ws. record { body = f c.body; values = ws }) o) (chosen table (map (bare_clause f) cs) vs)) (fitting_bare table c.args vs)
    ∙ choice_bare f c.body (fitting table c.args vs) (chosen table (map (bare_clause f) cs) vs) (chosen table cs vs) (chosen_bare f table cs vs)

-- what is made of what is found without places, where it is the same
then_bare : {A B : Type 0} (f : A → A) (g : A → Option B) → ((a : A) → g (f a) ≡ g a) → (o : Option A) → option_and_then g (option_map f o) ≡ option_and_then g o
then_bare f g h None = refl
then_bare f g h (Some a) = h a

-- a function's body, a relation's, and a measure, on the same values
module _ (reading : Reading) where
  function_same : (c : Chosen OutTree) → after 1 (by_function reading (bare_chosen bare_out c)) ≡ after 1 (by_function reading c)
  function_same c = ap (after 1) (evaluate_out-bare reading (numbered_values c.values) c.body)

  relation_same : (c : Chosen FormTree) → after 1 (by_relation reading (bare_chosen bare_form c)) ≡ after 1 (by_relation reading c)
  relation_same c = ap (after 1) (evaluate_form-bare reading (numbered_values c.values) c.body)

  order_same : (vs : List ValueTree) (t : TermTree) → after 1 (by_measure reading vs (bare t)) ≡ after 1 (by_measure reading vs t)
  order_same vs t =
      ap₂ (λ (v w : Option (Counted ValueTree)). after 1 (option_and_then (λ x. option_and_then (smaller_values x) w) v))
      (evaluate_term-bare reading (numbered_values (take (half (length vs)) vs)) t) (evaluate_term-bare reading (numbered_values (drop (half (length vs)) vs)) t)

-- on each reading one level deeper, so on what there may be
deeper_same : {A : Type 0} (f g : (List ValueTree → Reading) → Option A) → ((below : List ValueTree → Reading) → f below ≡ g below) → (d : Option (List ValueTree → Reading)) → option_and_then f d ≡ option_and_then g d
deeper_same f g h None = refl
deeper_same f g h (Some below) = h below

module _ (m : Meaning) (d : Option (List ValueTree → Reading)) where
  functions_same : (name : List ℕ) (vs : List ValueTree) (below : List ValueTree → Reading) → option_and_then (λ c. after 1 (by_function (below []) c)) (chosen m.table (function_clauses (map bare_decl m.decls) name) vs) ≡ option_and_then (λ c. after 1 (by_function (below []) c)) (chosen m.table (function_clauses m.decls name) vs)
  functions_same name vs below =
      ap (λ (cs : List (Clause OutTree)). option_and_then (λ c. after 1 (by_function (below []) c)) (chosen m.table cs vs)) (picked_bare (bare_clause bare_out) function_clause function_bare name [] m.decls)
      ∙ (ap (option_and_then (λ c. after 1 (by_function (below []) c))) (chosen_bare bare_out m.table (function_clauses m.decls name) vs)
      ∙ then_bare (bare_chosen bare_out) (λ c. after 1 (by_function (below []) c)) (function_same (below [])) (chosen m.table (function_clauses m.decls name) vs))

  relations_same : (name : List ℕ) (vs : List ValueTree) (below : List ValueTree → Reading) → option_and_then (λ c. after 1 (by_relation (below []) c)) (chosen m.table (relation_clauses (map bare_decl m.decls) name) vs) ≡ option_and_then (λ c. after 1 (by_relation (below []) c)) (chosen m.table (relation_clauses m.decls name) vs)
  relations_same name vs below =
      ap (λ (cs : List (Clause FormTree)). option_and_then (λ c. after 1 (by_relation (below []) c)) (chosen m.table cs vs)) (picked_bare (bare_clause bare_form) relation_clause relation_bare name [] m.decls)
      ∙ (ap (option_and_then (λ c. after 1 (by_relation (below []) c))) (chosen_bare bare_form m.table (relation_clauses m.decls name) vs)
      ∙ then_bare (bare_chosen bare_form) (λ c. after 1 (by_relation (below []) c)) (relation_same (below [])) (chosen m.table (relation_clauses m.decls name) vs))

  orders_same : (name : List ℕ) (vs : List ValueTree) (below : List ValueTree → Reading) → option_and_then (λ t. after 1 (by_measure (below []) vs t)) (first_of (measures_of (map bare_decl m.decls) name)) ≡ option_and_then (λ t. after 1 (by_measure (below []) vs t)) (first_of (measures_of m.decls name))
  orders_same name vs below =
      ap (option_and_then (λ t. after 1 (by_measure (below []) vs t))) (ap first_of (measures_bare name m.decls) ∙ first_map bare (measures_of m.decls name))
      ∙ then_bare bare (λ t. after 1 (by_measure (below []) vs t)) (order_same (below []) vs) (first_of (measures_of m.decls name))

  programs_same : (vs : List ValueTree) (below : List ValueTree → Reading) → option_and_then (λ body. after 1 (evaluate_out (below vs) (numbered_values []) body)) (option_map bare_out m.body) ≡ option_and_then (λ body. after 1 (evaluate_out (below vs) (numbered_values []) body)) m.body
  programs_same vs below = then_bare bare_out (λ body. after 1 (evaluate_out (below vs) (numbered_values []) body)) (λ body. ap (after 1) (evaluate_out-bare (below vs) (numbered_values []) body)) m.body

  inputs_same : (inputs : List ValueTree) (f : SymId) → input_value (bare_meaning m) inputs f ≡ input_value m inputs f
  inputs_same inputs f = ap (λ (t : SymbolTable). unwrap_or (slice_get inputs (f.0 - (length t.syms + 1))) (tree.Num 0)) (table_bare m.decls)

  value_same : (inputs : List ValueTree) (f : SymId) (name : List ℕ) (vs : List ValueTree) (kd : Kind) → value_by (bare_meaning m) d inputs f name vs kd ≡ value_by m d inputs f name vs kd
  value_same inputs f name vs kind.Fun = deeper_same _ _ (functions_same name vs) d
  value_same inputs f name vs kind.Program = deeper_same _ _ (programs_same vs) d
  value_same inputs f name [] kind.Input = ap (λ z. free z) (inputs_same inputs f)
  value_same inputs f name (v ∷ vs) kind.Input = refl
  value_same inputs f name vs kind.Zero = refl
  value_same inputs f name vs kind.Succ = refl
  value_same inputs f name vs kind.Nil = refl
  value_same inputs f name vs kind.Cons = refl
  value_same inputs f name vs kind.Tuple = refl
  value_same inputs f name vs kind.Rel = refl
  value_same inputs f name vs kind.Order = refl
  value_same inputs f name vs kind.Skolem = refl

  truth_same : (name : List ℕ) (vs : List ValueTree) (kd : Kind) → truth_by (bare_meaning m) d name vs kd ≡ truth_by m d name vs kd
  truth_same name vs kind.Rel = deeper_same _ _ (relations_same name vs) d
  truth_same name vs kind.Order = deeper_same _ _ (orders_same name vs) d
  truth_same name vs _ = refl

  over_bare : (inputs : List ValueTree) → reading_over (bare_meaning m) d inputs ≡ reading_over m d inputs
  over_bare inputs = λ i. record {
    value = λ f vs. option_and_then (λ s. value_same inputs f s.name vs s.kind i) (symbol_at m.table f);
    truth = λ r vs. option_and_then (λ s. truth_same s.name vs s.kind i) (symbol_at m.table r);
  }

-- however deep calls may nest
reading_bare : (m : Meaning) (n : ℕ) (inputs : List ValueTree) → reading_at (bare_meaning m) n inputs ≡ reading_at m n inputs
reading_bare m zero inputs = over_bare m None inputs
reading_bare m (suc n) inputs = (λ i. reading_over (bare_meaning m) (Some (λ vs. reading_bare m n vs i)) inputs) ∙ over_bare m (Some (reading_at m n)) inputs

-- the law
pub call_bare : (ds : List Decl) (p : ProgramTree) → CallsSeeNoPlaces ds p
call_bare ds p n args =
    let m = meaning_of ds p in
    let size : length (table_of (map bare_decl ds)).syms ≡ length (table_of ds).syms = ap (λ (t : SymbolTable). length t.syms) (table_bare ds) in
    λ i. (reading_bare m n [] i).value (record { 0 = size i }) args
