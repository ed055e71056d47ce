-- What is given by declarations and a program, is given too where there are more of them.
use Rattle.std.proofs.Common.{◌≡◌, ℕ, zero, suc, List, [], ◌∷◌, ◌++◌, All, Option, Some, None, length, take, drop, append-nil, refl, sym, ap, subst, ◌∙◌}
use Rattle.std.specs.Option.{option_and_then, option_map}
use Rattle.std.proofs.lemmas.List.Elements.{All-head, All-tail}
use Rattle.syn_term.specs.declared.sorts.Kind.{Kind}
use Rattle.syn_term.specs.declared.sorts.Kind.TheVariants as kind
use Rattle.syn_term.specs.declared.sorts.Sym.{Sym}
use Rattle.syn_term.specs.declared.sorts.SymId.{SymId}
use Rattle.syn_term.specs.Symbols.{IsPrefix, SymbolTable, symbol_at}
use Rattle.syn_term.specs.Terms.{TermTree}
use Rattle.syn_term.proofs.SymbolLaws.{IsPrefix-refl, symbol_at-IsPrefix}
use Rattle.syn_value.specs.declared.tree.ValueTree.{ValueTree}
use Rattle.syn_model.specs.Calls.{Chosen, Meaning, by_function, by_measure, by_relation, chosen, first_of, fitting, half, input_value, numbered_values, or_else, reading_at, reading_over, smaller_values, truth_by, value_by}
use Rattle.syn_model.specs.Clausal.{Clause, function_clauses, measures_of, relation_clauses}
use Rattle.syn_model.specs.Evaluation.{Reading, after, evaluate_out, evaluate_term, free, with_turns}
use Rattle.syn_model.proofs.KeptReadings.{IsPart, Keeps, form_kept, keeps_along, keeps_map, keeps_none, keeps_same, keeps_then, out_kept, term_kept}

-- clauses, and those with more behind them, where each fits the same values by either table
pub record AreFront {B : Type 0} (small great : SymbolTable) (cs ds : List (Clause B)) : Type 0 where
  pub more : List (Clause B)
  pub is : ds ≡ cs ++ more
  pub fit : All (λ c. (vs : List ValueTree) → fitting small c.args vs ≡ fitting great c.args vs) cs

-- a meaning, and one with more symbols, clauses and measures, and maybe a program
pub record Grows (small great : Meaning) : Type 0 where
  pub table : IsPrefix small.table great.table
  pub functions : (name : List ℕ) → AreFront small.table great.table (function_clauses small.decls name) (function_clauses great.decls name)
  pub relations : (name : List ℕ) → AreFront small.table great.table (relation_clauses small.decls name) (relation_clauses great.decls name)
  pub measures : (name : List ℕ) → (more : List TermTree) × (measures_of great.decls name ≡ measures_of small.decls name ++ more)
  pub body : Keeps small.body great.body
  pub inputs : (f : SymId) (s : Sym) (inputs : List ValueTree) → symbol_at small.table f ≡ Some s → s.kind ≡ kind.Input → input_value small inputs f ≡ input_value great inputs f

keeps_or : {A : Type 0} (o p q : Option A) → Keeps p q → Keeps (or_else o p) (or_else o q)
keeps_or None p q k = k
keeps_or (Some a) p q k = keeps_same (Some a)

keeps_equal : {A : Type 0} (o p : Option A) → o ≡ p → Keeps o p
keeps_equal o p e a h = sym e ∙ h

-- what is found is found, and what is made of it is kept
keeps_found : {A B : Type 0} (f g : A → Option B) (o p : Option A) → Keeps o p → ((a : A) → o ≡ Some a → Keeps (f a) (g a)) → Keeps (option_and_then f o) (option_and_then g p)
keeps_found f g None p k h b e = absurd (cc)
keeps_found f g (Some a) p k h b e = ap (option_and_then g) (k a refl) ∙ h a refl b e

front_kept : {B : Type 0} (small great : SymbolTable) (vs : List ValueTree) (cs more : List (Clause B)) → All (λ c. (ws : List ValueTree) → fitting small c.args ws ≡ fitting great c.args ws) cs → Keeps (chosen small cs vs) (chosen great (cs ++ more) vs)
front_kept small great vs [] more h = keeps_none (chosen great more vs)
front_kept {B} small great vs (c ∷ cs) more h =
    let choice : List ValueTree → Chosen B = λ ws. record { body = c.body; values = ws } in
    let same : fitting small c.args vs ≡ fitting great c.args vs = All-head (λ (z : Clause B). (ws : List ValueTree) → fitting small z.args ws ≡ fitting great z.args ws) c cs h vs in
    keeps_along (or_else (option_map choice (fitting great c.args vs)) (chosen small cs vs)) (chosen great (c ∷ (cs ++ more)) vs) (chosen small (c ∷ cs) vs) (chosen great (c ∷ (cs ++ more)) vs)
    (ap (λ (o : Option (List ValueTree)). or_else (option_map choice o) (chosen small cs vs)) same) refl
    (keeps_or (option_map choice (fitting great c.args vs)) (chosen small cs vs) (chosen great (cs ++ more) vs) (front_kept small great vs cs more (All-tail (λ (z : Clause B). (ws : List ValueTree) → fitting small z.args ws ≡ fitting great z.args ws) c cs h)))

chosen_kept : {B : Type 0} (small great : SymbolTable) (vs : List ValueTree) (cs ds : List (Clause B)) → AreFront small great cs ds → Keeps (chosen small cs vs) (chosen great ds vs)
chosen_kept {B} small great vs cs ds f = subst (λ (z : List (Clause B)). Keeps (chosen small cs vs) (chosen great z vs)) (sym f.is) (front_kept small great vs cs f.more f.fit)

first_kept : {A : Type 0} (xs ys : List A) → Keeps (first_of xs) (first_of (xs ++ ys))
first_kept [] ys = keeps_none (first_of ys)
first_kept (x ∷ xs) ys = keeps_same (Some x)

-- what is given one level deeper is kept: nothing by anything, and a reading for each list of inputs by one that gives more
abbrev pub DeeperKept : Option (List ValueTree → Reading) → Option (List ValueTree → Reading) → Type 0
DeeperKept None e = Unit {0}
DeeperKept (Some a) None = ⊥
DeeperKept (Some a) (Some b) = (inputs : List ValueTree) → IsPart (a inputs) (b inputs)

-- what is made of the deeper readings is kept
through : {A : Type 0} (d e : Option (List ValueTree → Reading)) → DeeperKept d e → (f g : (List ValueTree → Reading) → Option A) → ((a b : List ValueTree → Reading) → ((inputs : List ValueTree) → IsPart (a inputs) (b inputs)) → Keeps (f a) (g b)) → Keeps (option_and_then f d) (option_and_then g e)
through None e k f g h = keeps_none _
through (Some a) None k f g h = absurd k
through (Some a) (Some b) k f g h = h a b k

-- what the measures give, and how they compare, is kept
pub kept_measure : (a b : Reading) → IsPart a b → (vs : List ValueTree) (measure : TermTree) → Keeps (by_measure a vs measure) (by_measure b vs measure)
kept_measure a b k vs measure =
    let first = numbered_values (take (half (length vs)) vs) in
    let second = numbered_values (drop (half (length vs)) vs) in
    keeps_then (λ v. option_and_then (smaller_values v) (evaluate_term a second measure)) (λ v. option_and_then (smaller_values v) (evaluate_term b second measure))
    (λ v. keeps_then (smaller_values v) (smaller_values v) (λ w. keeps_same _) (evaluate_term a second measure) (evaluate_term b second measure) (term_kept a b k second measure))
    (evaluate_term a first measure) (evaluate_term b first measure) (term_kept a b k first measure)

module _ (m p : Meaning) (grows : Grows m p) (d e : Option (List ValueTree → Reading)) (deeper : DeeperKept d e) (inputs : List ValueTree) where
  kept_function : (f : SymId) (name : List ℕ) (vs : List ValueTree) → Keeps (value_by m d inputs f name vs kind.Fun) (value_by p e inputs f name vs kind.Fun)
  kept_function f name vs =
      through d e deeper (λ below. option_and_then (λ c. after 1 (by_function (below []) c)) (chosen m.table (function_clauses m.decls name) vs)) (λ below. option_and_then (λ c. after 1 (by_function (below []) c)) (chosen p.table (function_clauses p.decls name) vs)) (
      λ a b k. keeps_then (λ c. after 1 (by_function (a []) c)) (λ c. after 1 (by_function (b []) c))
      (λ c. keeps_map (with_turns 1) (by_function (a []) c) (by_function (b []) c) (out_kept (a []) (b []) (k []) (numbered_values c.values) c.body))
      (chosen m.table (function_clauses m.decls name) vs) (chosen p.table (function_clauses p.decls name) vs) (chosen_kept m.table p.table vs (function_clauses m.decls name) (function_clauses p.decls name) (grows.functions name))
      )

  kept_program : (f : SymId) (name : List ℕ) (vs : List ValueTree) → Keeps (value_by m d inputs f name vs kind.Program) (value_by p e inputs f name vs kind.Program)
  kept_program f name vs =
      through d e deeper (λ below. option_and_then (λ body. after 1 (evaluate_out (below vs) (numbered_values []) body)) m.body) (λ below. option_and_then (λ body. after 1 (evaluate_out (below vs) (numbered_values []) body)) p.body) (
      λ a b k. keeps_then (λ body. after 1 (evaluate_out (a vs) (numbered_values []) body)) (λ body. after 1 (evaluate_out (b vs) (numbered_values []) body))
      (λ body. keeps_map (with_turns 1) (evaluate_out (a vs) (numbered_values []) body) (evaluate_out (b vs) (numbered_values []) body) (out_kept (a vs) (b vs) (k vs) (numbered_values []) body))
      m.body p.body grows.body
      )

  kept_value : (f : SymId) (name : List ℕ) (vs : List ValueTree) (kd : Kind) → (kd ≡ kind.Input → input_value m inputs f ≡ input_value p inputs f) → Keeps (value_by m d inputs f name vs kd) (value_by p e inputs f name vs kd)
  kept_value f name vs kind.Fun same = kept_function f name vs
  kept_value f name vs kind.Program same = kept_program f name vs
  kept_value f name [] kind.Input same = keeps_equal (free (input_value m inputs f)) (free (input_value p inputs f)) (ap free (same refl))
  kept_value f name (v ∷ vs) kind.Input same = keeps_same _
  kept_value f name vs kind.Zero same = keeps_same _
  kept_value f name vs kind.Succ same = keeps_same _
  kept_value f name vs kind.Nil same = keeps_same _
  kept_value f name vs kind.Cons same = keeps_same _
  kept_value f name vs kind.Tuple same = keeps_same _
  kept_value f name vs kind.Rel same = keeps_same _
  kept_value f name vs kind.Order same = keeps_same _
  kept_value f name vs kind.Skolem same = keeps_same _

  kept_relation : (name : List ℕ) (vs : List ValueTree) → Keeps (truth_by m d name vs kind.Rel) (truth_by p e name vs kind.Rel)
  kept_relation name vs =
      through d e deeper (λ below. option_and_then (λ c. after 1 (by_relation (below []) c)) (chosen m.table (relation_clauses m.decls name) vs)) (λ below. option_and_then (λ c. after 1 (by_relation (below []) c)) (chosen p.table (relation_clauses p.decls name) vs)) (
      λ a b k. keeps_then (λ c. after 1 (by_relation (a []) c)) (λ c. after 1 (by_relation (b []) c))
      (λ c. keeps_map (with_turns 1) (by_relation (a []) c) (by_relation (b []) c) (form_kept (a []) (b []) (k []) (numbered_values c.values) c.body))
      (chosen m.table (relation_clauses m.decls name) vs) (chosen p.table (relation_clauses p.decls name) vs) (chosen_kept m.table p.table vs (relation_clauses m.decls name) (relation_clauses p.decls name) (grows.relations name))
      )

  measure_kept : (name : List ℕ) → Keeps (first_of (measures_of m.decls name)) (first_of (measures_of p.decls name))
  measure_kept name = let h = grows.measures name in subst (λ (z : List TermTree). Keeps (first_of (measures_of m.decls name)) (first_of z)) (sym h.1) (first_kept (measures_of m.decls name) h.0)

  kept_order : (name : List ℕ) (vs : List ValueTree) → Keeps (truth_by m d name vs kind.Order) (truth_by p e name vs kind.Order)
  kept_order name vs =
      through d e deeper (λ below. option_and_then (λ measure. after 1 (by_measure (below []) vs measure)) (first_of (measures_of m.decls name))) (λ below. option_and_then (λ measure. after 1 (by_measure (below []) vs measure)) (first_of (measures_of p.decls name))) (
      λ a b k. keeps_then (λ measure. after 1 (by_measure (a []) vs measure)) (λ measure. after 1 (by_measure (b []) vs measure))
      (λ measure. keeps_map (with_turns 1) (by_measure (a []) vs measure) (by_measure (b []) vs measure) (kept_measure (a []) (b []) (k []) vs measure))
      (first_of (measures_of m.decls name)) (first_of (measures_of p.decls name)) (measure_kept name)
      )

  kept_truth : (name : List ℕ) (vs : List ValueTree) (kd : Kind) → Keeps (truth_by m d name vs kd) (truth_by p e name vs kd)
  kept_truth name vs kind.Rel = kept_relation name vs
  kept_truth name vs kind.Order = kept_order name vs
  kept_truth name vs _ = keeps_same _

  symbol_kept : (f : SymId) → Keeps (symbol_at m.table f) (symbol_at p.table f)
  symbol_kept f s e = symbol_at-IsPrefix m.table p.table f s e grows.table

  -- one level over what gives more gives more
  pub over_part : IsPart (reading_over m d inputs) (reading_over p e inputs)
  over_part = record {
    value = λ f vs. keeps_found (λ (s : Sym). value_by m d inputs f s.name vs s.kind) (λ (s : Sym). value_by p e inputs f s.name vs s.kind) (symbol_at m.table f) (symbol_at p.table f) (symbol_kept f) (λ s at. kept_value f s.name vs s.kind (grows.inputs f s inputs at));
    truth = λ r vs. keeps_found (λ (s : Sym). truth_by m d s.name vs s.kind) (λ (s : Sym). truth_by p e s.name vs s.kind) (symbol_at m.table r) (symbol_at p.table r) (symbol_kept r) (λ s at. kept_truth s.name vs s.kind);
  }

-- what calls give, they give where there is more
pub grown_part : (m p : Meaning) → Grows m p → (n : ℕ) (inputs : List ValueTree) → IsPart (reading_at m n inputs) (reading_at p n inputs)
grown_part m p grows zero inputs = over_part m p grows None None tt inputs
grown_part m p grows (suc n) inputs = over_part m p grows (Some (reading_at m n)) (Some (reading_at p n)) (grown_part m p grows n) inputs

all_fit : {B : Type 0} (table : SymbolTable) (cs : List (Clause B)) → AreFront table table cs cs
all_fit table cs = record { more = []; is = sym (append-nil cs); fit = λ k d lt vs. refl }

-- a meaning has what it has
pub Grows-refl : (m : Meaning) → Grows m m
Grows-refl m = record {
  table = IsPrefix-refl m.table;
  functions = λ name. all_fit m.table (function_clauses m.decls name);
  relations = λ name. all_fit m.table (relation_clauses m.decls name);
  measures = λ name. ([], sym (append-nil (measures_of m.decls name)));
  body = keeps_same m.body;
  inputs = λ f s inputs at is. refl;
}
