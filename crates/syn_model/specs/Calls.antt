-- For public contracts: what the symbols of a theory and a program give on values. The number n bounds how deep calls nest, and
-- nothing is given where they nest deeper.
use Rattle.std.specs.Prelude.{ℕ, zero, suc, Bool, ◌+◌, ◌-◌, List, [], ◌∷◌, ◌++◌, Option, None, Some, length, take, drop, nat_lt, slice_get}
use Rattle.std.specs.Option.{option_and_then, option_map, unwrap_or}
use Rattle.syn_term.specs.declared.sorts.Head.{Head}
use Rattle.syn_term.specs.declared.sorts.Head.TheVariants as head
use Rattle.syn_term.specs.declared.sorts.Kind.{Kind}
use Rattle.syn_term.specs.declared.sorts.Kind.TheVariants as kind
use Rattle.syn_term.specs.declared.sorts.SymId.{SymId}
use Rattle.syn_term.specs.Symbols.{SymbolTable, symbol_at}
use Rattle.syn_term.specs.Terms.{TermTree, head_of}
use Rattle.syn_form.specs.Trees.{FormTree, OutTree}
use Rattle.syn_value.specs.declared.tree.ValueTree.{ValueTree, out-ValueTree}
use Rattle.syn_value.specs.declared.tree.ValueTree.TheOpen.{ValueTree-F}
use Rattle.syn_value.specs.declared.tree.ValueTree.TheVariants as tree
use Rattle.syn_value.specs.declared.tree.ValueTree.TheViews as view
use Rattle.syn_value.specs.Values.{number_of}
use Rattle.syn_model.specs.declared.decl.Decl.{Decl}
use Rattle.syn_model.specs.Clausal.{Clause, function_clauses, measures_of, relation_clauses}
use Rattle.syn_model.specs.Evaluation.{Counted, Environment, Reading, after, evaluate_form, evaluate_out, evaluate_term, free}
use Rattle.syn_model.specs.Tables.{table_of}

-- what a constructor gives on values: without arguments its value, with arguments the value over theirs, which takes a turn
abbrev pub list_with : ValueTree → ValueTree-F ValueTree → Option (Counted ValueTree)
list_with v (ValueTree-F.List items) = after 1 (free (view.List (v ∷ items)))
list_with v _ = None

abbrev pub number_after : Option ℕ → Option (Counted ValueTree)
number_after o = option_and_then (λ n. after 1 (free (tree.Num (n + 1)))) o

abbrev pub constructed : Kind → List ValueTree → Option (Counted ValueTree)
constructed kind.Zero [] = free (tree.Num 0)
constructed kind.Succ (v ∷ []) = number_after (number_of v)
constructed kind.Nil [] = free (view.List [])
constructed kind.Cons (v ∷ w ∷ []) = list_with v (out-ValueTree w)
constructed kind.Tuple vs = after 1 (free (view.Tuple vs))
constructed _ _ = None

-- what the constructor that made the value was given, where it is of this kind
abbrev pub taken_apart : Kind → ValueTree-F ValueTree → Option (List ValueTree)
taken_apart kind.Zero (ValueTree-F.Num zero) = Some []
taken_apart kind.Succ (ValueTree-F.Num (suc n)) = Some (tree.Num n ∷ [])
taken_apart kind.Nil (ValueTree-F.List []) = Some []
taken_apart kind.Cons (ValueTree-F.List (v ∷ vs)) = Some (v ∷ view.List vs ∷ [])
taken_apart kind.Tuple (ValueTree-F.Tuple vs) = Some vs
taken_apart _ _ = None

-- the values of the variables of a pattern with this at its top, in their order, where the pattern fits
abbrev pub parts_by : SymbolTable → Head → ValueTree → Option (List ValueTree)
parts_by table (head.Var v) w = Some (w ∷ [])
parts_by table (head.Sym f) w = option_and_then (λ sym. taken_apart sym.kind (out-ValueTree w)) (symbol_at table f)

-- the values of the variables of a clause's arguments, in their order, where these fit the values
abbrev pub fitting : SymbolTable → List TermTree → List ValueTree → Option (List ValueTree)
fitting table [] [] = Some []
fitting table (t ∷ ts) (v ∷ vs) = option_and_then (λ front. option_map (λ rest. front ++ rest) (fitting table ts vs)) (parts_by table (head_of t) v)
fitting table _ _ = None

-- a clause's body, with the values of its variables
pub record Chosen (B : Type 0) : Type 0 where
  pub body : B
  pub values : List ValueTree

abbrev pub or_else : {A : Type 0} → Option A → Option A → Option A
or_else None o = o
or_else (Some a) o = Some a

-- the first clause whose arguments fit the values
abbrev pub chosen : {B : Type 0} → SymbolTable → List (Clause B) → List ValueTree → Option (Chosen B)
chosen table [] vs = None
chosen table (c ∷ cs) vs = or_else (option_map (λ ws. record { body = c.body; values = ws }) (fitting table c.args vs)) (chosen table cs vs)

-- variables numbered from 1, read as these values; any other as 0
abbrev pub numbered_values : List ValueTree → Environment
numbered_values vs zero = tree.Num 0
numbered_values vs (suc k) = unwrap_or (slice_get vs k) (tree.Num 0)

-- what gives symbols their meaning: the declarations, the table of symbols, which begins with theirs, and the body that a call
-- of the program evaluates; without a body no call of it has a value
pub record Meaning : Type 0 where
  pub decls : List Decl
  pub table : SymbolTable
  pub body : Option OutTree

-- the inputs stand behind the program's symbol, which stands behind those of the theory
abbrev pub input_value : Meaning → List ValueTree → SymId → ValueTree
input_value m inputs f = unwrap_or (slice_get inputs (f.0 - (length (table_of m.decls).syms + 1))) (tree.Num 0)

-- the measure on the first half of the values, then on the second: whether the first is smaller
abbrev pub smaller : Option ℕ → Option ℕ → Option (Counted Bool)
smaller (Some a) (Some b) = free (nat_lt a b)
smaller _ _ = None

abbrev pub smaller_values : Counted ValueTree → Counted ValueTree → Option (Counted Bool)
smaller_values v w = after (v.turns + w.turns) (smaller (number_of v.result) (number_of w.result))

-- half of a number, rounded down
abbrev pub half : ℕ → ℕ
half zero = 0
half (suc zero) = 0
half (suc (suc n)) = suc (half n)

module _ (reading : Reading) where
  abbrev pub by_function : Chosen OutTree → Option (Counted ValueTree)
  by_function c = evaluate_out reading (numbered_values c.values) c.body

  abbrev pub by_relation : Chosen FormTree → Option (Counted Bool)
  by_relation c = evaluate_form reading (numbered_values c.values) c.body

  abbrev pub by_measure : List ValueTree → TermTree → Option (Counted Bool)
  by_measure vs measure =
      option_and_then (λ v. option_and_then (smaller_values v) (evaluate_term reading (numbered_values (drop (half (length vs)) vs)) measure))
      (evaluate_term reading (numbered_values (take (half (length vs)) vs)) measure)

-- what symbols of a kind give one level up: functions take a turn and evaluate the body of the clause that fits, and the program
-- its body with the inputs read as the values; constructors and inputs always have a value
abbrev pub value_by : Meaning → Option (List ValueTree → Reading) → List ValueTree → SymId → List ℕ → List ValueTree → Kind → Option (Counted ValueTree)
value_by m deeper inputs f name vs kind.Fun =
    option_and_then (λ below. option_and_then (λ c. after 1 (by_function (below []) c)) (chosen m.table (function_clauses m.decls name) vs)) deeper
value_by m deeper inputs f name vs kind.Program =
    option_and_then (λ below. option_and_then (λ body. after 1 (evaluate_out (below vs) (numbered_values []) body)) m.body) deeper
value_by m deeper inputs f name [] kind.Input = free (input_value m inputs f)
value_by m deeper inputs f name vs other = constructed other vs

abbrev pub first_of : {A : Type 0} → List A → Option A
first_of [] = None
first_of (x ∷ xs) = Some x

-- the same of relations, and of orders, which compare measures
abbrev pub truth_by : Meaning → Option (List ValueTree → Reading) → List ℕ → List ValueTree → Kind → Option (Counted Bool)
truth_by m deeper name vs kind.Rel =
    option_and_then (λ below. option_and_then (λ c. after 1 (by_relation (below []) c)) (chosen m.table (relation_clauses m.decls name) vs)) deeper
truth_by m deeper name vs kind.Order =
    option_and_then (λ below. option_and_then (λ measure. after 1 (by_measure (below []) vs measure)) (first_of (measures_of m.decls name))) deeper
truth_by m deeper name vs _ = None

-- one level of the reading, over the one below it, where the inputs are read as these values
abbrev pub reading_over : Meaning → Option (List ValueTree → Reading) → List ValueTree → Reading
reading_over m deeper inputs = record {
  value = λ f vs. option_and_then (λ sym. value_by m deeper inputs f sym.name vs sym.kind) (symbol_at m.table f);
  truth = λ r vs. option_and_then (λ sym. truth_by m deeper sym.name vs sym.kind) (symbol_at m.table r);
}

-- the reading in which calls nest at most n deep
abbrev pub reading_at : Meaning → ℕ → List ValueTree → Reading
reading_at m zero = reading_over m None
reading_at m (suc n) = reading_over m (Some (reading_at m n))

-- the program's call on these values, nested at most n deep
abbrev pub call_of : Meaning → ℕ → List ValueTree → Option (Counted ValueTree)
call_of m n values = (reading_at m n []).value (record { 0 = length (table_of m.decls).syms }) values
