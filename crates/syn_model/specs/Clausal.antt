-- For public contracts: the clauses of a heading and the measure of an order, found by their names.
use Rattle.std.specs.Prelude.{ℕ, List, [], ◌∷◌, ◌++◌, if◌then◌else◌}
use Rattle.std.specs.List.{flat_map}
use Rattle.std.specs.Str.{bytes_eq}
use Rattle.syn_term.specs.Terms.{TermTree}
use Rattle.syn_form.specs.Trees.{FormTree, OutTree}
use Rattle.syn_model.specs.declared.decl.Decl.{Decl}
use Rattle.syn_model.specs.declared.decl.Decl.TheVariants as decl

-- the arguments of a clause, with its body
pub record Clause (B : Type 0) : Type 0 where
  pub args : List TermTree
  pub body : B

-- the name of the heading to which a clause would belong behind one more declaration
abbrev pub heading_after_decl : List ℕ → Decl → List ℕ
heading_after_decl own (decl.FunClause args body) = own
heading_after_decl own (decl.RelClause args body) = own
heading_after_decl own (decl.Fun name args result) = name
heading_after_decl own (decl.Rel name args) = name
heading_after_decl own d = []

-- what is picked of the declarations that stand under the heading of this name, the last heading so far being `own`
abbrev pub picked_under : {B : Type 0} → (Decl → List B) → List ℕ → List ℕ → List Decl → List B
picked_under pick name own [] = []
picked_under pick name own (d ∷ ds) = (if bytes_eq own name then pick d else []) ++ picked_under pick name (heading_after_decl own d) ds

abbrev pub function_clause : Decl → List (Clause OutTree)
function_clause (decl.FunClause args body) = record { args = args; body = body } ∷ []
function_clause _ = []

abbrev pub relation_clause : Decl → List (Clause FormTree)
relation_clause (decl.RelClause args body) = record { args = args; body = body } ∷ []
relation_clause _ = []

-- the clauses of the function of this name, in their order
abbrev pub function_clauses : List Decl → List ℕ → List (Clause OutTree)
function_clauses ds name = picked_under function_clause name [] ds

-- the clauses of the relation of this name, in their order
abbrev pub relation_clauses : List Decl → List ℕ → List (Clause FormTree)
relation_clauses ds name = picked_under relation_clause name [] ds

abbrev pub measure_in : List ℕ → Decl → List TermTree
measure_in name (decl.Order other args measure) = if bytes_eq other name then measure ∷ [] else []
measure_in name _ = []

-- the measure of the order of this name, as a list of one; empty where there is no such order
abbrev pub measures_of : List Decl → List ℕ → List TermTree
measures_of ds name = flat_map (measure_in name) ds
