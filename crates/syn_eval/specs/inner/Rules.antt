-- For private contracts: what is looked up of each symbol before evaluation begins.
use Rattle.std.specs.Prelude.{◌≡◌, ℕ, Bool, List, [], ◌∷◌, ◌++◌, Option, None, Some, if◌then◌else◌, length, map, slice_get}
use Rattle.std.specs.Option.{option_copied}
use Rattle.std.specs.Str.{bytes_eq}
use Rattle.syn_term.specs.declared.sorts.Kind.{Kind}
use Rattle.syn_term.specs.declared.sorts.Kind.TheVariants as kind
use Rattle.syn_term.specs.declared.sorts.Sort.{Sort}
use Rattle.syn_term.specs.declared.sorts.Sym.{Sym}
use Rattle.syn_term.specs.Symbols.{SymbolTable}
use Rattle.syn_term.specs.Terms.{TermTree}
use Rattle.syn_form.specs.Trees.{FormTree, OutTree}
use Rattle.syn_model.specs.declared.decl.Decl.{Decl}
use Rattle.syn_model.specs.declared.decl.Decl.TheVariants as decl
use Rattle.syn_model.specs.Calls.{Chosen, first_of}
use Rattle.syn_model.specs.Clausal.{Clause, function_clauses, measures_of, relation_clauses}
use Rattle.syn_model.specs.Declaring.{is_clause}
use Rattle.syn_model.specs.Tables.{table_of}
use Rattle.syn_eval.specs.declared.rules.Rule.{Rule}
use Rattle.syn_eval.specs.declared.entries.Entry.{Entry}
use Rattle.syn_eval.specs.declared.choosing.Chosen.{Chosen as ChosenRule}

-- the clause that is lent
abbrev pub rule_seen : {B : Type 0} → Rule B → Clause B
rule_seen r = record { args = r.args.now; body = r.body.now }

-- the choice, its body lent
abbrev pub choice_seen : {B : Type 0} → ChosenRule B → Chosen B
choice_seen c = record { body = c.body.now; values = c.values }

-- whether a clause behind the declaration would belong to the heading of the name, where it is known whether one before it would
abbrev pub under_after : List ℕ → Bool → Decl → Bool
under_after name under (decl.FunClause args body) = under
under_after name under (decl.RelClause args body) = under
under_after name under (decl.Fun own args result) = bytes_eq own name
under_after name under (decl.Rel own args) = bytes_eq own name
under_after name under d = bytes_eq [] name

-- what is known of a symbol: its kind, its clauses and its measure
pub record Known : Type 0 where
  pub kind : Kind
  pub functions : List (Clause OutTree)
  pub relations : List (Clause FormTree)
  pub measure : Option TermTree

-- a function has its clauses, a relation its, an order its measure, and other symbols nothing
abbrev pub known_by : List Decl → List ℕ → Kind → Known
known_by ds name kind.Fun = record { kind = kind.Fun; functions = function_clauses ds name; relations = []; measure = None }
known_by ds name kind.Rel = record { kind = kind.Rel; functions = []; relations = relation_clauses ds name; measure = None }
known_by ds name kind.Order = record { kind = kind.Order; functions = []; relations = []; measure = first_of (measures_of ds name) }
known_by ds name k = record { kind = k; functions = []; relations = []; measure = None }

abbrev pub known_of : List Decl → Sym → Known
known_of ds sym = known_by ds sym.name sym.kind

-- the heading of the function of this name stands at the place; that of the relation; the order with this measure
abbrev pub IsFunctionAt : List Decl → ℕ → List ℕ → Type 0
IsFunctionAt ds place name = (args : List Sort) × (result : Sort) × (slice_get ds place ≡ Some (decl.Fun name args result))

abbrev pub IsRelationAt : List Decl → ℕ → List ℕ → Type 0
IsRelationAt ds place name = (args : List Sort) × (slice_get ds place ≡ Some (decl.Rel name args))

abbrev pub IsOrderAt : List Decl → ℕ → List ℕ → TermTree → Type 0
IsOrderAt ds place name measure = (args : List Sort) × (slice_get ds place ≡ Some (decl.Order name args measure))

-- what is picked of the clauses that stand in front
abbrev pub leading : {B : Type 0} → (Decl → List B) → List Decl → List B
leading pick [] = []
leading pick (d ∷ ds) = if is_clause d then pick d ++ leading pick ds else []

abbrev pub entry_seen : Entry → Known
entry_seen e = record { kind = e.kind; functions = map rule_seen e.functions; relations = map rule_seen e.relations; measure = option_copied e.measure }

-- each symbol of the table has its entry, and the program stands behind the symbols of the theory
pub record HoldsSetting (ds : List Decl) (table : SymbolTable) (es : List Entry) (number : ℕ) : Type 0 where
  pub entries : map entry_seen es ≡ map (known_of ds) table.syms
  pub program : number ≡ length (table_of ds).syms
