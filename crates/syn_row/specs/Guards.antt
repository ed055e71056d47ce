-- For public contracts: guards. Where an order is named, each program call that a rule brings into an output has a guard: its
-- arguments are below the inputs, and they meet the input condition.
use Rattle.std.specs.Prelude.{◌≡◌, List, [], ◌∷◌, ◌++◌, Option, None, Some, All, map, nat_eq, if◌then◌else◌}
use Rattle.std.specs.List.{flat_map}
use Rattle.syn_term.specs.Bank.{Kept, Belongs}
use Rattle.syn_term.specs.declared.sorts.Head.TheVariants as head
use Rattle.syn_term.specs.declared.sorts.Kind.TheVariants as kind
use Rattle.syn_term.specs.declared.sorts.Sym.{Sym}
use Rattle.syn_term.specs.declared.sorts.SymId.{SymId}
use Rattle.syn_term.specs.declared.term.Node.{fold-Node}
use Rattle.syn_term.specs.declared.term.Node.TheOpen.{Node-F}
use Rattle.syn_term.specs.Symbols.{SymbolTable, symbol_at}
use Rattle.syn_term.specs.Terms.{TermTree, application, args_of, head_of, sort_of, variable_tree}
use Rattle.syn_form.specs.declared.trees.Form.TheVariants as form
use Rattle.syn_form.specs.declared.trees.Form.TheViews as view
use Rattle.syn_form.specs.Inputs.{AreInputs, Inputs, form_with_inputs}
use Rattle.syn_form.specs.Plain.{IsFormed, IsSorted}
use Rattle.syn_form.specs.Substitutions.{Substitution, image}
use Rattle.syn_form.specs.Trees.{FormTree, OutTree, all_of, form_terms, form_vars, out_vars, term_vars}
use Rattle.syn_row.specs.declared.guards.GuardRule.{GuardRule}
use Rattle.syn_row.specs.Results.{out_list}
use Rattle.syn_row.specs.Rows.{first_occurrences}

-- Of a table: the order compares two lists of arguments of the program's sorts, the inputs have these sorts, and the input
-- condition speaks of inputs alone.
pub record IsGuardRule (table : SymbolTable) (rule : GuardRule) : Type 0 where
  pub program : Sym
  pub program_is : symbol_at table rule.program ≡ Some program
  pub program_kind : program.kind ≡ kind.Program
  pub program_args : map (λ b. sort_of table b.1) rule.inputs ≡ map Some program.args
  pub order : Sym
  pub order_is : symbol_at table rule.order ≡ Some order
  pub order_kind : order.kind ≡ kind.Order
  pub order_args : order.args ≡ program.args ++ program.args
  pub inputs : AreInputs table rule.inputs
  pub inputs_sorted : All (λ b. IsSorted table b.1) rule.inputs
  pub inputs_closed : All (λ b. term_vars b.1 ≡ []) rule.inputs
  pub condition : IsFormed table rule.condition
  pub condition_closed : form_vars rule.condition ≡ []

-- its terms belong to the bank
pub record RuleBelongs (bank : Kept) (rule : GuardRule) : Type 0 where
  pub inputs : All (λ b. Belongs bank b.1) rule.inputs
  pub condition : All (Belongs bank) (form_terms rule.condition)

-- the term is an application of the symbol
abbrev pub IsCallOf : SymId → TermTree → Type 0
IsCallOf f t = head_of t ≡ head.Sym f

-- a term, and the applications of a symbol that stand in it
pub record WithCalls : Type 0 where
  pub tree : TermTree
  pub calls : List TermTree

abbrev pub calls_at : SymId → SymId → List WithCalls → List TermTree
calls_at f g args = if nat_eq f.0 g.0 then application g (map (λ a. a.tree) args) ∷ [] else []

abbrev pub calls_step : SymId → Node-F WithCalls → WithCalls
calls_step f (Node-F.Var place v) = record { tree = variable_tree v; calls = [] }
calls_step f (Node-F.App place g args) = record { tree = application g (map (λ a. a.tree) args); calls = calls_at f g args ++ all_of (map (λ a. a.calls) args) }

-- the applications of the symbol in a term, without places, once for each place where one stands: from the left, the outer
-- before the inner
abbrev pub calls_in : SymId → TermTree → List TermTree
calls_in f t = (fold-Node WithCalls (calls_step f) t).calls

-- those in a formula
abbrev pub calls_in_form : SymId → FormTree → List TermTree
calls_in_form f g = flat_map (calls_in f) (form_terms g)

-- those that a substitution brings into an output, in the terms that its variables become: the variables in the order in which
-- they first occur
abbrev pub calls_brought : SymId → Substitution → OutTree → List TermTree
calls_brought f σ o = flat_map (λ v. calls_in f (image σ v)) (first_occurrences (out_vars o))

-- the same of several outputs
abbrev pub brought : Substitution → List OutTree → SymId → List TermTree
brought σ outs f = flat_map (calls_brought f σ) outs

-- the calls in the test that chooses between two outputs
abbrev pub test_calls : Option OutTree → Option OutTree → FormTree → SymId → List TermTree
test_calls (Some u) (Some v) p f = calls_in_form f p
test_calls u v p f = []

-- the inputs' symbols, each with the term at its place
abbrev pub with_terms : Inputs → List TermTree → Inputs
with_terms [] ts = []
with_terms (b ∷ bs) [] = []
with_terms (b ∷ bs) (t ∷ ts) = (b.0, t) ∷ with_terms bs ts

-- The guard of a call `f(t)` is `w(t, a) and P[t]`, where w is the order, a are the inputs and P is the input condition. In
-- `twice`, of one input, the guard of `twice(p(a))` is `below(p(a), a) and true`.
abbrev pub guard_of : GuardRule → TermTree → FormTree
guard_of rule call = view.And (form.Atom rule.order (args_of call ++ map (λ b. b.1) rule.inputs) ∷ form_with_inputs (with_terms rule.inputs (args_of call)) rule.condition ∷ [])

-- the guards of the calls of the program's symbol; none where no order is named
abbrev pub guards_of : Option GuardRule → (SymId → List TermTree) → List FormTree
guards_of None calls = []
guards_of (Some rule) calls = map (guard_of rule) (calls rule.program)

-- the guards of a step of two parents with these outputs: of the calls that the substitution brings into both, and of those in the
-- test where both are there
abbrev pub joined_guards : Option GuardRule → Substitution → FormTree → Option OutTree → Option OutTree → List FormTree
joined_guards rule σ p first second = guards_of rule (λ f. brought σ (out_list first ++ out_list second) f ++ test_calls first second p f)
