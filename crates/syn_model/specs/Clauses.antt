-- For public contracts: which clauses a heading may have: its arguments, its place among the others, and where its body may use the symbol that it
-- defines.
use Rattle.std.specs.Prelude.{◌≡◌, ℕ, Bool, true, false, ◌&&◌, List, [], ◌∷◌, Option, None, Some, All, if◌then◌else◌, nat_eq, map, length, slice_get}
use Rattle.std.specs.List.{flat_map, range_with_len}
use Rattle.std.specs.Option.{option_and_then, option_map}
use Rattle.syn_term.specs.declared.sorts.Head.TheVariants as head
use Rattle.syn_term.specs.declared.sorts.Sort.{Sort}
use Rattle.syn_term.specs.declared.sorts.SymId.{SymId}
use Rattle.syn_term.specs.declared.sorts.Var.{Var}
use Rattle.syn_term.specs.declared.term.Node.{Node, every-Node}
use Rattle.syn_term.specs.declared.term.Node.TheOpen.{Node-F}
use Rattle.syn_term.specs.Symbols.{SymbolTable}
use Rattle.syn_term.specs.Terms.{TermTree, args_of, head_of, sort_of}
use Rattle.syn_form.specs.declared.trees.Form.{Form, every-Form}
use Rattle.syn_form.specs.declared.trees.Form.TheOpen.{Form-F}
use Rattle.syn_form.specs.declared.trees.Out.{Out, every-Out}
use Rattle.syn_form.specs.declared.trees.Out.TheOpen.{Out-F}
use Rattle.syn_form.specs.Plain.{IsSorted}
use Rattle.syn_form.specs.Trees.{FormTree, OutTree, term_vars}
use Rattle.syn_model.specs.declared.uses.Rest.{Rest}
use Rattle.syn_model.specs.declared.patterns.Pattern.{Pattern}
use Rattle.syn_model.specs.declared.patterns.Role.{Role}
use Rattle.syn_model.specs.declared.patterns.Role.TheVariants as role
use Rattle.syn_model.specs.Headings.{patterns_of, role_of}

abbrev pub IsVariable : TermTree → Type 0
IsVariable t = (v : Var) × (head_of t ≡ head.Var v)

-- the arguments are of the heading's sorts, each a variable or a symbol over variables, and the variables are numbered from 1
pub record HasArguments (table : SymbolTable) (sorts : List Sort) (args : List TermTree) : Type 0 where
  pub sorted : All (IsSorted table) args
  pub of_sorts : map (sort_of table) args ≡ map Some sorts
  pub flat : All (λ t. All IsVariable (args_of t)) args
  pub numbered : map (λ v. v.number) (flat_map term_vars args) ≡ range_with_len 1 (length (flat_map term_vars args))

abbrev pub last_var : List Var → Option Var
last_var [] = None
last_var (v ∷ []) = Some v
last_var (v ∷ w ∷ vs) = last_var (w ∷ vs)

-- the last variable of the argument at the place: x of `s(x)`, and y of `c(x, y)`
abbrev pub rest_at : List TermTree → ℕ → Option Rest
rest_at args n = option_map (λ v. record { place = n; var = v }) (option_and_then (λ t. last_var (term_vars t)) (slice_get args n))

-- a first clause has no pattern, or the first or only constructor of its sort, and its body doesn't use the symbol
abbrev pub begins_with : Role → Bool
begins_with role.FirstOfTwo = true
begins_with role.OnlyOne = true
begins_with _ = false

abbrev pub first_turn : SymbolTable → List Pattern → Option (Option Rest)
first_turn table [] = Some None
first_turn table (p ∷ []) = if begins_with (role_of table p) then Some None else None
first_turn table _ = None

abbrev pub go_together : Role → Role → Bool
go_together role.FirstOfTwo role.SecondOfTwo = true
go_together _ _ = false

-- a second clause has the second constructor where the first clause has the first one
abbrev pub second_turn : SymbolTable → List TermTree → List Pattern → List Pattern → Option (Option Rest)
second_turn table args (p ∷ []) (q ∷ []) =
    if go_together (role_of table p) (role_of table q) && nat_eq p.place q.place then option_map Some (rest_at args q.place) else None
second_turn table args _ _ = None

-- whether the clause may come behind the others, and where its body may use the symbol that it defines
abbrev pub turn_of : SymbolTable → List (List TermTree) → List TermTree → Option (Option Rest)
turn_of table [] args = first_turn table (patterns_of args)
turn_of table (c ∷ []) args = second_turn table args (patterns_of c) (patterns_of args)
turn_of table _ args = None

-- the symbol may be used with these arguments
abbrev pub MayUse : Option Rest → List TermTree → Type 0
MayUse None args = ⊥
MayUse (Some rest) args = (t : TermTree) × (slice_get args rest.place ≡ Some t) × (head_of t ≡ head.Var rest.var)

abbrev pub UsesNode : SymId → Option Rest → Node-F Node → Type 0
UsesNode own rest (Node-F.Var place v) = Unit {0}
UsesNode own rest (Node-F.App place f args) = f ≡ own → MayUse rest args

-- wherever the term has the symbol, it may be used
abbrev pub UsesTerm : SymId → Option Rest → TermTree → Type 0
UsesTerm own rest = every-Node (UsesNode own rest)

abbrev pub UsesFormNode : SymId → Option Rest → Form-F Form → Type 0
UsesFormNode own rest (Form-F.Atom r args) = (r ≡ own → MayUse rest args) × All (UsesTerm own rest) args
UsesFormNode own rest (Form-F.Equal s t) = UsesTerm own rest s × UsesTerm own rest t
UsesFormNode own rest _ = Unit {0}

abbrev pub UsesForm : SymId → Option Rest → FormTree → Type 0
UsesForm own rest = every-Form (UsesFormNode own rest)

abbrev pub UsesOutNode : SymId → Option Rest → Out-F Out → Type 0
UsesOutNode own rest (Out-F.Give t) = UsesTerm own rest t
UsesOutNode own rest (Out-F.If f u v) = UsesForm own rest f

abbrev pub UsesOut : SymId → Option Rest → OutTree → Type 0
UsesOut own rest = every-Out (UsesOutNode own rest)
