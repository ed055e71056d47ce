-- For public contracts: the one text that is printed for a theory, and the names that variables get in it.
use Rattle.std.specs.Prelude.{◌≡◌, ℕ, ◌<◌, ◌≤◌, List, [], ◌∷◌, ◌++◌, Option, None, Some, All, codes, decimal, map}
use Rattle.std.specs.List.{flat_map}
use Rattle.std.specs.Option.{option_map_or}
use Rattle.syn_term.specs.declared.sorts.Sort.{Sort}
use Rattle.syn_term.specs.declared.sorts.SymId.{SymId}
use Rattle.syn_term.specs.declared.sorts.Var.{Var}
use Rattle.syn_term.specs.Symbols.{SymbolTable, symbol_at}
use Rattle.syn_term.specs.Terms.{TermTree, depth_of, nodes}
use Rattle.syn_lex.specs.TextLines.{with_feed}
use Rattle.syn_form.specs.declared.trees.Mono.{Mono}
use Rattle.syn_form.specs.Printing.{joined, name_of, printed_form, printed_out, printed_qform, printed_term, sort_text}
use Rattle.syn_form.specs.Scopes.{Named, TextScope}
use Rattle.syn_form.specs.Quantified.{qform_depth, qform_nodes}
use Rattle.syn_form.specs.Texts.{expression_limit}
use Rattle.syn_form.specs.Trees.{FormTree, OutTree, QFormTree, form_depth, form_nodes, out_depth, out_nodes, term_vars}
use Rattle.syn_model.specs.declared.decl.Decl.{Decl}
use Rattle.syn_model.specs.declared.decl.Decl.TheVariants as decl
use Rattle.syn_model.specs.declared.heads.Param.{Param}
use Rattle.syn_model.specs.Tables.{IsDeclared, table_of}
use Rattle.syn_model.specs.Theories.{TheoryTree}
use Rattle.syn_files.specs.TheoryLines.{direction, file_scope, heading_name, numbered, parameter_of}

-- the name of the variable with a number: `x` and the number, as `x1`; with a mark, which is the same in the whole line, `x`, the mark,
-- `_` and the number, as `x1_2`
abbrev pub name_by : Option ℕ → ℕ → List ℕ
name_by None n = codes "x" ++ decimal n
name_by (Some j) n = codes "x" ++ decimal j ++ codes "_" ++ decimal n

-- none of these variables gets a name that is taken
abbrev pub AreFree : (List ℕ → Type 0) → List Var → Option ℕ → Type 0
AreFree Taken vars mark = All (λ v. Taken (name_by mark v.number) → ⊥) vars

-- the mark of a line with these variables: none, where no name without one is taken; else the least from 1 on that gives no name that is
-- taken
abbrev pub IsMark : (List ℕ → Type 0) → List Var → Option ℕ → Type 0
IsMark Taken vars None = AreFree Taken vars None
IsMark Taken vars (Some j) =
    (1 ≤ j) × (AreFree Taken vars None → ⊥) × AreFree Taken vars (Some j) × ((i : ℕ) → 1 ≤ i → i < j → AreFree Taken vars (Some i) → ⊥)

-- the variables with their names
abbrev pub named_by : Option ℕ → List Var → List Named
named_by mark = map (λ v. record { text = name_by mark v.number; var = v })

-- the variables of a line, numbered from 1
abbrev pub line_vars : Decl → List Var
line_vars (decl.FunClause args body) = flat_map term_vars args
line_vars (decl.RelClause args body) = flat_map term_vars args
line_vars (decl.Order name args measure) = numbered 1 args
line_vars _ = []

abbrev pub comma_list : List (List ℕ) → List ℕ
comma_list = joined (codes ", ")

abbrev pub symbol_text : SymbolTable → SymId → List ℕ
symbol_text table f = name_of (symbol_at table f)

-- `x: S`
abbrev pub parameter_text : SymbolTable → Param → List ℕ
parameter_text table p = p.name ++ codes ": " ++ sort_text table p.sort

-- the same of a variable with its name
abbrev pub named_text : SymbolTable → Named → List ℕ
named_text table n = parameter_text table (parameter_of n)

-- `NAME(.., ..)`, with these texts in the brackets
abbrev pub in_brackets_text : List ℕ → List (List ℕ) → List ℕ
in_brackets_text name texts = name ++ codes "(" ++ comma_list texts ++ codes ")"

abbrev pub sort_texts : SymbolTable → List Sort → List (List ℕ)
sort_texts table = map (sort_text table)

-- `sort L = n | c(E, L)`
abbrev pub list_sort_text : SymbolTable → List ℕ → List ℕ → List ℕ → Sort → List ℕ
list_sort_text table name nil cons item =
    codes "sort " ++ name ++ codes " = " ++ nil ++ codes " | " ++ in_brackets_text cons (sort_text table item ∷ name ∷ [])

-- `sort T = c(S1, .., Sk)`
abbrev pub tuple_sort_text : SymbolTable → List ℕ → List ℕ → List Sort → List ℕ
tuple_sort_text table name make parts = codes "sort " ++ name ++ codes " = " ++ in_brackets_text make (sort_texts table parts)

-- `fun f(S1, .., Sn): S`
abbrev pub fun_text : SymbolTable → List ℕ → List Sort → Sort → List ℕ
fun_text table name args result = codes "fun " ++ in_brackets_text name (sort_texts table args) ++ codes ": " ++ sort_text table result

-- `rel r(S1, .., Sn)`
abbrev pub rel_text : SymbolTable → List ℕ → List Sort → List ℕ
rel_text table name args = codes "rel " ++ in_brackets_text name (sort_texts table args)

-- `clause f(q1, .., qn)`
abbrev pub clause_front : TextScope → List ℕ → List TermTree → List ℕ
clause_front scope own args = codes "clause " ++ in_brackets_text own (map (printed_term scope) args)

-- `clause f(q1, .., qn) = OUT`
abbrev pub fun_clause_text : TextScope → List ℕ → List TermTree → OutTree → List ℕ
fun_clause_text scope own args body = clause_front scope own args ++ codes " = " ++ printed_out scope body

-- `clause r(q1, .., qn) <-> FORM`
abbrev pub rel_clause_text : TextScope → List ℕ → List TermTree → FormTree → List ℕ
rel_clause_text scope own args body = clause_front scope own args ++ codes " <-> " ++ printed_form scope body

-- `order w(x: S, ..) by TERM`
abbrev pub order_text : SymbolTable → List ℕ → List Named → TermTree → List ℕ
order_text table name names measure =
    codes "order " ++ in_brackets_text name (map (named_text table) names) ++ codes " by " ++ printed_term (file_scope table names) measure

-- `axiom NAME: FORM`
abbrev pub axiom_text : SymbolTable → List ℕ → QFormTree → List ℕ
axiom_text table name form = codes "axiom " ++ name ++ codes ": " ++ printed_qform (file_scope table []) form

-- a space and the relation that is given, where there is one
abbrev pub given_text : SymbolTable → Option SymId → List ℕ
given_text table gives = option_map_or (λ r. codes " " ++ symbol_text table r) gives []

-- `mono NAME: REL up`
abbrev pub mono_front : SymbolTable → List ℕ → Mono → List ℕ
mono_front table name m = codes "mono " ++ name ++ codes ": " ++ symbol_text table m.rel ++ codes " " ++ direction m.up

-- `mono NAME: REL up SYM K`, and its kin
abbrev pub mono_text : SymbolTable → List ℕ → Mono → List ℕ
mono_text table name m = mono_front table name m ++ codes " " ++ symbol_text table m.sym ++ codes " " ++ decimal m.place ++ given_text table m.gives

-- the line of a declaration, where the last heading has this name, and these are the line's variables with their names
abbrev pub printed_decl : SymbolTable → List ℕ → List Named → Decl → List ℕ
printed_decl table own names (decl.ListSort name nil cons item) = list_sort_text table name nil cons item
printed_decl table own names (decl.TupleSort name make parts) = tuple_sort_text table name make parts
printed_decl table own names (decl.Fun name args result) = fun_text table name args result
printed_decl table own names (decl.Rel name args) = rel_text table name args
printed_decl table own names (decl.FunClause args body) = fun_clause_text (file_scope table names) own args body
printed_decl table own names (decl.RelClause args body) = rel_clause_text (file_scope table names) own args body
printed_decl table own names (decl.Order name args measure) = order_text table name names measure
printed_decl table own names (decl.Axiom name form) = axiom_text table name form
printed_decl table own names (decl.Monotone name m) = mono_text table name m

-- the name of the last heading after one more declaration
abbrev pub own_after : List ℕ → Decl → List ℕ
own_after own (decl.FunClause args body) = own
own_after own (decl.RelClause args body) = own
own_after own d = heading_name (Some d)

-- the line of a declaration of a theory that has all of these
abbrev pub IsPrintedLine : List Decl → List ℕ → Decl → List ℕ → Type 0
IsPrintedLine all own d line = (mark : Option ℕ) × IsMark (IsDeclared all) (line_vars d) mark × (line ≡ printed_decl (table_of all) own (named_by mark (line_vars d)) d)

-- one line for each of these declarations
abbrev pub PrintLines : List Decl → List ℕ → List Decl → List (List ℕ) → Type 0
PrintLines all own [] [] = Unit {0}
PrintLines all own [] (line ∷ lines) = ⊥
PrintLines all own (d ∷ ds) [] = ⊥
PrintLines all own (d ∷ ds) (line ∷ lines) = IsPrintedLine all own d line × PrintLines all (own_after own d) ds lines

-- the text is the one that is printed for the theory
pub record IsPrintedTheory (t : TheoryTree) (text : List ℕ) : Type 0 where
  pub lines : List (List ℕ)
  pub each : PrintLines t.decls [] t.decls lines
  pub is : text ≡ flat_map with_feed ((codes "theory " ++ t.name) ∷ lines)

-- each expression of the declaration is within the limit of an expression
abbrev pub IsWithinLimit : Decl → Type 0
IsWithinLimit (decl.FunClause args body) = (out_nodes body ≤ expression_limit.nodes) × (out_depth body ≤ expression_limit.depth)
IsWithinLimit (decl.RelClause args body) = (form_nodes body ≤ expression_limit.nodes) × (form_depth body ≤ expression_limit.depth)
IsWithinLimit (decl.Order name args measure) = (nodes measure ≤ expression_limit.nodes) × (depth_of measure ≤ expression_limit.depth)
IsWithinLimit (decl.Axiom name form) = (qform_nodes form ≤ expression_limit.nodes) × (qform_depth form ≤ expression_limit.depth)
IsWithinLimit _ = Unit {0}
