-- Public. Terms and formulas with terms in place of input symbols.
use Rattle.std.specs.Prelude.{◌≡◌, ℕ, sum, List, [], ◌∷◌, All, map, nat_eq, Option, None, Some, if◌then◌else◌}
use Rattle.std.specs.Option.{unwrap_or}
use Rattle.syn_term.specs.Bank.{Kept, Belongs}
use Rattle.syn_term.specs.declared.sorts.Sym.{Sym}
use Rattle.syn_term.specs.declared.sorts.SymId.{SymId}
use Rattle.syn_term.specs.declared.sorts.Kind.TheVariants as kind
use Rattle.syn_term.specs.declared.term.Node.{Node, fold-Node}
use Rattle.syn_term.specs.declared.term.Node.TheOpen.{Node-F}
use Rattle.syn_term.specs.Symbols.{SymbolTable, symbol_at}
use Rattle.syn_term.specs.Terms.{TermTree, variable_tree, application, nodes, sort_of}
use Rattle.syn_form.specs.declared.trees.Form.{Form, fold-Form}
use Rattle.syn_form.specs.declared.trees.Form.TheOpen.{Form-F}
use Rattle.syn_form.specs.declared.trees.Form.TheVariants as form
use Rattle.syn_form.specs.declared.trees.Form.TheViews as view
use Rattle.syn_form.specs.Trees.{FormTree, form_terms}

-- some symbols, each with the term that takes its place
abbrev pub Inputs : Type 0
Inputs = List (SymId × TermTree)

-- an input symbol of the table, with a term of its sort
pub record IsInput (table : SymbolTable) (b : SymId × TermTree) : Type 0 where
  pub sym : Sym
  pub is : symbol_at table b.0 ≡ Some sym
  pub input : sym.kind ≡ kind.Input
  pub sort : sort_of table b.1 ≡ sym.result

abbrev pub AreInputs : SymbolTable → Inputs → Type 0
AreInputs table = All (IsInput table)

-- the terms belong to the bank
abbrev pub InputsBelong : Kept → Inputs → Type 0
InputsBelong bank = All (λ b. Belongs bank b.1)

-- the term that is listed for the symbol, the first if there are several
abbrev pub listed_term : Inputs → SymId → Option TermTree
listed_term [] f = None
listed_term (b ∷ bs) f = if nat_eq b.0.0 f.0 then Some b.1 else listed_term bs f

-- what a symbol with these arguments becomes: the term that is listed for it, or itself
abbrev pub input_term : Inputs → SymId → List TermTree → TermTree
input_term inputs f args = unwrap_or (listed_term inputs f) (application f args)

abbrev pub with_inputs_step : Inputs → Node-F Node → Node
with_inputs_step inputs (Node-F.Var place v) = variable_tree v
with_inputs_step inputs (Node-F.App place f args) = input_term inputs f args

-- the term with each listed symbol replaced, everywhere at once
abbrev pub with_inputs : Inputs → TermTree → TermTree
with_inputs inputs = fold-Node Node (with_inputs_step inputs)

-- the number of nodes of the terms of a formula
abbrev pub terms_size : FormTree → ℕ
terms_size f = sum (map nodes (form_terms f))

abbrev pub on_terms_step : (TermTree → TermTree) → Form-F Form → Form
on_terms_step g Form-F.True = form.True
on_terms_step g Form-F.False = form.False
on_terms_step g (Form-F.Atom r args) = form.Atom r (map g args)
on_terms_step g (Form-F.Equal s t) = form.Equal (g s) (g t)
on_terms_step g (Form-F.Not a) = view.Not a
on_terms_step g (Form-F.And all) = view.And all
on_terms_step g (Form-F.Or all) = view.Or all
on_terms_step g (Form-F.Implies a b) = view.Implies a b

-- the formula with each of its terms changed
abbrev pub on_terms : (TermTree → TermTree) → FormTree → FormTree
on_terms g = fold-Form Form (on_terms_step g)

abbrev pub form_with_inputs : Inputs → FormTree → FormTree
form_with_inputs inputs = on_terms (with_inputs inputs)
