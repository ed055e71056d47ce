-- Public. The one text that is printed for a term, a formula or an output.
use Rattle.std.specs.Prelude.{ℕ, ◌+◌, Bool, true, false, cond, List, [], ◌∷◌, ◌++◌, Option, None, Some, codes, decimal, if◌then◌else◌, nat_eq, nat_lt, map, slice_get}
use Rattle.std.specs.Option.{option_map_or}
use Rattle.syn_term.specs.declared.sorts.Sort.{Sort}
use Rattle.syn_term.specs.declared.sorts.Sort.TheVariants as sort
use Rattle.syn_term.specs.declared.sorts.Sym.{Sym}
use Rattle.syn_term.specs.declared.sorts.Kind.{Kind}
use Rattle.syn_term.specs.declared.sorts.Kind.TheVariants as kind
use Rattle.syn_term.specs.declared.sorts.Var.{Var}
use Rattle.syn_term.specs.declared.term.Node.{fold-Node}
use Rattle.syn_term.specs.declared.term.Node.TheOpen.{Node-F}
use Rattle.syn_term.specs.Symbols.{SymbolTable, symbol_at}
use Rattle.syn_term.specs.Terms.{TermTree}
use Rattle.syn_form.specs.declared.trees.Binder.{Binder}
use Rattle.syn_form.specs.declared.trees.Form.{fold-Form}
use Rattle.syn_form.specs.declared.trees.Form.TheOpen.{Form-F}
use Rattle.syn_form.specs.declared.trees.QForm.{fold-QForm}
use Rattle.syn_form.specs.declared.trees.QForm.TheOpen.{QForm-F}
use Rattle.syn_form.specs.declared.trees.Out.{fold-Out}
use Rattle.syn_form.specs.declared.trees.Out.TheOpen.{Out-F}
use Rattle.syn_form.specs.Trees.{FormTree, QFormTree, OutTree}
use Rattle.syn_form.specs.Scopes.{Named, TextScope, largest_numeral, with_name}

-- the text of a term, and the number that the text is, where it is one
pub record Printed : Type 0 where
  pub text : List ℕ
  pub number : Option ℕ

-- the texts one after another, with this text between
abbrev pub joined : List ℕ → List (List ℕ) → List ℕ
joined between [] = []
joined between (t ∷ []) = t
joined between (t ∷ u ∷ more) = t ++ between ++ joined between (u ∷ more)

abbrev pub texts_of : List Printed → List (List ℕ)
texts_of = map (λ p. p.text)

-- `name`, or `name(t, .., u)`
abbrev pub applied_text : List ℕ → List Printed → List ℕ
applied_text name [] = name
applied_text name (p ∷ ps) = name ++ codes "(" ++ joined (codes ", ") (texts_of (p ∷ ps)) ++ codes ")"

-- what is no number
abbrev pub applied_printed : List ℕ → List Printed → Printed
applied_printed name ps = record { text = applied_text name ps; number = None }

abbrev pub number_printed : ℕ → Printed
number_printed n = record { text = decimal n; number = Some n }

-- the successor of a number below the largest numeral is the next number; any other is `s(..)`
abbrev pub successor_printed : List ℕ → Printed → Option ℕ → Printed
successor_printed name p None = applied_printed name (p ∷ [])
successor_printed name p (Some n) = if nat_lt n largest_numeral then number_printed (n + 1) else applied_printed name (p ∷ [])

abbrev pub kind_printed : Kind → List ℕ → List Printed → Printed
kind_printed kind.Zero name [] = number_printed 0
kind_printed kind.Succ name (p ∷ []) = successor_printed name p p.number
kind_printed _ name ps = applied_printed name ps

abbrev pub name_of : Option Sym → List ℕ
name_of None = []
name_of (Some s) = s.name

abbrev pub symbol_printed : Option Sym → List Printed → Printed
symbol_printed None ps = applied_printed [] ps
symbol_printed (Some s) ps = kind_printed s.kind s.name ps

-- a declared sort, by its name
abbrev pub sort_text : SymbolTable → Sort → List ℕ
sort_text table sort.Nat = codes "nat"
sort_text table (sort.Named k) = option_map_or (λ s. s.name) (slice_get table.sorts k) []

-- `?n`, and behind a colon its sort, where that is not `nat`
abbrev pub row_text : SymbolTable → Var → Sort → List ℕ
row_text table v sort.Nat = codes "?" ++ decimal v.number
row_text table v s = codes "?" ++ decimal v.number ++ codes ":" ++ sort_text table s

-- the name that stands for the variable's number, the innermost first
abbrev pub name_for : List Named → ℕ → List ℕ
name_for [] n = []
name_for (x ∷ xs) n = if nat_eq x.var.number n then x.text else name_for xs n

-- a variable prints as a row variable in rows, and elsewhere as its name
abbrev pub var_text : TextScope → Var → List ℕ
var_text scope v = if scope.rows then row_text scope.table v v.sort else name_for scope.names v.number

abbrev pub print_step : TextScope → Node-F Printed → Printed
print_step scope (Node-F.Var place v) = record { text = var_text scope v; number = None }
print_step scope (Node-F.App place f args) = symbol_printed (symbol_at scope.table f) args

abbrev pub printing_of : TextScope → TermTree → Printed
printing_of scope = fold-Node Printed (print_step scope)

-- the largest subterm that is k times `s` over `0` prints as the number k up to the largest numeral; above, as `s(..)` over that
abbrev pub printed_term : TextScope → TermTree → List ℕ
printed_term scope t = (printing_of scope t).text

-- the text of a formula, and whether it stands inside another without brackets
pub record PrintedForm : Type 0 where
  pub tight : Bool
  pub text : List ℕ

-- a formula inside another is bracketed exactly where it is `and`, `or`, `->` or quantified
abbrev pub inner : PrintedForm → List ℕ
inner p = cond p.tight p.text (codes "(" ++ p.text ++ codes ")")

abbrev pub tight_text : List ℕ → PrintedForm
tight_text text = record { tight = true; text = text }

abbrev pub loose_text : List ℕ → PrintedForm
loose_text text = record { tight = false; text = text }

abbrev pub atom_text : TextScope → Option Sym → List TermTree → List ℕ
atom_text scope r args = applied_text (name_of r) (map (printing_of scope) args)

abbrev pub equality_text : TextScope → TermTree → TermTree → List ℕ
equality_text scope s t = printed_term scope s ++ codes " = " ++ printed_term scope t

abbrev pub implication_text : PrintedForm → PrintedForm → List ℕ
implication_text p q = inner p ++ codes " -> " ++ inner q

abbrev pub print_form_step : TextScope → Form-F PrintedForm → PrintedForm
print_form_step scope Form-F.True = tight_text (codes "true")
print_form_step scope Form-F.False = tight_text (codes "false")
print_form_step scope (Form-F.Atom r args) = tight_text (atom_text scope (symbol_at scope.table r) args)
print_form_step scope (Form-F.Equal s t) = tight_text (equality_text scope s t)
print_form_step scope (Form-F.Not p) = tight_text (codes "not " ++ inner p)
print_form_step scope (Form-F.And ps) = loose_text (joined (codes " and ") (map inner ps))
print_form_step scope (Form-F.Or ps) = loose_text (joined (codes " or ") (map inner ps))
print_form_step scope (Form-F.Implies p q) = loose_text (implication_text p q)

abbrev pub printing_of_form : TextScope → FormTree → PrintedForm
printing_of_form scope = fold-Form PrintedForm (print_form_step scope)

abbrev pub printed_form : TextScope → FormTree → List ℕ
printed_form scope f = (printing_of_form scope f).text

-- `all x: sort. F`, one binder a quantifier
abbrev pub quantified_text : List ℕ → TextScope → Binder → PrintedForm → List ℕ
quantified_text word scope b p = word ++ b.name ++ codes ": " ++ sort_text scope.table b.var.sort ++ codes ". " ++ inner p

-- inside a quantifier its variable prints as its name
abbrev pub in_scope_of : TextScope → Binder → TextScope
in_scope_of scope b = with_name scope b.name b.var

abbrev pub print_qform_step : QForm-F (TextScope → PrintedForm) → TextScope → PrintedForm
print_qform_step QForm-F.True scope = tight_text (codes "true")
print_qform_step QForm-F.False scope = tight_text (codes "false")
print_qform_step (QForm-F.Atom r args) scope = tight_text (atom_text scope (symbol_at scope.table r) args)
print_qform_step (QForm-F.Equal s t) scope = tight_text (equality_text scope s t)
print_qform_step (QForm-F.Not p) scope = tight_text (codes "not " ++ inner (p scope))
print_qform_step (QForm-F.And ps) scope = loose_text (joined (codes " and ") (map (λ p. inner (p scope)) ps))
print_qform_step (QForm-F.Or ps) scope = loose_text (joined (codes " or ") (map (λ p. inner (p scope)) ps))
print_qform_step (QForm-F.Implies p q) scope = loose_text (implication_text (p scope) (q scope))
print_qform_step (QForm-F.All b p) scope = loose_text (quantified_text (codes "all ") scope b (p (in_scope_of scope b)))
print_qform_step (QForm-F.Exists b p) scope = loose_text (quantified_text (codes "some ") scope b (p (in_scope_of scope b)))

abbrev pub printing_of_qform : QFormTree → TextScope → PrintedForm
printing_of_qform = fold-QForm (TextScope → PrintedForm) print_qform_step

abbrev pub printed_qform : TextScope → QFormTree → List ℕ
printed_qform scope f = (printing_of_qform f scope).text

abbrev pub print_out_step : TextScope → Out-F (List ℕ) → List ℕ
print_out_step scope (Out-F.Give t) = printed_term scope t
print_out_step scope (Out-F.If f u v) = codes "if " ++ printed_form scope f ++ codes " then " ++ u ++ codes " else " ++ v

abbrev pub printed_out : TextScope → OutTree → List ℕ
printed_out scope = fold-Out (List ℕ) (print_out_step scope)
