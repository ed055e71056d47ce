-- By which productions the text of a tree is made. A printed text has the words of this reading, and the reading stands for the
-- tree.
use Rattle.std.specs.Prelude.{ℕ, ◌+◌, Bool, true, false, List, [], ◌∷◌, Option, None, Some, if◌then◌else◌, nat_lt, map}
use Rattle.syn_term.specs.declared.sorts.Sort.{Sort}
use Rattle.syn_term.specs.declared.sorts.Sort.TheVariants as sort
use Rattle.syn_term.specs.declared.sorts.Sym.{Sym}
use Rattle.syn_term.specs.declared.sorts.Kind.{Kind}
use Rattle.syn_term.specs.declared.sorts.Kind.TheVariants as kind
use Rattle.syn_term.specs.declared.sorts.Var.{Var}
use Rattle.syn_term.specs.declared.term.Node.{fold-Node}
use Rattle.syn_term.specs.declared.term.Node.TheOpen.{Node-F}
use Rattle.syn_term.specs.Symbols.{SymbolTable, symbol_at}
use Rattle.syn_term.specs.Terms.{TermTree}
use Rattle.syn_form.specs.declared.syntax.HeadName.{HeadName}
use Rattle.syn_form.specs.declared.syntax.HeadName.TheVariants as head
use Rattle.syn_form.specs.declared.syntax.TermSyntax.{TermSyntax}
use Rattle.syn_form.specs.declared.syntax.TermSyntax.TheVariants as term
use Rattle.syn_form.specs.declared.syntax.TermSyntax.TheViews as term_view
use Rattle.syn_form.specs.declared.syntax.Quantifier.{Quantifier}
use Rattle.syn_form.specs.declared.syntax.Quantifier.TheVariants as quantifier
use Rattle.syn_form.specs.declared.trees.Binder.{Binder}
use Rattle.syn_form.specs.declared.trees.Out.{fold-Out}
use Rattle.syn_form.specs.declared.trees.Out.TheOpen.{Out-F}
use Rattle.syn_form.specs.declared.trees.QForm.{fold-QForm}
use Rattle.syn_form.specs.declared.trees.QForm.TheOpen.{QForm-F}
use Rattle.syn_form.specs.Quantified.{as_qform}
use Rattle.syn_form.specs.Trees.{FormTree, QFormTree, OutTree}
use Rattle.syn_form.specs.Scopes.{TextScope}
use Rattle.syn_form.specs.Printing.{in_scope_of, name_for, name_of, sort_text}
use Rattle.syn_expr.specs.Readable.{symbol_head}
use Rattle.syn_form.specs.Grammar.{UnaryText, ConjText, DisjText, ImpText, FormText, OutText, truth, falsity, atom, equality, no, bracket, one_unary, and_also, one_conj, or_also, one_disj, implies, one_imp, quantified, give, choice}

-- the syntax tree of a term, and the number that it is, where it is one
pub record Written : Type 0 where
  pub syntax : TermSyntax
  pub number : Option ℕ

abbrev pub syntaxes_of : List Written → List TermSyntax
syntaxes_of = map (λ w. w.syntax)

abbrev pub applied_syntax : HeadName → List Written → TermSyntax
applied_syntax h [] = term.Alone h
applied_syntax h (w ∷ ws) = term_view.Applied h (syntaxes_of (w ∷ ws))

abbrev pub applied_written : HeadName → List Written → Written
applied_written h ws = record { syntax = applied_syntax h ws; number = None }

abbrev pub number_written : ℕ → Written
number_written n = record { syntax = term.Number n; number = Some n }

abbrev pub successor_written : HeadName → Written → Option ℕ → Written
successor_written h w None = applied_written h (w ∷ [])
successor_written h w (Some n) = if nat_lt n 1000 then number_written (n + 1) else applied_written h (w ∷ [])

abbrev pub kind_written : Kind → HeadName → List Written → Written
kind_written kind.Zero h [] = number_written 0
kind_written kind.Succ h (w ∷ []) = successor_written h w w.number
kind_written _ h ws = applied_written h ws

abbrev pub symbol_written : Option Sym → List Written → Written
symbol_written None ws = applied_written (head.Name []) ws
symbol_written (Some s) ws = kind_written s.kind (symbol_head s.kind s.name) ws

abbrev pub sort_written : SymbolTable → Sort → Option (List ℕ)
sort_written table sort.Nat = None
sort_written table s = Some (sort_text table s)

abbrev pub var_written : Bool → TextScope → Var → TermSyntax
var_written true scope v = term.RowVar v.number (sort_written scope.table v.sort)
var_written false scope v = term.Alone (head.Name (name_for scope.names v.number))

abbrev pub written_step : TextScope → Node-F Written → Written
written_step scope (Node-F.Var place v) = record { syntax = var_written scope.rows scope v; number = None }
written_step scope (Node-F.App place f args) = symbol_written (symbol_at scope.table f) args

abbrev pub writing_of : TextScope → TermTree → Written
writing_of scope = fold-Node Written (written_step scope)

-- the syntax tree that a term is printed from
abbrev pub term_written : TextScope → TermTree → TermSyntax
term_written scope t = (writing_of scope t).syntax

-- a formula as a whole, and as it stands inside another
pub record FormWritten : Type 0 where
  pub whole : FormText
  pub inside : UnaryText

abbrev pub alone_conj : UnaryText → ConjText
alone_conj u = one_unary u

abbrev pub alone_disj : UnaryText → DisjText
alone_disj u = one_conj (one_unary u)

abbrev pub alone_imp : UnaryText → ImpText
alone_imp u = one_disj (alone_disj u)

-- without brackets
abbrev pub tight_written : UnaryText → FormWritten
tight_written u = record { whole = one_imp (alone_imp u); inside = u }

-- in brackets where it stands inside another
abbrev pub loose_written : FormText → FormWritten
loose_written f = record { whole = f; inside = bracket f }

-- the chain that begins with this one, and goes on with these
abbrev pub conj_on : ConjText → List FormWritten → ConjText
conj_on c [] = c
conj_on c (w ∷ ws) = conj_on (and_also c w.inside) ws

abbrev pub disj_on : DisjText → List FormWritten → DisjText
disj_on d [] = d
disj_on d (w ∷ ws) = disj_on (or_also d (one_unary w.inside)) ws

abbrev pub and_written : List FormWritten → FormText
and_written [] = one_imp (alone_imp truth)
and_written (w ∷ ws) = one_imp (one_disj (one_conj (conj_on (one_unary w.inside) ws)))

abbrev pub or_written : List FormWritten → FormText
or_written [] = one_imp (alone_imp falsity)
or_written (w ∷ ws) = one_imp (one_disj (disj_on (one_conj (one_unary w.inside)) ws))

abbrev pub implication_written : FormWritten → FormWritten → FormText
implication_written w v = one_imp (implies (alone_disj w.inside) (alone_imp v.inside))

abbrev pub quantified_written : Quantifier → TextScope → Binder → FormWritten → FormText
quantified_written q scope b w = quantified q (record { name = b.name; sort = sort_text scope.table b.var.sort } ∷ []) (one_imp (alone_imp w.inside))

abbrev pub qform_written_step : QForm-F (TextScope → FormWritten) → TextScope → FormWritten
qform_written_step QForm-F.True scope = tight_written truth
qform_written_step QForm-F.False scope = tight_written falsity
qform_written_step (QForm-F.Atom r args) scope = tight_written (atom (name_of (symbol_at scope.table r)) (map (term_written scope) args))
qform_written_step (QForm-F.Equal s t) scope = tight_written (equality (term_written scope s) (term_written scope t))
qform_written_step (QForm-F.Not p) scope = tight_written (no (p scope).inside)
qform_written_step (QForm-F.And ps) scope = loose_written (and_written (map (λ p. p scope) ps))
qform_written_step (QForm-F.Or ps) scope = loose_written (or_written (map (λ p. p scope) ps))
qform_written_step (QForm-F.Implies p q) scope = loose_written (implication_written (p scope) (q scope))
qform_written_step (QForm-F.All b p) scope = loose_written (quantified_written quantifier.All scope b (p (in_scope_of scope b)))
qform_written_step (QForm-F.Exists b p) scope = loose_written (quantified_written quantifier.Exists scope b (p (in_scope_of scope b)))

-- the reading that a formula is printed from
abbrev pub qform_written : QFormTree → TextScope → FormWritten
qform_written = fold-QForm (TextScope → FormWritten) qform_written_step

abbrev pub form_written : TextScope → FormTree → FormWritten
form_written scope f = qform_written (as_qform f) scope

abbrev pub out_written_step : TextScope → Out-F OutText → OutText
out_written_step scope (Out-F.Give t) = give (term_written scope t)
out_written_step scope (Out-F.If f u v) = choice (form_written scope f).whole u v

-- the reading that an output is printed from
abbrev pub out_written : TextScope → OutTree → OutText
out_written scope = fold-Out OutText (out_written_step scope)
