-- A term that is not `0` under successors is no number, and neither is what stands under its successors.
use Rattle.std.proofs.Common.{◌≡◌, ℕ, List, [], ◌∷◌, All, map, Option, None, Some, false, refl, sym, ◌∙◌, ap, ◌≤◌, ◌<◌, length, get_or, arith}
use Rattle.std.proofs.lemmas.List.Elements.{All-head}
use Rattle.syn_term.specs.declared.sorts.Kind.{Kind}
use Rattle.syn_term.specs.declared.sorts.Kind.TheVariants as kind
use Rattle.syn_term.specs.declared.sorts.Sym.{Sym}
use Rattle.syn_term.specs.declared.sorts.SymId.{SymId}
use Rattle.syn_term.specs.declared.sorts.Var.{Var}
use Rattle.syn_term.specs.declared.term.Place.{Place}
use Rattle.syn_term.specs.declared.term.Node.{Node}
use Rattle.syn_term.specs.declared.term.Node.TheVariants as node
use Rattle.syn_term.specs.declared.term.Node.TheViews as view
use Rattle.syn_term.specs.Symbols.{symbol_at}
use Rattle.syn_term.proofs.Trees.{fold-App, fold-Var}
use Rattle.syn_form.specs.Scopes.{TextScope}
use Rattle.syn_form.specs.Printing.{Printed, print_step, printing_of, symbol_printed, kind_printed, successor_printed}
use Rattle.syn_form.proofs.TermNodes.{by_term_cases}
use Rattle.syn_expr.specs.inner.Places.{ends_in_zero, ends_step, kind_ends, symbol_ends}

abbrev HasNone : TextScope → Node → Type 0
HasNone scope t = ends_in_zero scope t ≡ false → (printing_of scope t).number ≡ None

successor_none : (name : List ℕ) (p : Printed) → p.number ≡ None → (successor_printed name p p.number).number ≡ None
successor_none name p e = ap (λ (o : Option ℕ). (successor_printed name p o).number) e

kind_none : (scope : TextScope) (k : Kind) (name : List ℕ) (args : List Node) → All (HasNone scope) args → kind_ends k (map (ends_in_zero scope) args) ≡ false → (kind_printed k name (map (printing_of scope) args)).number ≡ None
kind_none scope kind.Zero name [] h e = absurd (cc)
kind_none scope kind.Zero name (x ∷ xs) h e = refl
kind_none scope kind.Succ name [] h e = refl
kind_none scope kind.Succ name (x ∷ []) h e = successor_none name (printing_of scope x) (All-head (HasNone scope) x [] h e)
kind_none scope kind.Succ name (x ∷ y ∷ zs) h e = refl
kind_none scope _ name args h e = refl

symbol_none : (scope : TextScope) (o : Option Sym) (args : List Node) → All (HasNone scope) args → symbol_ends o (map (ends_in_zero scope) args) ≡ false → (symbol_printed o (map (printing_of scope) args)).number ≡ None
symbol_none scope None args h e = refl
symbol_none scope (Some s) args h e = kind_none scope s.kind s.name args h e

variable_none : (scope : TextScope) (p : Place) (v : Var) → HasNone scope (node.Var p v)
variable_none scope p v e = ap (λ (q : Printed). q.number) (fold-Var (print_step scope) p v)

application_none : (scope : TextScope) (p : Place) (f : SymId) (args : List Node) → All (HasNone scope) args → HasNone scope (view.App p f args)
application_none scope p f args h e =
    let k : symbol_ends (symbol_at scope.table f) (map (ends_in_zero scope) args) ≡ false = sym (fold-App (ends_step scope) p f args) ∙ e in
    ap (λ (q : Printed). q.number) (fold-App (print_step scope) p f args) ∙ symbol_none scope (symbol_at scope.table f) args h k

pub open_none : (scope : TextScope) (t : Node) → ends_in_zero scope t ≡ false → (printing_of scope t).number ≡ None
open_none scope = by_term_cases (HasNone scope) (variable_none scope) (application_none scope)

-- a list of one item
pub one_only : {A : Type 0} (xs : List A) (d x : A) → 1 ≤ length xs → length xs < 2 → x ≡ get_or xs 0 d → xs ≡ x ∷ []
one_only [] d x some few is = absurd (omega arith)
one_only (y ∷ []) d x some few is = ap (λ z. z ∷ []) (sym is)
one_only (y ∷ z ∷ zs) d x some few is = absurd (omega arith)
