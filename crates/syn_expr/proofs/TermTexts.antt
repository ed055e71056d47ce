-- The text of a term: what it is at each kind of node, and what the arguments are behind the name.
use Rattle.std.proofs.Common.{◌≡◌, ℕ, ◌+◌, List, [], ◌∷◌, ◌++◌, map, Option, None, Some, if◌then◌else◌, nat_lt, true, false, refl, sym, ◌∙◌, ap, append_assoc, append-nil}
use Rattle.syn_term.specs.declared.sorts.Kind.{Kind}
use Rattle.syn_term.specs.declared.sorts.Kind.TheVariants as kind
use Rattle.syn_term.specs.declared.sorts.Sym.{Sym}
use Rattle.syn_term.specs.declared.sorts.SymId.{SymId}
use Rattle.syn_term.specs.declared.sorts.Var.{Var}
use Rattle.syn_term.specs.declared.term.Place.{Place}
use Rattle.syn_term.specs.declared.term.Node.{Node}
use Rattle.syn_term.specs.declared.term.Node.TheVariants as node
use Rattle.syn_term.specs.declared.term.Node.TheViews as view
use Rattle.syn_term.specs.Symbols.{symbol_at}
use Rattle.syn_term.proofs.Trees.{fold-App, fold-Var}
use Rattle.syn_form.specs.Scopes.{TextScope}
use Rattle.syn_form.specs.Printing.{atom_text, Printed, print_step, printing_of, printed_term, symbol_printed, kind_printed, successor_printed, number_printed, applied_printed, applied_text, name_of, texts_of, var_text}
use Rattle.syn_expr.specs.inner.Places.{bracketed, arguments_text}
use Rattle.syn_expr.proofs.Pieces.{two_put, whole_put}

-- the name, and then the arguments in brackets
applied_is : (name : List ℕ) (ps : List Printed) → applied_text name ps ≡ name ++ bracketed (texts_of ps)
applied_is name [] = simp append-nil refl
applied_is name (p ∷ ps) = simp append_assoc refl

-- the texts of the arguments
texts_are : (scope : TextScope) (args : List Node) → texts_of (map (printing_of scope) args) ≡ map (printed_term scope) args
texts_are scope [] = refl
texts_are scope (x ∷ xs) = ap (λ (z : List (List ℕ)). printed_term scope x ∷ z) (texts_are scope xs)

pub applied_arguments : (scope : TextScope) (name : List ℕ) (args : List Node) → applied_text name (map (printing_of scope) args) ≡ name ++ arguments_text scope args
applied_arguments scope name args = applied_is name (map (printing_of scope) args) ∙ ap (λ (z : List (List ℕ)). name ++ bracketed z) (texts_are scope args)

-- what is no number was printed as a symbol with arguments: for a successor, for a symbol of each kind, for any symbol
plain_successor : (name : List ℕ) (p : Printed) (n : Option ℕ) → (successor_printed name p n).number ≡ None → successor_printed name p n ≡ applied_printed name (p ∷ [])
plain_successor name p None h = refl
plain_successor name p (Some n) h =
    elim (nat_lt n 1000) as (λ b. (if b then number_printed (n + 1) else applied_printed name (p ∷ [])).number ≡ None → (if b then number_printed (n + 1) else applied_printed name (p ∷ [])) ≡ applied_printed name (p ∷ [])) [
      | true ↦ (λ e. absurd (cc))
      | false ↦ (λ e. refl)
    ] h

plain_kind : (k : Kind) (name : List ℕ) (ps : List Printed) → (kind_printed k name ps).number ≡ None → kind_printed k name ps ≡ applied_printed name ps
plain_kind kind.Zero name [] h = absurd (cc)
plain_kind kind.Zero name (p ∷ ps) h = refl
plain_kind kind.Succ name [] h = refl
plain_kind kind.Succ name (p ∷ []) h = plain_successor name p p.number h
plain_kind kind.Succ name (p ∷ q ∷ ps) h = refl
plain_kind _ name ps h = refl

plain_symbol : (s : Option Sym) (ps : List Printed) → (symbol_printed s ps).number ≡ None → symbol_printed s ps ≡ applied_printed (name_of s) ps
plain_symbol None ps h = refl
plain_symbol (Some s) ps h = plain_kind s.kind s.name ps h

-- a variable is put
pub variable_put : (scope : TextScope) (t : Node) (p : Place) (v : Var) (old new : List ℕ) → t ≡ node.Var p v → new ≡ old ++ var_text scope v → new ≡ old ++ printed_term scope t
variable_put scope t p v old new is put =
    let e : printed_term scope t ≡ var_text scope v = ap (printed_term scope) is ∙ ap (λ (q : Printed). q.text) (fold-Var (print_step scope) p v) in
    whole_put (var_text scope v) (printed_term scope t) old new e put

-- a symbol is put, and then its arguments
pub application_put : (scope : TextScope) (t : Node) (p : Place) (f : SymId) (args xs : List Node) (name old mid new : List ℕ) → t ≡ view.App p f args → xs ≡ args → (printing_of scope t).number ≡ None → name ≡ name_of (symbol_at scope.table f) → mid ≡ old ++ name → new ≡ mid ++ arguments_text scope xs → new ≡ old ++ printed_term scope t
application_put scope t p f args xs name old mid new is same none named put_name put_rest =
    let printed : printing_of scope t ≡ symbol_printed (symbol_at scope.table f) (map (printing_of scope) args) = ap (printing_of scope) is ∙ fold-App (print_step scope) p f args in
    let plain : symbol_printed (symbol_at scope.table f) (map (printing_of scope) args) ≡ applied_printed (name_of (symbol_at scope.table f)) (map (printing_of scope) args) = plain_symbol (symbol_at scope.table f) (map (printing_of scope) args) (ap (λ (q : Printed). q.number) (sym printed) ∙ none) in
    let text : printed_term scope t ≡ name ++ arguments_text scope xs = ap (λ (q : Printed). q.text) (printed ∙ plain) ∙ (applied_arguments scope (name_of (symbol_at scope.table f)) args ∙ (ap (λ (z : List ℕ). z ++ arguments_text scope args) (sym named) ∙ ap (λ (z : List Node). name ++ arguments_text scope z) (sym same))) in
    two_put name (arguments_text scope xs) (printed_term scope t) old mid new text put_name put_rest

-- an atom is put: its name, and then its arguments
pub atom_put : (scope : TextScope) (s : Option Sym) (args : List Node) (name old mid new : List ℕ) → name ≡ name_of s → mid ≡ old ++ name → new ≡ mid ++ arguments_text scope args → new ≡ old ++ atom_text scope s args
atom_put scope s args name old mid new named put_name put_rest =
    let text : atom_text scope s args ≡ name ++ arguments_text scope args = applied_arguments scope (name_of s) args ∙ ap (λ (z : List ℕ). z ++ arguments_text scope args) (sym named) in
    two_put name (arguments_text scope args) (atom_text scope s args) old mid new text put_name put_rest
