-- What is printed of a plain tree whose variables are told apart reads back, over any well formed table.
use Rattle.std.proofs.Common.{◌≡◌, ◌<◌, Bool, true, false, List, [], All, Contains, sym, subst}
use Rattle.std.proofs.lemmas.List.Elements.{All-contains, All-nil}
use Rattle.syn_term.specs.declared.sorts.Var.{Var}
use Rattle.syn_term.specs.DeclaredSorts.{IsTable}
use Rattle.syn_term.specs.Names.{IsName}
use Rattle.syn_term.specs.Symbols.{IsTaken}
use Rattle.syn_term.specs.Terms.{TermTree, bare}
use Rattle.syn_form.specs.PlainQuantified.{binders_of}
use Rattle.syn_form.specs.Printing.{printed_form, printed_out, printed_qform, printed_term}
use Rattle.syn_form.specs.Quantified.{bare_qform, free_vars}
use Rattle.syn_form.specs.Scopes.{Named, TextScope}
use Rattle.syn_form.specs.Texts.{IsFormOf, IsOutOf, IsQFormOf, IsTermOf, IsTextOf, Limit}
use Rattle.syn_form.specs.Trees.{FormTree, OutTree, QFormTree, bare_form, bare_out, form_vars, out_vars, term_vars}
use Rattle.syn_form.proofs.Lists.{none_in_nil}
use Rattle.syn_form.specs.Writing.{CanWriteAll}
use Rattle.syn_expr.specs.Told.{AreTold, AreToldIn, IsClosedQForm, IsToldForm, IsToldOut, IsToldTerm}
use Rattle.syn_expr.proofs.ReadsBack.{form_reads_back, out_reads_back, qform_reads_back, term_reads_back}
use Rattle.syn_expr.proofs.Told.{IsOver, term_told, var_told}
use Rattle.syn_expr.proofs.ToldForms.{Sound, form_told, out_told, qform_told}

nothing_in : {X : Type 0} (xs : List X) → xs ≡ [] → (x : X) → Contains xs x → ⊥
nothing_in {X} xs e x c = none_in_nil x (subst (λ (z : List X). Contains z x) e c)

module _ (scope : TextScope) (table : IsTable scope.table) (written : CanWriteAll scope) where
  free_as : (b : Bool) (vars : List Var) → AreToldIn b scope vars → (n : Named) → Contains scope.names n → IsTaken scope.table n.text → ⊥
  free_as true vars told n c t = nothing_in scope.names told.nameless n c
  free_as false vars told n c t = (All-contains (λ (z : Named). IsName z.text × (IsTaken scope.table z.text → ⊥)) scope.names n told.names.free c).1 t

  over : (vars : List Var) → AreTold scope vars → IsOver scope
  over vars told = record { table = table; written = written; free = free_as scope.rows vars told }

pub term_told_back : (limit : Limit) (scope : TextScope) (t : TermTree) → IsTable scope.table → IsToldTerm limit scope t → IsTextOf (IsTermOf limit scope) (printed_term scope t) (bare t)
term_told_back limit scope t table k =
    let o = over scope table k.written (term_vars t) k.told in
    term_reads_back limit scope t record { sorted = k.sorted; sorts = k.sorts; can = term_told scope o t k.sorted (var_told scope o (term_vars t) k.told); few = k.few; shallow = k.shallow }

pub form_told_back : (limit : Limit) (scope : TextScope) (f : FormTree) → IsTable scope.table → IsToldForm limit scope f → IsTextOf (IsFormOf limit scope) (printed_form scope f) (bare_form f)
form_told_back limit scope f table k =
    let o = over scope table k.written (form_vars f) k.told in
    form_reads_back limit scope f record { plain = k.plain; can = form_told scope o f k.plain.formed (var_told scope o (form_vars f) k.told); few = k.few; shallow = k.shallow }

pub out_told_back : (limit : Limit) (scope : TextScope) (u : OutTree) → IsTable scope.table → IsToldOut limit scope u → IsTextOf (IsOutOf limit scope) (printed_out scope u) (bare_out u)
out_told_back limit scope u table k =
    let o = over scope table k.written (out_vars u) k.told in
    out_reads_back limit scope u record { plain = k.plain; can = out_told scope o u k.plain.formed (var_told scope o (out_vars u) k.told); few = k.few; shallow = k.shallow }

-- without names nothing is confused
closed_sound : (limit : Limit) (scope : TextScope) (f : QFormTree) → IsTable scope.table → IsClosedQForm limit scope f → Sound scope 1 (binders_of f) (free_vars f)
closed_sound limit scope f table k = record {
  over = record { table = table; written = k.written; free = λ n c t. none n c };
  file = k.file;
  apart = record {
    free = subst (All (λ (z : Named). IsName z.text × (IsTaken scope.table z.text → ⊥))) (sym k.nameless) (All-nil (λ (z : Named). IsName z.text × (IsTaken scope.table z.text → ⊥)));
    texts = λ m n c d e. absurd (none m c);
    numbers = λ m n c d e. absurd (none m c);
  };
  below = subst (All (λ (z : Named). z.var.number < 1)) (sym k.nameless) (All-nil (λ (z : Named). z.var.number < 1));
  binders = k.plain.binders;
  others = λ b c m d. absurd (none m d);
  from = k.plain.numbered;
  named = λ v c. absurd (nothing_in (free_vars f) k.closed v c);
}
  where
    none : (n : Named) → Contains scope.names n → ⊥
    none n c = nothing_in scope.names k.nameless n c

pub closed_back : (limit : Limit) (scope : TextScope) (f : QFormTree) → IsTable scope.table → IsClosedQForm limit scope f → IsTextOf (IsQFormOf limit scope) (printed_qform scope f) (bare_qform f)
closed_back limit scope f table k =
    qform_reads_back limit scope f record { plain = k.plain; can = qform_told f scope 1 k.plain.formed k.plain.once (closed_sound limit scope f table k); few = k.few; shallow = k.shallow }
