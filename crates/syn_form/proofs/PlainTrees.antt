-- When trees that are formed are plain, from the sorts of their variables.
use Rattle.std.proofs.Common.{◌↔◌, Bool, IsTrue, All}
use Rattle.syn_term.specs.Symbols.{SymbolTable}
use Rattle.syn_form.specs.Plain.{HasOneSortEach, IsFormed, IsFormedOut, IsPlainForm, IsPlainOut}
use Rattle.syn_form.specs.PlainQuantified.{BindsOnce, MayBind, IsFormedQ, IsNumbered, IsPlainQForm, binders_of}
use Rattle.syn_form.specs.Quantified.{qform_vars}
use Rattle.syn_form.specs.Trees.{FormTree, OutTree, QFormTree, form_vars, out_vars}

pub plain_form : (table : SymbolTable) (f : FormTree) (b : Bool) → IsFormed table f → (IsTrue b ↔ HasOneSortEach (form_vars f)) → IsTrue b ↔ IsPlainForm table f
plain_form table f b formed h = ((λ e. record { formed = formed; sorts = h.0 e }), (λ p. h.1 p.sorts))

pub plain_out : (table : SymbolTable) (o : OutTree) (b : Bool) → IsFormedOut table o → (IsTrue b ↔ HasOneSortEach (out_vars o)) → IsTrue b ↔ IsPlainOut table o
plain_out table o b formed h = ((λ e. record { formed = formed; sorts = h.0 e }), (λ p. h.1 p.sorts))

pub plain_qform : (table : SymbolTable) (f : QFormTree) (b : Bool) → IsFormedQ table f → IsNumbered f × All (MayBind table) (binders_of f) × BindsOnce f → (IsTrue b ↔ HasOneSortEach (qform_vars f)) → IsTrue b ↔ IsPlainQForm table f
plain_qform table f b formed binders h = (
  (λ e. record { formed = formed; sorts = h.0 e; numbered = binders.0; binders = binders.1; once = binders.2 }),
  (λ p. h.1 p.sorts),
)
