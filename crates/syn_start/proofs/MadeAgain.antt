-- Trees made once more: they are the same but for places, so what is plain stays so.
use Rattle.std.proofs.Common.{◌≡◌, ℕ, ◌+◌, ◌<◌, List, [], ◌∷◌, ◌++◌, Option, None, append-nil, get_or, length, map, take, refl, sym, ◌∙◌, ap, subst}
use Rattle.std.proofs.lemmas.List.{map-append, take_more}
use Rattle.std.specs.Option.{option_map}
use Rattle.syn_term.specs.Bank.{Kept, Belongs, Extends-refl, Extends-trans}
use Rattle.syn_term.specs.declared.sorts.SymId.{SymId}
use Rattle.syn_term.specs.Symbols.{SymbolTable}
use Rattle.syn_term.specs.Terms.{IsApplication, TermTree, application, bare, sort_of}
use Rattle.syn_term.proofs.Trees.{bare-App, fold-App, fold-Var}
use Rattle.syn_term.specs.Terms.{bare_step}
use Rattle.syn_form.specs.declared.trees.Side.{Side}
use Rattle.syn_form.specs.declared.trees.Side.TheVariants as side
use Rattle.syn_form.specs.Inputs.{form_with_inputs, with_inputs, with_inputs_step}
use Rattle.syn_form.specs.Plain.{HasOneSortEach, IsPlainForm}
use Rattle.syn_form.specs.Trees.{FormTree, OutTree, bare_form, bare_out, form_vars}
use Rattle.syn_form.proofs.Sorting.{sorts_bare}
use Rattle.syn_form.proofs.TermNodes.{by_term_cases}
use Rattle.syn_row.specs.Rows.{IsPlain, RowTree, bare_row}
use Rattle.syn_row.proofs.Changes.{changes_after, changes_alike, changes_bare, changes_on, map_same}
use Rattle.syn_row.proofs.RowPlain.{plain_along}
use Rattle.syn_row.proofs.Telling.{bare-twice}
use Rattle.syn_start.specs.Initial.{Exactly, IsGiven, assertion_of}
use Rattle.syn_start.proofs.Canonical.{exactly_one}

pub ruleset growth = (Extends-refl, Extends-trans)

-- no symbol is replaced
put_none : (t : TermTree) → with_inputs [] t ≡ bare t
put_none = by_term_cases (λ t. with_inputs [] t ≡ bare t)
    (λ p v. fold-Var (with_inputs_step []) p v ∙ sym (fold-Var bare_step p v))
    (λ p f args h. fold-App (with_inputs_step []) p f args ∙ (ap (application f) (map_same (with_inputs []) bare args h) ∙ sym (bare-App p f args)))

pub put_nothing : (f : FormTree) → bare_form (form_with_inputs [] f) ≡ bare_form f
put_nothing f =
    changes_alike (λ g. bare_form (form_with_inputs [] g)) bare_form (λ t. bare (with_inputs [] t)) bare
    (changes_after (form_with_inputs []) bare_form (with_inputs []) bare (changes_on (with_inputs [])) changes_bare) changes_bare (λ t. ap bare (put_none t) ∙ bare-twice t) f

-- a row of a formula that was made once more
pub row_one : (s : Side) (f g : FormTree) (o p : Option OutTree) → bare_form g ≡ bare_form (form_with_inputs [] f) → option_map bare_out p ≡ option_map bare_out o
    → bare_row (record { side = s; form = g; out = p }) ≡ bare_row (record { side = s; form = f; out = o })
row_one s f g o p e h = let k : bare_form g ≡ bare_form f = e ∙ put_nothing f in cc

pub assertion_plain : (table : SymbolTable) (f : FormTree) → IsPlainForm table f → IsPlain table (assertion_of f)
assertion_plain table f h = record { form = h.formed; out = tt; sorts = subst HasOneSortEach (sym (append-nil (form_vars f))) h.sorts }

-- a symbol may be applied to arguments that are the same but for places
pub applies_along : (table : SymbolTable) (f : SymId) (args parts : List TermTree) → map bare parts ≡ map bare args → IsApplication table f args → IsApplication table f parts
applies_along table f args parts e h =
    let m : map (sort_of table) parts ≡ map (sort_of table) args = sym (sorts_bare table parts) ∙ (ap (map (sort_of table)) e ∙ sorts_bare table args) in
    record { sym = h.sym; is = h.is; no_relation = h.no_relation; no_order = h.no_order; sorts = m ∙ h.sorts }

abbrev assertion_made : FormTree → RowTree
assertion_made g = record { side = side.Assertion; form = g; out = None }

pub made_plain : (table : SymbolTable) (f g : FormTree) → IsPlainForm table f → bare_form g ≡ bare_form (form_with_inputs [] f) → IsPlain table (assertion_made g)
made_plain table f g h e = plain_along table (assertion_made g) (assertion_of f) (row_one side.Assertion f g None None e refl) (assertion_plain table f h)

pub made_exactly : (f g : FormTree) (o : Option RowTree) → bare_form g ≡ bare_form (form_with_inputs [] f) → Exactly (IsGiven (assertion_made g)) o → Exactly (IsGiven (assertion_of f)) o
made_exactly f g o e h = exactly_one (assertion_made g) (assertion_of f) o (row_one side.Assertion f g None None e refl) h

-- the terms made so far, with one more
pub again_more : (xs done new : List TermTree) (i : ℕ) (d x r : TermTree) → i < length xs → x ≡ get_or xs i d → map bare done ≡ map bare (take i xs) → bare r ≡ bare x → new ≡ done ++ r ∷ [] → map bare new ≡ map bare (take (i + 1) xs)
again_more xs done new i d x r lt is h e n =
    let m : map bare new ≡ map bare done ++ bare r ∷ [] = ap (map bare) n ∙ map-append bare done (r ∷ []) in
    let k : map bare (take (i + 1) xs) ≡ map bare (take i xs) ++ bare x ∷ [] =
    ap (map bare) (take_more xs i d lt) ∙ (map-append bare (take i xs) (get_or xs i d ∷ []) ∙ ap (λ (z : TermTree). map bare (take i xs) ++ bare z ∷ []) (sym is)) in
    m ∙ (ap (λ (zs : List TermTree). zs ++ bare r ∷ []) h ∙ (ap (λ (z : TermTree). map bare (take i xs) ++ z ∷ []) e ∙ sym k))
