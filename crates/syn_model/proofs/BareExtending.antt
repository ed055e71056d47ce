-- A part may follow those of a specification just where it may with the places of all terms left out: nothing that is asked looks at a
-- place.
use Rattle.std.proofs.Common.{◌≡◌, ◌≢◌, ◌↔◌, ℕ, ◌<◌, List, [], ◌∷◌, All, Option, None, Some, map, slice_get, refl, sym, ◌∙◌, ap, subst}
use Rattle.std.specs.Option.{option_map}
use Rattle.std.proofs.lemmas.List.{map-append}
use Rattle.std.proofs.lemmas.Option.{get_or_from_slice_get, slice_get-get_or, slice_get-map, slice_get_within}
use Rattle.syn_term.specs.declared.sorts.SymId.{SymId}
use Rattle.syn_term.specs.declared.sorts.Var.{Var}
use Rattle.syn_term.specs.Terms.{bare}
use Rattle.syn_form.specs.declared.trees.Binder.{Binder}
use Rattle.syn_form.specs.Quantified.{bare_qform}
use Rattle.syn_form.specs.Trees.{FormTree, QFormTree, bare_form}
use Rattle.syn_form.proofs.BareFacts.{binders_bare, both_and, both_each, both_kept, every_bare_qform, free_vars_bare, plain_bare, plain_qform_bare}
use Rattle.syn_form.proofs.BareVars.{form_vars_bare}
use Rattle.syn_model.specs.declared.decl.Decl.{Decl}
use Rattle.syn_model.specs.declared.spec_part.SpecPart.{SpecPart}
use Rattle.syn_model.specs.declared.spec_part.SpecPart.TheVariants as part
use Rattle.syn_model.specs.BareParts.{bare_part, bare_spec_tree}
use Rattle.syn_model.specs.Clauses.{UsesTerm}
use Rattle.syn_model.specs.Declaring.{IsOtherwiseFree}
use Rattle.syn_model.specs.Heads.{program_id}
use Rattle.syn_model.specs.Specifications.{AsksPart, ComesNext, HasEnsures, MayEnsure, MayExtend, MayRequire, SpecTree, UsesQForm, UsesQFormNode, line_place, output_var, with_part}
use Rattle.syn_model.specs.Tables.{table_of}
use Rattle.syn_model.proofs.BareClauses.{uses_form_bare, uses_term_bare}

pub place_bare : (p : SpecPart) → line_place (bare_part p) ≡ line_place p
place_bare (part.Requires form) = refl
place_bare (part.Ensures form) = refl
place_bare _ = refl

-- the output condition is there
has_at : (parts : List SpecPart) (k : ℕ) (y : SpecPart) (o : Option SpecPart) → slice_get parts k ≡ o → option_map bare_part o ≡ Some y → line_place y ≡ 2 → HasEnsures parts
has_at parts k y None at e two = absurd (cc)
has_at parts k y (Some x) at e two =
    let same : bare_part x ≡ y = cc in
    (k, x, slice_get_within parts k x at, get_or_from_slice_get parts k x x at, sym (place_bare x) ∙ (ap line_place same ∙ two))

pub ensures_bare : (parts : List SpecPart) → HasEnsures (map bare_part parts) ↔ HasEnsures parts
ensures_bare parts = (
  (λ h. has_at parts h.0 h.1 (slice_get parts h.0) refl (sym (slice_get-map bare_part parts h.0) ∙ (slice_get-get_or (map bare_part parts) h.0 h.1 h.2 ∙ ap Some h.3)) h.4),
  (λ h.
      let at : slice_get (map bare_part parts) h.0 ≡ Some (bare_part h.1) = slice_get-map bare_part parts h.0 ∙ ap (option_map bare_part) (slice_get-get_or parts h.0 h.1 h.2 ∙ ap Some h.3) in
      (h.0, bare_part h.1, slice_get_within (map bare_part parts) h.0 (bare_part h.1) at, get_or_from_slice_get (map bare_part parts) h.0 (bare_part h.1) (bare_part h.1) at, place_bare h.1 ∙ h.4)),
)

place_below : (p q : SpecPart) → (line_place (bare_part q) < line_place (bare_part p)) ↔ (line_place q < line_place p)
place_below p q = (
  (λ h. subst (λ (n : ℕ). n < line_place p) (place_bare q) (subst (λ (n : ℕ). line_place (bare_part q) < n) (place_bare p) h)),
  (λ h. subst (λ (n : ℕ). line_place (bare_part q) < n) (sym (place_bare p)) (subst (λ (n : ℕ). n < line_place p) (sym (place_bare q)) h)),
)

next_bare : (parts : List SpecPart) (p : SpecPart) → ComesNext (map bare_part parts) (bare_part p) ↔ ComesNext parts p
next_bare parts p =
    let later = both_each (λ (q : SpecPart). line_place q < line_place (bare_part p)) (λ (q : SpecPart). line_place q < line_place p) bare_part parts (place_below p) in
    let there = ensures_bare parts in (
      (λ h. record { later = later.0 h.later; behind = λ n. there.0 (h.behind (subst (λ (k : ℕ). 2 < k) (sym (place_bare p)) n)) }),
      (λ h. record { later = later.1 h.later; behind = λ n. there.1 (h.behind (subst (λ (k : ℕ). 2 < k) (place_bare p) n)) }),
    )

-- where a formula has a symbol that may not be used
unused_bare : (own : SymId) (f : QFormTree) → UsesQForm own None (bare_qform f) ↔ UsesQForm own None f
unused_bare own = every_bare_qform (UsesQFormNode own None) record {
  at_true = tt;
  at_false = tt;
  at_atom = λ r args. both_and both_kept (both_each (UsesTerm own None) (UsesTerm own None) bare args (uses_term_bare own None));
  at_equal = λ s t. both_and (uses_term_bare own None s) (uses_term_bare own None t);
  at_not = λ a. tt;
  at_and = λ all. both_kept;
  at_or = λ all. both_kept;
  at_implies = λ a b. tt;
  at_all = λ b a. both_kept;
  at_exists = λ b a. both_kept;
}

module _ (ds : List Decl) (s : SpecTree) where
  require_bare : (f : FormTree) → MayRequire ds (bare_spec_tree s) (bare_form f) ↔ MayRequire ds s f
  require_bare f = (
    (λ h. record {
      plain = (plain_bare s.table f).0 h.plain;
      closed = sym (form_vars_bare f) ∙ h.closed;
      apart = (uses_form_bare (program_id (table_of ds)) None f).0 h.apart;
    }),
    (λ h. record {
      plain = (plain_bare s.table f).1 h.plain;
      closed = form_vars_bare f ∙ h.closed;
      apart = (uses_form_bare (program_id (table_of ds)) None f).1 h.apart;
    }),
  )

  abbrev AreBindable : List Binder → Type 0
  AreBindable = All (λ b. IsOtherwiseFree ds b.name × (b.name ≢ s.output))

  abbrev AreOutput : List Var → Type 0
  AreOutput = All (λ v. v ≡ output_var s)

  ensure_bare : (f : QFormTree) → MayEnsure ds (bare_spec_tree s) (bare_qform f) ↔ MayEnsure ds s f
  ensure_bare f = (
    (λ h. record {
      plain = (plain_qform_bare s.table f).0 h.plain;
      over = subst AreOutput (free_vars_bare f) h.over;
      bound = subst AreBindable (binders_bare f) h.bound;
      apart = (unused_bare (program_id (table_of ds)) f).0 h.apart;
    }),
    (λ h. record {
      plain = (plain_qform_bare s.table f).1 h.plain;
      over = subst AreOutput (sym (free_vars_bare f)) h.over;
      bound = subst AreBindable (sym (binders_bare f)) h.bound;
      apart = (unused_bare (program_id (table_of ds)) f).1 h.apart;
    }),
  )

  asks_bare : (p : SpecPart) → AsksPart ds (bare_spec_tree s) (bare_part p) ↔ AsksPart ds s p
  asks_bare (part.Requires form) = require_bare form
  asks_bare (part.Ensures form) = ensure_bare form
  asks_bare (part.Order name) = both_kept
  asks_bare (part.Primitive names) = both_kept
  asks_bare (part.Taken names) = both_kept

  -- a part may follow the others just where it may without places
  pub may_extend_bare : (p : SpecPart) → MayExtend ds (bare_spec_tree s) (bare_part p) ↔ MayExtend ds s p
  may_extend_bare p =
      let next = next_bare s.parts p in
      let asks = asks_bare p in
      ((λ h. record { next = next.0 h.next; asks = asks.0 h.asks }), (λ h. record { next = next.1 h.next; asks = asks.1 h.asks }))

-- the bare specification with one part more
pub with_part_bare : (s : SpecTree) (p : SpecPart) → bare_spec_tree (with_part s p) ≡ with_part (bare_spec_tree s) (bare_part p)
with_part_bare s p = ap (λ (z : List SpecPart). record s { parts = z }) (map-append bare_part s.parts (p ∷ []))
