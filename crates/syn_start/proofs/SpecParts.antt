-- The input condition of a specification is plain.
use Rattle.std.proofs.Common.{◌≡◌, List, [], ◌∷◌, All, refl, sym, ◌∙◌, ap, subst, inl}
use Rattle.std.specs.List.{flat_map}
use Rattle.std.proofs.lemmas.List.Elements.{All-head, All-nil, All-push, All-tail}
use Rattle.syn_term.specs.Symbols.{SymbolTable}
use Rattle.syn_form.specs.declared.trees.Form.TheVariants as form
use Rattle.syn_form.specs.Plain.{HasOneSortEach, IsFormed, IsPlainForm}
use Rattle.syn_form.specs.Trees.{FormTree, form_vars, term_vars}
use Rattle.syn_form.proofs.Equations.{form_terms-True}
use Rattle.syn_form.proofs.FormedForms.{constant_formed}
use Rattle.syn_form.proofs.Lists.{none_in_nil}
use Rattle.syn_model.specs.declared.decl.Decl.{Decl}
use Rattle.syn_model.specs.declared.spec_part.SpecPart.{SpecPart}
use Rattle.syn_model.specs.declared.spec_part.SpecPart.TheVariants as part
use Rattle.syn_model.specs.Specifications.{AsksPart, IsSomeSpec, IsSpec, SpecTree, begun, one_more}
use Rattle.syn_start.specs.Initial.{input_condition}
use Rattle.syn_start.specs.Starts.{IsStart, StartTree}

abbrev IsPlainPart : SymbolTable → SpecPart → Type 0
IsPlainPart table (part.Requires f) = IsPlainForm table f
IsPlainPart table _ = Unit {0}

asked_plain : (ds : List Decl) (s : SpecTree) (p : SpecPart) → AsksPart ds s p → IsPlainPart s.table p
asked_plain ds s (part.Requires f) h = h.plain
asked_plain ds s (part.Ensures f) h = tt
asked_plain ds s (part.Order name) h = tt
asked_plain ds s (part.Primitive names) h = tt
asked_plain ds s (part.Taken names) h = tt

parts_plain : (ds : List Decl) (s : SpecTree) → IsSpec ds s → All (IsPlainPart s.table) s.parts
parts_plain ds _ (begun name h output may) = All-nil (IsPlainPart _)
parts_plain ds _ (one_more s p before may) = All-push (IsPlainPart s.table) s.parts p (parts_plain ds s before) (asked_plain ds s p may.asks)

true_plain : (table : SymbolTable) → IsPlainForm table form.True
true_plain table =
    let none : form_vars form.True ≡ [] = ap (flat_map term_vars) form_terms-True in
    record { formed = constant_formed table form.True (inl refl); sorts = subst HasOneSortEach (sym none) (λ v w c d e. absurd (none_in_nil v c)) }

condition_plain : (table : SymbolTable) (ps : List SpecPart) → All (IsPlainPart table) ps → IsPlainForm table (input_condition ps)
condition_plain table [] h = true_plain table
condition_plain table (part.Requires f ∷ ps) h = All-head (IsPlainPart table) (part.Requires f) ps h
condition_plain table (part.Ensures f ∷ ps) h = condition_plain table ps (All-tail (IsPlainPart table) (part.Ensures f) ps h)
condition_plain table (part.Order name ∷ ps) h = condition_plain table ps (All-tail (IsPlainPart table) (part.Order name) ps h)
condition_plain table (part.Primitive names ∷ ps) h = condition_plain table ps (All-tail (IsPlainPart table) (part.Primitive names) ps h)
condition_plain table (part.Taken names ∷ ps) h = condition_plain table ps (All-tail (IsPlainPart table) (part.Taken names) ps h)

pub required_plain : (ds : List Decl) (s : SpecTree) (f : FormTree) → IsSpec ds s → input_condition s.parts ≡ f → IsPlainForm s.table f
required_plain ds s f is e = subst (IsPlainForm s.table) e (condition_plain s.table s.parts (parts_plain ds s is))

-- the input condition has no variables
abbrev IsClosedPart : SpecPart → Type 0
IsClosedPart (part.Requires f) = form_vars f ≡ []
IsClosedPart _ = Unit {0}

asked_closed : (ds : List Decl) (s : SpecTree) (p : SpecPart) → AsksPart ds s p → IsClosedPart p
asked_closed ds s (part.Requires f) h = h.closed
asked_closed ds s (part.Ensures f) h = tt
asked_closed ds s (part.Order name) h = tt
asked_closed ds s (part.Primitive names) h = tt
asked_closed ds s (part.Taken names) h = tt

parts_closed : (ds : List Decl) (s : SpecTree) → IsSpec ds s → All IsClosedPart s.parts
parts_closed ds _ (begun name h output may) = All-nil IsClosedPart
parts_closed ds _ (one_more s p before may) = All-push IsClosedPart s.parts p (parts_closed ds s before) (asked_closed ds s p may.asks)

closed_among : (ps : List SpecPart) → All IsClosedPart ps → form_vars (input_condition ps) ≡ []
closed_among [] h = ap (flat_map term_vars) form_terms-True
closed_among (part.Requires f ∷ ps) h = All-head IsClosedPart (part.Requires f) ps h
closed_among (part.Ensures f ∷ ps) h = closed_among ps (All-tail IsClosedPart (part.Ensures f) ps h)
closed_among (part.Order name ∷ ps) h = closed_among ps (All-tail IsClosedPart (part.Order name) ps h)
closed_among (part.Primitive names ∷ ps) h = closed_among ps (All-tail IsClosedPart (part.Primitive names) ps h)
closed_among (part.Taken names ∷ ps) h = closed_among ps (All-tail IsClosedPart (part.Taken names) ps h)

pub condition_closed : (ds : List Decl) (s : SpecTree) → IsSpec ds s → form_vars (input_condition s.parts) ≡ []
condition_closed ds s is = closed_among s.parts (parts_closed ds s is)

-- the condition that was found, over the table of a start
pub stated_plain : (table : SymbolTable) (x : StartTree) (s : SpecTree) (ps : List SpecPart) (f : FormTree) → table ≡ x.spec.table → IsStart x → s ≡ x.spec → ps ≡ s.parts → input_condition ps ≡ f → IsPlainForm table f
stated_plain table x s ps f t h e k is =
    let same : ps ≡ x.spec.parts = k ∙ ap (λ (z : SpecTree). z.parts) e in
    subst (λ (z : SymbolTable). IsPlainForm z f) (sym t) (required_plain x.theory.decls x.spec f h.whole.over (sym (ap input_condition same) ∙ is))

-- the same over the table of a specification
pub found_formed : (table : SymbolTable) (s : SpecTree) (ps : List SpecPart) (f : FormTree) → table ≡ s.table → IsSomeSpec s → ps ≡ s.parts → input_condition ps ≡ f → IsFormed table f
found_formed table s ps f t h k is = subst (λ (z : SymbolTable). IsFormed z f) (sym t) (required_plain h.0 s f h.2 (sym (ap input_condition k) ∙ is)).formed
