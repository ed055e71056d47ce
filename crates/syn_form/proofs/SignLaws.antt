-- A position has a sign exactly where a formula stands there.
use Rattle.std.proofs.Common.{◌≡◌, ℕ, zero, suc, List, [], ◌∷◌, Bool, true, Option, None, Some, IsSome, slice_get, refl, sym, ◌∙◌, ap}
use Rattle.std.specs.Option.{option_map, option_and_then}
use Rattle.std.proofs.lemmas.Option.{slice_get-map}
use Rattle.syn_term.specs.Terms.{TermTree, args_of}
use Rattle.syn_form.specs.declared.trees.Form.{out-Form}
use Rattle.syn_form.specs.Positions.{TreePart, formula, term, part_at, at_position, child_sign, sign_from, sign_at, HasFormAt}
use Rattle.syn_form.specs.Trees.{FormTree}

argument_none : (ks : List ℕ) (g : FormTree) → ((t : TermTree) → at_position ks (term t) ≡ Some (formula g) → ⊥) → (o : Option TermTree) → option_and_then (at_position ks) (option_map term o) ≡ Some (formula g) → ⊥
argument_none ks g none None e = absurd (cc)
argument_none ks g none (Some t) e = none t e

-- in a term there are only terms
no_form : (ks : List ℕ) (g : FormTree) (t : TermTree) → at_position ks (term t) ≡ Some (formula g) → ⊥
no_form [] g t e = absurd (cc)
no_form (zero ∷ ks) g t e = absurd (cc)
no_form (suc k ∷ ks) g t e = argument_none ks g (no_form ks g) (slice_get (args_of t) k) (ap (option_and_then (at_position ks)) (sym (slice_get-map term (args_of t) k)) ∙ e)

below : (ks : List ℕ) (sign : Bool) → ((p : TreePart) → IsSome (sign_from ks sign p) → (g : FormTree) × (at_position ks p ≡ Some (formula g))) → (o : Option TreePart) → IsSome (option_and_then (sign_from ks sign) o) → (g : FormTree) × (option_and_then (at_position ks) o ≡ Some (formula g))
below ks sign found None h = absurd (cc)
below ks sign found (Some p) h = found p h

found : (ks : List ℕ) (sign : Bool) (p : TreePart) → IsSome (sign_from ks sign p) → (g : FormTree) × (at_position ks p ≡ Some (formula g))
found [] sign (formula f) h = (f, refl)
found [] sign (term t) h = absurd (cc)
found (k ∷ ks) sign (term t) h = absurd (cc)
found (k ∷ ks) sign (formula f) h = below ks (child_sign (out-Form f) k sign) (found ks (child_sign (out-Form f) k sign)) (part_at (formula f) k) h

shown_below : (ks : List ℕ) (sign : Bool) (g : FormTree) → ((p : TreePart) → at_position ks p ≡ Some (formula g) → IsSome (sign_from ks sign p)) → (o : Option TreePart) → option_and_then (at_position ks) o ≡ Some (formula g) → IsSome (option_and_then (sign_from ks sign) o)
shown_below ks sign g shown None e = absurd (cc)
shown_below ks sign g shown (Some p) e = shown p e

shown : (ks : List ℕ) (sign : Bool) (g : FormTree) (p : TreePart) → at_position ks p ≡ Some (formula g) → IsSome (sign_from ks sign p)
shown [] sign g (formula f) e = refl
shown [] sign g (term t) e = absurd (cc)
shown (k ∷ ks) sign g (term t) e = absurd (no_form (k ∷ ks) g t e)
shown (k ∷ ks) sign g (formula f) e = shown_below ks (child_sign (out-Form f) k sign) g (shown ks (child_sign (out-Form f) k sign) g) (part_at (formula f) k) e

pub signed : (ks : List ℕ) (f : FormTree) → IsSome (sign_at ks f) → HasFormAt ks f
signed ks f h = found ks true (formula f) h

pub has_sign : (ks : List ℕ) (f : FormTree) → HasFormAt ks f → IsSome (sign_at ks f)
has_sign ks f h = shown ks true h.0 (formula f) h.1
