-- Public. Positions in formulas and terms. A position is a list of child numbers, counted from 1: the argument of `not`, the
-- members of `and` and `or`, the two sides of `->` and `=`, the arguments of an atom or a term.
use Rattle.std.specs.Prelude.{◌≡◌, ℕ, zero, suc, Bool, true, not, List, [], ◌∷◌, Option, None, Some, map, slice_get}
use Rattle.std.specs.Option.{option_and_then}
use Rattle.syn_term.specs.Terms.{TermTree, args_of}
use Rattle.syn_form.specs.declared.trees.Form.{out-Form}
use Rattle.syn_form.specs.declared.trees.Form.TheOpen.{Form-F}
use Rattle.syn_form.specs.declared.trees.Part.{Part}
use Rattle.syn_form.specs.declared.trees.Part.TheVariants as part
use Rattle.syn_form.specs.Trees.{FormTree}

-- what stands at a position: a formula, or a term
pub data TreePart : Type 0 where
  formula : FormTree → TreePart
  term : TermTree → TreePart

abbrev pub form_parts_layer : Form-F FormTree → List TreePart
form_parts_layer (Form-F.Atom r args) = map term args
form_parts_layer (Form-F.Equal s t) = term s ∷ term t ∷ []
form_parts_layer (Form-F.Not a) = formula a ∷ []
form_parts_layer (Form-F.And all) = map formula all
form_parts_layer (Form-F.Or all) = map formula all
form_parts_layer (Form-F.Implies a b) = formula a ∷ formula b ∷ []
form_parts_layer _ = []

-- the children of a formula or a term, in order
abbrev pub parts_of : TreePart → List TreePart
parts_of (formula f) = form_parts_layer (out-Form f)
parts_of (term t) = map term (args_of t)

-- the k-th child, counted from 1
abbrev pub part_at : TreePart → ℕ → Option TreePart
part_at p zero = None
part_at p (suc k) = slice_get (parts_of p) k

-- what stands at the position, counted from this part; none where there is no such position
abbrev pub at_position : List ℕ → TreePart → Option TreePart
at_position [] p = Some p
at_position (k ∷ ks) p = option_and_then (at_position ks) (part_at p k)

-- a formula stands at the position
abbrev pub HasFormAt : List ℕ → FormTree → Type 0
HasFormAt ks f = (g : FormTree) × (at_position ks (formula f) ≡ Some (formula g))

-- a part as it is answered, as the part that it shows
abbrev pub seen : Part → TreePart
seen (part.F f) = formula f.now
seen (part.T t) = term t.now

-- the sign of the k-th child: `not` switches it, and so does the left of `->`
abbrev pub child_sign : Form-F FormTree → ℕ → Bool → Bool
child_sign (Form-F.Not a) k sign = not sign
child_sign (Form-F.Implies a b) (suc zero) sign = not sign
child_sign _ k sign = sign

-- the sign at the position, where this part has the given sign; none where no formula stands there
abbrev pub sign_from : List ℕ → Bool → TreePart → Option Bool
sign_from ks sign (term t) = None
sign_from [] sign (formula f) = Some sign
sign_from (k ∷ ks) sign (formula f) = option_and_then (sign_from ks (child_sign (out-Form f) k sign)) (part_at (formula f) k)

-- the sign of the subformula at the position, positive for the whole formula
abbrev pub sign_at : List ℕ → FormTree → Option Bool
sign_at ks f = sign_from ks true (formula f)
