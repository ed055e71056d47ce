-- Public. Formulas with some of their subformulas replaced by a truth value, or a term by another.
use Rattle.std.specs.Prelude.{◌≡◌, ℕ, zero, suc, Bool, List, [], ◌∷◌, Some, slice_set, if◌then◌else◌}
use Rattle.std.specs.Option.{option_map, unwrap_or}
use Rattle.syn_term.specs.Positions.{replaced_at}
use Rattle.syn_term.specs.Symbols.{SymbolTable}
use Rattle.syn_term.specs.Terms.{TermTree, sort_of}
use Rattle.syn_form.specs.declared.trees.Form.{Form, out-Form, roll-Form, map-Form, fold-Form}
use Rattle.syn_form.specs.declared.trees.Form.TheOpen.{Form-F}
use Rattle.syn_form.specs.declared.trees.Form.TheVariants as form
use Rattle.syn_form.specs.declared.trees.Form.TheViews as view
use Rattle.syn_form.specs.Positions.{TreePart, formula, term, part_at, at_position}
use Rattle.syn_form.specs.Same.{same_form}
use Rattle.syn_form.specs.Trees.{FormTree}

-- `true` or `false`
abbrev pub truth_form : Bool → FormTree
truth_form b = if b then form.True else form.False

-- the formula of this kind, made of a formula for each part
abbrev pub made_of : {A : Type 0} → (A → FormTree) → Form-F A → FormTree
made_of {A} form_of x = roll-Form (map-Form A Form form_of x)

-- a formula as it stands, and with its subformulas replaced
pub record Replacement : Type 0 where
  pub before : FormTree
  pub after : FormTree

abbrev pub replaced_step : FormTree → Bool → Form-F Replacement → Replacement
replaced_step part by x = record {
  before = made_of (λ r. r.before) x;
  after = if same_form (made_of (λ r. r.before) x) part then truth_form by else made_of (λ r. r.after) x;
}

-- the formula with each subformula that is the same as the part replaced by `true` or `false`, from the outside in
abbrev pub replaced_all : FormTree → Bool → FormTree → FormTree
replaced_all part by f = (fold-Form Replacement (replaced_step part by) f).after

-- the list with another item at k, counted from 1; where there is none, as it is
abbrev pub with_kth : {A : Type 0} → List A → ℕ → A → List A
with_kth xs zero x = xs
with_kth xs (suc k) x = slice_set xs k x

abbrev pub with_part_layer : Form-F FormTree → TreePart → ℕ → FormTree
with_part_layer (Form-F.Atom r args) (term t) k = form.Atom r (with_kth args k t)
with_part_layer (Form-F.Equal s t) (term u) (suc zero) = form.Equal u t
with_part_layer (Form-F.Equal s t) (term u) (suc (suc zero)) = form.Equal s u
with_part_layer (Form-F.Not a) (formula g) (suc zero) = view.Not g
with_part_layer (Form-F.And all) (formula g) k = view.And (with_kth all k g)
with_part_layer (Form-F.Or all) (formula g) k = view.Or (with_kth all k g)
with_part_layer (Form-F.Implies a b) (formula g) (suc zero) = view.Implies g b
with_part_layer (Form-F.Implies a b) (formula g) (suc (suc zero)) = view.Implies a g
with_part_layer x p k = roll-Form x

-- the formula with this part as its k-th child; where a part of this kind doesn't stand there, as it is
abbrev pub with_part : FormTree → TreePart → ℕ → FormTree
with_part f p k = with_part_layer (out-Form f) p k

abbrev pub changed_part : (FormTree → FormTree) → (TermTree → TermTree) → TreePart → TreePart
changed_part on_form on_term (formula f) = formula (on_form f)
changed_part on_form on_term (term t) = term (on_term t)

-- the formula with a new term at the position; where no term stands there, as it is
abbrev pub form_replaced_at : List ℕ → TermTree → FormTree → FormTree
form_replaced_at [] new f = f
form_replaced_at (k ∷ ks) new f = unwrap_or (option_map (λ p. with_part f (changed_part (form_replaced_at ks new) (replaced_at ks new) p) k) (part_at (formula f) k)) f

-- A term may be replaced where one stands, by a term of its sort.
pub record MayReplaceTerm (table : SymbolTable) (f : FormTree) (p : List ℕ) (new : TermTree) : Type 0 where
  pub old : TermTree
  pub there : at_position p (formula f) ≡ Some (term old)
  pub sorts : sort_of table old ≡ sort_of table new
