-- Public. What replacing does to a formula, for whoever only needs that much.
use Rattle.std.specs.Prelude.{◌≡◌, ℕ, Bool, true, false, List, ◌++◌, Some, Contains, map}
use Rattle.syn_term.specs.declared.sorts.SymId.{SymId}
use Rattle.syn_term.specs.declared.sorts.Var.{Var}
use Rattle.syn_term.specs.Positions.{AreApart}
use Rattle.syn_term.specs.Symbols.{SymbolTable}
use Rattle.syn_term.specs.Terms.{TermTree}
use Rattle.syn_form.specs.declared.trees.Form.TheVariants as form
use Rattle.syn_form.specs.declared.trees.Form.TheViews as view
use Rattle.syn_form.specs.Trees.{FormTree, form_terms, form_vars, term_vars}
use Rattle.syn_form.specs.Same.{same_form}
use Rattle.syn_form.specs.Plain.{IsFormed, IsPlainForm, IsSorted, HasOneSortEach}
use Rattle.syn_form.specs.Positions.{formula, term, at_position}
use Rattle.syn_form.specs.Truth.{Assignment, truth_value}
use Rattle.syn_form.specs.Replacing.{truth_form, replaced_all, MayReplaceTerm, form_replaced_at}

-- What all subformulas that are the same as the part become: one of them is replaced as a whole, and any other formula
-- is left but for its parts.
pub record ReplacedParts (part : FormTree) (by : Bool) : Type 0 where
  pub hit : (f : FormTree) → same_form f part ≡ true → replaced_all part by f ≡ truth_form by
  pub at_true : same_form form.True part ≡ false → replaced_all part by form.True ≡ form.True
  pub at_false : same_form form.False part ≡ false → replaced_all part by form.False ≡ form.False
  pub at_atom : (r : SymId) (args : List TermTree) → same_form (form.Atom r args) part ≡ false → replaced_all part by (form.Atom r args) ≡ form.Atom r args
  pub at_equal : (s t : TermTree) → same_form (form.Equal s t) part ≡ false → replaced_all part by (form.Equal s t) ≡ form.Equal s t
  pub at_not : (a : FormTree) → same_form (view.Not a) part ≡ false → replaced_all part by (view.Not a) ≡ view.Not (replaced_all part by a)
  pub at_and : (all : List FormTree) → same_form (view.And all) part ≡ false → replaced_all part by (view.And all) ≡ view.And (map (replaced_all part by) all)
  pub at_or : (all : List FormTree) → same_form (view.Or all) part ≡ false → replaced_all part by (view.Or all) ≡ view.Or (map (replaced_all part by) all)
  pub at_implies : (a b : FormTree) → same_form (view.Implies a b) part ≡ false → replaced_all part by (view.Implies a b) ≡ view.Implies (replaced_all part by a) (replaced_all part by b)

-- The formula g is f with each of these subformulas replaced. Where the part has the truth value that stands in its place,
-- f and g have one truth value; g is plain if f is; and g has no other terms and no other variables than f.
pub record ReplacesAll (part : FormTree) (by : Bool) (f g : FormTree) : Type 0 where
  pub parts : ReplacedParts part by
  pub truth : (a : Assignment) → truth_value a part ≡ by → truth_value a g ≡ truth_value a f
  pub formed : (table : SymbolTable) → IsFormed table f → IsFormed table g
  pub plain : (table : SymbolTable) → IsPlainForm table f → IsPlainForm table g
  pub terms : (t : TermTree) → Contains (form_terms g) t → Contains (form_terms f) t
  pub variables : (v : Var) → Contains (form_vars g) v → Contains (form_vars f) v

-- At the position stands the new term then, and where neither position is on the way to the other, what stood there before.
-- Where the new term is sorted, the formula that comes of a formed one is formed, and plain where no variable number has two
-- sorts in it and the new term together. Its variables are among those of the formula and of the new term.
pub record ReplacesTerm (p : List ℕ) (new : TermTree) (f : FormTree) : Type 0 where
  pub there : (old : TermTree) → at_position p (formula f) ≡ Some (term old) → at_position p (formula (form_replaced_at p new f)) ≡ Some (term new)
  pub other : (q : List ℕ) → AreApart p q → at_position q (formula (form_replaced_at p new f)) ≡ at_position q (formula f)
  pub formed : (table : SymbolTable) → MayReplaceTerm table f p new → IsSorted table new → IsFormed table f → IsFormed table (form_replaced_at p new f)
  pub plain : (table : SymbolTable) → MayReplaceTerm table f p new → IsSorted table new → IsFormed table f → HasOneSortEach (form_vars f ++ term_vars new) → IsPlainForm table (form_replaced_at p new f)
  pub variables : (old : TermTree) → at_position p (formula f) ≡ Some (term old) → (v : Var) → Contains (form_vars (form_replaced_at p new f)) v → Contains (form_vars f ++ term_vars new) v
