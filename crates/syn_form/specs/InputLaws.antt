-- Public. What putting terms in place of input symbols does to a formula, for whoever only needs that much.
use Rattle.std.specs.Prelude.{◌≡◌, List, ◌++◌, All, Contains, map}
use Rattle.std.specs.List.{flat_map}
use Rattle.syn_term.specs.declared.sorts.Var.{Var}
use Rattle.syn_term.specs.Symbols.{SymbolTable}
use Rattle.syn_term.specs.Terms.{TermTree, sort_of}
use Rattle.syn_form.specs.Trees.{FormTree, form_terms, form_vars, term_vars}
use Rattle.syn_form.specs.Plain.{IsFormed, IsPlainForm, IsSorted, HasOneSortEach}
use Rattle.syn_form.specs.Inputs.{Inputs, AreInputs, with_inputs, form_with_inputs}

-- the variables of the listed terms
abbrev pub input_vars : Inputs → List Var
input_vars inputs = flat_map (λ b. term_vars b.1) inputs

-- Where the listed terms are sorted, the formula that comes of a formed one is formed, and plain where no variable number
-- has two sorts in it and the listed terms together. Its terms are those of the formula, each changed, its variables are
-- among those of the formula and of the listed terms, and each term keeps its sort.
pub record PutsInputs (inputs : Inputs) (f : FormTree) : Type 0 where
  pub formed : (table : SymbolTable) → AreInputs table inputs → All (λ b. IsSorted table b.1) inputs → IsFormed table f → IsFormed table (form_with_inputs inputs f)
  pub plain : (table : SymbolTable) → AreInputs table inputs → All (λ b. IsSorted table b.1) inputs → IsFormed table f → HasOneSortEach (form_vars f ++ input_vars inputs) → IsPlainForm table (form_with_inputs inputs f)
  pub terms : form_terms (form_with_inputs inputs f) ≡ map (with_inputs inputs) (form_terms f)
  pub variables : (v : Var) → Contains (form_vars (form_with_inputs inputs f)) v → Contains (form_vars f ++ input_vars inputs) v
  pub sorts : (table : SymbolTable) → AreInputs table inputs → (t : TermTree) → sort_of table (with_inputs inputs t) ≡ sort_of table t
