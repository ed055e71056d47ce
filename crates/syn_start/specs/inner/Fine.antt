-- For private contracts: what is known of a clause of a theory over the table of a specification.
use Rattle.std.specs.Prelude.{◌≡◌, List, ◌++◌, Some, All}
use Rattle.std.specs.List.{flat_map}
use Rattle.syn_term.specs.declared.sorts.Sort.{Sort}
use Rattle.syn_term.specs.declared.sorts.SymId.{SymId}
use Rattle.syn_term.specs.Symbols.{SymbolTable, IsSort}
use Rattle.syn_term.specs.Terms.{IsApplication, TermTree}
use Rattle.syn_form.specs.Plain.{HasOneSortEach, IsAtom, IsFormed, IsFormedOut, IsSorted, given_sort, result_of}
use Rattle.syn_form.specs.Trees.{FormTree, OutTree, form_vars, out_vars, term_vars}
use Rattle.syn_model.specs.declared.decl.Decl.{Decl}
use Rattle.syn_model.specs.declared.decl.Decl.TheVariants as decl

-- the function may be applied to the arguments, and the body gives a value of its sort
pub record IsFunctionClause (table : SymbolTable) (f : SymId) (args : List TermTree) (body : OutTree) : Type 0 where
  pub result : Sort
  pub sort : IsSort table result
  pub gives : result_of table f ≡ Some result
  pub applies : IsApplication table f args
  pub sorted : All (IsSorted table) args
  pub formed : IsFormedOut table body
  pub of_sort : given_sort table body ≡ Some result
  pub vars : HasOneSortEach (flat_map term_vars args ++ out_vars body)

-- the arguments make an atom of the relation, and the body is formed
pub record IsRelationClause (table : SymbolTable) (r : SymId) (args : List TermTree) (body : FormTree) : Type 0 where
  pub atom : IsAtom table r args
  pub sorted : All (IsSorted table) args
  pub formed : IsFormed table body
  pub vars : HasOneSortEach (flat_map term_vars args ++ form_vars body)

abbrev pub IsClauseOf : SymbolTable → SymId → Decl → Type 0
IsClauseOf table f (decl.FunClause args body) = IsFunctionClause table f args body
IsClauseOf table f (decl.RelClause args body) = IsRelationClause table f args body
IsClauseOf table f d = Unit {0}
