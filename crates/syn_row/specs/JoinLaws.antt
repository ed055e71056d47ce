-- For public contracts: what holds of the formulas and outputs that are joined of parts of the parents.
use Rattle.std.specs.Prelude.{◌≡◌, List, [], ◌++◌, Option, None, Some, IfSome, All, Contains}
use Rattle.std.specs.List.{flat_map}
use Rattle.std.specs.Option.{option_map_or}
use Rattle.syn_term.specs.declared.sorts.Sort.{Sort}
use Rattle.syn_term.specs.declared.sorts.Var.{Var}
use Rattle.syn_term.specs.Symbols.{SymbolTable}
use Rattle.syn_term.specs.Terms.{TermTree}
use Rattle.syn_form.specs.declared.trees.Side.{Side}
use Rattle.syn_form.specs.Plain.{IsFormed, IsFormedOut, given_sort}
use Rattle.syn_form.specs.Trees.{FormTree, OutTree, form_terms, form_vars, out_terms, out_vars}
use Rattle.syn_row.specs.Results.{chosen_out, guarded, joined_form}

-- the two outputs give terms of one sort, where both are there
abbrev pub GiveOneSort : SymbolTable → Option OutTree → Option OutTree → Type 0
GiveOneSort table (Some u) (Some v) = given_sort table u ≡ given_sort table v
GiveOneSort table (Some u) None = Unit {0}
GiveOneSort table None v = Unit {0}

-- Formulas and outputs that are joined of formed ones are formed, an output gives the sort that its arms give, and no term and no
-- variable comes in that is not in a part.
pub record JoinLaws : Type 0 where
  pub guarded_formed : (table : SymbolTable) (s : Side) (f : FormTree) (guards : List FormTree) → IsFormed table f → All (IsFormed table) guards → IsFormed table (guarded s f guards)
  pub guarded_terms : (s : Side) (f : FormTree) (guards : List FormTree) (t : TermTree) → Contains (form_terms (guarded s f guards)) t → Contains (form_terms f ++ flat_map form_terms guards) t
  pub guarded_vars : (s : Side) (f : FormTree) (guards : List FormTree) (v : Var) → Contains (form_vars (guarded s f guards)) v → Contains (form_vars f ++ flat_map form_vars guards) v
  pub joined_formed : (table : SymbolTable) (s : Side) (f : FormTree) (t : Side) (g : FormTree) (guards : List FormTree) → IsFormed table f → IsFormed table g → All (IsFormed table) guards → IsFormed table (joined_form s f t g guards)
  pub joined_terms : (s : Side) (f : FormTree) (t : Side) (g : FormTree) (guards : List FormTree) (x : TermTree) → Contains (form_terms (joined_form s f t g guards)) x → Contains (form_terms f ++ (form_terms g ++ flat_map form_terms guards)) x
  pub joined_vars : (s : Side) (f : FormTree) (t : Side) (g : FormTree) (guards : List FormTree) (v : Var) → Contains (form_vars (joined_form s f t g guards)) v → Contains (form_vars f ++ (form_vars g ++ flat_map form_vars guards)) v
  pub chosen_formed : (table : SymbolTable) (p : FormTree) (u v : Option OutTree) → IsFormed table p → IfSome u (IsFormedOut table) → IfSome v (IsFormedOut table) → GiveOneSort table u v → IfSome (chosen_out p u v) (IsFormedOut table)
  pub chosen_sort : (table : SymbolTable) (p : FormTree) (u v : Option OutTree) (s : Option Sort) → IfSome u (λ o. given_sort table o ≡ s) → IfSome v (λ o. given_sort table o ≡ s) → IfSome (chosen_out p u v) (λ o. given_sort table o ≡ s)
  pub chosen_terms : (p : FormTree) (u v : Option OutTree) (t : TermTree) → Contains (option_map_or out_terms (chosen_out p u v) []) t → Contains (form_terms p ++ (option_map_or out_terms u [] ++ option_map_or out_terms v [])) t
  pub chosen_vars : (p : FormTree) (u v : Option OutTree) (w : Var) → Contains (option_map_or out_vars (chosen_out p u v) []) w → Contains (form_vars p ++ (option_map_or out_vars u [] ++ option_map_or out_vars v [])) w
