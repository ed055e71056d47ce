-- The printed line of a clause reads back behind the declarations before it, whatever stands behind it.
use Rattle.std.proofs.Common.{◌≡◌, ℕ, ◌≤◌, List, [], ◌++◌, All, Option, Some, codes, length, map, sym, ◌∙◌, ap, subst, arith}
use Rattle.std.specs.List.{flat_map}
use Rattle.std.proofs.lemmas.List.{length-map}
use Rattle.syn_term.specs.declared.sorts.Sort.{Sort}
use Rattle.syn_term.specs.declared.sorts.Var.{Var}
use Rattle.syn_term.specs.Names.{IsName}
use Rattle.syn_term.specs.Symbols.{SymbolTable}
use Rattle.syn_term.specs.Terms.{TermTree, bare, sort_of}
use Rattle.syn_form.specs.Plain.{IsPlainForm, IsPlainOut, IsSorted}
use Rattle.syn_form.specs.Printing.{printed_form, printed_out, printed_term}
use Rattle.syn_form.specs.Scopes.{Named}
use Rattle.syn_form.specs.Trees.{FormTree, OutTree, bare_form, bare_out, term_vars}
use Rattle.syn_model.specs.declared.decl.Decl.{Decl}
use Rattle.syn_model.specs.declared.decl.Decl.TheVariants as decl
use Rattle.syn_model.specs.BareTrees.{bare_decl}
use Rattle.syn_model.specs.Clauses.{HasArguments}
use Rattle.syn_model.specs.Declaring.{IsTheory, MayFunClause, MayRelClause}
use Rattle.syn_model.specs.Tables.{IsDeclared, table_of}
use Rattle.syn_form.specs.Writing.{CanWriteAll}
use Rattle.syn_files.specs.Printed.{IsMark, IsWithinLimit, fun_clause_text, in_brackets_text, named_by, rel_clause_text}
use Rattle.syn_files.specs.TheoryLines.{file_scope, heading_name}
use Rattle.syn_files.specs.inner.Entries.{IsSmall}
use Rattle.syn_files.proofs.ClauseBack.{fun_clause_told, rel_clause_told}
use Rattle.syn_files.proofs.LineNames.{vars_back}
use Rattle.syn_files.proofs.NamedVars.{IsHeading, line_names_apart, line_names_new, own_heading, own_is, theory_heading}
use Rattle.syn_files.proofs.NamelessLines.{bare_table, bare_written, grow, one_table}
use Rattle.syn_files.proofs.Printing.{own_of}
use Rattle.syn_files.proofs.SameTexts.{form_same, out_same, terms_same}
use Rattle.syn_files.proofs.SimpleBack.{Told}

module _ (before more : List Decl) (theory : IsTheory before) (written : CanWriteAll (file_scope (table_of before) [])) (mark : Option ℕ) (args : List TermTree) (is : IsMark (IsDeclared (before ++ more)) (flat_map term_vars args) mark) (small : All (λ v. IsSmall mark v.number) (flat_map term_vars args)) where
  abbrev bares : List Decl
  bares = map bare_decl before

  abbrev vars : List Var
  vars = flat_map term_vars args

  abbrev names : List Named
  names = named_by mark vars

  abbrev own : List ℕ
  own = own_of [] before

  abbrev first : SymbolTable
  first = table_of before

  abbrev whole : SymbolTable
  whole = table_of (before ++ more)

  same_table : table_of bares ≡ table_of before
  same_table = one_table before more theory written

  -- as many arguments as sorts
  some_args : (sorts : List Sort) → HasArguments first sorts args → 1 ≤ length sorts → 1 ≤ length args
  some_args sorts h some =
      let n : length args ≡ length sorts = sym (length-map args (sort_of first)) ∙ (ap length h.of_sorts ∙ length-map sorts Some) in
      omega (arith, n, some)

  sorted_there : All (IsSorted first) args → All (IsSorted (table_of bares)) args
  sorted_there h = subst (λ (t : SymbolTable). All (IsSorted t) args) (sym same_table) h

  fun_text_moved : (o : OutTree) → All (IsSorted first) args → IsPlainOut first o → fun_clause_text (file_scope (table_of bares) names) own args o ≡ fun_clause_text (file_scope whole names) own args o
  fun_text_moved o sorted plain =
      ap (λ (t : SymbolTable). fun_clause_text (file_scope t names) own args o) same_table
      ∙ sym (ap (λ (z : List (List ℕ)). codes "clause " ++ in_brackets_text own z ++ codes " = " ++ printed_out (file_scope whole names) o) (terms_same first whole (grow before more theory written) names args sorted)
      ∙ ap (λ (z : List ℕ). codes "clause " ++ in_brackets_text own (map (printed_term (file_scope first names)) args) ++ codes " = " ++ z) (out_same first whole (grow before more theory written) names o plain.formed))

  pub fun_clause_line : (o : OutTree) → MayFunClause before args o → IsWithinLimit (decl.FunClause args o) → Told bares (decl.FunClause (map bare args) (bare_out o)) (fun_clause_text (file_scope whole names) own args o)
  fun_clause_line o may limit =
      let heading : IsHeading (Some (decl.Fun may.name may.sorts may.result)) = subst IsHeading may.heading (theory_heading before theory) in
      let is_own : may.name ≡ own = sym (own_heading before ∙ ap heading_name may.heading) in
      subst (Told bares (decl.FunClause (map bare args) (bare_out o))) (fun_text_moved o may.arguments.sorted may.plain)
      (fun_clause_told bares names (bare_table before more theory written) (bare_written before more theory written) (line_names_apart before more mark vars is small may.arguments.numbered) own args o (own_is before) (subst IsName is_own heading.0) (some_args may.sorts may.arguments heading.1) (sorted_there may.arguments.sorted) (vars_back mark vars) (line_names_new before more mark vars is small may.arguments.numbered) (subst (λ (t : SymbolTable). IsPlainOut t o) (sym same_table) may.plain) may.over limit)

  rel_text_moved : (f : FormTree) → All (IsSorted first) args → IsPlainForm first f → rel_clause_text (file_scope (table_of bares) names) own args f ≡ rel_clause_text (file_scope whole names) own args f
  rel_text_moved f sorted plain =
      ap (λ (t : SymbolTable). rel_clause_text (file_scope t names) own args f) same_table
      ∙ sym (ap (λ (z : List (List ℕ)). codes "clause " ++ in_brackets_text own z ++ codes " <-> " ++ printed_form (file_scope whole names) f) (terms_same first whole (grow before more theory written) names args sorted)
      ∙ ap (λ (z : List ℕ). codes "clause " ++ in_brackets_text own (map (printed_term (file_scope first names)) args) ++ codes " <-> " ++ z) (form_same first whole (grow before more theory written) names f plain.formed))

  pub rel_clause_line : (f : FormTree) → MayRelClause before args f → IsWithinLimit (decl.RelClause args f) → Told bares (decl.RelClause (map bare args) (bare_form f)) (rel_clause_text (file_scope whole names) own args f)
  rel_clause_line f may limit =
      let heading : IsHeading (Some (decl.Rel may.name may.sorts)) = subst IsHeading may.heading (theory_heading before theory) in
      let is_own : may.name ≡ own = sym (own_heading before ∙ ap heading_name may.heading) in
      subst (Told bares (decl.RelClause (map bare args) (bare_form f))) (rel_text_moved f may.arguments.sorted may.plain)
      (rel_clause_told bares names (bare_table before more theory written) (bare_written before more theory written) (line_names_apart before more mark vars is small may.arguments.numbered) own args f (own_is before) (subst IsName is_own heading.0) (some_args may.sorts may.arguments heading.1) (sorted_there may.arguments.sorted) (vars_back mark vars) (line_names_new before more mark vars is small may.arguments.numbered) (subst (λ (t : SymbolTable). IsPlainForm t f) (sym same_table) may.plain) may.over limit)
