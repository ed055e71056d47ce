-- No line that is printed for a specification has a line feed.
use Rattle.std.proofs.Common.{ℕ, List, [], ◌∷◌, ◌++◌, All, codes, map, get_or, refl, sym, ◌∙◌, subst}
use Rattle.std.proofs.lemmas.List.{map-append}
use Rattle.std.proofs.lemmas.List.Elements.{All-append, All-cons, All-map, All-nil, All-weaker}
use Rattle.syn_term.specs.Names.{IsName}
use Rattle.syn_form.specs.PlainQuantified.{MayBind, binders_of}
use Rattle.syn_form.specs.Printing.{printed_form, printed_qform, sort_text}
use Rattle.syn_form.specs.Scopes.{Named}
use Rattle.syn_lex.specs.TextLines.{Without}
use Rattle.syn_model.specs.declared.decl.Decl.{Decl}
use Rattle.syn_model.specs.declared.spec_part.SpecPart.{SpecPart}
use Rattle.syn_model.specs.declared.spec_part.SpecPart.TheVariants as part
use Rattle.syn_model.specs.Declaring.{IsTheory}
use Rattle.syn_model.specs.Heads.{sorts_of}
use Rattle.syn_model.specs.Specifications.{AsksPart, IsOrderOn, IsSpec, IsWholeSpec, MayBePrimitive, MayBeTaken, NamesSymbol, SpecTree, begun, one_more, output_var}
use Rattle.syn_model.specs.Tables.{table_of}
use Rattle.syn_model.proofs.SpecLaws.{spec_named}
use Rattle.syn_lex.specs.Stepping.{IsTextOf}
use Rattle.syn_model.specs.BareParts.{bare_spec_tree}
use Rattle.syn_files.specs.Printed.{comma_list, in_brackets_text, parameter_text}
use Rattle.syn_files.specs.PrintedSpec.{IsPartWithinLimit, printed_head, printed_part, printed_spec}
use Rattle.syn_files.specs.SpecLines.{IsWholeText, SpecLine, known, nothing, output_names}
use Rattle.syn_files.specs.TheoryLines.{file_scope}
use Rattle.syn_files.proofs.SpecLead.{lines_read_back, lines_same, spec_lines}
use Rattle.syn_files.proofs.SpecTables.{inputs_new, order_is_name, output_new, primitive_is_name, program_new, spec_good, spec_may, taken_is_name}
use Rattle.syn_files.proofs.WithoutFeeds.{CleanBinder, CleanNamed, IsClean, brackets_clean, form_clean, joined_clean, lit, name_clean, named_sorts_clean, qform_clean, row, sort_clean, syms_clean}

names_clean : (names : List (List ℕ)) → All IsName names → All IsClean names
names_clean names h = All-weaker IsName IsClean name_clean names h

module _ (ds : List Decl) (theory : IsTheory ds) (s : SpecTree) (is : IsSpec ds s) where
  abbrev the_output : Named
  the_output = record { text = s.output; var = output_var s }

  output_clean : IsClean s.output
  output_clean = name_clean s.output (output_new ds s.head s.output (spec_may ds theory s is).head).0

  head_clean : IsClean (printed_head s)
  head_clean =
      let good = spec_good ds theory s is in
      let may = (spec_may ds theory s is).head in
      let sorts = sort_clean s.table (syms_clean s.table good) (named_sorts_clean s.table good) in
      let program = name_clean s.head.program (program_new ds s.head (s.output ∷ []) may).0 in
      let named = inputs_new ds s.head (s.output ∷ []) may in
      let inputs : All IsClean (map (parameter_text s.table) s.head.inputs) =
      All-map IsClean (parameter_text s.table) s.head.inputs (λ k d lt. let p = get_or s.head.inputs k d in row p.name (codes ": " ∷ sort_text s.table p.sort ∷ []) (name_clean p.name (named k d lt)) (lit refl, (sorts p.sort, tt))) in
      row (codes "program ") (in_brackets_text s.head.program (map (parameter_text s.table) s.head.inputs) ∷ codes ": " ∷ s.output ∷ codes ": " ∷ sort_text s.table s.head.result ∷ []) (lit refl)
      (brackets_clean s.head.program (map (parameter_text s.table) s.head.inputs) program inputs, (lit refl, (output_clean, (lit refl, (sorts s.head.result, tt)))))

  listed_clean : (keyword : List ℕ) → IsClean keyword → (names : List (List ℕ)) → All IsName names → IsClean (keyword ++ comma_list names)
  listed_clean keyword h names named = row keyword (comma_list names ∷ []) h (joined_clean (codes ", ") (lit refl) names (names_clean names named), tt)

  part_clean : (p : SpecPart) → AsksPart ds s p → IsClean (printed_part s p)
  part_clean (part.Requires form) asks =
      let good = spec_good ds theory s is in
      row (codes "requires ") (printed_form (file_scope s.table []) form ∷ []) (lit refl) (form_clean s.table (syms_clean s.table good) (named_sorts_clean s.table good) [] (All-nil CleanNamed) form, tt)
  part_clean (part.Ensures form) asks =
      let good = spec_good ds theory s is in
      let binders : All CleanBinder (binders_of form) = All-weaker (MayBind s.table) CleanBinder (λ b h. name_clean b.name h.is_name) (binders_of form) asks.plain.binders in
      let names : All CleanNamed (output_names s) = All-cons CleanNamed the_output [] output_clean (All-nil CleanNamed) in
      row (codes "ensures ") (printed_qform (file_scope s.table (output_names s)) form ∷ []) (lit refl) (qform_clean s.table (syms_clean s.table good) (named_sorts_clean s.table good) form (output_names s) names binders, tt)
  part_clean (part.Order name) asks =
      row (codes "order ") (name ∷ []) (lit refl) (name_clean name (order_is_name ds theory (IsOrderOn (sorts_of s.head.inputs)) (λ z h. h.0) name asks), tt)
  part_clean (part.Primitive names) asks = listed_clean (codes "primitive ") (lit refl) names (All-weaker (NamesSymbol (table_of ds) MayBePrimitive) IsName (primitive_is_name ds theory) names asks.each)
  part_clean (part.Taken names) asks = listed_clean (codes "use ") (lit refl) names (All-weaker (MayBeTaken ds) IsName (taken_is_name ds theory) names asks.each)

module _ (ds : List Decl) (theory : IsTheory ds) where
  parts_clean : (s : SpecTree) → IsSpec ds s → All (Without 10) (map (printed_part s) s.parts)
  parts_clean _ (begun name h output may) = All-nil (Without 10)
  parts_clean _ (one_more s p before may) =
      let last = part_clean ds theory s before p may.asks in
      subst (All (Without 10)) (sym (lines_same s p (s.parts ++ p ∷ []) ∙ map-append (printed_part s) s.parts (p ∷ [])))
      (All-append (Without 10) (map (printed_part s) s.parts) (printed_part s p ∷ []) (parts_clean s before) (All-cons (Without 10) (printed_part s p) [] last.clean (All-nil (Without 10))))

  lines_clean : (s : SpecTree) → IsSpec ds s → All (Without 10) (spec_lines s)
  lines_clean s is =
      let name = row (codes "spec ") (s.name ∷ []) (lit refl) (name_clean s.name (spec_named ds s is), tt) in
      let head = head_clean ds theory s is in
      All-cons (Without 10) (codes "spec " ++ s.name) (printed_head s ∷ map (printed_part s) s.parts) name.clean (All-cons (Without 10) (printed_head s) (map (printed_part s) s.parts) head.clean (parts_clean s is))

  -- what is printed for a specification reads back
  pub spec_reads_back : (s : SpecTree) → IsSpec ds s → IsWholeSpec s → All IsPartWithinLimit s.parts → IsTextOf (SpecLine ds) nothing IsWholeText (printed_spec s) (known (bare_spec_tree s))
  spec_reads_back s is whole limits = lines_read_back ds theory s is whole limits (lines_clean s is)
