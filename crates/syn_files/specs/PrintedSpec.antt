-- For public contracts: the one text that is printed for a specification.
use Rattle.std.specs.Prelude.{ℕ, ◌≤◌, List, [], ◌∷◌, ◌++◌, codes, map}
use Rattle.std.specs.List.{flat_map}
use Rattle.syn_lex.specs.TextLines.{with_feed}
use Rattle.syn_form.specs.Printing.{printed_form, printed_qform, sort_text}
use Rattle.syn_form.specs.Quantified.{qform_depth, qform_nodes}
use Rattle.syn_form.specs.Texts.{expression_limit}
use Rattle.syn_form.specs.Trees.{form_depth, form_nodes}
use Rattle.syn_model.specs.declared.spec_part.SpecPart.{SpecPart}
use Rattle.syn_model.specs.declared.spec_part.SpecPart.TheVariants as part
use Rattle.syn_model.specs.Specifications.{SpecTree}
use Rattle.syn_files.specs.Printed.{comma_list, in_brackets_text, parameter_text}
use Rattle.syn_files.specs.SpecLines.{output_names}
use Rattle.syn_files.specs.TheoryLines.{file_scope}

-- the line of a part
abbrev pub printed_part : SpecTree → SpecPart → List ℕ
printed_part s (part.Requires form) = codes "requires " ++ printed_form (file_scope s.table []) form
printed_part s (part.Ensures form) = codes "ensures " ++ printed_qform (file_scope s.table (output_names s)) form
printed_part s (part.Order name) = codes "order " ++ name
printed_part s (part.Primitive names) = codes "primitive " ++ comma_list names
printed_part s (part.Taken names) = codes "use " ++ comma_list names

-- `program f(a: S, ..): z: S`
abbrev pub printed_head : SpecTree → List ℕ
printed_head s =
    codes "program " ++ in_brackets_text s.head.program (map (parameter_text s.table) s.head.inputs) ++ codes ": " ++ s.output ++ codes ": " ++ sort_text s.table s.head.result

-- the text that is printed for the specification
abbrev pub printed_spec : SpecTree → List ℕ
printed_spec s = flat_map with_feed ((codes "spec " ++ s.name) ∷ printed_head s ∷ map (printed_part s) s.parts)

-- each expression of the part is within the limit of an expression
abbrev pub IsPartWithinLimit : SpecPart → Type 0
IsPartWithinLimit (part.Requires form) = (form_nodes form ≤ expression_limit.nodes) × (form_depth form ≤ expression_limit.depth)
IsPartWithinLimit (part.Ensures form) = (qform_nodes form ≤ expression_limit.nodes) × (qform_depth form ≤ expression_limit.depth)
IsPartWithinLimit _ = Unit {0}
