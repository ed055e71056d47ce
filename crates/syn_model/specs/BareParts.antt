-- For public contracts: parts, specifications and programs with the places of their terms left out. Two are the same where these are
-- equal.
use Rattle.std.specs.Prelude.{map}
use Rattle.syn_form.specs.Quantified.{bare_qform}
use Rattle.syn_form.specs.Trees.{bare_form, bare_out}
use Rattle.syn_model.specs.declared.spec_part.SpecPart.{SpecPart}
use Rattle.syn_model.specs.declared.spec_part.SpecPart.TheVariants as part
use Rattle.syn_model.specs.Programs.{ProgramTree}
use Rattle.syn_model.specs.Specifications.{SpecTree}

-- the part, with the places of its terms left out
abbrev pub bare_part : SpecPart → SpecPart
bare_part (part.Requires form) = part.Requires (bare_form form)
bare_part (part.Ensures form) = part.Ensures (bare_qform form)
bare_part p = p

-- the specification, each of its parts so
abbrev pub bare_spec_tree : SpecTree → SpecTree
bare_spec_tree s = record s { parts = map bare_part s.parts }

-- the program, its body so
abbrev pub bare_program_tree : ProgramTree → ProgramTree
bare_program_tree p = record p { body = bare_out p.body }
