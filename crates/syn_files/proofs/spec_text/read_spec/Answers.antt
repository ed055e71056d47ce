use Rattle.syn_lex.proofs.Led.{one_text}
use Rattle.syn_files.specs.SpecLines.{IsWholeText, SpecLine, nothing}
use Rattle.syn_files.proofs.Within.{spec_within}
use Rattle.syn_files.proofs.SpecSteps.{spec_lines_once}
use Rattle.syn_files.proofs.spec_text.read_spec.Goals as goal

pub returns-in-Err-clause-one : goal.returns-in-Err-clause-one
returns-in-Err-clause-one c = one_text (SpecLine c.args.theory.now.decls) (spec_lines_once c.args.theory.now.decls) nothing IsWholeText c.args.bytes.now

pub returns-in-Ok-clause-one : goal.returns-in-Ok-clause-one
returns-in-Ok-clause-one c = one_text (SpecLine c.args.theory.now.decls) (spec_lines_once c.args.theory.now.decls) nothing IsWholeText c.args.bytes.now

pub returns-in-Ok-clause-within : goal.returns-in-Ok-clause-within
returns-in-Ok-clause-within c = spec_within c.args.theory.now.decls c.args.bytes.now c.spec_in.result (c.spec_in.ensures.answer c.args.bytes.now c.in-Ok.ensures.cut)
