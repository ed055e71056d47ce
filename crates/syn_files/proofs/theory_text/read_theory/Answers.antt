use Rattle.std.proofs.Common.{None}
use Rattle.syn_lex.proofs.Led.{one_text}
use Rattle.syn_files.specs.TheoryLines.{IsWholeTheory, TheoryLine}
use Rattle.syn_files.proofs.Within.{theory_within}
use Rattle.syn_files.proofs.WriteOnce.{theory_lines_once}
use Rattle.syn_files.proofs.theory_text.read_theory.Goals as goal

pub returns-in-Err-clause-one : goal.returns-in-Err-clause-one
returns-in-Err-clause-one c = one_text TheoryLine theory_lines_once None IsWholeTheory c.args.bytes.now

pub returns-in-Ok-clause-one : goal.returns-in-Ok-clause-one
returns-in-Ok-clause-one c = one_text TheoryLine theory_lines_once None IsWholeTheory c.args.bytes.now

pub returns-in-Ok-clause-answer : goal.returns-in-Ok-clause-answer
returns-in-Ok-clause-answer c = c.theory_in.ensures.answer c.args.bytes.now c.in-Ok.ensures.cut

pub returns-in-Ok-clause-within : goal.returns-in-Ok-clause-within
returns-in-Ok-clause-within c = theory_within c.args.bytes.now c.theory_in.result (c.theory_in.ensures.answer c.args.bytes.now c.in-Ok.ensures.cut)
