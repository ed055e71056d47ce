use Rattle.std.proofs.Common.{None}
use Rattle.syn_lex.proofs.Led.{one_text}
use Rattle.syn_deriv.specs.DerivationLines.{DerivationLine, IsBegun}
use Rattle.syn_deriv.proofs.DerivationSteps.{derivation_lines_once}
use Rattle.syn_deriv.proofs.text.read_derivation.Goals as goal

pub returns-in-Err-clause-one : goal.returns-in-Err-clause-one
returns-in-Err-clause-one c = one_text (DerivationLine c.args.start.now) (derivation_lines_once c.args.start.now) None IsBegun c.args.bytes.now

pub returns-in-Ok-clause-one : goal.returns-in-Ok-clause-one
returns-in-Ok-clause-one c = one_text (DerivationLine c.args.start.now) (derivation_lines_once c.args.start.now) None IsBegun c.args.bytes.now
