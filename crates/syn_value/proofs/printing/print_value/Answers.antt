use Rattle.syn_value.proofs.TextLaws.{reads_back}
use Rattle.syn_value.proofs.printing.print_value.Goals as goal

pub returns-in-Ok-clause-law : goal.returns-in-Ok-clause-law
returns-in-Ok-clause-law c = reads_back

pub returns-in-Err-clause-law : goal.returns-in-Err-clause-law
returns-in-Err-clause-law c = reads_back
