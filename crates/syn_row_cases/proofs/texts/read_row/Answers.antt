use Rattle.syn_expr.specs.Belonging.{FormBelongs-terms}
use Rattle.syn_row_cases.proofs.Owning.{both_own}
use Rattle.syn_row_cases.proofs.texts.read_row.Goals as goal

pub returns-in-Ok-read_output-clause-belongs : goal.returns-in-Ok-read_output-clause-belongs
returns-in-Ok-read_output-clause-belongs c = both_own _ _ _ _ c.read_output.ensures.extends (FormBelongs-terms _ _ c.in-Ok.ensures.belongs) c.in-Ok-read_output.ensures.belongs
