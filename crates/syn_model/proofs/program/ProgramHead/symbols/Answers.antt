use Rattle.syn_model.proofs.ProgramLaws.{head_writes}
use Rattle.syn_model.proofs.program.ProgramHead.symbols.Goals as goal

pub returns-clause-written : goal.returns-clause-written
returns-clause-written c = head_writes _ c.self.invariant.some
