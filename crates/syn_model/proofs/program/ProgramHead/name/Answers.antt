use Rattle.std.proofs.Common.{sym, subst}
use Rattle.syn_term.specs.Names.{IsName}
use Rattle.syn_model.proofs.ProgramLaws.{head_named}
use Rattle.syn_model.proofs.program.ProgramHead.name.Goals as goal

pub returns-clause-named : goal.returns-clause-named
returns-clause-named c = subst IsName (sym c.as_str.ensures) (head_named _ c.self.invariant.some)
