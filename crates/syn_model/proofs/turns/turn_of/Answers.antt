use Rattle.syn_model.proofs.TurnLaws.{no_third}
use Rattle.syn_model.proofs.turns.turn_of.Goals as goal

pub returns-in_default : goal.returns-in_default
returns-in_default c = no_third c.args.syms.now c.args.earlier.now c.args.args.now c.in_default.len_at_least c.requires
