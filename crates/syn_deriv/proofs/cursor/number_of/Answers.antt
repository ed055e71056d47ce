use Rattle.syn_deriv.proofs.NumberLaws.{no_number}
use Rattle.syn_deriv.proofs.cursor.number_of.Goals as goal

pub returns-in-Err : goal.returns-in-Err
returns-in-Err c = no_number c.args.kind c.args.bytes.now c.requires c.in-Err.ensures.cases.0
