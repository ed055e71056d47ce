use Rattle.syn_deriv.proofs.FirstLaws.{no_name}
use Rattle.syn_deriv.proofs.cursor.name_text.Goals as goal

pub returns-in-Err : goal.returns-in-Err
returns-in-Err c = no_name c.args.kind c.args.bytes.now c.requires c.in-Err.ensures.cases.0
