use Rattle.std.proofs.Common.{sym}
use Rattle.syn_eval.proofs.Runs.{order_there}
use Rattle.syn_eval.proofs.headed.order_measure.Goals as goal

pub returns-in-Some : goal.returns-in-Some
returns-in-Some c = sym (order_there c.args.decls.now c.requires c.args.place c.args.name.now c.in-Some.measure.now c.in-Some.ensures)
