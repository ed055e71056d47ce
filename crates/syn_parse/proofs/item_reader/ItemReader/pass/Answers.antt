use Rattle.syn_parse.proofs.Feeding.{pass_fed}
use Rattle.syn_parse.proofs.item_reader.ItemReader.pass.Goals as goal

pub returns-in_ok-step-in_default : goal.returns-in_ok-step-in_default
returns-in_ok-step-in_default g c = λ more. pass_fed g.S.Sink.takes c.args.sink.now c.pass_on.new.sink c.args.self.now c.step.new.self c.args.phrase more c.pass_on.result c.pass_on.new.items c.in_ok-step-in_default.ensures c.pass_on.ensures.fed c.pass_on.ensures.rest
