use Rattle.syn_form.specs.declared.syntax.Lexeme.TheVariants as lexeme
use Rattle.syn_parse.specs.declared.phrase_reader.Phrase.TheVariants as phrase
use Rattle.syn_parse.proofs.Feeding.{pass_fed}
use Rattle.syn_parse.proofs.LoneMarks.{lone_fed}
use Rattle.syn_parse.proofs.item_reader.ItemReader.pass_mark.Goals as goal

pub returns-then-is_lone : goal.returns-then-is_lone
returns-then-is_lone g c = λ more. lone_fed g.S.Sink.takes c.args.sink.now c.take.new.self c.args.self.now c.args.mark more c.take.result (c.is_lone.ensures c.if-is_lone.true) c.take.ensures

pub returns : goal.returns
returns g c = λ more. pass_fed g.S.Sink.takes c.args.sink.now c.pass_on.new.sink c.args.self.now c.mark_next.new.self (phrase.Word (lexeme.Fixed c.args.mark)) more c.pass_on.result c.pass_on.new.items c.in_ok-mark_next.ensures c.pass_on.ensures.fed c.pass_on.ensures.rest
