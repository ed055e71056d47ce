use Rattle.syn_app.specs.inner.Printing.{nat_program}
use Rattle.syn_app.proofs.judging.text_of.Goals as goal

pub returns-in-Ok-print : goal.returns-in-Ok-print
returns-in-Ok-print c =
    λ theory. (nat_program c.args.spec.now.program.now c.args.spec.now.input.now c.in-Ok.body, (c.in-Ok.ensures theory, c.in-Ok-print.ensures theory))
