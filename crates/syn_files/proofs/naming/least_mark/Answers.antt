use Rattle.std.proofs.Common.{Some}
use Rattle.syn_model.specs.Tables.{IsDeclared}
use Rattle.syn_files.specs.Printed.{AreFree}
use Rattle.syn_files.proofs.Printing.{mark_more}
use Rattle.syn_files.proofs.naming.least_mark.Goals as goal

pub returns-then-branch : goal.returns-then-branch
returns-then-branch c = (c.loop-mark.auto.mark, c.in_ok-are_free.ensures.0 c.if-branch.true, c.loop-mark.invariant)

pub loop-mark-preserved : goal.loop-mark-preserved
loop-mark-preserved c = mark_more (λ i. AreFree (IsDeclared c.args.theory.now.decls) c.args.vars.now (Some i)) _ c.loop-mark.invariant (λ h. let e = c.in_ok-are_free.ensures.1 h in let f = c.if-branch.false in absurd (cc))
