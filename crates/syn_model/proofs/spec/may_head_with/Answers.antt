use Rattle.syn_form.proofs.Deciding.{unless_first, when_first}
use Rattle.syn_model.proofs.HeadStanding.{head_and_more}
use Rattle.syn_model.proofs.spec.may_head_with.Goals as goal

pub returns-then-may_head : goal.returns-then-may_head
returns-then-may_head c = when_first (head_and_more c.args.theory.now.decls c.args.program.now c.args.inputs.now c.args.value c.args.output.now) c.may_head.ensures c.if-may_head.true c.is_new_output.ensures

pub returns-else-may_head : goal.returns-else-may_head
returns-else-may_head c = unless_first (head_and_more c.args.theory.now.decls c.args.program.now c.args.inputs.now c.args.value c.args.output.now) c.may_head.ensures c.if-may_head.false
