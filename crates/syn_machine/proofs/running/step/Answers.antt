use Rattle.syn_machine.specs.declared.frames.Frame.TheVariants as frame
use Rattle.syn_machine.proofs.Steps.{any_does, any_lighter, one_does}
use Rattle.syn_machine.proofs.running.step.Goals as goal

pub returns-in-Term-clause-does : goal.returns-in-Term-clause-does
returns-in-Term-clause-does c = any_does c.args.frame (frame.Term c.in-Term.scope c.in-Term.term) c.in-Term.is c.args.set.now c.args.left c.args.work.now c.open_term.new.work c.open_term.result c.open_term.ensures.does

pub returns-in-Term-clause-lighter : goal.returns-in-Term-clause-lighter
returns-in-Term-clause-lighter c = any_lighter c.args.frame (frame.Term c.in-Term.scope c.in-Term.term) c.in-Term.is c.args.set.now c.args.left c.args.work.now c.open_term.new.work c.open_term.result (c.open_term.ensures.lighter c.args.set.now)

pub returns-in-Apply-clause-does : goal.returns-in-Apply-clause-does
returns-in-Apply-clause-does c = one_does c.args.frame (frame.Apply c.in-Apply.scope c.in-Apply.symbol c.in-Apply.count c.in-Apply.rest) c.in-Apply.is c.args.set.now c.args.left c.args.work.now c.next_argument.new.work c.next_argument.result c.next_argument.ensures.does

pub returns-in-Apply-clause-lighter : goal.returns-in-Apply-clause-lighter
returns-in-Apply-clause-lighter c = any_lighter c.args.frame (frame.Apply c.in-Apply.scope c.in-Apply.symbol c.in-Apply.count c.in-Apply.rest) c.in-Apply.is c.args.set.now c.args.left c.args.work.now c.next_argument.new.work c.next_argument.result c.next_argument.ensures.lighter

pub returns-in-Form-clause-does : goal.returns-in-Form-clause-does
returns-in-Form-clause-does c = any_does c.args.frame (frame.Form c.in-Form.scope c.in-Form.form) c.in-Form.is c.args.set.now c.args.left c.args.work.now c.open_form.new.work c.open_form.result c.open_form.ensures.does

pub returns-in-Form-clause-lighter : goal.returns-in-Form-clause-lighter
returns-in-Form-clause-lighter c = any_lighter c.args.frame (frame.Form c.in-Form.scope c.in-Form.form) c.in-Form.is c.args.set.now c.args.left c.args.work.now c.open_form.new.work c.open_form.result (c.open_form.ensures.lighter c.args.set.now)

pub returns-in-Ask-clause-does : goal.returns-in-Ask-clause-does
returns-in-Ask-clause-does c = one_does c.args.frame (frame.Ask c.in-Ask.scope c.in-Ask.symbol c.in-Ask.count c.in-Ask.rest) c.in-Ask.is c.args.set.now c.args.left c.args.work.now c.next_asked.new.work c.next_asked.result c.next_asked.ensures.does

pub returns-in-Ask-clause-lighter : goal.returns-in-Ask-clause-lighter
returns-in-Ask-clause-lighter c = any_lighter c.args.frame (frame.Ask c.in-Ask.scope c.in-Ask.symbol c.in-Ask.count c.in-Ask.rest) c.in-Ask.is c.args.set.now c.args.left c.args.work.now c.next_asked.new.work c.next_asked.result c.next_asked.ensures.lighter

pub returns-in-Out-clause-does : goal.returns-in-Out-clause-does
returns-in-Out-clause-does c = any_does c.args.frame (frame.Out c.in-Out.scope c.in-Out.out) c.in-Out.is c.args.set.now c.args.left c.args.work.now c.open_out.new.work c.open_out.result c.open_out.ensures.does

pub returns-in-Out-clause-lighter : goal.returns-in-Out-clause-lighter
returns-in-Out-clause-lighter c = any_lighter c.args.frame (frame.Out c.in-Out.scope c.in-Out.out) c.in-Out.is c.args.set.now c.args.left c.args.work.now c.open_out.new.work c.open_out.result (c.open_out.ensures.lighter c.args.set.now)

pub returns-in_default-clause-does : goal.returns-in_default-clause-does
returns-in_default-clause-does c = c.settle.ensures.does c.args.set.now c.args.left

pub returns-in_default-clause-lighter : goal.returns-in_default-clause-lighter
returns-in_default-clause-lighter c = c.settle.ensures.lighter c.args.set.now
