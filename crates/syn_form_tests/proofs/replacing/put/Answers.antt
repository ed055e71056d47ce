use Rattle.syn_term.specs.Bank.{Extends-refl}
use Rattle.syn_form_tests.proofs.replacing.put.Goals as goal

pub returns-then-not-is_formed_form-clause-extends : goal.returns-then-not-is_formed_form-clause-extends
returns-then-not-is_formed_form-clause-extends c = Extends-refl c.args.bank.now

pub returns-then-not-are_inputs-clause-extends : goal.returns-then-not-are_inputs-clause-extends
returns-then-not-are_inputs-clause-extends c = Extends-refl c.args.bank.now
