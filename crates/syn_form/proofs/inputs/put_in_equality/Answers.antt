use Rattle.syn_term.specs.Bank.{Belongs, Belongs-extends}
use Rattle.syn_form.proofs.InputTerms.{inputs_still}
use Rattle.syn_form.proofs.OnTerms.{all-Equal}
use Rattle.syn_form.proofs.inputs.put_in_equality.Goals as goal

pub put_in_term-requires-2-clause-own : goal.put_in_term-requires-2-clause-own
put_in_term-requires-2-clause-own c = inputs_still _ _ _ c.put_in_term.ensures.extends c.requires.own

pub returns-clause-belongs : goal.returns-clause-belongs
returns-clause-belongs c = all-Equal (Belongs _) _ _ (Belongs-extends _ _ _ c.put_in_term-2.ensures.extends c.in_ok-s.ensures.belongs) c.in_ok-t.ensures.belongs
