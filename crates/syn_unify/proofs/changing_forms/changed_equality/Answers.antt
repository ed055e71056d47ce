use Rattle.std.proofs.Common.{◌∷◌, []}
use Rattle.std.proofs.lemmas.List.Elements.{All-head, All-tail}
use Rattle.syn_term.specs.Bank.{Belongs, Belongs-extends}
use Rattle.syn_form.proofs.OnTerms.{all-Equal}
use Rattle.syn_unify.proofs.Changed.{own_still}
use Rattle.syn_unify.proofs.changing_forms.changed_equality.Goals as goal

pub whole_term-requires-clause-belongs : goal.whole_term-requires-clause-belongs
whole_term-requires-clause-belongs c = All-head (Belongs _) c.args.s.now (c.args.t.now ∷ []) c.requires.own

pub whole_term-requires-2-clause-own : goal.whole_term-requires-2-clause-own
whole_term-requires-2-clause-own c = own_still _ _ _ c.whole_term.ensures.extends c.requires.held

pub whole_term-requires-2-clause-belongs : goal.whole_term-requires-2-clause-belongs
whole_term-requires-2-clause-belongs c = Belongs-extends _ _ _ c.whole_term.ensures.extends (All-head (Belongs _) c.args.t.now [] (All-tail (Belongs _) c.args.s.now (c.args.t.now ∷ []) c.requires.own))

pub returns-clause-belongs : goal.returns-clause-belongs
returns-clause-belongs c = all-Equal (Belongs _) _ _ (Belongs-extends _ _ _ c.whole_term-2.ensures.extends c.in_ok-s.ensures.belongs) c.in_ok-t.ensures.belongs
