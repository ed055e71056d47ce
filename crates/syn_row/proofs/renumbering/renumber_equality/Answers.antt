use Rattle.std.proofs.Common.{◌∷◌, []}
use Rattle.std.proofs.lemmas.List.Elements.{All-head, All-tail}
use Rattle.syn_term.specs.Bank.{Belongs, Belongs-extends}
use Rattle.syn_form.proofs.OnTerms.{all-Equal}
use Rattle.syn_row.proofs.renumbering.renumber_equality.Goals as goal

pub renumber_term-requires-2-clause-own : goal.renumber_term-requires-2-clause-own
renumber_term-requires-2-clause-own c = Belongs-extends _ _ _ c.renumber_term.ensures.extends (All-head (Belongs _) c.args.t.now [] (All-tail (Belongs _) c.args.s.now (c.args.t.now ∷ []) c.requires.own))

pub returns-clause-belongs : goal.returns-clause-belongs
returns-clause-belongs c = all-Equal (Belongs _) _ _ (Belongs-extends _ _ _ c.renumber_term-2.ensures.extends c.in_ok-s.ensures.belongs) c.in_ok-t.ensures.belongs
