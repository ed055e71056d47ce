use Rattle.std.proofs.Common.{[]}
use Rattle.std.proofs.lemmas.List.Elements.{All-append}
use Rattle.std.specs.Option.{option_copied, option_map_or}
use Rattle.syn_term.specs.Bank.{Belongs}
use Rattle.syn_form.specs.Trees.{form_terms, out_terms}
use Rattle.syn_form.proofs.InputTerms.{all_still}
use Rattle.syn_form.proofs.Owned.{All-right}
use Rattle.syn_unify.proofs.Raised.{out_small, plain_apart}
use Rattle.syn_unify.proofs.raising.apart.Goals as goal

pub apart_output-requires-clause-own : goal.apart_output-requires-clause-own
apart_output-requires-clause-own c = all_still _ _ _ c.apart_formula.ensures.extends (All-right (Belongs c.args.bank.now) (form_terms c.args.f.now) (option_map_or out_terms (option_copied c.args.out) []) c.requires.own)

pub apart_output-requires-clause-room : goal.apart_output-requires-clause-room
apart_output-requires-clause-room c = out_small c.args.by c.args.f.now (option_copied c.args.out) c.requires.room

pub returns-in-Ok-clause-plain : goal.returns-in-Ok-clause-plain
returns-in-Ok-clause-plain c = plain_apart c.args.by _ _ _ _ _ c.requires.room c.in_ok-form.ensures.tree c.in-Ok.ensures.tree c.requires.plain

pub returns-in-Ok-clause-belongs : goal.returns-in-Ok-clause-belongs
returns-in-Ok-clause-belongs c = All-append (Belongs c.apart_output.new.bank) (form_terms c.in_ok-form.form) (option_map_or out_terms c.in-Ok.out []) (all_still _ _ _ c.apart_output.ensures.extends c.in_ok-form.ensures.belongs) c.in-Ok.ensures.belongs
