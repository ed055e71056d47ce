use Rattle.std.proofs.Common.{[]}
use Rattle.std.specs.Option.{option_map_or}
use Rattle.std.proofs.lemmas.List.Elements.{All-append}
use Rattle.syn_term.specs.Bank.{Belongs}
use Rattle.syn_form.specs.Trees.{form_terms, out_terms}
use Rattle.syn_form.proofs.InputTerms.{all_still}
use Rattle.syn_form.proofs.Owned.{All-right}
use Rattle.syn_row.proofs.Ends.{made_form, made_row, row_made}
use Rattle.syn_row.proofs.renumbering.renumber_row.Goals as goal

pub renumber_output-requires-clause-own : goal.renumber_output-requires-clause-own
renumber_output-requires-clause-own c = all_still _ _ _ c.renumber_form.ensures.extends (All-right (Belongs _) (form_terms (c.args.row.now).form) (option_map_or out_terms (c.args.row.now).out []) c.requires.own)

pub returns-in_err-form-clause-made : goal.returns-in_err-form-clause-made
returns-in_err-form-clause-made c = made_form c.args.row.now _ _ c.renumber_form.ensures.made

pub returns-in-Ok-clause-tree : goal.returns-in-Ok-clause-tree
returns-in-Ok-clause-tree c = row_made c.args.first c.args.vars.now c.args.row.now _ _ c.in_ok-form.ensures.tree c.in-Ok.ensures.tree

pub returns-in-Ok-clause-made : goal.returns-in-Ok-clause-made
returns-in-Ok-clause-made c = made_row c.args.row.now _ _ _ c.renumber_form.ensures.made c.renumber_output.ensures.made

pub returns-in-Err-clause-made : goal.returns-in-Err-clause-made
returns-in-Err-clause-made c = made_row c.args.row.now _ _ _ c.renumber_form.ensures.made c.renumber_output.ensures.made

pub returns-in-Ok-clause-belongs : goal.returns-in-Ok-clause-belongs
returns-in-Ok-clause-belongs c = All-append (Belongs _) _ _ (all_still _ _ _ c.renumber_output.ensures.extends c.in_ok-form.ensures.belongs) c.in-Ok.ensures.belongs
