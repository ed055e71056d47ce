use Rattle.std.proofs.Common.{List, ◌∙◌, ap}
use Rattle.std.proofs.lemmas.Result.{IfOk-weaker}
use Rattle.syn_term.specs.declared.sorts.Var.{Var}
use Rattle.syn_row.specs.Rows.{bare_row, numbered_from, substituted_row}
use Rattle.syn_row.proofs.KeptApart.{vars_fit}
use Rattle.syn_row.proofs.renumbering.renumbered_from.Goals as goal

pub renumber_row-made-requires-clause-few : goal.renumber_row-made-requires-clause-few
renumber_row-made-requires-clause-few c = vars_fit _ c.args.row.now _ (c.as_slice.ensures ∙ c.in_ok-vars.ensures) c.requires.few

pub returns-clause-tree : goal.returns-clause-tree
returns-clause-tree c = IfOk-weaker c.renumber_row-made.result _ _ (λ r e. e ∙ ap (λ (z : List Var). bare_row (substituted_row (numbered_from c.args.first z) c.args.row.now)) (c.as_slice.ensures ∙ c.in_ok-vars.ensures)) c.renumber_row-made.ensures.tree
