use Rattle.std.proofs.Common.{◌∙◌, arith}
use Rattle.syn_row.proofs.KeptApart.{count_fits}
use Rattle.syn_row.proofs.apart.number_behind.Goals as goal

pub overflow_cast-number : goal.overflow_cast-number
overflow_cast-number c = let n = count_fits c.args.row.now _ (c.as_slice.ensures ∙ c.in_ok-vars.ensures) c.requires in omega arith

pub overflow_add-number : goal.overflow_add-number
overflow_add-number c = let n = count_fits c.args.row.now _ (c.as_slice.ensures ∙ c.in_ok-vars.ensures) c.requires in omega arith
