use Rattle.syn_row.proofs.Ends.{plain_row}
use Rattle.syn_row.proofs.plain.is_plain_row.Goals as goal

pub returns : goal.returns
returns c = plain_row _ c.args.row.now _ _ _ c.in_ok-vars.ensures c.as_slice.ensures (c.is_formed_form.ensures.0 c.if-not-is_formed_form.false) (c.is_formed_output.ensures.0 c.if-not-is_formed_output.false) c.have_one_sort_each-one.ensures
