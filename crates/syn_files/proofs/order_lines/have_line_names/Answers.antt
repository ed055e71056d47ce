use Rattle.syn_form.proofs.Deciding.{unless_part}
use Rattle.syn_files.proofs.OrderLaws.{given_names}
use Rattle.syn_files.proofs.order_lines.have_line_names.Goals as goal

pub returns-then-are_new_inputs : goal.returns-then-are_new_inputs
returns-then-are_new_inputs c =
    let g = given_names c.args.params.now c.args.theory.now.decls c.args.name.now in
    let e = c.are_distinct_names.ensures in
    ((λ t. g.0 (c.are_new_inputs.ensures.0 c.if-are_new_inputs.true, (e.0 t).0, (e.0 t).1)), (λ h. e.1 ((g.1 h).1, (g.1 h).2)))

pub returns-else-are_new_inputs : goal.returns-else-are_new_inputs
returns-else-are_new_inputs c =
    let g = given_names c.args.params.now c.args.theory.now.decls c.args.name.now in
    unless_part (λ h. (g.1 h).0) c.are_new_inputs.ensures c.if-are_new_inputs.false
