use Rattle.syn_form.proofs.Deciding.{unless_part}
use Rattle.syn_files.proofs.ClauseReads.{line_names}
use Rattle.syn_files.proofs.clause_fronts.are_line_names.Goals as goal

pub returns-then-are_new : goal.returns-then-are_new
returns-then-are_new c =
    let g = line_names c.args.names.now c.args.theory.now.decls in
    let e = c.are_distinct.ensures in
    ((λ t. g.0 (c.are_new.ensures.0 c.if-are_new.true, e.0 t)), (λ h. e.1 (g.1 h).1))

pub returns-else-are_new : goal.returns-else-are_new
returns-else-are_new c =
    let g = line_names c.args.names.now c.args.theory.now.decls in
    unless_part (λ h. (g.1 h).0) c.are_new.ensures c.if-are_new.false
