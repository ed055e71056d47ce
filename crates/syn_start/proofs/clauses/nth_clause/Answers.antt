use Rattle.syn_start.proofs.Picking.{clauses_begin}
use Rattle.syn_start.proofs.clauses.nth_clause.Goals as goal

pub loop-decl-init : goal.loop-decl-init
loop-decl-init c = clauses_begin c.args.name.now c.same_text-under.result c.args.decls.now c.args.index c.same_text-under.ensures
