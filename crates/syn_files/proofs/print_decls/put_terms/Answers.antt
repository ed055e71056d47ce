use Rattle.syn_expr.specs.Scopes.{spoken}
use Rattle.syn_expr.proofs.Pieces.{item_put}
use Rattle.syn_form.specs.Printing.{printed_term}
use Rattle.syn_files.proofs.print_decls.put_terms.Goals as goal

pub loop-i-preserved : goal.loop-i-preserved
loop-i-preserved c = item_put (printed_term (spoken c.args.scope.now)) _ _ _ _ _ _ _ _ _ _ c.loop-i-test.true c.index-terms-i.is c.loop-i.invariant c.separator.ensures c.in_ok-put.ensures c.in_ok-put_term.ensures
