use Rattle.syn_expr.proofs.Pieces.{item_put}
use Rattle.syn_files.specs.inner.Entries.{entry_text}
use Rattle.syn_files.proofs.Printing.{entries_put}
use Rattle.syn_files.proofs.print_decls.put_parameters.Goals as goal

pub loop-i-preserved : goal.loop-i-preserved
loop-i-preserved c = item_put (entry_text c.args.syms.now) _ _ _ _ _ _ _ _ _ _ c.loop-i-test.true c.index-names-i.is c.loop-i.invariant c.separator.ensures c.in_ok-put.ensures c.in_ok-put_parameter.ensures

pub returns : goal.returns
returns c = entries_put c.args.syms.now c.args.names.now _ _ _ c.loop-i-test.false c.loop-i.invariant
