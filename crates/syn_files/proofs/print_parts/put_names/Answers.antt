use Rattle.syn_expr.proofs.Pieces.{item_put}
use Rattle.syn_files.proofs.Printing.{along}
use Rattle.syn_files.proofs.SpecPrinting.{itself, names_put}
use Rattle.syn_files.proofs.print_parts.put_names.Goals as goal

pub loop-i-preserved : goal.loop-i-preserved
loop-i-preserved c = item_put itself _ _ _ _ _ _ _ _ _ _ c.loop-i-test.true c.index-names-i.is c.loop-i.invariant c.separator.ensures c.in_ok-put.ensures (along _ _ _ _ c.in_ok-put-2.ensures c.as_str.ensures)

pub returns : goal.returns
returns c = names_put c.args.names.now _ _ _ c.loop-i-test.false c.loop-i.invariant
