use Rattle.std.proofs.Common.{refl}
use Rattle.syn_expr.proofs.Pieces.{item_put}
use Rattle.syn_form.specs.Printing.{sort_text}
use Rattle.syn_files.proofs.Printing.{along}
use Rattle.syn_files.proofs.print_decls.put_sorts.Goals as goal

pub loop-i-preserved : goal.loop-i-preserved
loop-i-preserved c = item_put (sort_text c.args.syms.now) _ _ _ _ _ _ _ _ _ _ c.loop-i-test.true refl c.loop-i.invariant c.separator.ensures c.in_ok-put.ensures (along _ _ _ _ c.in_ok-put-2.ensures c.sort_name.ensures)
