use Rattle.std.proofs.Common.{refl}
use Rattle.syn_expr.proofs.Pieces.{item_put}
use Rattle.syn_files.specs.inner.Entries.{input_text}
use Rattle.syn_files.proofs.print_parts.put_inputs.Goals as goal

pub loop-i-preserved : goal.loop-i-preserved
loop-i-preserved c = item_put (input_text c.args.syms.now) _ _ _ _ _ _ _ _ _ _ c.loop-i-test.true refl c.loop-i.invariant c.separator.ensures c.in_ok-put.ensures c.in_ok-put_input.ensures
