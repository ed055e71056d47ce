use Rattle.syn_files.proofs.Printing.{lines_go}
use Rattle.syn_files.proofs.print_lines.put_lines.Goals as goal

pub loop-i-preserved : goal.loop-i-preserved
loop-i-preserved c =
    let go = lines_go c.args.theory.now.decls c.args.decls.now c.loop-i.i c.index-decls-i.result c.index-decls-i.result c.loop-i.own.now c.own_after-own.result.now _ _ _ c.requires c.loop-i-test.true c.index-decls-i.is c.loop-i.invariant.so_far c.loop-i.invariant.owns c.in_ok-put_line.ensures c.own_after-own.ensures in
    record { so_far = go.0; owns = go.1; text = c.own_after-own.utf8 }
