-- The pieces, one after another, are the printed program.
use Rattle.syn_app.proofs.PrintedBare.{program_put}
use Rattle.syn_app.proofs.printing.print_program.Goals as goal

pub returns : goal.returns
returns c = program_put c.args.syms.now _ _ _ _ _ _ _ _ _ _ _ c.requires c.new-out.ensures.bytes c.in_ok-put.ensures c.in_ok-put-2.ensures c.in_ok-put-3.ensures c.in_ok-put-4.ensures c.in_ok-put-5.ensures c.in_ok-print_term.ensures c.in_ok-put-6.ensures
