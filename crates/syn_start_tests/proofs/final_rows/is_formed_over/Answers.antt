use Rattle.syn_start_tests.proofs.Telling.{formed_over}
use Rattle.syn_start_tests.proofs.final_rows.is_formed_over.Goals as goal

pub returns : goal.returns
returns c = formed_over c.symbols.result.now c.args.spec.now.table c.args.out.now c.symbols.ensures.table c.is_formed_out.ensures
