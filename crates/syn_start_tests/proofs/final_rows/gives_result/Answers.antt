use Rattle.syn_start_tests.proofs.Telling.{gives_sort}
use Rattle.syn_start_tests.proofs.final_rows.gives_result.Goals as goal

pub returns : goal.returns
returns c = gives_sort c.symbols.result.now c.args.spec.now.table c.output-sort.result.1 c.args.spec.now.head.result c.args.out.now c.symbols.ensures.table c.output-sort.ensures.sort c.gives.ensures
