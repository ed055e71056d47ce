use Rattle.syn_eval.proofs.BareCalls.{call_bare}
use Rattle.syn_eval.proofs.top.eval.Goals as goal

pub returns-clause-bare : goal.returns-clause-bare
returns-clause-bare c = call_bare c.args.theory.now.decls c.args.program.now
