use Rattle.std.proofs.Common.{subst}
use Rattle.syn_model.specs.Calls.{Meaning, call_of}
use Rattle.syn_eval.specs.Ending.{Ends}
use Rattle.syn_eval.proofs.BareCalls.{call_bare}
use Rattle.syn_eval.proofs.Tops.{set_is}
use Rattle.syn_machine.proofs.top.run_program.Goals as goal

pub returns-clause-ends : goal.returns-clause-ends
returns-clause-ends c =
    subst (λ (z : Meaning). Ends (λ n. call_of z n c.args.args.now) c.args.turns c.value_on.result) (set_is _ c.args.theory.now.decls c.args.program.now _ _ c.in_ok-set.ensures c.symbols.ensures.table c.body.ensures.is) c.value_on.ensures.ends

pub returns-clause-bare : goal.returns-clause-bare
returns-clause-bare c = call_bare c.args.theory.now.decls c.args.program.now

pub returns-in_err-set-clause-bare : goal.returns-in_err-set-clause-bare
returns-in_err-set-clause-bare c = call_bare c.args.theory.now.decls c.args.program.now
