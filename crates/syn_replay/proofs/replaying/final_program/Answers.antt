use Rattle.syn_replay.proofs.Endings.{not_final, output_formed, output_sort, row_program, spec_over}
use Rattle.syn_replay.proofs.replaying.final_program.Goals as goal

pub program_of-requires-clause-spec : goal.program_of-requires-clause-spec
program_of-requires-clause-spec c = spec_over c.args.start.now c.spec-2.result.now c.spec-2.ensures.is c.theory.result.now c.theory.ensures.start c.theory.ensures.is

pub program_of-requires-clause-formed : goal.program_of-requires-clause-formed
program_of-requires-clause-formed c = output_formed c.args.start.now c.spec-2.result.now c.spec-2.ensures.is c.args.bank.now c.args.row.now c.requires

pub program_of-requires-clause-sort : goal.program_of-requires-clause-sort
program_of-requires-clause-sort c = output_sort c.args.start.now c.spec-2.result.now c.spec-2.ensures.is c.args.bank.now c.args.row.now c.requires

pub returns-then-not-is_final-clause-program : goal.returns-then-not-is_final-clause-program
returns-then-not-is_final-clause-program c = not_final c.args.start.now c.spec.result.now c.spec.ensures.is c.args.row.now c.if-not-is_final.ensures

pub returns-clause-program : goal.returns-clause-program
returns-clause-program c =
    row_program c.args.start.now c.spec.result.now c.spec-2.result.now c.args.row.now c.in_ok-program.program c.spec.ensures.is c.spec-2.ensures.is (c.is_final.ensures.0 c.if-not-is_final.false) c.in_ok-program.ensures.program
