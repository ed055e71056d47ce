use Rattle.std.proofs.Common.{◌∙◌, ap}
use Rattle.syn_step.specs.Acceptance.{judged}
use Rattle.syn_replay.proofs.Endings.{ends_accepted, ends_program, ends_refused, line_refused}
use Rattle.syn_replay.proofs.RowsOfLines.{all_kept}
use Rattle.syn_replay.proofs.replaying.check.Goals as goal

pub last_program-program-requires : goal.last_program-program-requires
last_program-program-requires c =
    all_kept c.args.start.now c.args.bank.now c.replay.new.bank c.args.d.now c.replay.ensures.extends c.requires.rows c.as_slice.result.now (c.as_slice.ensures ∙ (c.in-Ok.ensures.rows ∙ ap judged c.lines.ensures))

pub returns-in-Ok-clause-accepted : goal.returns-in-Ok-clause-accepted
returns-in-Ok-clause-accepted c =
    ends_accepted c.args.start.now c.args.d.now c.lines.result.now c.as_slice.result.now c.lines.ensures (c.as_slice.ensures ∙ c.in-Ok.ensures.rows) c.last_program-program.result c.in-Ok.ensures.follow c.last_program-program.ensures.program

pub returns-in-Ok-clause-program : goal.returns-in-Ok-clause-program
returns-in-Ok-clause-program c =
    ends_program c.args.start.now c.args.d.now c.lines.result.now c.as_slice.result.now c.lines.ensures (c.as_slice.ensures ∙ c.in-Ok.ensures.rows) c.last_program-program.result c.last_program-program.ensures.program

pub returns-in-Ok-clause-refused : goal.returns-in-Ok-clause-refused
returns-in-Ok-clause-refused c =
    ends_refused c.args.start.now c.args.d.now c.lines.result.now c.as_slice.result.now c.lines.ensures (c.as_slice.ensures ∙ c.in-Ok.ensures.rows) c.last_program-program.result c.in-Ok.ensures.follow c.last_program-program.ensures.program

pub returns-in-Err-clause-refused : goal.returns-in-Err-clause-refused
returns-in-Err-clause-refused c = line_refused c.args.start.now c.args.d.now c.lines.result.now c.in-Err.error c.lines.ensures c.in-Err.ensures.follow
