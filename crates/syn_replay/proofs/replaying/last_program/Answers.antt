use Rattle.std.proofs.Common.{sym, ◌∙◌, ap}
use Rattle.std.specs.Option.{option_copied}
use Rattle.std.proofs.lemmas.Result.{MatchResult-weaker}
use Rattle.syn_replay.proofs.Endings.{last_ends, last_fails, none_last}
use Rattle.syn_replay.proofs.RowsOfLines.{last_is_row}
use Rattle.syn_replay.proofs.replaying.last_program.Goals as goal

pub returns-in-None-clause-program : goal.returns-in-None-clause-program
returns-in-None-clause-program c = none_last (c.args.start.now).spec c.args.rows.now (sym c.last.ensures.value ∙ ap option_copied c.in-None.is)

pub final_program-requires : goal.final_program-requires
final_program-requires c = last_is_row c.args.start.now c.args.bank.now c.args.rows.now c.in-Some.row.now (sym c.last.ensures.value ∙ ap option_copied c.in-Some.is) c.requires

pub returns-in-Some-clause-program : goal.returns-in-Some-clause-program
returns-in-Some-clause-program c =
    let e = sym c.last.ensures.value ∙ ap option_copied c.in-Some.is in
    MatchResult-weaker c.final_program.result c.final_program.ensures.program
    (λ p h. last_ends (c.args.start.now).spec c.args.rows.now c.in-Some.row.now p e h)
    (λ x h. last_fails (c.args.start.now).spec c.args.rows.now c.in-Some.row.now x e h)
