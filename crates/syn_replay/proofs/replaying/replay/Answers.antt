use Rattle.std.proofs.Common.{◌+◌, refl}
use Rattle.syn_term.specs.Bank.{Extends-trans}
use Rattle.syn_replay.proofs.Lining.{first_fails, follow_more, not_told, rows_more}
use Rattle.syn_replay.proofs.RowsOfLines.{line_kept, rows_kept, rule_still}
use Rattle.syn_replay.proofs.replaying.replay.Goals as goal

pub take_line-requires-clause-rule : goal.take_line-requires-clause-rule
take_line-requires-clause-rule c = rule_still c.args.bank.now c.loop-i.bank (c.args.start.now).rule c.loop-i.invariant.extends c.requires.rule

pub take_line-requires-clause-rows : goal.take_line-requires-clause-rows
take_line-requires-clause-rows c = rows_kept c.args.start.now c.args.bank.now c.loop-i.bank c.args.lines.now c.loop-i.invariant.extends c.requires.lines c.loop-i.rows c.loop-i.i c.loop-i.invariant.rows

pub take_line-requires-clause-row : goal.take_line-requires-clause-row
take_line-requires-clause-row c =
    line_kept c.args.start.now c.args.bank.now c.loop-i.bank c.args.lines.now c.loop-i.invariant.extends c.requires.lines c.loop-i.i c.index-lines-i.result c.loop-i-test.true c.index-lines-i.is

pub returns-then-not-follows-clause-follow : goal.returns-then-not-follows-clause-follow
returns-then-not-follows-clause-follow c =
    first_fails c.args.start.now c.args.lines.now c.loop-i.i c.index-lines-i.result c.loop-i.rows c.loop-i-test.true c.index-lines-i.is c.loop-i.invariant.rows (c.loop-i.i + 1) refl
    (λ h. not_told c.in_ok-follows.follows _ c.if-not-follows.true c.in_ok-follows.ensures.follows h) c.loop-i.invariant.follow

pub loop-i-preserved : goal.loop-i-preserved
loop-i-preserved c = record {
  rows = rows_more c.args.start.now c.args.lines.now c.loop-i.i c.index-lines-i.result c.loop-i.rows c.loop-i-test.true c.index-lines-i.is c.loop-i.invariant.rows c.take_line.new.rows (c.in_ok-follows.ensures.kept c.if-not-follows.false);
  follow = follow_more c.args.start.now c.args.lines.now c.loop-i.i c.index-lines-i.result c.loop-i.rows c.loop-i-test.true c.index-lines-i.is c.loop-i.invariant.rows (c.in_ok-follows.ensures.follows.0 c.if-not-follows.false) c.loop-i.invariant.follow;
  extends = Extends-trans _ _ _ c.loop-i.invariant.extends c.take_line.ensures.extends;
}
