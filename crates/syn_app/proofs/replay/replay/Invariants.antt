use Rattle.std.proofs.Common.{◌≡◌, map, take}
use Rattle.syn_term.specs.Bank.{Belongs, Extends}
use Rattle.syn_term.specs.Terms.{bare}
use Rattle.syn_app.specs.DerivationText.{entry_of}
use Rattle.syn_app.specs.Replay.{simplified_rows}
use Rattle.syn_app.specs.Rows.{bare_row}
use Rattle.syn_app.specs.inner.Shapes.{AreShaped}
use Rattle.syn_app.proofs.replay.replay.Given as goal

abbrev pub invariant-loop-i : goal.invariant-loop-i
invariant-loop-i l = record {
  kept : map bare_row l.kept.items ≡ take l.i (simplified_rows (map entry_of l.rows));
  shaped : AreShaped (bare l.target) (map entry_of l.rows) l.i;
  target : Belongs l.bank l.target;
  extends : Extends l.fn.bank l.bank;
}
