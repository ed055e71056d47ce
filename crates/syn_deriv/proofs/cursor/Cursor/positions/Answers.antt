use Rattle.std.proofs.Common.{◌≡◌, Some, codes}
use Rattle.syn_deriv.specs.inner.Firsts.{got, sign_first}
use Rattle.syn_deriv.specs.inner.StepReading.{position_first}
use Rattle.syn_deriv.proofs.PositionsRead.{more_read, smaller}
use Rattle.syn_deriv.proofs.cursor.Cursor.positions.Goals as goal

pub loop-positions-smaller : goal.loop-positions-smaller
loop-positions-smaller c =
    let first : position_first c.loop-positions.self.left ≡ Some (got c.in-Some.position c.position.new.self.left) = rw c.in-Some.is at c.in_ok-position.ensures in
    let comma : sign_first (codes ",") c.position.new.self.left ≡ Some c.sign.new.self.left = rw c.if-not-sign.false at c.sign.ensures.read in
    smaller c.loop-positions.self.left c.sign.new.self.left (got c.in-Some.position c.position.new.self.left) first comma

pub loop-positions-preserved : goal.loop-positions-preserved
loop-positions-preserved c =
    let first : position_first c.loop-positions.self.left ≡ Some (got c.in-Some.position c.position.new.self.left) = rw c.in-Some.is at c.in_ok-position.ensures in
    let comma : sign_first (codes ",") c.position.new.self.left ≡ Some c.sign.new.self.left = rw c.if-not-sign.false at c.sign.ensures.read in
    more_read c.loop-positions.positions c.loop-positions.self.left _ c.loop-positions.invariant c.push.new.self c.in-Some.position c.position.new.self.left first c.in_ok-push.ensures.ok c.sign.new.self.left comma
