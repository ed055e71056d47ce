use Rattle.std.proofs.Common.{arith}
use Rattle.syn_deriv.proofs.DerivationSteps.{no_version, other_version}
use Rattle.syn_deriv.proofs.WholeLines.{refused}
use Rattle.syn_deriv.proofs.text.is_version.Goals as goal

pub returns-then-version-ne1 : goal.returns-then-version-ne1
returns-then-version-ne1 c = refused _ (other_version c.args.cursor.now.left _ c.in-Some.version c.in-Some.ensures.read (λ e. absurd (omega (arith, e, c.if-version-ne1.true))))

pub returns-in-None : goal.returns-in-None
returns-in-None c = refused _ (no_version c.args.cursor.now.left c.in-None.ensures.read)
