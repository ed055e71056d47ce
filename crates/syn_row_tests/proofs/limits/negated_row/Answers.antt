use Rattle.std.proofs.Common.{◌∙◌, refl}
use Rattle.syn_row_tests.proofs.Owning.{negated_own}
use Rattle.syn_row_tests.proofs.limits.negated_row.Goals as goal

pub returns : goal.returns
returns c = negated_own _ c.args.row.now _ _ refl (c.in_ok-new.ensures ∙ c.in_ok-again.ensures) c.requires
