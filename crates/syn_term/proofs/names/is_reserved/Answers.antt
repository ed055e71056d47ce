use Rattle.std.proofs.Common.{sym, ◌∙◌}
use Rattle.syn_term.specs.Names.{reserved}
use Rattle.syn_term.proofs.ReservedLaws.{found, finds}
use Rattle.syn_term.proofs.names.is_reserved.Goals as goal

pub returns : goal.returns
returns c = (
  (λ h. found reserved c.args.word.now (sym c.finds_reserved.ensures ∙ h)),
  (λ h. c.finds_reserved.ensures ∙ finds reserved c.args.word.now h),
)
