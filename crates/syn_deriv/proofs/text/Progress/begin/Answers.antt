use Rattle.std.proofs.Common.{Some, refl, ◌∙◌, ap}
use Rattle.syn_deriv.proofs.DerivationSteps.{header_taken}
use Rattle.syn_deriv.proofs.text.Progress.begin.Goals as goal

pub returns-clause-taken : goal.returns-clause-taken
returns-clause-taken c = λ x. header_taken x _ _ c.args.words.now c.requires.none (c.replace.ensures.after ∙ ap Some c.new.ensures) (c.if-not-is_header.ensures.0 refl)
